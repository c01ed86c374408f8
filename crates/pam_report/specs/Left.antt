-- The files of a check that cannot be read, and what is checked nevertheless.
use Rattle.std.specs.Prelude.{◌≡◌, ℕ, Bool, true, false, not, List, [], ◌∷◌, Err, slice_index_or}
use Rattle.std.specs.List.{filter, list_any}
use Rattle.pam_conf.specs.Files.{Folder}
use Rattle.pam_conf.specs.Services.{checked_services}
use Rattle.pam_conf.specs.Survey.{SurveyText, surveyed}
use Rattle.pam_conf.specs.declared.rule.Kind.TheVariants.{Auth, Account, Password, Session}
use Rattle.pam_report.specs.Reply.{Answer}
use Rattle.pam_report.specs.declared.fault.Fault.TheVariants as faults

-- by the position of each file, whether it cannot be read: one cannot
abbrev pub has_unread : List Bool → Bool
has_unread unread = list_any (λ is_so. is_so) unread

-- a walk reaches such a file, which may have any rules
abbrev pub reaches_unread : List Bool → SurveyText → Bool
reaches_unread unread survey = list_any (λ file. slice_index_or unread file false) survey.reached

-- the stack of a service for some kind takes rules from such a file: its own, one that is included, or that of `other`
abbrev pub takes_unread : Folder → List Bool → List ℕ → Bool
takes_unread folder unread service =
    list_any (λ kind. reaches_unread unread (surveyed folder service kind)) (Auth ∷ Account ∷ Password ∷ Session ∷ [])

-- the services that are checked, but those
abbrev pub services_left : Folder → List Bool → List (List ℕ) → List (List ℕ)
services_left folder unread named = filter (λ service. not (takes_unread folder unread service)) (checked_services folder named)

-- these are checked as if they were named; there is no answer where there is none
abbrev pub IfLeft : List (List ℕ) → (List (List ℕ) → Answer → Type 0) → (Answer → Type 0)
IfLeft [] IsAnswer = λ answer. answer ≡ Err faults.Unread
IfLeft (service ∷ services) IsAnswer = IsAnswer (service ∷ services)

-- WHAT IS CHECKED: the services that are named, or all; where a file cannot be read, those that take no rules from such a file
abbrev pub IfAllRead : Bool → List (List ℕ) → List (List ℕ) → (List (List ℕ) → Answer → Type 0) → (Answer → Type 0)
IfAllRead false named left IsAnswer = IsAnswer named
IfAllRead true named left IsAnswer = IfLeft left IsAnswer
