-- The candidates of a check, each of which some service that is checked has to read: pam.conf(5), on include, substack, @include and the
-- service `other`.
use Rattle.std.specs.Prelude.{◌≡◌, ℕ, ◌==◌, ◌||◌, Bool, false, not, List, [], ◌∷◌, ◌++◌, codes, find, length, map, slice_get, Option, Some, None, Err}
use Rattle.std.specs.List.{list_any}
use Rattle.std.specs.Option.{option_map_or}
use Rattle.std.specs.Str.{bytes_eq}
use Rattle.pam_conf.specs.FileRules.{own_faults}
use Rattle.pam_conf.specs.Files.{Folder, bytes_at}
use Rattle.pam_conf.specs.Services.{checked_services}
use Rattle.pam_conf.specs.Survey.{SurveyText, surveyed}
use Rattle.pam_conf.specs.declared.rule.Kind.{Kind}
use Rattle.pam_conf.specs.declared.rule.Kind.TheVariants.{Auth, Account, Password, Session}
use Rattle.pam_report.specs.Reply.{Answer}
use Rattle.pam_report.specs.declared.fault.Fault.TheVariants as faults

-- a candidate: the name of a file, and the file that is read in its place
abbrev pub CandidateText : Type 0
CandidateText = List ℕ × List ℕ

-- the services whose files are read: those that are checked, and `other`, which Linux-PAM reads whichever service a program asks for
abbrev pub services_read : Folder → List (List ℕ) → List (List ℕ)
services_read folder named = checked_services folder named ++ codes "other" ∷ []

-- the file at a position has this name
abbrev pub is_named : Folder → List ℕ → ℕ → Bool
is_named folder name file = option_map_or (λ entry. bytes_eq name entry.0) (slice_get folder.entries file) false

-- the file at a position has a fault of its own
abbrev pub has_fault : Folder → ℕ → Bool
has_fault folder file = option_map_or (λ bytes. not (length (own_faults folder.form bytes) == 0)) (bytes_at file folder.entries) false

-- a walk that reaches the file of a name reads it. One that meets a fault, of its own or in a file that it reaches, may be meant to read
-- it; but not one that reaches no file, since its service has no rules
abbrev pub may_read : Folder → List ℕ → SurveyText → Bool
may_read folder name survey =
    list_any (λ file. is_named folder name file || (has_fault folder file || not (length survey.faults == 0))) survey.reached

-- the same of the walks of a service, for the four kinds
abbrev pub service_may_read : Folder → List ℕ → List ℕ → Bool
service_may_read folder name service =
    list_any (λ kind. may_read folder name (surveyed folder service kind)) (Auth ∷ Account ∷ Password ∷ Session ∷ [])

-- A FILE MAY BE READ for some of these services
abbrev pub is_read : Folder → List (List ℕ) → List ℕ → Bool
is_read folder services name = list_any (service_may_read folder name) services

-- the first candidate whose file no service that is checked reads
abbrev pub first_unused : Folder → List (List ℕ) → List CandidateText → Option (List ℕ)
first_unused folder services candidates = find (λ name. not (is_read folder (services_read folder services) name)) (map (λ c. c.0) candidates)

-- U19: A CANDIDATE THAT NO SERVICE READS has no answer, since what is checked is the same without it. The first is such a candidate, if
-- there is one
abbrev pub IfUsed : Option (List ℕ) → (Answer → Type 0) → (Answer → Type 0)
IfUsed None IsAnswer = IsAnswer
IfUsed (Some name) IsAnswer = λ answer. answer ≡ Err faults.UnusedCandidate
