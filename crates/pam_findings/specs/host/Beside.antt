-- The service `other`, which Linux-PAM reads whichever service a program asks for, so that a fault in its files refuses each.
use Rattle.std.specs.Prelude.{ℕ, Bool, false, List, [], ◌∷◌, codes, if◌then◌else◌, None}
use Rattle.std.specs.List.{list_any}
use Rattle.std.specs.Str.{bytes_eq}
use Rattle.pam_conf.specs.Files.{Folder}
use Rattle.pam_conf.specs.Survey.{SurveyText, surveyed}
use Rattle.pam_conf.specs.declared.rule.Kind.{Kind}

-- one of these services is `other`
abbrev pub names_other : List (List ℕ) → Bool
names_other services = list_any (λ name. bytes_eq name (codes "other")) services

-- the survey of no file
abbrev pub nothing_read : SurveyText
nothing_read = record { items = None; faults = []; reached = []; other_answers = false }

-- a survey, if its walk reaches these files; a walk that reaches none has begun nowhere
abbrev pub if_begun : SurveyText → List ℕ → SurveyText
if_begun survey [] = nothing_read
if_begun survey (file ∷ files) = survey

-- WHAT IS READ OF `other` beside each of these services: its survey for a kind; nothing if it is one of them, or has no rules
unfoldable pub beside : Folder → List (List ℕ) → Kind → SurveyText
beside folder services kind =
    if names_other services then nothing_read
    else if_begun (surveyed folder (codes "other") kind) (surveyed folder (codes "other") kind).reached
