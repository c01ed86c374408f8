-- S10: `other` answers for one of auth and account, though the service has rules for the other one, or a file without a rule:
-- pam.conf(5), on `other`.
use Rattle.std.specs.Prelude.{◌≡◌, ◌⊎◌, ℕ, ◌&&◌, Bool, true, false, List, [], ◌∷◌, MatchOption, slice_get, Option, Some, None}
use Rattle.std.specs.Option.{option_and_then, option_map_or}
use Rattle.pam_conf.specs.FileRules.{good_rules}
use Rattle.pam_conf.specs.Files.{Folder, bytes_at, position_of}
use Rattle.pam_conf.specs.Laws.{IsSound}
use Rattle.pam_conf.specs.Rule.{RuleText}
use Rattle.pam_conf.specs.Stack.{End}
use Rattle.pam_conf.specs.Survey.{SurveyText, surveyed}
use Rattle.pam_conf.specs.Targets.{is_target}
use Rattle.pam_conf.specs.declared.rule.Kind.{Kind}
use Rattle.pam_conf.specs.declared.rule.Kind.TheVariants.{Auth, Account}
use Rattle.pam_findings.specs.host.Unasked.{never_asks}
use Rattle.pam_findings.specs.host.Verdicts.{Verdict, refuses_all}
use Rattle.pam_findings.specs.declared.host.problem.Problem.TheVariants as problems
use Rattle.pam_findings.specs.declared.host.problem.Spot.{Spot}

-- of auth and account the other one
abbrev pub partner : Kind → Option Kind
partner Auth = Some Account
partner Account = Some Auth
partner kind = None

-- where there is a service `other`, the service has rules of its own for a kind
abbrev pub HasOwnRules : Folder → List ℕ → Kind → Type 0
HasOwnRules folder name kind = (surveyed folder name kind).other_answers ≡ false

-- the stack of a service for a kind is that of `other`; it is accepted, and has items
pub record IsOfOther (folder : Folder) (name : List ℕ) (kind : Kind) : Type 0 where
  pub answers : (surveyed folder name kind).other_answers ≡ true
  pub items : (surveyed folder name kind).items ≡ Some End → ⊥
  pub sound : IsSound folder (surveyed folder name kind)

-- there are no rules
abbrev pub is_without : List RuleText → Bool
is_without [] = true
is_without (rule ∷ rules) = false

-- a file has this name, and no line of it is a rule: it is empty, or has blank lines and comments alone
abbrev pub has_no_rule : Folder → List ℕ → Bool
has_no_rule folder name =
    option_map_or (λ bytes. is_without (good_rules folder.form bytes)) (option_and_then (λ file. bytes_at file folder.entries)
    (position_of name folder.entries)) false

-- A SERVICE FOR WHICH NO PROGRAM ASKS: it has no rules of its own for the kind of this survey, and its file is one that others include
abbrev pub is_only_included : Folder → List ℕ → SurveyText → Bool
is_only_included folder name survey = survey.other_answers && is_target folder name

-- it has rules of its own for the other kind, or a file without a rule; its file is not one that others include; and its program asks for
-- the kind
abbrev pub OtherAnswers : Folder → List ℕ → Kind → Type 0
OtherAnswers folder name kind =
    IsOfOther folder name kind
    × MatchOption (partner kind) ⊥ (λ other. HasOwnRules folder name other ⊎ (has_no_rule folder name ≡ true))
    × (is_target folder name ≡ false)
    × (never_asks name kind ≡ false)

-- S10, at line 0 of the file of the service's rules, where this is the verdict on the stack of `other`
pub record HasOtherAnswer (folder : Folder) (service : ℕ) (name : List ℕ) (kind : Kind) (verdict : Verdict) (spot : Spot) : Type 0 where
  pub problem : spot.problem ≡ problems.OtherAnswers service kind (has_no_rule folder name) (refuses_all verdict)
  pub file : spot.file ≡ slice_get (surveyed folder name kind).reached 0
  pub line : spot.line ≡ 0
  pub answers : OtherAnswers folder name kind
