-- The list of a file: its items, each with the includes by which it came in: pam.conf(5), on include and @include.
use Rattle.std.specs.Prelude.{ℕ, ◌-◌, zero, suc, List, [], ◌∷◌, ◌++◌, if◌then◌else◌, Option, Some, None, unwrap_or}
use Rattle.pam_codes.specs.declared.action.Action.{Action}
use Rattle.pam_conf.specs.FileRules.{good_rules}
use Rattle.pam_conf.specs.Files.{Folder, bytes_at, position_of}
use Rattle.pam_conf.specs.Rule.{RuleText, RuleBody, Module, Include, Sub}
use Rattle.pam_conf.specs.Walk.{is_of_kind}
use Rattle.pam_conf.specs.declared.rule.Kind.{Kind}
use Rattle.pam_conf.specs.declared.trail.TheConstants.{MAX_OPEN_FILES}
use Rattle.pam_conf.specs.declared.walk.Location.{Location}

-- an item of a list: the place of its rule, the control of a module, and the includes by which it came in, the outermost first
pub record ListedText : Type 0 where
  pub file : ℕ
  pub line : ℕ
  pub control : Option (List Action)
  pub includes : List Location

-- the items of a file that comes in by these includes, if one more file may be opened
abbrev pub Further : Type 0
Further = Option (List Location → ℕ → List ListedText)

-- of the rules of a kind
module _ (folder : Folder) (kind : Kind) where
  abbrev pub included : Further → List Location → Option ℕ → List ListedText
  included None includes target = []
  included (Some listed) includes None = []
  included (Some listed) includes (Some target) = listed includes target

  abbrev pub body_listed : Further → List Location → ℕ → ℕ → RuleBody → List ListedText
  body_listed further includes file line (Module control path arguments) =
      record { file = file; line = line; control = Some control; includes = includes } ∷ []
  body_listed further includes file line (Sub target) = record { file = file; line = line; control = None; includes = includes } ∷ []
  body_listed further includes file line (Include target) =
      included further (includes ++ record { file = file; line = line } ∷ []) (position_of target folder.entries)

  abbrev pub rule_listed : Further → List Location → ℕ → RuleText → List ListedText
  rule_listed further includes file rule = if is_of_kind kind rule then body_listed further includes file rule.line rule.body else []

  abbrev pub rules_listed : Further → List Location → ℕ → List RuleText → List ListedText
  rules_listed further includes file [] = []
  rules_listed further includes file (rule ∷ rules) = rule_listed further includes file rule ++ rules_listed further includes file rules

  abbrev pub text_listed : Further → List Location → ℕ → List ListedText
  text_listed further includes file = rules_listed further includes file (good_rules folder.form (unwrap_or (bytes_at file folder.entries) []))

  -- the items of a file, where `room` more files may be opened
  unfoldable pub file_listed : ℕ → List Location → ℕ → List ListedText
  file_listed zero includes file = text_listed None includes file
  file_listed (suc room) includes file = text_listed (Some (file_listed room)) includes file

  -- what may be opened from a file
  abbrev pub further : ℕ → Further
  further zero = None
  further (suc room) = Some (file_listed room)

  -- THE LIST of the file at a position
  abbrev pub listed : ℕ → List ListedText
  listed file = file_listed (MAX_OPEN_FILES - 1) [] file
