-- The stack of a service: pam.conf(5), on /etc/pam.d/, /etc/pam.conf and the service `other`.
use Rattle.std.specs.Prelude.{ℕ, ◌-◌, Bool, true, List, [], ◌∷◌, map, codes, if◌then◌else◌, Option, Some, None, option_and_then, Result, Ok, Err}
use Rattle.std.specs.Char.{to_ascii_lowercase}
use Rattle.std.specs.List.{list_any}
use Rattle.std.specs.Option.{option_map, option_map_or}
use Rattle.pam_conf.specs.Files.{Folder, position_of}
use Rattle.pam_conf.specs.Rule.{RuleText}
use Rattle.pam_conf.specs.Stack.{Items, End}
use Rattle.pam_conf.specs.Walk.{Reads, Walk, walk, refusal, numbered, carries, rules_at}
use Rattle.pam_conf.specs.declared.conf_error.ConfError.{ConfError}
use Rattle.pam_conf.specs.declared.error.FaultKind.TheVariants.{NoService}
use Rattle.pam_conf.specs.declared.error.RuleFault.{RuleFault}
use Rattle.pam_conf.specs.declared.rule.Form.{Form}
use Rattle.pam_conf.specs.declared.rule.Form.TheVariants.{Dir, Single}
use Rattle.pam_conf.specs.declared.rule.Kind.{Kind}
use Rattle.pam_conf.specs.declared.trail.TheConstants.{MAX_OPEN_FILES}

-- the start of a service's rules: a file, and in pam.conf the service that they name
pub record StartText : Type 0 where
  pub file : ℕ
  pub service : Option (List ℕ)

-- the start of a service in pam.conf, if a rule names the service
abbrev pub carried : Bool → ℕ → List ℕ → Option StartText
carried there file service = if there then Some record { file = file; service = Some service } else None

-- a fault in any line of pam.conf is the result for each service
abbrev pub start_read : ℕ → List ℕ → Result (List RuleText) RuleFault → Option StartText
start_read file service (Err fault) = carried true file service
start_read file service (Ok rules) = carried (list_any (carries service) rules) file service

-- the start of a service's rules in configuration of a form
abbrev pub start_in : Form → Folder → Reads → List ℕ → Option StartText
start_in Dir folder reads service = option_map (λ file. record { file = file; service = None }) (position_of service folder.entries)
start_in Single folder reads service = option_and_then (λ file. start_read file service (reads file)) (position_of (codes "pam.conf") folder.entries)

-- the start of a service's rules, if it has any
abbrev pub start_of : Folder → Reads → List ℕ → Option StartText
start_of folder reads service = start_in folder.form folder reads service

-- the items of a walk, or why it is refused
abbrev pub items_or_fault : Walk → Result Items ConfError
items_or_fault w = option_map_or Err (refusal 0 0 w.events) (Ok (numbered 1 w.items))

-- the items of a service; its file is open, so one file fewer may be opened
unfoldable pub stack_from : Folder → Kind → StartText → Result Items ConfError
stack_from folder kind start = items_or_fault (walk folder (rules_at folder) kind start.service (MAX_OPEN_FILES - 1) (start.file ∷ []) start.file)

-- a service without rules gets the stack of `other`
abbrev pub without_own : Folder → Kind → Option StartText → Result Items ConfError
without_own folder kind None = Err record { kind = NoService; at = None; line = 0 }
without_own folder kind (Some other) = stack_from folder kind other

-- an empty stack is replaced by that of `other`, if there is one
abbrev pub unless_empty : Folder → Kind → Option StartText → Result Items ConfError → Result Items ConfError
unless_empty folder kind (Some other) (Ok End) = stack_from folder kind other
unless_empty folder kind other stack = stack

-- the stack of a service, from its start and that of `other`
abbrev pub from_starts : Folder → Kind → Option StartText → Option StartText → Result Items ConfError
from_starts folder kind None other = without_own folder kind other
from_starts folder kind (Some own) other = unless_empty folder kind other (stack_from folder kind own)

-- THE STACK of a service, in lowercase, for a kind; or the first fault
unfoldable pub resolved : Folder → List ℕ → Kind → Result Items ConfError
resolved folder service kind =
    from_starts folder kind (start_of folder (rules_at folder) (map to_ascii_lowercase service)) (start_of folder (rules_at folder) (codes "other"))
