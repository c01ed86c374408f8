-- A rule, read from the words of a line: pam.conf(5), "service type control module-path module-arguments".
use Rattle.std.specs.Prelude.{ℕ, Bool, true, false, List, [], ◌∷◌, map, codes, drop, ◌==◌, if◌then◌else◌, Option, Some, None, Result, Ok, Err}
use Rattle.std.specs.Option.{option_map, option_map_or}
use Rattle.std.specs.List.{list_any, starts_with}
use Rattle.std.specs.Char.{to_ascii_lowercase}
use Rattle.pam_conf.specs.Words.{text_of_word}
use Rattle.pam_codes.specs.Code.{same_name}
use Rattle.pam_codes.specs.Control.{control_of}
use Rattle.pam_codes.specs.declared.action.Action.{Action}
use Rattle.pam_codes.specs.declared.error.ControlError.{ControlError}
use Rattle.pam_conf.specs.declared.error.FaultKind.{FaultKind}
use Rattle.pam_conf.specs.declared.error.FaultKind.TheVariants as faults
use Rattle.pam_conf.specs.declared.rule.Kind.{Kind}
use Rattle.pam_conf.specs.declared.rule.Kind.TheVariants.{Auth, Account, Password, Session}
use Rattle.pam_conf.specs.declared.rule.Form.{Form}
use Rattle.pam_conf.specs.declared.rule.Form.TheVariants.{Dir, Single}
use Rattle.pam_conf.specs.declared.rule.Body.{Body}
use Rattle.pam_conf.specs.declared.rule.Body.TheVariants as bodies
use Rattle.pam_conf.specs.declared.rule.Rule.{Rule}

-- A RULE WITHOUT ITS LAYOUT IN MEMORY

-- the control, path and arguments of a module, or the target of an include or a substack
pub data RuleBody : Type 0 where
  Module : List Action → List ℕ → List (List ℕ) → RuleBody
  Include : List ℕ → RuleBody
  Sub : List ℕ → RuleBody

pub record RuleText : Type 0 where
  pub line : ℕ
  pub service : Option (List ℕ)
  pub kind : Option Kind
  pub dashed : Bool
  pub body : RuleBody

abbrev pub body_view : Body → RuleBody
body_view (bodies.Module control path arguments) = Module control path.items arguments
body_view (bodies.Include target) = Include target.items
body_view (bodies.Sub target) = Sub target.items

abbrev pub rule_view : Rule → RuleText
rule_view r = record {
  line = r.line;
  service = option_map (λ s. s.items) r.service;
  kind = r.kind;
  dashed = r.dashed;
  body = body_view r.body;
}

-- THE PARTS OF A LINE

infixl 10 ◌>>=◌
abbrev pub ◌>>=◌ : {A B : Type 0} → Result A FaultKind → (A → Result B FaultKind) → Result B FaultKind
(Ok x) >>= f = f x
(Err e) >>= f = Err e

-- the kind with this name: pam.conf(5), "type"
unfoldable pub kind_named : List ℕ → Option Kind
kind_named text =
    if same_name (codes "auth") text then Some Auth
    else if same_name (codes "account") text then Some Account
    else if same_name (codes "password") text then Some Password
    else if same_name (codes "session") text then Some Session
    else None

abbrev pub kind_or_fault_of : Bool → List ℕ → Result (Bool × Kind) FaultKind
kind_or_fault_of dashed text = option_map_or (λ k. Ok (dashed, k)) (kind_named text) (Err faults.BadKind)

-- a kind, with or without the prefix `-`
unfoldable pub dashed_kind_of : List ℕ → Result (Bool × Kind) FaultKind
dashed_kind_of [] = Err faults.BadKind
dashed_kind_of (b ∷ bs) = if b == 45 then kind_or_fault_of true bs else kind_or_fault_of false (b ∷ bs)

-- a target without the folder's prefix
abbrev pub without_folder_of : List ℕ → List ℕ
without_folder_of text = if starts_with ◌==◌ text (codes "/etc/pam.d/") then drop 11 text else text

-- the name of a file of the folder: not empty, and without `/`
abbrev pub file_name_of : List ℕ → Result (List ℕ) FaultKind
file_name_of [] = Err faults.BadTarget
file_name_of (b ∷ bs) = if list_any (λ c. c == 47) (b ∷ bs) then Err faults.BadTarget else Ok (b ∷ bs)

-- the target after `include`, `substack` or `@include`; further words are ignored
unfoldable pub target_of : Form → List (List ℕ) → Result (List ℕ) FaultKind
target_of Single words = Err faults.IncludeInSingleFile
target_of Dir [] = Err faults.MissingTarget
target_of Dir (word ∷ words) = file_name_of (without_folder_of (text_of_word word))

abbrev pub in_rule : Result (List Action) ControlError → Result (List Action) FaultKind
in_rule (Ok actions) = Ok actions
in_rule (Err e) = Err (faults.Control e)

-- a control as it is written, brackets included
abbrev pub control_or_fault : List ℕ → Result (List Action) FaultKind
control_or_fault word = in_rule (control_of word)

-- a module's path and arguments
abbrev pub module_of : List Action → List (List ℕ) → Result RuleBody FaultKind
module_of actions [] = Err faults.MissingField
module_of actions (path ∷ arguments) = Ok (Module actions (text_of_word path) (map text_of_word arguments))

-- the body of a rule whose control is neither `include` nor `substack`
abbrev pub control_body_of : List ℕ → List (List ℕ) → Result RuleBody FaultKind
control_body_of control words = control_or_fault control >>= λ actions. module_of actions words

-- the body of a rule: the words after the kind; the control is compared and read as it is written, brackets included
unfoldable pub body_of : Form → List (List ℕ) → Result RuleBody FaultKind
body_of form [] = Err faults.MissingField
body_of form (control ∷ words) =
    if same_name (codes "include") control then (target_of form words >>= λ t. Ok (Include t))
    else if same_name (codes "substack") control then (target_of form words >>= λ t. Ok (Sub t))
    else control_body_of control words

-- A LINE

-- the rule of a line, from its kind on
unfoldable pub kind_rule_of : Form → ℕ → Option (List ℕ) → List ℕ → List (List ℕ) → Result RuleText FaultKind
kind_rule_of form line service kind words = do
  k ← dashed_kind_of kind
  body ← body_of form words
  Ok record { line = line; service = service; kind = Some k.1; dashed = k.0; body = body }

-- the rule of an `@include`, from the target on
unfoldable pub include_rule_of : Form → ℕ → List (List ℕ) → Result RuleText FaultKind
include_rule_of form line words = do
  target ← target_of form words
  Ok record { line = line; service = None; kind = None; dashed = false; body = Include target }

-- the rule of a line that begins with this text, not `@include`; in pam.conf the text is the service, then in lowercase
unfoldable pub plain_rule_of : Form → ℕ → List ℕ → List (List ℕ) → Result RuleText FaultKind
plain_rule_of Dir line kind words = kind_rule_of Dir line None kind words
plain_rule_of Single line service [] = Err faults.MissingField
plain_rule_of Single line service (kind ∷ words) =
    kind_rule_of Single line (Some (map to_ascii_lowercase service)) (text_of_word kind) words

-- the rule of a line that begins with this text
unfoldable pub first_rule_of : Form → ℕ → List ℕ → List (List ℕ) → Result RuleText FaultKind
first_rule_of form line first words =
    if same_name (codes "@include") first then include_rule_of form line words
    else plain_rule_of form line first words

-- the rule of a line with these words, if there are any
unfoldable pub rule_of : Form → ℕ → List (List ℕ) → Result (Option RuleText) FaultKind
rule_of form line [] = Ok None
rule_of form line (first ∷ words) = first_rule_of form line (text_of_word first) words >>= λ r. Ok (Some r)
