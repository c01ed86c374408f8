-- The rules of a file, as released Linux-PAM reads them: `_pam_parse_config_file`.
use Rattle.std.specs.Prelude.{ℕ, Bool, true, false, ◌==◌, List, [], ◌∷◌, codes, map, if◌then◌else◌, Option, Some, None}
use Rattle.std.specs.Char.{to_ascii_lowercase}
use Rattle.std.specs.Option.{option_map, option_map_or}
use Rattle.pam_codes.specs.Code.{same_name}
use Rattle.pam_codes.specs.Control.{actions_of, keyword_pairs}
use Rattle.pam_codes.specs.declared.action.Action.{Action}
use Rattle.pam_conf.specs.Rule.{RuleBody, Include, Module, RuleText, Sub, kind_named, without_folder_of}
use Rattle.pam_conf.specs.declared.rule.Form.{Form}
use Rattle.pam_conf.specs.declared.rule.Form.TheVariants.{Dir, Single}
use Rattle.pam_conf.specs.declared.rule.Kind.{Kind}
use Rattle.pam_conf.specs.declared.rule.Kind.TheVariants.{Auth}
use Rattle.pam_released.specs.Control.{all_bad, released_actions}
use Rattle.pam_released.specs.Findings.{is_no_name, module_name}
use Rattle.pam_released.specs.Words.{words_152, words_170}
use Rattle.pam_released.specs.declared.release.Release.{Release}
use Rattle.pam_released.specs.declared.release.Release.TheVariants.{Older, Newer}

-- a rule, without the number of its line
pub record LineRule : Type 0 where
  pub service : Option (List ℕ)
  pub kind : Option Kind
  pub dashed : Bool
  pub body : RuleBody

-- a rule that always fails, whatever its module is; its control counts as ever
pub record FailingRule : Type 0 where
  pub service : Option (List ℕ)
  pub kind : Kind
  pub actions : List Action

-- what a line is read as: a rule; one that always fails, since a part of the line is missing or wrong; or a refusal of the
-- configuration, in pam.conf where the service of the line is asked for or is `other`
pub data Reading : Type 0 where
  Reads : LineRule → Reading
  Fails : FailingRule → Reading
  Refuses : Option (List ℕ) → Reading

abbrev pub reads : Option (List ℕ) → Option Kind → Bool → RuleBody → Reading
reads service kind dashed body = Reads record { service = service; kind = kind; dashed = dashed; body = body }

abbrev pub fails : Option (List ℕ) → Kind → List Action → Reading
fails service kind actions = Fails record { service = service; kind = kind; actions = actions }

-- what the words after a kind make: a body; the actions of a rule that fails, since a part is missing; or the refusal of the configuration
pub data BodyRead : Type 0 where
  Body : RuleBody → BodyRead
  Missing : List Action → BodyRead
  Refused : BodyRead

-- the words after `include`: without a target, the program that asks ends
abbrev pub include_body : List (List ℕ) → BodyRead
include_body [] = Refused
include_body (target ∷ words) = Body (Include (without_folder_of target))

-- the words after `substack`, which is kept as a module is: it needs a name
abbrev pub substack_body : List (List ℕ) → BodyRead
substack_body [] = Refused
substack_body (target ∷ words) = if is_no_name (module_name target) then Refused else Body (Sub (without_folder_of target))

-- the words after a control. A module needs a name
abbrev pub module_body : List Action → List (List ℕ) → BodyRead
module_body actions [] = Missing actions
module_body actions (path ∷ arguments) = if is_no_name (module_name path) then Refused else Body (Module actions path arguments)

-- the actions of a keyword, or of the inside of brackets: brackets around a keyword do not show
abbrev pub control_actions : Release → List ℕ → List Action
control_actions release text = option_map_or actions_of (keyword_pairs text) (released_actions release text)

-- the words after the kind; without a control, each code is bad
unfoldable pub control_body : Release → List (List ℕ) → BodyRead
control_body release [] = Missing all_bad
control_body release (control ∷ words) =
    if same_name (codes "include") control then include_body words
    else if same_name (codes "substack") control then substack_body words
    else module_body (control_actions release control) words

-- the line of a kind
abbrev pub kind_reading : Option (List ℕ) → Kind → Bool → BodyRead → Reading
kind_reading service kind dashed (Body body) = reads service (Some kind) dashed body
kind_reading service kind dashed (Missing actions) = fails service kind actions
kind_reading service kind dashed Refused = Refuses service

-- the actions of the call of a module
abbrev pub actions_called : BodyRead → Option (List Action)
actions_called (Body (Module actions path arguments)) = Some actions
actions_called (Body (Include target)) = None
actions_called (Body (Sub target)) = None
actions_called (Missing actions) = None
actions_called Refused = None

-- the line of a word that is no kind: it counts as `auth`, and a module's rule always fails
abbrev pub no_kind_reading : Option (List ℕ) → Bool → BodyRead → Reading
no_kind_reading service dashed read = option_map_or (fails service Auth) (actions_called read) (kind_reading service Auth dashed read)

-- the words after `@include`, which is of no kind: without a target, the program that asks ends
abbrev pub at_include_reading : Option (List ℕ) → Bool → List (List ℕ) → Reading
at_include_reading service dashed [] = Refuses service
at_include_reading service dashed (target ∷ words) = reads service None dashed (Include (without_folder_of target))

-- whether a text begins with `-`, and the text after it
abbrev pub undashed : List ℕ → Bool × List ℕ
undashed [] = (false, [])
undashed (b ∷ bs) = if b == 45 then (true, bs) else (false, b ∷ bs)

-- the words after a kind, without its dash
unfoldable pub typed_reading : Release → Option (List ℕ) → Bool → List ℕ → List (List ℕ) → Reading
typed_reading release service dashed kind words =
    if same_name (codes "@include") kind then at_include_reading service dashed words
    else option_map_or (λ k. kind_reading service k dashed (control_body release words)) (kind_named kind)
    (no_kind_reading service dashed (control_body release words))

-- the words from the kind on: without a kind, too, the line counts as `auth`
abbrev pub rule_reading : Release → Option (List ℕ) → List (List ℕ) → Reading
rule_reading release service [] = fails service Auth all_bad
rule_reading release service (kind ∷ words) = typed_reading release service (undashed kind).0 (undashed kind).1 words

-- THE READING OF A LINE, by its words
abbrev pub line_reading : Release → Form → List (List ℕ) → Reading
line_reading release Dir words = rule_reading release None words
line_reading release Single [] = fails None Auth all_bad
line_reading release Single (service ∷ words) = rule_reading release (Some (map to_ascii_lowercase service)) words

-- THE RULES OF A FILE by either release. None where it is refused as a whole
unfoldable pub rules_152 : Form → List ℕ → Option (List Reading)
rules_152 form bytes = option_map (map (line_reading Older form)) (words_152 bytes)

unfoldable pub rules_170 : Form → List ℕ → Option (List Reading)
rules_170 form bytes = option_map (map (line_reading Newer form)) (words_170 bytes)

-- a rule of the manual pages, as such a reading
abbrev pub reading_of : RuleText → Reading
reading_of rule = reads rule.service rule.kind rule.dashed rule.body
