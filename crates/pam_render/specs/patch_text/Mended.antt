-- The bytes of a file with its mendings, and whether these are certain: pam_conf reads them again.
use Rattle.std.specs.Prelude.{ℕ, ◌+◌, ◌-◌, ◌==◌, ◌&&◌, nat_lt, Bool, true, false, List, []}
use Rattle.std.specs.Prelude.{◌∷◌, ◌++◌, drop, filter_map, fold, if◌then◌else◌, length, map, take, Option, Some, None}
use Rattle.std.specs.List.{prefix_len}
use Rattle.pam_conf.specs.FileRules.{good_rules, own_faults}
use Rattle.pam_conf.specs.Rule.{Include, Module, RuleBody, RuleText, Sub}
use Rattle.pam_conf.specs.declared.error.RuleFault.{RuleFault}
use Rattle.pam_conf.specs.declared.rule.Form.{Form}

-- bytes of a file give way to a text, in the rule of a line, and in a line of the file: how many bytes of the file are left from the first of
-- them on, and how many after the last one
pub record Mending : Type 0 where
  pub file : ℕ
  pub line : ℕ
  pub at : ℕ
  pub from : ℕ
  pub after : ℕ
  pub text : List ℕ

-- THE BYTES WITH MENDINGS, of the rest of a file. One that begins before the end of another one is left out
unfoldable pub mended : List Mending → List ℕ → List ℕ
mended [] bytes = bytes
mended (m ∷ mendings) bytes =
    if nat_lt (length bytes) m.from then mended mendings bytes
    else take (length bytes - m.from) bytes ++ m.text ++ mended mendings (drop (length bytes - m.after) bytes)

-- WHAT IS READ OF BYTES

abbrev pub is_module : RuleBody → Bool
is_module (Module control path arguments) = true
is_module (Include target) = false
is_module (Sub target) = false

-- the lines of rules of modules, those of faults, and the number of rules and faults
pub record Reading : Type 0 where
  pub modules : List ℕ
  pub faults : List ℕ
  pub count : ℕ

abbrev pub module_line : RuleText → Option ℕ
module_line rule = if is_module rule.body then Some rule.line else None

abbrev pub module_lines : List RuleText → List ℕ
module_lines rules = filter_map module_line rules

abbrev pub reading : List RuleText → List RuleFault → Reading
reading rules faults = record {
  modules = module_lines rules;
  faults = map (λ fault. fault.line) faults;
  count = length rules + length faults;
}

abbrev pub reading_of : Form → List ℕ → Reading
reading_of form bytes = reading (good_rules form bytes) (own_faults form bytes)

-- WHAT IS CERTAIN

-- lines without those at the front that are this one
abbrev pub run_len : List ℕ → ℕ → ℕ
run_len lines line = prefix_len (λ l. l == line) lines

abbrev pub past : List ℕ → ℕ → List ℕ
past lines line = drop (run_len lines line) lines

abbrev pub is_empty : List ℕ → Bool
is_empty [] = true
is_empty (line ∷ lines) = false

-- each line is among others, in their order
abbrev pub are_among : List ℕ → List ℕ → Bool
are_among lines others = is_empty (fold past lines others)

abbrev pub lines_of : List Mending → List ℕ
lines_of mendings = map (λ m. m.line) mendings

-- MENDINGS ARE CERTAIN if each line that is mended is read as a rule of a module, there is no fault at a line without one before, and there
-- are as many rules and faults
abbrev pub is_certain : List Mending → Reading → Reading → Bool
is_certain mendings old new = are_among (lines_of mendings) new.modules && (are_among new.faults old.faults && (new.count == old.count))

-- lines from that with a number on
abbrev pub len_before : ℕ → List ℕ → ℕ
len_before line lines = prefix_len (λ l. nat_lt l line) lines

abbrev pub lines_from : ℕ → List ℕ → List ℕ
lines_from line lines = drop (len_before line lines) lines

abbrev pub begins_with : ℕ → List ℕ → Bool
begins_with line [] = false
begins_with line (first ∷ lines) = first == line

-- the mendings of lines that are then read as rules of modules
unfoldable pub kept : List ℕ → List Mending → List Mending
kept lines [] = []
kept lines (m ∷ mendings) =
    if begins_with m.line (lines_from m.line lines) then m ∷ kept (lines_from m.line lines) mendings else kept (lines_from m.line lines) mendings

abbrev pub kept_of : Form → List ℕ → List Mending → List Mending
kept_of form bytes mendings = kept (reading_of form (mended mendings bytes)).modules mendings
