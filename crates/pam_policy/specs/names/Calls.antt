-- The calls of modules by the rules of a configuration.
use Rattle.std.specs.Prelude.{ℕ, List, filter_map, Option, Some, None}
use Rattle.std.specs.List.{flat_map}
use Rattle.pam_conf.specs.FileRules.{good_rules}
use Rattle.pam_conf.specs.Files.{Folder}
use Rattle.pam_conf.specs.Rule.{RuleBody, Module, Include, Sub}
use Rattle.pam_conf.specs.declared.rule.Form.{Form}
use Rattle.pam_policy.specs.names.Host.{CallText}

-- the call of a rule, if it is one of a module
abbrev pub called_by : RuleBody → Option CallText
called_by (Module control path arguments) = Some record { path = path; arguments = arguments }
called_by (Include target) = None
called_by (Sub target) = None

-- the calls of the rules of a file that have no fault
abbrev pub calls_of : Form → List ℕ → List CallText
calls_of form bytes = filter_map (λ rule. called_by rule.body) (good_rules form bytes)

-- THE CALLS of all files, in their order
unfoldable pub calls_in : Folder → List CallText
calls_in folder = flat_map (λ file. calls_of folder.form file.1) folder.entries
