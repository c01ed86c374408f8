-- The files that rules name as targets: pam.conf(5), on include, substack and @include.
use Rattle.std.specs.Prelude.{ℕ, Bool, false, List}
use Rattle.std.specs.List.{list_any}
use Rattle.std.specs.Str.{bytes_eq}
use Rattle.pam_conf.specs.FileRules.{good_rules}
use Rattle.pam_conf.specs.Files.{Folder}
use Rattle.pam_conf.specs.Rule.{RuleText, RuleBody, Module, Include, Sub}

abbrev pub body_names : List ℕ → RuleBody → Bool
body_names name (Module control path arguments) = false
body_names name (Include target) = bytes_eq name target
body_names name (Sub target) = bytes_eq name target

abbrev pub names_target : List ℕ → RuleText → Bool
names_target name rule = body_names name rule.body

-- some rule of a file, without a fault, includes the file of this name, or has it as a substack
abbrev pub is_target : Folder → List ℕ → Bool
is_target folder name = list_any (λ f. list_any (names_target name) (good_rules folder.form f.1)) folder.entries
