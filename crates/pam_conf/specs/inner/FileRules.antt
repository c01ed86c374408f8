-- For private contracts and proofs alone: the rules and the faults of a file, where each line is read by itself, and which rules
-- apply to each kind.
use Rattle.std.specs.Prelude.{List, map}
use Rattle.pam_conf.specs.Files.{Folder, Named}
use Rattle.pam_conf.specs.inner.ByKind.{Indices, indices_of}
use Rattle.pam_conf.specs.Rule.{RuleText}
use Rattle.pam_conf.specs.declared.error.RuleFault.{RuleFault}
use Rattle.pam_conf.specs.declared.rule.Form.{Form}
use Rattle.pam_conf.specs.FileRules.{good_rules, own_faults}

-- a file as it was read
pub record FileText : Type 0 where
  pub rules : List RuleText
  pub faults : List RuleFault
  pub by_kind : Indices

-- what is read of the files, in order
abbrev pub file_text : Form → Named → FileText
file_text form f = record { rules = good_rules form f.1; faults = own_faults form f.1; by_kind = indices_of (good_rules form f.1) }

abbrev pub files_read : Folder → List FileText
files_read folder = map (file_text folder.form) folder.entries
