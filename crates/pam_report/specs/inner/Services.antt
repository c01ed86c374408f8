-- For private contracts and proofs alone: what is read of a configuration for its services, and names that are services or are not.
use Rattle.std.specs.Prelude.{◌≡◌, ⊤, ℕ, Bool, true, false, List, []}
use Rattle.pam_conf.specs.Files.{Folder, Named}
use Rattle.pam_conf.specs.declared.rule.Form.{Form}
use Rattle.pam_conf.specs.declared.rule.Form.TheVariants.{Dir, Single}
use Rattle.pam_conf.specs.Services.{services_in}
use Rattle.pam_report.specs.Services.{may_hide}
use Rattle.pam_report.specs.declared.fault.Fault.{Fault}
use Rattle.pam_report.specs.declared.fault.Fault.TheVariants as faults

-- the services that the rules of pam.conf name
abbrev pub rule_names : Form → List Named → List (List ℕ)
rule_names Dir files = []
rule_names Single files = services_in Single files

-- these are the names of the rules of pam.conf, and whether a fault may hide others
pub record IsNaming (folder : Folder) (names : List (List ℕ)) (hides : Bool) : Type 0 where
  pub of_rules : names ≡ rule_names folder.form folder.entries
  pub hidden : hides ≡ may_hide folder.form folder.entries

-- not all that are named are services, or an allocation failed
abbrev pub IsUnknown : Bool → Fault → Type 0
IsUnknown known faults.NoSuchService = known ≡ false
IsUnknown known faults.Memory = ⊤
IsUnknown known fault = ⊥
