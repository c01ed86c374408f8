-- For private contracts and proofs alone: the reply of `compare`: what changes from one configuration to another.
use Rattle.std.specs.Prelude.{◌≡◌, ◌≢◌, ⊤, ℕ, List, Option, Ok, Err, is_some, false, true}
use Rattle.pam_changes.specs.Changes.{AreChanges}
use Rattle.pam_changes.specs.declared.changes.HostChanges.{HostChanges}
use Rattle.pam_conf.specs.declared.rule.Kind.{Kind}
use Rattle.pam_facts.specs.Reading.{known_rows}
use Rattle.pam_facts.specs.Rows.{Row}
use Rattle.pam_facts.specs.declared.error.FactsFault.TheVariants as facts_faults
use Rattle.pam_facts.specs.settings.Settings.{SettingText}
use Rattle.pam_tables.specs.Error.{FailsAt}
use Rattle.pam_tables.specs.Returns.{ReturnLine}
use Rattle.pam_tables.specs.declared.error.Table.TheVariants as tables
use Rattle.pam_facts.specs.declared.known.error.NumberedError.{NumberedError}
use Rattle.pam_report.specs.Inputs.{facts_given, returns_given}
use Rattle.pam_report.specs.declared.fault.Fault.{Fault}
use Rattle.pam_report.specs.declared.fault.Fault.TheVariants as faults
use Rattle.pam_report.specs.declared.inputs.Inputs.{Inputs}
use Rattle.pam_report.specs.Compare.{sides_of, are_named, names_of, lines_of}

-- changes by what the facts file and the returns file say
pub record IsFound (service : Option (List ℕ)) (kind : Option Kind) (settings : List SettingText) (inputs : Inputs) (changes : HostChanges) : Type 0 where
  pub facts : List Row
  pub returns : Option (List ReturnLine)
  pub known : known_rows (facts_given inputs) ≡ Ok facts
  pub lines : lines_of (returns_given inputs) ≡ Ok returns
  pub named : are_named inputs settings ≡ true
  pub are_changes : AreChanges (sides_of inputs facts returns settings) (names_of service) kind changes

-- a fault of the returns file, which is given
pub record IsReturnsFault (inputs : Inputs) (e : NumberedError) : Type 0 where
  pub given : is_some (returns_given inputs) ≡ true
  pub first : e.number ≡ 1
  pub table : e.error.table ≡ tables.Returns
  pub fault : FailsAt e.error.fault e.error.line (lines_of (returns_given inputs))

-- a key that names no module, where the files have no fault
pub record IsKeyFault (settings : List SettingText) (inputs : Inputs) : Type 0 where
  pub facts : List Row
  pub returns : Option (List ReturnLine)
  pub known : known_rows (facts_given inputs) ≡ Ok facts
  pub lines : lines_of (returns_given inputs) ≡ Ok returns
  pub named : are_named inputs settings ≡ false

-- a fault of the facts file, or of the returns file if the facts file has none, or a key, or a failed allocation
abbrev pub IsUnfound : List SettingText → Inputs → Fault → Type 0
IsUnfound settings inputs (faults.Facts e) = (known_rows (facts_given inputs) ≡ Err e) × (e.fault ≢ facts_faults.Memory)
IsUnfound settings inputs (faults.Table e) = ((facts : List Row) × (known_rows (facts_given inputs) ≡ Ok facts)) × IsReturnsFault inputs e
IsUnfound settings inputs faults.NoSuchKey = IsKeyFault settings inputs
IsUnfound settings inputs faults.Memory = ⊤
IsUnfound settings inputs fault = ⊥
