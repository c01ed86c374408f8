-- The reply of `compare`: what changes from one configuration to another.
use Rattle.std.specs.Prelude.{◌≡◌, ℕ, Bool, List, [], ◌∷◌, Option, Some, None, Result, Ok, Err, false, true}
use Rattle.std.specs.List.{list_all}
use Rattle.pam_changes.specs.Changes.{AreChanges}
use Rattle.pam_changes.specs.Sides.{SideText, SidesText}
use Rattle.pam_conf.specs.declared.rule.Kind.{Kind}
use Rattle.pam_facts.specs.Reading.{known_rows}
use Rattle.pam_facts.specs.Rows.{Row}
use Rattle.pam_facts.specs.declared.error.FactsError.{FactsError}
use Rattle.pam_facts.specs.settings.Settings.{SettingText}
use Rattle.pam_tables.specs.Returns.{ReturnLine, returns_of}
use Rattle.pam_tables.specs.declared.error.Table.TheVariants as tables
use Rattle.pam_tables.specs.declared.error.TableFault.{TableFault}
use Rattle.pam_report.specs.ComparedKeys.{names_module_in}
use Rattle.pam_report.specs.Fault.{facts_fault, table_fault}
use Rattle.pam_report.specs.Inputs.{facts_given, new_given, no_files, old_given, returns_given}
use Rattle.pam_report.specs.Reply.{Answer, Compared, CompareValue}
use Rattle.pam_report.specs.declared.fault.Fault.{Fault}
use Rattle.pam_report.specs.declared.fault.Fault.TheVariants as faults
use Rattle.pam_report.specs.declared.inputs.Inputs.{Inputs}
use Rattle.pam_report.specs.declared.inputs.SideInputs.{SideInputs}

-- a configuration, with its modules. One that is not given has no files
abbrev pub side_of : Option SideInputs → SideText
side_of None = record { folder = no_files; there = None }
side_of (Some side) = record { folder = side.files; there = side.there }

-- the two configurations of a comparison, and what is known of their modules
abbrev pub sides_of : Inputs → List Row → Option (List ReturnLine) → List SettingText → SidesText
sides_of inputs facts returns settings = record {
  old = side_of (old_given inputs);
  new = side_of (new_given inputs);
  facts = facts;
  returns = returns;
  settings = settings;
}

-- each key of a setting is the name of a module of either configuration
abbrev pub are_named : Inputs → List SettingText → Bool
are_named inputs settings = list_all (names_module_in (side_of (old_given inputs)).folder (side_of (new_given inputs)).folder) settings

-- the service that is named, if there is one
abbrev pub names_of : Option (List ℕ) → List (List ℕ)
names_of None = []
names_of (Some service) = service ∷ []

abbrev pub some_lines : Result (List ReturnLine) (TableFault × ℕ) → Result (Option (List ReturnLine)) (TableFault × ℕ)
some_lines (Ok lines) = Ok (Some lines)
some_lines (Err e) = Err e

-- the lines of the returns file, if there is one
abbrev pub lines_of : Option (List ℕ) → Result (Option (List ReturnLine)) (TableFault × ℕ)
lines_of None = Ok None
lines_of (Some bytes) = some_lines (returns_of bytes)

abbrev pub returns_fault : TableFault × ℕ → Fault
returns_fault e = table_fault tables.Returns e

-- what is compared: the service and the kind that are named, or all, with what is set for modules
module _ (service : Option (List ℕ)) (kind : Option Kind) (settings : List SettingText) (inputs : Inputs) where
  -- the changes by these facts and returns
  pub record IsCompareOf (facts : List Row) (returns : Option (List ReturnLine)) (value : CompareValue) : Type 0 where
    pub old : value.old ≡ (side_of (old_given inputs)).folder
    pub new : value.new ≡ (side_of (new_given inputs)).folder
    pub changes : AreChanges (sides_of inputs facts returns settings) (names_of service) kind value.changes

  -- where each key names a module
  abbrev pub IsComparedIf : Bool → List Row → Option (List ReturnLine) → Answer → Type 0
  IsComparedIf false facts returns answer = answer ≡ Err faults.NoSuchKey
  IsComparedIf true facts returns (Ok (Compared value)) = IsCompareOf facts returns value
  IsComparedIf true facts returns answer = ⊥

  -- a fault of the facts file comes before one of the returns file, and that before a key
  abbrev pub IsCompared : Result (List Row) FactsError → Result (Option (List ReturnLine)) (TableFault × ℕ) → Answer → Type 0
  IsCompared (Err e) returns answer = answer ≡ Err (facts_fault e)
  IsCompared (Ok facts) (Err e) answer = answer ≡ Err (returns_fault e)
  IsCompared (Ok facts) (Ok returns) answer = IsComparedIf (are_named inputs settings) facts returns answer

  -- THE REPLY of `compare`
  abbrev pub IsCompare : Answer → Type 0
  IsCompare answer = IsCompared (known_rows (facts_given inputs)) (lines_of (returns_given inputs)) answer
