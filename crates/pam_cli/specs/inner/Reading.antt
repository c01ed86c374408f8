-- For private contracts and proofs alone: what is read for a task.
use Rattle.std.specs.Prelude.{◌≡◌, ◌⊎◌, ◌&&◌, ⊤, Bool, true, ℕ, List, [], ◌∷◌, Option, Result, Ok, Err, Vec, is_some, map}
use Rattle.std.specs.Borrow.{Bor}
use Rattle.std.specs.Bool.{beq}
use Rattle.std.specs.Global.{Global}
use Rattle.std.specs.Option.{option_copied}
use Rattle.clap.specs.Words.{Text}
use Rattle.pam_conf.specs.Files.{Folder}
use Rattle.pam_conf.specs.declared.rule.Kind.{Kind}
use Rattle.pam_text.specs.Members.{Member}
use Rattle.pam_report.specs.Inputs.{fits_check, fits_knowledge, has_named_tables}
use Rattle.pam_report.specs.declared.inputs.CheckInputs.{CheckInputs}
use Rattle.pam_report.specs.declared.inputs.KnowledgeInputs.{KnowledgeInputs}
use Rattle.pam_report.specs.declared.inputs.InputError.{InputError}
use Rattle.pam_report.specs.declared.inputs.Inputs.{Inputs}
use Rattle.pam_words.specs.Wanted.{facts_named}
use Rattle.pam_words.specs.declared.wanted.CompareFiles.{CompareFiles}
use Rattle.pam_words.specs.declared.wanted.ConfSource.{ConfSource}
use Rattle.pam_words.specs.declared.wanted.ConfSource.TheVariants.{Root}
use Rattle.pam_words.specs.declared.wanted.KnowledgeSource.{KnowledgeSource}
use Rattle.pam_words.specs.declared.wanted.LevelName.{LevelName}
use Rattle.pam_words.specs.declared.wanted.Login.{Login}
use Rattle.pam_words.specs.declared.wanted.Task.TheVariants.{Check, Compare, Access, Policy}
use Rattle.pam_words.specs.declared.wanted.CheckFiles.{CheckFiles}
use Rattle.pam_cli.specs.AccessTables.{AreContents}
use Rattle.pam_cli.specs.DeadLinks.{AreDead}
use Rattle.pam_cli.specs.Links.{AreLinks}
use Rattle.pam_cli.specs.Sources.{IsInSource, IsUnread}
use Rattle.pam_cli.specs.System.{Told}
use Rattle.pam_cli.specs.UnreadFiles.{AreUnreadIn}
use Rattle.pam_cli.specs.Reading.{AreOthers, AreTables, AreKnownTables, IsFile, HasKnowledge, HasModules, HasNamedFiles, IsOfKnowledge, IsOfCheck, IsReading}

-- a name of the source of a side, or one of the folders of modules
abbrev pub IsOfSide : ConfSource → CompareFiles → List ℕ → Type 0
IsOfSide source named name = IsInSource source name ⊎ Member name (map (λ folder. folder.now) named.modules.items)

-- whether it is known which modules are there, once these folders are read
abbrev pub known_with : {A : Type 0} → List A → Bool → Bool
known_with [] known = known
known_with (folder ∷ folders) known = true

-- only the source of a system has folders of modules of its own
abbrev pub KeepsKnown : ConfSource → Bool → Bool → Type 0
KeepsKnown (Root root) old new = ⊤
KeepsKnown source old new = new ≡ old

-- a file is given if and only if one is named
abbrev pub IsGiven : {A B : Type 0} → Option A → Option B → Type 0
IsGiven given named = beq (is_some given) (is_some named) ≡ true

-- that of the name
abbrev pub IsRightFile : Told → Option (Bor Text) → Option (Vec ℕ Global) → Type 0
IsRightFile told named given = IsGiven given named × IsFile told (option_copied named) given

-- what is read for each `check` of this source and these files
abbrev pub IsCheckReading : Told → List (Text × Text) → ConfSource → CheckFiles → Result Inputs InputError → Type 0
IsCheckReading told candidates source named result =
    (services : List Text) (fail_on : LevelName) → IsReading told candidates (Check source services fail_on named) result

-- what is read for each `compare` of these sources and these files
abbrev pub IsCompareReading : Told → ConfSource → ConfSource → CompareFiles → Result Inputs InputError → Type 0
IsCompareReading told old new named result =
    (candidates : List (Text × Text)) (service : Option (Bor Text)) (kind : Option Kind) → IsReading told candidates (Compare old new service kind named) result

-- what a check is given besides the configuration, whose files from this position on only the second folder has
abbrev pub IsGivenReading : Told → List (Text × Text) → Folder → ℕ → ConfSource → CheckFiles → Result CheckInputs InputError → Type 0
IsGivenReading told candidates files vendor_start source named (Ok given) =
    (given.vendor_start ≡ vendor_start) × (fits_check named given ≡ true) × AreTables told true true source named.tables given.tables
    × AreOthers told named given × HasModules source named.modules.items given.there × HasNamedFiles source given.named_files
    × AreLinks told candidates source files.entries vendor_start given.outside.items × AreDead told source files.entries given.dead
    × AreUnreadIn told candidates source files vendor_start given.unread.items
IsGivenReading told candidates files vendor_start source named (Err error) = IsUnread (λ name. IsInSource source name ⊎ IsOfCheck named name) error

-- what is known besides the configuration, without policies
abbrev pub IsKnownReading : Told → ConfSource → KnowledgeSource → Result KnowledgeInputs InputError → Type 0
IsKnownReading told source named (Ok given) =
    (beq (is_some given.facts) (is_some (facts_named named.answers))
    && (beq (is_some given.returns) (is_some named.returns) && has_named_tables named.tables given.tables) ≡ true)
    × AreKnownTables told source named given.tables × IsFile told (option_copied (facts_named named.answers)) given.facts
    × IsFile told (option_copied named.returns) given.returns
    × HasModules source named.modules.items given.there × AreContents told [] given.policies
IsKnownReading told source named (Err error) = IsUnread (IsOfKnowledge source named) error

-- what is read for each `access` of these files
abbrev pub IsAccessReading : Told → List (Bor Text) → Option (Bor Text) → Option (Bor Text) → Result Inputs InputError → Type 0
IsAccessReading told tables groups passwd result =
    (candidates : List (Text × Text)) (named : Vec (Bor Text) Global) (login : Login) (arguments : List Text)
    → tables ≡ named.items → IsReading told candidates (Access named groups passwd login arguments) result

-- what is read for each task about this source with what is known of answers
abbrev pub IsKnowledgeReading : Told → List (Text × Text) → ConfSource → KnowledgeSource → Result Inputs InputError → Type 0
IsKnowledgeReading told candidates source named (Ok given) = (fits_knowledge named given ≡ true) × HasKnowledge told candidates source named [] given
IsKnowledgeReading told candidates source named (Err error) = IsUnread (IsOfKnowledge source named) error

-- what is read for each `policy` of this source and these files
abbrev pub IsPolicyReading : Told → List (Text × Text) → ConfSource → KnowledgeSource → List (Bor Text) → Result Inputs InputError → Type 0
IsPolicyReading told candidates source named policies result =
    (names : Vec (Bor Text) Global) (fail_on : LevelName) → policies ≡ names.items → IsReading told candidates (Policy source names fail_on named) result
