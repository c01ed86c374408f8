-- What is read for a task: the inputs that fit it, or the input that cannot be read.
use Rattle.std.specs.Prelude.{◌≡◌, ◌⊎◌, ◌&&◌, ⊤, Bool, false, true, ℕ, List, [], ◌∷◌, MatchOption, Option, Some, None, Result, Ok, Err, Vec, codes}
use Rattle.std.specs.Prelude.{is_some, map, option_map}
use Rattle.std.specs.Borrow.{Bor}
use Rattle.std.specs.Option.{option_copied}
use Rattle.std.specs.Global.{Global}
use Rattle.clap.specs.Words.{Text}
use Rattle.pam_text.specs.Members.{Member}
use Rattle.pam_report.specs.Inputs.{bytes_of_table, fits_task, named_files_given, path_of_table, policies_given, there_given}
use Rattle.pam_report.specs.Passwd.{with_users}
use Rattle.pam_report.specs.declared.inputs.CheckInputs.{CheckInputs}
use Rattle.pam_report.specs.declared.inputs.SideInputs.{SideInputs}
use Rattle.pam_report.specs.declared.inputs.InputError.{InputError}
use Rattle.pam_report.specs.declared.inputs.Inputs.{Inputs}
use Rattle.pam_report.specs.declared.inputs.Inputs.TheVariants as inputs
use Rattle.pam_report.specs.declared.inputs.TableFile.{TableFile}
use Rattle.pam_report.specs.declared.inputs.TableFiles.{TableFiles}
use Rattle.pam_words.specs.Wanted.{facts_named}
use Rattle.pam_words.specs.declared.wanted.CompareFiles.{CompareFiles}
use Rattle.pam_words.specs.declared.wanted.ConfSource.{ConfSource}
use Rattle.pam_words.specs.declared.wanted.ConfSource.TheVariants.{Root}
use Rattle.pam_words.specs.declared.wanted.KnowledgeSource.{KnowledgeSource}
use Rattle.pam_words.specs.declared.wanted.TableNames.{TableNames}
use Rattle.pam_words.specs.declared.wanted.Task.{Task}
use Rattle.pam_words.specs.declared.wanted.Task.TheVariants.{Check, Compare, Show, Decide, Access, Time, Paths, Outcomes, Graph, Policy, Needs}
use Rattle.pam_words.specs.declared.wanted.CheckFiles.{CheckFiles}
use Rattle.pam_cli.specs.DeadLinks.{AreDead}
use Rattle.pam_cli.specs.Links.{AreLinks}
use Rattle.pam_cli.specs.AccessTables.{AreAccess, AreContents}
use Rattle.pam_cli.specs.Passwd.{IsGivenPasswd, IsPasswd}
use Rattle.pam_cli.specs.Sources.{IsFrom, IsInSource, IsRead, IsUnread}
use Rattle.pam_cli.specs.System.{PlaceText, Told, shown}
use Rattle.pam_cli.specs.System as system
use Rattle.pam_cli.specs.UnreadFiles.{AreUnreadIn, going_on}

-- ---- what is read

-- a configuration is read from its source, for `check` with its paths, with which of its files only the second folder has, and with
-- which of them cannot be read and have no byte here
abbrev pub HasFiles : Told → List (Text × Text) → ConfSource → Inputs → Type 0
HasFiles told candidates source (inputs.Host files paths given) =
    IsRead (going_on told) candidates source files paths given.vendor_start
    × AreUnreadIn told candidates source files given.vendor_start given.unread.items
HasFiles told candidates source (inputs.Stack files) = IsFrom told candidates source files
HasFiles told candidates source (inputs.Paths files given) = IsFrom told candidates source files
HasFiles told candidates source given = ⊤

-- the bytes of a file, if one is named
abbrev pub IsFile : Told → Option Text → Option (Vec ℕ Global) → Type 0
IsFile told (Some name) given = MatchOption given ⊥ (λ bytes. told.file name bytes.items)
IsFile told None given = given ≡ None

-- a table that is named
abbrev pub IsNamedTable : Told → Text → TableFile → Type 0
IsNamedTable told name table = (table.path.items ≡ name) × told.file name table.bytes.items

-- the table of a system, if it is there
abbrev pub IsTableAt : Told → PlaceText → Option TableFile → Type 0
IsTableAt told place None = told.held place system.nothing
IsTableAt told place (Some table) = (table.path.items ≡ shown place) × told.held place (system.bytes table.bytes.items)

-- the table of the source's own at this path, if tables are read there
abbrev pub IsOwnTable : Told → Bool → ConfSource → Text → Option TableFile → Type 0
IsOwnTable told false source path table = table ≡ None
IsOwnTable told true (Root root) path table = IsTableAt told (system.below root.now path) table
IsOwnTable told true source path table = table ≡ None

-- a table: that of the name, or else that of the root at this path. The first is whether the table of the root is read
abbrev pub IsTable : Told → Bool → ConfSource → Text → Option Text → Option TableFile → Type 0
IsTable told reads source own (Some name) table = MatchOption table ⊥ (IsNamedTable told name)
IsTable told reads source own None table = IsOwnTable told reads source own table

-- THE TABLES: those that are named, and else those of the root that are there. Those of the root are read where a login is looked up,
-- the time table where its moment is looked up too
pub record AreTables (told : Told) (by_login by_moment : Bool) (source : ConfSource) (named : TableNames) (tables : TableFiles) : Type 0 where
  pub groups : IsTable told by_login source (codes "etc/group") (option_copied named.groups) tables.groups
  pub access : AreAccess told by_login source (map (λ s. s.now) named.access.items) tables.access
  pub time : IsTable told by_moment source (codes "etc/security/time.conf") (option_copied named.time) tables.time

-- `check` reads them all
abbrev pub HasTables : Told → ConfSource → CheckFiles → Inputs → Type 0
HasTables told source named (inputs.Host files paths given) = AreTables told true true source named.tables given.tables
HasTables told source named given = ⊤

-- the facts file and the accept file of `check`
abbrev pub AreOthers : Told → CheckFiles → CheckInputs → Type 0
AreOthers told named given = IsFile told (option_copied named.facts) given.facts × IsFile told (option_copied named.accept) given.accept

abbrev pub HasOthers : Told → CheckFiles → Inputs → Type 0
HasOthers told named (inputs.Host files paths given) = AreOthers told named given
HasOthers told named given = ⊤

-- a user is given
abbrev pub is_user : Text → Bool
is_user [] = false
is_user (c ∷ cs) = true

abbrev pub has_user : KnowledgeSource → Bool
has_user named = is_user named.login.user.now

-- a group file, with the users of the passwd file as members of the groups of their numbers
pub record IsGroupTable (told : Told) (reads : Bool) (source : ConfSource) (passwd : Option Text) (file table : Option TableFile) : Type 0 where
  pub users : Option (Vec ℕ Global)
  pub are_users : IsPasswd told reads source passwd users
  pub path : path_of_table table ≡ path_of_table file
  pub bytes : bytes_of_table table ≡ option_map (λ t. with_users t.bytes.items (option_map (λ b. b.items) users)) file

-- `paths`, `outcomes`, `graph`, `needs` and `policy` look up a login if its user is given, and its moment if that is given too
pub record AreKnownTables (told : Told) (source : ConfSource) (named : KnowledgeSource) (tables : TableFiles) : Type 0 where
  pub read : TableFiles
  pub are_read : AreTables told (has_user named) (has_user named && is_some named.moment) source named.tables read
  pub access : tables.access ≡ read.access
  pub time : tables.time ≡ read.time
  pub groups : IsGroupTable told (has_user named) source (option_copied named.passwd) read.groups tables.groups

abbrev pub HasKnownTables : Told → ConfSource → KnowledgeSource → Inputs → Type 0
HasKnownTables told source named (inputs.Paths files given) =
    AreKnownTables told source named given.tables × IsFile told (option_copied (facts_named named.answers)) given.facts
    × IsFile told (option_copied named.returns) given.returns
HasKnownTables told source named given = ⊤

-- no folder of modules is named: it is not known which modules are there, unless the source is a system, which may have such folders
abbrev pub HasOwnModules : ConfSource → Option (List Text) → Type 0
HasOwnModules (Root root) there = ⊤
HasOwnModules source there = there ≡ None

-- WHETHER IT IS KNOWN which modules are there: it is if a folder of modules is named
abbrev pub HasModules : ConfSource → List (Bor Text) → Option (List Text) → Type 0
HasModules source [] there = HasOwnModules source there
HasModules source (folder ∷ folders) there = is_some there ≡ true

-- WHETHER IT IS KNOWN which arguments name a file that is there: it is if the source is a system
abbrev pub HasNamedFiles : ConfSource → Option (List Text) → Type 0
HasNamedFiles (Root root) files = is_some files ≡ true
HasNamedFiles source files = files ≡ None

-- a side of a comparison is read from its source, and its modules are known by that source and the folders that are named
abbrev pub IsSide : Told → ConfSource → CompareFiles → SideInputs → Type 0
IsSide told source named side = IsFrom told [] source side.files × HasModules source named.modules.items side.there

-- the old configuration is read from the first source, and the new one from the second, beside the facts file and the returns file
abbrev pub HasSides : Told → ConfSource → ConfSource → CompareFiles → Inputs → Type 0
HasSides told old new named (inputs.Sides old_side new_side facts returns) =
    IsSide told old named old_side × IsSide told new named new_side
    × IsFile told (option_copied named.facts) facts × IsFile told (option_copied named.returns) returns
HasSides told old new named given = ⊤

-- the contents of these policies, in turn
abbrev pub HasPolicies : Told → List Text → Inputs → Type 0
HasPolicies told names given = AreContents told names (policies_given given)

-- a configuration, the tables, the facts file and the returns file that give the answers of its modules, whether it is known which
-- modules are there, and the policies of these names
abbrev pub HasKnowledge : Told → List (Text × Text) → ConfSource → KnowledgeSource → List Text → Inputs → Type 0
HasKnowledge told candidates source named policies given =
    HasFiles told candidates source given × HasKnownTables told source named given × HasModules source named.modules.items (there_given given)
    × HasPolicies told policies given

-- the group file of `access`, with the users of the passwd file as members of the groups of their numbers
pub record IsGroupFile (told : Told) (groups passwd : Option Text) (given : Option (Vec ℕ Global)) : Type 0 where
  pub file : Option (Vec ℕ Global)
  pub users : Option (Vec ℕ Global)
  pub is_file : IsFile told groups file
  pub are_users : IsGivenPasswd told passwd users
  pub bytes : option_map (λ b. b.items) given ≡ option_map (λ b. with_users b.items (option_map (λ u. u.items) users)) file

-- its tables and its group file
abbrev pub IsAccess : Told → List Text → Option Text → Option Text → Inputs → Type 0
IsAccess told names groups passwd (inputs.Access tables group) = AreContents told names tables × IsGroupFile told groups passwd group
IsAccess told names groups passwd given = ⊤

-- the table of `time`
abbrev pub IsTime : Told → Text → Inputs → Type 0
IsTime told table (inputs.Time bytes) = told.file table bytes.items
IsTime told table given = ⊤

-- which files of `check` are links that lead out of their folder
abbrev pub HasLinks : Told → List (Text × Text) → ConfSource → Inputs → Type 0
HasLinks told candidates source (inputs.Host files paths given) =
    AreLinks told candidates source files.entries given.vendor_start given.outside.items
HasLinks told candidates source given = ⊤

-- the names of the entries of its folders that lead nowhere
abbrev pub HasDead : Told → ConfSource → Inputs → Type 0
HasDead told source (inputs.Host files paths given) = AreDead told source files.entries given.dead
HasDead told source given = ⊤

abbrev pub HasSource : Told → List (Text × Text) → Task → Inputs → Type 0
HasSource told candidates (Check source services fail_on named) given =
    HasFiles told candidates source given × HasTables told source named given × HasOthers told named given
    × HasModules source named.modules.items (there_given given) × HasNamedFiles source (named_files_given given)
    × HasLinks told candidates source given × HasDead told source given
HasSource told candidates (Compare old new service kind named) given = HasSides told old new named given
HasSource told candidates (Show source kind release) given = HasFiles told candidates source given
HasSource told candidates (Decide source kind answered) given = HasFiles told candidates source given
HasSource told candidates (Access tables groups passwd login arguments) given =
    IsAccess told (map (λ s. s.now) tables.items) (option_copied groups) (option_copied passwd) given
HasSource told candidates (Time table login moment) given = IsTime told table.now given
HasSource told candidates (Paths source kind limit part filter knowledge) given = HasKnowledge told candidates source knowledge [] given
HasSource told candidates (Outcomes source kind knowledge) given = HasKnowledge told candidates source knowledge [] given
HasSource told candidates (Graph source kind format knowledge) given = HasKnowledge told candidates source knowledge [] given
HasSource told candidates (Needs source kind knowledge) given = HasKnowledge told candidates source knowledge [] given
HasSource told candidates (Policy source policies fail_on knowledge) given =
    HasKnowledge told candidates source knowledge (map (λ s. s.now) policies.items) given
HasSource told candidates task given = ⊤

-- THE INPUTS of a task with these candidates: those of exactly the files that are named
abbrev pub AreInputs : Told → List (Text × Text) → Task → Inputs → Type 0
AreInputs told candidates task given = (fits_task task given ≡ true) × HasSource told candidates task given

-- ---- what cannot be read

-- the file that is named, if there is one
abbrev pub IsNamed : Option (List ℕ) → List ℕ → Type 0
IsNamed named name = named ≡ Some name

-- one of the tables
abbrev pub IsOfTables : TableNames → List ℕ → Type 0
IsOfTables named name =
    IsNamed (option_copied named.groups) name ⊎ Member name (map (λ s. s.now) named.access.items) ⊎ IsNamed (option_copied named.time) name

-- a name of the source, one of the folders of modules or of the tables, or the passwd file, the facts file or the returns file
abbrev pub IsOfKnowledge : ConfSource → KnowledgeSource → List ℕ → Type 0
IsOfKnowledge source named name =
    IsInSource source name ⊎ Member name (map (λ folder. folder.now) named.modules.items) ⊎ IsOfTables named.tables name
    ⊎ IsNamed (option_copied named.passwd) name ⊎ IsNamed (option_copied (facts_named named.answers)) name ⊎ IsNamed (option_copied named.returns) name

-- one of these, or one of the policies
abbrev pub IsOfPolicies : ConfSource → KnowledgeSource → List Text → List ℕ → Type 0
IsOfPolicies source named policies name = IsOfKnowledge source named name ⊎ Member name policies

-- the facts file or the accept file, one of the tables, or one of the folders of modules
abbrev pub IsOfCheck : CheckFiles → List ℕ → Type 0
IsOfCheck named name =
    Member name (map (λ folder. folder.now) named.modules.items) ⊎ IsOfTables named.tables name
    ⊎ IsNamed (option_copied named.facts) name ⊎ IsNamed (option_copied named.accept) name

-- a name of either source, one of the folders of modules, or the facts file or the returns file
abbrev pub IsOfCompare : ConfSource → ConfSource → CompareFiles → List ℕ → Type 0
IsOfCompare old new named name =
    IsInSource old name ⊎ IsInSource new name ⊎ Member name (map (λ folder. folder.now) named.modules.items)
    ⊎ IsNamed (option_copied named.facts) name ⊎ IsNamed (option_copied named.returns) name

-- a name of the task's source or of a file that it names
abbrev pub IsOfTask : Task → List ℕ → Type 0
IsOfTask (Check source services fail_on named) name = IsInSource source name ⊎ IsOfCheck named name
IsOfTask (Compare old new service kind named) name = IsOfCompare old new named name
IsOfTask (Show source kind release) name = IsInSource source name
IsOfTask (Decide source kind answered) name = IsInSource source name
IsOfTask (Access tables groups passwd login arguments) name =
    IsNamed (option_copied groups) name ⊎ IsNamed (option_copied passwd) name ⊎ Member name (map (λ s. s.now) tables.items)
IsOfTask (Time table login moment) name = name ≡ table.now
IsOfTask (Paths source kind limit part filter knowledge) name = IsOfKnowledge source knowledge name
IsOfTask (Outcomes source kind knowledge) name = IsOfKnowledge source knowledge name
IsOfTask (Graph source kind format knowledge) name = IsOfKnowledge source knowledge name
IsOfTask (Needs source kind knowledge) name = IsOfKnowledge source knowledge name
IsOfTask (Policy source policies fail_on knowledge) name = IsOfPolicies source knowledge (map (λ s. s.now) policies.items) name
IsOfTask task name = ⊥

-- THE INPUTS of a task, or why there are none
abbrev pub IsReading : Told → List (Text × Text) → Task → Result Inputs InputError → Type 0
IsReading told candidates task (Ok given) = AreInputs told candidates task given
IsReading told candidates task (Err error) = IsUnread (IsOfTask task) error
