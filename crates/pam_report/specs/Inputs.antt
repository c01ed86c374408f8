-- The tables that a request is answered from: access.conf(5), group(5), time.conf(5).
use Rattle.std.specs.Prelude.{ℕ, suc, ◌==◌, List, [], length, Option, Some, None, Result, Ok, Vec, Bool, true, false, is_none, is_some, nat_le}
use Rattle.std.specs.Prelude.{option_map, ◌&&◌, ◌||◌}
use Rattle.std.specs.Bool.{beq}
use Rattle.std.specs.Option.{option_map_or}
use Rattle.std.specs.Global.{Global}
use Rattle.jiff.specs.Types.{DateTime}
use Rattle.pam_conf.specs.Files.{Folder}
use Rattle.pam_conf.specs.declared.rule.Form.TheVariants.{Dir}
use Rattle.pam_facts.specs.Rows.{Row}
use Rattle.pam_facts.specs.known.Answers.{if_any}
use Rattle.pam_facts.specs.known.Tables.{TablesText, TimedText}
use Rattle.pam_findings.specs.tables.Tables.{TablesText as HostTablesText}
use Rattle.pam_tables.specs.Groups.{Group, groups_of}
use Rattle.pam_tables.specs.declared.error.TableFault.{TableFault}
use Rattle.pam_words.specs.Wanted.{facts_named}
use Rattle.pam_words.specs.declared.wanted.Task.{Task}
use Rattle.pam_words.specs.declared.wanted.KnowledgeSource.{KnowledgeSource}
use Rattle.pam_words.specs.declared.wanted.TableNames.{TableNames}
use Rattle.pam_words.specs.declared.wanted.Task.TheVariants.{Check, Compare, Show, Decide, Access, Time, Paths, Outcomes, Graph, Policy, Needs}
use Rattle.pam_words.specs.declared.wanted.Task.TheVariants.{Explain, Facts, Version}
use Rattle.pam_words.specs.declared.wanted.CheckFiles.{CheckFiles}
use Rattle.pam_words.specs.declared.wanted.CompareFiles.{CompareFiles}
use Rattle.pam_report.specs.declared.inputs.AccessFiles.{AccessFiles}
use Rattle.pam_report.specs.declared.inputs.CheckInputs.{CheckInputs}
use Rattle.pam_report.specs.declared.inputs.SideInputs.{SideInputs}
use Rattle.pam_report.specs.TablePaths.{TablePathsText}
use Rattle.pam_report.specs.declared.inputs.Inputs.{Inputs}
use Rattle.pam_report.specs.declared.inputs.TableFile.{TableFile}
use Rattle.pam_report.specs.declared.inputs.TableFiles.{TableFiles}
use Rattle.pam_report.specs.declared.inputs.Inputs.TheVariants as inputs

-- the configuration, if there is exactly one
abbrev pub files_given : Inputs → Option Folder
files_given (inputs.Host files paths given) = Some files
files_given (inputs.Sides old new facts returns) = None
files_given (inputs.Stack files) = Some files
files_given (inputs.Paths files given) = Some files
files_given (inputs.Access tables groups) = None
files_given (inputs.Time table) = None
files_given inputs.Nothing = None

-- the paths of a configuration and of its files, as far as they are known
abbrev pub paths_given : Inputs → List (List ℕ)
paths_given (inputs.Host files paths given) = paths
paths_given _ = []

-- the position from which on the files of `check` are those that only the second folder has
abbrev pub vendor_start_given : Inputs → ℕ
vendor_start_given (inputs.Host files paths given) = given.vendor_start
vendor_start_given _ = 0

-- by the position of each file of `check`, whether it is a link that leads out of its folder
abbrev pub outside_given : Inputs → List Bool
outside_given (inputs.Host files paths given) = given.outside.items
outside_given _ = []

-- the names of entries of the folders of `check` that are links which lead nowhere
abbrev pub dead_given : Inputs → List (List ℕ)
dead_given (inputs.Host files paths given) = given.dead
dead_given _ = []

-- by the position of each file of `check`, whether it cannot be read; one that cannot has no byte here
abbrev pub unread_given : Inputs → List Bool
unread_given (inputs.Host files paths given) = given.unread.items
unread_given _ = []

-- the paths at which a module is there, if that is known
abbrev pub there_given : Inputs → Option (List (List ℕ))
there_given (inputs.Host files paths given) = given.there
there_given (inputs.Paths files given) = given.there
there_given _ = None

-- the arguments that name a file which is there, if that is known
abbrev pub named_files_given : Inputs → Option (List (List ℕ))
named_files_given (inputs.Host files paths given) = given.named_files
named_files_given _ = None

-- the two configurations of a comparison, with their modules
abbrev pub old_given : Inputs → Option SideInputs
old_given (inputs.Sides old new facts returns) = Some old
old_given _ = None

abbrev pub new_given : Inputs → Option SideInputs
new_given (inputs.Sides old new facts returns) = Some new
new_given _ = None

-- the returns file of a comparison
abbrev pub returns_given : Inputs → Option (List ℕ)
returns_given (inputs.Sides old new facts returns) = option_map (λ b. b.items) returns
returns_given _ = None

-- the facts file, and the accept file of `check`, which are empty where none is named
abbrev pub facts_given : Inputs → List ℕ
facts_given (inputs.Host files paths given) = option_map_or (λ b. b.items) given.facts []
facts_given (inputs.Sides old new facts returns) = option_map_or (λ b. b.items) facts []
facts_given (inputs.Paths files given) = option_map_or (λ b. b.items) given.facts []
facts_given _ = []

abbrev pub accept_given : Inputs → List ℕ
accept_given (inputs.Host files paths given) = option_map_or (λ b. b.items) given.accept []
accept_given _ = []

-- the tables of `check`, as far as they are given, and the paths under which they were read
abbrev pub bytes_of_table : Option TableFile → Option (List ℕ)
bytes_of_table table = option_map (λ t. t.bytes.items) table

abbrev pub path_of_table : Option TableFile → List ℕ
path_of_table table = option_map_or (λ t. t.path.items) table []

abbrev pub host_tables_given : Inputs → HostTablesText
host_tables_given (inputs.Host files paths given) = record {
  groups = bytes_of_table given.tables.groups;
  access = given.tables.access.contents;
  time = bytes_of_table given.tables.time;
}
host_tables_given _ = record { groups = None; access = []; time = None }

abbrev pub table_paths_given : Inputs → TablePathsText
table_paths_given (inputs.Host files paths given) = record {
  groups = path_of_table given.tables.groups;
  access = given.tables.access.paths;
  time = path_of_table given.tables.time;
}
table_paths_given _ = record { groups = []; access = []; time = [] }

-- no files
abbrev pub no_files : Folder
no_files = record { form = Dir; entries = [] }

-- the access tables of `access`, and its group file
abbrev pub access_given : Inputs → List (List ℕ)
access_given (inputs.Access tables groups) = tables
access_given _ = []

abbrev pub group_file : Inputs → Option (List ℕ)
group_file (inputs.Access tables groups) = option_map (λ b. b.items) groups
group_file _ = None

-- the groups of a file, which are none without a file
abbrev pub groups_in : Option (List ℕ) → Result (List Group) (TableFault × ℕ)
groups_in None = Ok []
groups_in (Some bytes) = groups_of bytes

-- the time table of `time`
abbrev pub time_given : Inputs → List ℕ
time_given (inputs.Time table) = table.items
time_given _ = []

-- the contents of the policies of `policy`, in their order
abbrev pub policies_given : Inputs → List (List ℕ)
policies_given (inputs.Paths files given) = given.policies
policies_given _ = []

-- ---- inputs that fit

-- a path for the whole configuration, and one for each file
abbrev pub has_paths : Folder → List (List ℕ) → Bool
has_paths files paths = length paths == suc (length files.entries)

-- there is an access table
abbrev pub has_access : AccessFiles → Bool
has_access access = is_some (if_any access.contents)

-- each table that is named is given
abbrev pub has_named_tables : TableNames → TableFiles → Bool
has_named_tables named given =
    (is_none named.groups || is_some given.groups)
    && (nat_le (length named.access.items) (length given.access.contents) && (is_none named.time || is_some given.time))

-- the contents of exactly the facts file and the accept file that are named, and of each table that is named
abbrev pub fits_check : CheckFiles → CheckInputs → Bool
fits_check named given =
    beq (is_some given.facts) (is_some named.facts)
    && (beq (is_some given.accept) (is_some named.accept) && has_named_tables named.tables given.tables)

-- a configuration, the contents of exactly the facts file and the returns file that are named, and those of each table that is named
abbrev pub fits_knowledge : KnowledgeSource → Inputs → Bool
fits_knowledge named (inputs.Paths files given) =
    beq (is_some given.facts) (is_some (facts_named named.answers))
    && (beq (is_some given.returns) (is_some named.returns) && has_named_tables named.tables given.tables)
fits_knowledge named _ = false

-- the number of policies is this one
abbrev pub has_policies : ℕ → Inputs → Bool
has_policies count inputs = length (policies_given inputs) == count

-- the contents of exactly the facts file and the returns file that are named
abbrev pub fits_compare : CompareFiles → Option (Vec ℕ Global) → Option (Vec ℕ Global) → Bool
fits_compare named facts returns = beq (is_some facts) (is_some named.facts) && beq (is_some returns) (is_some named.returns)

-- the contents of exactly the files that a task names are given
abbrev pub fits_task : Task → Inputs → Bool
fits_task (Check source services fail_on named) (inputs.Host files paths given) = has_paths files paths && fits_check named given
fits_task (Compare old new service kind named) (inputs.Sides old_side new_side facts returns) = fits_compare named facts returns
fits_task (Show source kind release) (inputs.Stack files) = true
fits_task (Decide source kind answered) (inputs.Stack files) = true
fits_task (Access names groups_named passwd login arguments) (inputs.Access tables groups) =
    length tables == length names.items && beq (is_some groups) (is_some groups_named)
fits_task (Time name login moment) (inputs.Time table) = true
fits_task (Paths source kind limit part filter knowledge) inputs = fits_knowledge knowledge inputs
fits_task (Outcomes source kind knowledge) inputs = fits_knowledge knowledge inputs
fits_task (Graph source kind format knowledge) inputs = fits_knowledge knowledge inputs
fits_task (Needs source kind knowledge) inputs = fits_knowledge knowledge inputs
fits_task (Policy source names fail_on knowledge) inputs = fits_knowledge knowledge inputs && has_policies (length names.items) inputs
fits_task (Explain number) inputs.Nothing = true
fits_task Facts inputs.Nothing = true
fits_task Version inputs.Nothing = true
fits_task _ _ = false

-- ---- the tables that tell the codes of modules

-- a time table, if there is a moment
abbrev pub timed : Option TableFile → Option DateTime → Option TimedText
timed (Some table) (Some moment) = Some (record { bytes = table.bytes.items; moment = moment })
timed (Some table) None = None
timed None moment = None

abbrev pub no_tables : TablesText
no_tables = record { there = None; groups = None; access = []; time = None; returns = None; facts = None }

-- the tables of the commands about paths, which modules are there, and what is known of them, if that is asked
abbrev pub tables_given : Inputs → Option (List Row) → Option DateTime → TablesText
tables_given (inputs.Paths files given) facts moment = record {
  there = given.there;
  groups = bytes_of_table given.tables.groups;
  access = given.tables.access.contents;
  time = timed given.tables.time moment;
  returns = option_map (λ b. b.items) given.returns;
  facts = facts;
}
tables_given _ facts moment = record no_tables { facts = facts }
