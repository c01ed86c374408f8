-- The reply of `check`: what is wrong with the host.
use Rattle.std.specs.Prelude.{◌≡◌, ◌<◌, ℕ, All, List, [], if◌then◌else◌, length, map, Option, Result, Ok, Err, unwrap_or}
use Rattle.std.specs.BTreeMap.{BTreeMap}
use Rattle.std.specs.Option.{option_copied}
use Rattle.pam_findings.specs.accepted.Lines.{Accepted, accepted_lines}
use Rattle.pam_findings.specs.declared.accepted.error.AcceptError.{AcceptError}
use Rattle.pam_conf.specs.Files.{Folder}
use Rattle.pam_conf.specs.declared.rule.Kind.{Kind}
use Rattle.pam_facts.specs.Reading.{known_rows}
use Rattle.pam_facts.specs.Rows.{Row}
use Rattle.pam_facts.specs.declared.error.FactsError.{FactsError}
use Rattle.pam_findings.specs.host.Laws.{IsSoundStack}
use Rattle.pam_findings.specs.host.Levels.{level_of}
use Rattle.pam_findings.specs.host.Links.{WithLinks, told_way}
use Rattle.pam_findings.specs.host.Report.{IsReport, host_of}
use Rattle.pam_conf.specs.Services.{checked_services}
use Rattle.pam_explain.specs.declared.explanation.Level.TheVariants.{Note}
use Rattle.pam_findings.specs.declared.host.problem.Place.{Place}
use Rattle.pam_findings.specs.declared.host.report.Finding.{Finding}
use Rattle.pam_findings.specs.declared.host.way_in.WayIn.{WayIn}
use Rattle.pam_findings.specs.misspelled.Findings.{misspelled_at}
use Rattle.pam_findings.specs.tables.Report.{IsTableReport}
use Rattle.pam_findings.specs.declared.tables.problem.TableFinding.{TableFinding}
use Rattle.pam_findings.specs.declared.tables.problem.TablePlace.{TablePlace}
use Rattle.pam_words.specs.declared.wanted.CheckFiles.{CheckFiles}
use Rattle.pam_words.specs.declared.wanted.LevelName.{LevelName}
use Rattle.pam_report.specs.Accepting.{all_keys, lines_without, not_accepted, table_findings, tables_not_accepted}
use Rattle.pam_report.specs.Fault.{accept_fault, facts_fault}
use Rattle.pam_report.specs.Inputs.{accept_given, dead_given, facts_given, files_given, host_tables_given, named_files_given, no_files}
use Rattle.pam_report.specs.Inputs.{outside_given, paths_given, table_paths_given, there_given, unread_given, vendor_start_given}
use Rattle.pam_report.specs.Reply.{Answer, Check, CheckValue}
use Rattle.pam_report.specs.Left.{has_unread}
use Rattle.pam_report.specs.Unused.{idle_rows, unused_lines}
use Rattle.pam_report.specs.declared.inputs.Inputs.{Inputs}

-- what is checked: the services that are named, or all, and the files of the configuration
module _ (services : List (List ℕ)) (fail_on : LevelName) (named : CheckFiles) (files : Folder) (inputs : Inputs) where
  -- the findings by these facts that no line accepts, also those of tables, the lines that accept none, and the rows of the facts file
  -- that say nothing
  pub record IsCheckOf (facts : List Row) (lines : List Accepted) (value : CheckValue) : Type 0 where
    pub same_form : value.form ≡ files.form
    pub same_files : value.files ≡ unwrap_or (files_given inputs) no_files
    pub same_outside : value.outside ≡ outside_given inputs
    pub same_paths : value.paths ≡ paths_given inputs
    pub are_services : value.services ≡ checked_services files services
    pub same_level : value.fail_on ≡ fail_on
    pub same_accept : value.accept ≡ unwrap_or (option_copied named.accept) []
    pub same_facts : value.facts ≡ unwrap_or (option_copied named.facts) []
    pub plain : BTreeMap Place Finding
    pub ways : List (Option WayIn)
    pub report : IsReport files (vendor_start_given inputs) services facts (there_given inputs) (named_files_given inputs) plain ways
    -- with S27, and without the ways in that tell of a file which leads out of its folder
    pub all : BTreeMap Place Finding
    pub links : WithLinks (outside_given inputs) plain all
    pub told_ways : value.ways_in ≡ map (told_way (outside_given inputs)) ways
    pub same_table_paths : value.table_paths ≡ table_paths_given inputs
    pub all_tables : BTreeMap TablePlace TableFinding
    pub table_report : IsTableReport files value.services (host_tables_given inputs) all_tables
    pub not_accepted : value.found ≡ not_accepted lines files value.services all.entries
    pub misspelled : value.misspelled ≡ map (misspelled_at files (there_given inputs) (outside_given inputs) (dead_given inputs)) value.found
    pub tables_not_accepted : value.tables ≡ tables_not_accepted lines value.table_paths (table_findings all_tables)
    -- a line that seems to say nothing may say something of a file that cannot be read
    pub unused : value.unused
        ≡ (if has_unread (unread_given inputs) then []
        else unused_lines (lines_without (all_keys files value.services all.entries value.table_paths (table_findings all_tables)) lines)
        (idle_rows files (there_given inputs) (facts_given inputs)))
    -- where no line accepts a finding, and all that are listed are notes, each stack that is checked is sound
    pub silence : value.found ≡ all.entries → All (λ entry. level_of entry.1.problem ≡ Note) value.found →
        (service : ℕ) (kind : Kind) → service < length value.services →
        IsSoundStack (host_of files (vendor_start_given inputs) services facts (there_given inputs) (named_files_given inputs)) service kind

  -- a fault of the facts file comes before one of the accept file
  abbrev pub IsChecked : Result (List Row) FactsError → Result (List Accepted) AcceptError → Answer → Type 0
  IsChecked (Err e) lines answer = answer ≡ Err (facts_fault e)
  IsChecked (Ok facts) (Err e) answer = answer ≡ Err (accept_fault e)
  IsChecked (Ok facts) (Ok lines) (Ok (Check value)) = IsCheckOf facts lines value
  IsChecked (Ok facts) (Ok lines) answer = ⊥

  -- THE REPLY of `check`
  abbrev pub IsCheck : Answer → Type 0
  IsCheck answer = IsChecked (known_rows (facts_given inputs)) (accepted_lines (accept_given inputs)) answer
