use Rattle.std.proofs.Common.{◌∙◌, Bool, List, Option, [], ap, if◌then◌else◌, map, refl, ℕ}
use Rattle.std.specs.Option.{option_map_or}
use Rattle.std.specs.Prelude.{unwrap_or}
use Rattle.pam_conf.specs.Files.{Folder}
use Rattle.pam_findings.specs.misspelled.Findings.{misspelled_at}
use Rattle.pam_report.proofs.CheckAnswers.{check-of}
use Rattle.pam_report.specs.Inputs.{dead_given, facts_given, no_files, outside_given, there_given, unread_given}
use Rattle.pam_report.specs.Left.{has_unread}
use Rattle.pam_report.specs.Unused.{idle_rows, unused_lines}
use Rattle.pam_report.proofs.SilentChecks.{silent-check}
use Rattle.pam_report.proofs.report.check.checked_services.Goals as goal

pub returns-clause-answer : goal.returns-clause-answer
returns-clause-answer c =
    let reported = c.in_ok-report.ensures in
    let from = c.in_ok-listed.ensures.ok in
    let listed = from.is_listed in
    let files = c.args.files.now in
    let inputs = c.args.inputs.now in
    let dead = option_map_or (λ d. d.now) c.dead.result [] in
    check-of c.args.asked.services.now c.args.asked.fail_on c.args.asked.given.now c.args.files.now c.args.inputs.now reported.facts _ _ reported.known
    from.accepted
    record {
      same_form = c.form.ensures;
      same_files = ap (λ (given : Option Folder). unwrap_or given no_files) c.files.ensures;
      same_outside = c.outside-2.ensures;
      same_paths = c.paths.ensures;
      are_services = reported.are_services;
      same_level = refl;
      same_accept = c.name_of.ensures;
      same_facts = c.name_of-2.ensures;
      plain = reported.plain;
      ways = reported.ways;
      report = reported.is_report;
      all = c.in_ok-report.report.found;
      links = reported.links;
      told_ways = reported.told_ways;
      same_table_paths = c.table_paths-paths.ensures;
      all_tables = from.tables;
      table_report = from.table_report;
      not_accepted = listed.found;
      misspelled = c.in-Ok.ensures
          ∙ ap (λ (there : Option (List (List ℕ))). map (misspelled_at files there c.outside.result.now dead) c.deref.result.now) c.there.ensures
          ∙ ap (λ (outside : List Bool). map (misspelled_at files (there_given inputs) outside dead) c.deref.result.now) c.outside.ensures
          ∙ ap (λ (names : List (List ℕ)). map (misspelled_at files (there_given inputs) (outside_given inputs) names) c.deref.result.now) c.dead.ensures
          ∙ ap (map (misspelled_at files (there_given inputs) (outside_given inputs) (dead_given inputs))) c.deref.ensures.value;
      tables_not_accepted = listed.tables_found;
      unused = c.in_ok-unused.ensures.ok
          ∙ ap (λ (lines : List ℕ). if has_unread (unread_given inputs) then []
          else unused_lines lines (idle_rows files (there_given inputs) (facts_given inputs)))
          (c.deref-2.ensures.value ∙ listed.unused);
      silence = silent-check c.a_silent_host_is_sound.ensures c.links_are_notes.ensures c.args.files.now _ c.args.asked.services.now reported.facts _ _
          reported.plain reported.ways reported.is_report _ c.in_ok-report.report.found reported.links
          c.in_ok-report.report.services reported.are_services _;
    }
