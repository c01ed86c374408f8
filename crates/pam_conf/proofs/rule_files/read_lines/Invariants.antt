use Rattle.std.proofs.Common.{◌≡◌, ◌++◌, map, length}
use Rattle.pam_text.specs.Left.{text_left}
use Rattle.pam_text.specs.Text.{text_of, lines_of}
use Rattle.pam_conf.specs.FileRules.{faults_among, line_results, rules_among}
use Rattle.pam_conf.specs.inner.FilesRead.{IsIndexed}
use Rattle.pam_conf.specs.inner.Kept.{kept_view}
use Rattle.pam_conf.proofs.rule_files.read_lines.Given as goal

abbrev pub invariant-loop-file : goal.invariant-loop-file
invariant-loop-file l = record {
  rules : map kept_view l.file.rules.items ++ rules_among (line_results l.form (lines_of (text_left l.text)))
      ≡ rules_among (line_results l.form (lines_of (text_of 1 l.source.bytes.now)));
  faults : l.file.faults.items ++ faults_among (line_results l.form (lines_of (text_left l.text)))
      ≡ faults_among (line_results l.form (lines_of (text_of 1 l.source.bytes.now)));
  by_kind : IsIndexed l.file;
}

abbrev pub decreases-loop-file : goal.decreases-loop-file
decreases-loop-file l = length l.text.rest.now
