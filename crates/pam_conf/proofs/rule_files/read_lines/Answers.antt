use Rattle.std.proofs.Common.{◌++◌, ◌∙◌, ap, map, sym}
use Rattle.pam_conf.specs.FileRules.{faults_among, rules_among}
use Rattle.pam_conf.specs.inner.Kept.{kept_view}
use Rattle.pam_conf.proofs.LineSteps.{passed_over}
use Rattle.pam_conf.proofs.rule_files.read_lines.Goals as goal

pub loop-file-preserved : goal.loop-file-preserved
loop-file-preserved c =
    let same = sym (passed_over c.args.form _ _ _ _ (rw c.in-Some.is at c.in_ok-line.ensures.rules c.args.form)
    (sym c.is_blank_line.ensures ∙ c.if-not-is_blank_line.false)) in
    record {
      rules = ap (λ results. map kept_view c.loop-file.file.rules.items ++ rules_among results) same ∙ c.loop-file.invariant.rules;
      faults = ap (λ results. c.loop-file.file.faults.items ++ faults_among results) same ∙ c.loop-file.invariant.faults;
      by_kind = c.loop-file.invariant.by_kind;
    }
