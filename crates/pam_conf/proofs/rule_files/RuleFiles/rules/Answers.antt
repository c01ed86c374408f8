use Rattle.std.proofs.Common.{◌∙◌, ap, map}
use Rattle.pam_conf.specs.inner.Kept.{kept_view}
use Rattle.pam_conf.proofs.FileFaults.{rules_lent}
use Rattle.pam_conf.proofs.rule_files.RuleFiles.rules.Goals as goal

pub returns : goal.returns
returns c =
    rules_lent c.self.inside.files.now c.args.self.now c.self.inside.read.items c.deref.result.now c.args.position c.in-Some.file c.self.view_is
    c.deref.ensures.value c.in-Some.ensures.lookup c.self.invariant _ (c.in_ok-whole_rules.ensures ∙ ap (map kept_view) c.as_slice.ensures.value)
