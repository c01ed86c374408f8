use Rattle.std.proofs.Common.{◌∙◌}
use Rattle.pam_conf.specs.inner.FilesRead.{by_kind_view}
use Rattle.pam_conf.proofs.KindLemmas.{rule-taken}
use Rattle.pam_conf.proofs.rule_files.FileRules.take_rule.Goals as goal

pub returns-clause-by_kind : goal.returns-clause-by_kind
returns-clause-by_kind c =
    rule-taken (by_kind_view c.args.self.now.by_kind) (by_kind_view c.add.new.self) c.args.self.now.rules.items c.push.new.self.items c.args.rule
    c.len.result c.in_ok-add.ensures c.in_ok-push.ensures.items (c.len.ensures ∙ c.args.self.now.rules.ok.0)
