use Rattle.pam_conf.specs.ItemsOf.{module_text}
use Rattle.pam_findings.specs.host.inner.Looked.{judgement_in}
use Rattle.pam_findings.proofs.HostProofs.Adding.{at-module, at-no-module}
use Rattle.pam_findings.proofs.HostProofs.Tokens.{adds-lacks, adds-no-lacks, adds-no-rule}
use Rattle.pam_findings.proofs.host.taking.push_of_number.Goals as goal

pub returns-in_default : goal.returns-in_default
returns-in_default c =
    adds-no-rule c.args.kind (judgement_in c.args.of.now) c.args.number c.args.spots.now.items
    (at-no-module _ c.module.result c.args.of.now.stack.now c.args.number c.module.ensures.module c.in_default.is)

pub returns-then-not-lacks : goal.returns-then-not-lacks
returns-then-not-lacks c =
    adds-no-lacks c.args.kind (judgement_in c.args.of.now) c.args.number (module_text c.in-Some.module.now) c.args.spots.now.items
    (at-module _ c.module.result c.in-Some.module c.args.of.now.stack.now c.args.number c.module.ensures.module c.in-Some.is)
    (c.in_ok-lacks.ensures.no c.if-not-lacks.true)

pub returns : goal.returns
returns c =
    adds-lacks c.args.kind (judgement_in c.args.of.now) c.args.number (module_text c.in-Some.module.now) c.args.spots.now.items c.push_words.new.spots.items
    (at-module _ c.module.result c.in-Some.module c.args.of.now.stack.now c.args.number c.module.ensures.module c.in-Some.is)
    (c.in_ok-lacks.ensures.yes c.if-not-lacks.false) c.in_ok-push_words.ensures
