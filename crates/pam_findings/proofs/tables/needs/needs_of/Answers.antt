use Rattle.std.proofs.Common.{◌∙◌, map}
use Rattle.pam_findings.specs.tables.inner.Passes.{need_view}
use Rattle.pam_findings.proofs.TablesProofs.Adding.{comes-end, comes-more, comes-start}
use Rattle.pam_findings.proofs.tables.needs.needs_of.Goals as goal

pub loop-service-init : goal.loop-service-init
loop-service-init c =
    comes-start c.args.rules.now c.args.services.now c.into_iter-service-iterator.result c.new-needs.result.items
    (c.into_iter-service-iterator.ensures.into_iter_gives ∙ c.iter-service-items.ensures) c.new-needs.ensures.items

pub loop-service-preserved : goal.loop-service-preserved
loop-service-preserved c =
    comes-more c.args.rules.now c.args.services.now c.loop-service.service-iterator c.next.new.self c.in-Some.service.now
    (map need_view c.loop-service.needs.items) (map need_view c.add_service.new.needs.items) c.in-Some.ensures.steps c.in_ok-add_service.ensures
    c.loop-service.invariant

pub returns : goal.returns
returns c =
    comes-end c.args.rules.now c.args.services.now c.loop-service.service-iterator (map need_view c.loop-service.needs.items) c.in-None.ensures.steps.0
    c.loop-service.invariant
