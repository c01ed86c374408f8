use Rattle.std.proofs.Common.{◌+◌, ap, arith, ℕ, subst, sym}
use Rattle.pam_conf.specs.ItemsOf.{module_text}
use Rattle.pam_findings.specs.host.inner.Looked.{OfNumber}
use Rattle.pam_findings.specs.host.inner.Table.{Adds}
use Rattle.pam_findings.specs.declared.host.problem.Spot.{Spot}
use Rattle.pam_findings.proofs.HostProofs.Adding.{OfFirst, at-module, at-no-module, modules-all, modules-more, modules-none, of-no-number, of-number}
use Rattle.pam_findings.proofs.host.modules.push_modules.Goals.{in-Some+in_ok-push_of_rule, in_default}
use Rattle.pam_findings.proofs.host.modules.push_modules.Goals as goal

pub loop-index-init : goal.loop-index-init
loop-index-init c = modules-none (OfNumber c.args.modules.now c.args.service.now c.args.kind c.args.stack.now) c.args.spots.now.items

pub loop-index-preserved : goal.loop-index-preserved
loop-index-preserved c =
    let modules = c.args.modules.now in
    let service = c.args.service.now in
    let kind = c.args.kind in
    let items = c.args.stack.now in
    let i = c.loop-index.index in
    let Of : ℕ → Spot → Type 0 = OfNumber modules service kind items in
    let before = c.args.spots.now.items in
    let so_far = c.loop-index.spots.items in
    elim c.match-module.branch [
      | in-Some+in_ok-push_of_rule w ↦
          let rule = module_text w.in-Some.module.now in
          let there = at-module _ c.module.result w.in-Some.module items (i + 1) c.module.ensures.module w.in-Some.is in
          subst (Adds (OfFirst Of (i + 1)) before) (sym (ap (λ v. v.items) w.spots-is))
          (modules-more Of i before so_far _ c.loop-index.invariant
          (of-number modules service kind items (i + 1) rule there so_far _ w.in_ok-push_of_rule.ensures))
      | in_default w ↦
          let none = at-no-module _ c.module.result items (i + 1) c.module.ensures.module w.in_default.is in
          subst (Adds (OfFirst Of (i + 1)) before) (sym (ap (λ v. v.items) w.spots-is))
          (modules-more Of i before so_far _ c.loop-index.invariant (of-no-number modules service kind items (i + 1) none so_far))
    ]

pub returns : goal.returns
returns c =
    modules-all c.args.modules.now c.args.service.now c.args.kind c.args.stack.now c.loop-index.index
    c.args.spots.now.items c.loop-index.spots.items c.items-items.ensures.numbered (omega (arith, c.modules-index-end.ensures.count))
    c.loop-index.invariant
