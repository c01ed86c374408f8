use Rattle.std.proofs.Common.{◌≡◌, ◌+◌, ◌++◌, ◌∷◌, ◌∙◌, ℕ, None, [], Option, ap, arith, map, refl}
use Rattle.std.specs.List.{range_with_len}
use Rattle.pam_conf.specs.Stack.{module_count}
use Rattle.pam_compare.proofs.Ranges.{each-more}
use Rattle.pam_changes.specs.Known.{alike_partner, alike_partners}
use Rattle.pam_changes.specs.Sides.{sides_view}
use Rattle.pam_changes.proofs.known.alike_modules.Goals as goal

pub loop-index-preserved : goal.loop-index-preserved
loop-index-preserved c =
    let f : ℕ → Option ℕ = alike_partner (sides_view c.args.sides.now) c.args.stacks.kind c.args.stacks.old.now c.args.stacks.new.now c.args.matching.now in
    let index = c.loop-index.index in
    each-more f None index (index + 1) c.loop-index.partners.items _ refl c.loop-index.invariant
    (c.in_ok-push-2.ensures.items ∙ ap (λ (p : Option ℕ). c.loop-index.partners.items ++ p ∷ []) c.alike_partner.ensures)

pub returns : goal.returns
unfolding alike_partners
returns c =
    let f : ℕ → Option ℕ = alike_partner (sides_view c.args.sides.now) c.args.stacks.kind c.args.stacks.old.now c.args.stacks.new.now c.args.matching.now in
    let all : c.loop-index.index ≡ module_count c.args.stacks.new.now =
    omega (arith, c.loop-index-test.false, c.loop-index.auto.index-end, c.modules-index-end.ensures.count) in
    c.from_partners.ensures ∙ c.loop-index.invariant ∙ ap (λ (n : ℕ). None ∷ map f (range_with_len 1 n)) all
