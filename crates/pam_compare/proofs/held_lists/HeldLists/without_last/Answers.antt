use Rattle.std.proofs.Common.{◌≡◌, ◌+◌, ◌-◌, ℕ, arith, drop, subst}
use Rattle.pam_compare.specs.inner.HeldLists.{IsListed}
use Rattle.pam_compare.proofs.Lists.{drop-more}
use Rattle.pam_compare.proofs.held_lists.HeldLists.without_last.Goals as goal

pub loop-left-init : goal.loop-left-init
loop-left-init c = record {
  most = omega arith;
  listed = λ held is. subst (λ (m : ℕ). IsListed c.args.self.now.links.keys c.args.number (drop m held)) {x = 0} (omega arith) is;
}

pub loop-left-preserved : goal.loop-left-preserved
loop-left-preserved c =
    let count = c.args.count in
    let left = c.loop-left.left in
    let most = c.loop-left.invariant.most in
    let next : count - (left - 1) ≡ count - left + 1 = omega (arith, most) in
    record {
      most = omega (arith, most);
      listed = λ held is. subst (IsListed c.args.self.now.links.keys c.rest-at.result) (drop-more held (count - left) _ next)
          (c.rest-at.ensures _ (c.loop-left.invariant.listed held is));
    }

pub returns : goal.returns
returns c held is =
    let all : c.args.count - c.loop-left.left ≡ c.args.count = omega arith in
    subst (λ (m : ℕ). IsListed c.args.self.now.links.keys c.loop-left.at (drop m held)) all (c.loop-left.invariant.listed held is)
