use Rattle.std.proofs.Common.{◌≡◌, ◌+◌, ◌∙◌, ℕ, List, ap, arith, inl, inr, length, subst, true}
use Rattle.std.proofs.lemmas.Bool.{cases_lt}
use Rattle.std.proofs.lemmas.List.{length_push}
use Rattle.pam_compare.proofs.Possible.{allowed-push, allowed-push-back}
use Rattle.pam_compare.proofs.naming.append_allowed.Goals as goal

pub loop-index-preserved : goal.loop-index-preserved
loop-index-preserved g c =
    let inv = c.loop-index.invariant in
    let last = c.loop-index.index + 1 in
    let allows = g.K.Knowledge.allows c.args.known.now in
    let before = c.loop-index.sets.items in
    let longer = ap (λ (l : List (List ℕ)). length l) c.in_ok-push.ensures.items ∙ length_push before c.allowed.result in
    record {
      count = omega (arith, longer, inv.count);
      possible = λ a base e low all h.
          let at : length before ≡ base + (c.loop-index.index + 1) = omega (arith, inv.count, e) in
          allowed-push (allows last) before c.allowed.result _ a (base + (c.loop-index.index + 1))
          c.in_ok-push.ensures.items c.allowed.ensures at (low _) (all last (omega arith) (omega arith)) (inv.possible a base e low all h);
      exact = λ a base e h.
          let at : length before ≡ base + (c.loop-index.index + 1) = omega (arith, inv.count, e) in
          let back = allowed-push-back (allows last) before c.allowed.result _ a (base + (c.loop-index.index + 1))
          c.in_ok-push.ensures.items c.allowed.ensures at h in
          let first = inv.exact a base e back.0 in (
            first.0,
            λ j positive most. elim (cases_lt c.loop-index.index j) [
              | inl above ↦ let same : last ≡ j = omega (arith, above, most) in subst (λ (n : ℕ). allows n (a (base + n)) ≡ true) same back.1
              | inr earlier ↦ first.1 j positive earlier
            ],
          );
    }

pub returns-clause-exact : goal.returns-clause-exact
returns-clause-exact g c a base e h =
    let back = c.loop-index.invariant.exact a base e h in
    (back.0, λ j positive most. back.1 j positive (omega (arith, most)))
