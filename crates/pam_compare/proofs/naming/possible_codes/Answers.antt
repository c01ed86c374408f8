use Rattle.std.proofs.Common.{◌≡◌, ℕ, arith, subst, true}
use Rattle.pam_compare.proofs.Possible.{possible-low}
use Rattle.pam_compare.proofs.naming.possible_codes.Goals as goal

pub narrow_all-requires-clause-names : goal.narrow_all-requires-clause-names
narrow_all-requires-clause-names g c j positive most =
    let low = c.requires.names j positive most in
    omega (arith, low, c.in_ok-sets.ensures.count, c.in_ok-append_allowed.ensures.count, c.in_ok-append_allowed-2.ensures.count)

pub returns-clause-possible : goal.returns-clause-possible
returns-clause-possible g c a known =
    let first = c.in_ok-sets.ensures in
    let second = c.in_ok-append_allowed.ensures in
    let third = c.in_ok-append_allowed-2.ensures in
    let allows = g.K.Knowledge.allows c.args.sides.now.old_known.now in
    c.narrow_all.ensures.possible a known.codes known.new
    (third.possible a c.args.old_modules (omega (arith, first.count, second.count)) known.codes known.own
    (second.possible a 0 (omega (arith, first.count)) known.codes
    (λ j positive most. subst (λ (n : ℕ). allows j (a n) ≡ true) (omega arith) (known.old j positive most))
    (first.possible a known.codes)))

pub returns-clause-exact : goal.returns-clause-exact
returns-clause-exact g c a h =
    let first = c.in_ok-sets.ensures in
    let second = c.in_ok-append_allowed.ensures in
    let third = c.in_ok-append_allowed-2.ensures in
    let allows = g.K.Knowledge.allows c.args.sides.now.old_known.now in
    let narrowed = c.narrow_all.ensures.exact a h in
    let of_new = third.exact a c.args.old_modules (omega (arith, first.count, second.count)) narrowed.0 in
    let of_old = second.exact a 0 (omega (arith, first.count)) of_new.0 in
    record {
      codes = λ name. possible-low _ a name of_new.0;
      old = λ j positive most. subst (λ (n : ℕ). allows j (a n) ≡ true) (omega arith) (of_old.1 j positive most);
      own = of_new.1;
      new = narrowed.1;
    }
