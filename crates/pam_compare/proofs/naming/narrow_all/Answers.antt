use Rattle.std.proofs.Common.{◌≡◌, ◌+◌, ◌∙◌, ℕ, ap, arith, inl, inr, subst, sym, true}
use Rattle.std.proofs.lemmas.Bool.{cases_lt}
use Rattle.pam_codes.specs.Set.{is_in}
use Rattle.pam_codes.specs.inner.SetBits.{is_in-codes_where}
use Rattle.pam_compare.specs.Names.{name_of}
use Rattle.pam_compare.proofs.Holding.{where-passes}
use Rattle.pam_compare.proofs.naming.narrow_all.Goals as goal

pub narrow-requires : goal.narrow-requires
narrow-requires g c =
    let within = c.requires.names (c.loop-index.index + 1) (omega arith) (omega arith) in
    let same = c.value_at.ensures in
    omega (arith, within, same, c.loop-index.invariant.count)

pub loop-index-preserved : goal.loop-index-preserved
loop-index-preserved g c =
    let inv = c.loop-index.invariant in
    let j = c.loop-index.index + 1 in
    let allows = g.K.Knowledge.allows c.args.known.now in
    let name = name_of c.args.names.now j in record {
      count = c.narrow.ensures.count ∙ inv.count;
      possible = λ a low all h.
          let member : is_in (a name) c.allowed.result ≡ true =
          ap (is_in (a name)) c.allowed.ensures ∙ is_in-codes_where (allows j) (a name) (low name) ∙ all j (omega arith) (omega arith) in
          c.narrow.ensures.possible a (subst (λ (n : ℕ). is_in (a n) c.allowed.result ≡ true) (sym c.value_at.ensures) member) (inv.possible a low all h);
      exact = λ a h.
          let back = c.narrow.ensures.exact a h in
          let first = inv.exact a back.0 in
          let member : is_in (a name) c.allowed.result ≡ true =
          subst (λ (n : ℕ). is_in (a n) c.allowed.result ≡ true) c.value_at.ensures back.1 in
          let passes : allows j (a name) ≡ true = where-passes (allows j) (a name) (sym (ap (is_in (a name)) c.allowed.ensures) ∙ member) in (
            first.0,
            λ i positive most. elim (cases_lt c.loop-index.index i) [
              | inl above ↦ let same : j ≡ i = omega (arith, above, most) in
                  subst (λ (n : ℕ). allows n (a (name_of c.args.names.now n)) ≡ true) same passes
              | inr earlier ↦ first.1 i positive earlier
            ],
          );
    }

pub returns-clause-exact : goal.returns-clause-exact
returns-clause-exact g c a h =
    let back = c.loop-index.invariant.exact a h in
    (back.0, λ j positive most. back.1 j positive (omega (arith, most)))
