use Rattle.std.proofs.Common.{◌≡◌, ◌+◌, ◌∙◌, ℕ, List, [], ◌∷◌, ap, arith, inl, inr, length, subst, sym}
use Rattle.std.proofs.lemmas.Bool.{cases_lt}
use Rattle.std.proofs.lemmas.List.{get_or_append_left, get_or_push, length_push}
use Rattle.pam_compare.specs.Names.{AreNames, IsName, name_of}
use Rattle.pam_compare.proofs.naming.names_of.Goals as goal

pub loop-index-preserved : goal.loop-index-preserved
loop-index-preserved g c =
    let inv = c.loop-index.invariant in
    let before = c.loop-index.names.items in
    let more = c.in_ok-push-2.ensures.items in
    let name = c.name_for.result in
    let longer = ap (λ (l : List ℕ). length l) more ∙ length_push before name in
    let sides = c.args.sides.now in
    let Named : ℕ → ℕ → Type 0 =
    λ j n. IsName (g.K.Knowledge.allows sides.old_known.now) (g.L.Knowledge.allows sides.new_known.now) c.args.old_modules sides.matching.now j n in
    record {
      count = omega (arith, longer, inv.count);
      named = λ j positive most.
          elim (cases_lt c.loop-index.index j) [
            | inl above ↦
                let last : j ≡ c.loop-index.index + 1 = omega (arith, above, most) in
                let at : length before ≡ j = omega (arith, inv.count, last) in
                subst (Named j) (sym (ap (λ (l : List ℕ). name_of l j) more ∙ get_or_push before name 0 j at))
                (subst (λ (k : ℕ). Named k name) (sym last) c.name_for.ensures)
            | inr earlier ↦
                subst (Named j) (sym (ap (λ (l : List ℕ). name_of l j) more ∙ get_or_append_left before (name ∷ []) 0 j (omega (arith, inv.count, earlier))))
                (inv.named j positive earlier)
          ];
    }

pub returns-clause-names : goal.returns-clause-names
unfolding AreNames
returns-clause-names g c j positive most = c.loop-index.invariant.named j positive (omega (arith, most))
