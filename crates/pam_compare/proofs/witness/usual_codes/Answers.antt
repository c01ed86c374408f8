use Rattle.std.proofs.Common.{◌≡◌, ◌<◌, ◌≤◌, ◌∙◌, ℕ, Some, List, [], ◌∷◌, ◌++◌, ap, arith, get_or, inl, inr, length, subst, sym, true}
use Rattle.std.proofs.lemmas.Bool.{cases_lt, false≢true}
use Rattle.std.proofs.lemmas.List.{get_or_append_left, get_or_past, get_or_push, length_push}
use Rattle.pam_codes.specs.Code.{all_codes}
use Rattle.pam_codes.specs.Set.{is_in}
use Rattle.pam_compare.specs.Usual.{first_usual}
use Rattle.pam_compare.specs.inner.Naming.{AreUsual, IsPossible, by_code}
use Rattle.pam_compare.proofs.Possible.{in-all}
use Rattle.pam_compare.proofs.witness.usual_codes.Goals as goal

pub returns-in_default-clause-none : goal.returns-in_default-clause-none
unfolding IsPossible
returns-in_default-clause-none c a can =
    let name = c.loop-name.name in
    let is = c.possible_at.ensures ∙ ap (λ (l : List (List ℕ)). get_or l name all_codes) c.deref.ensures.value in
    false≢true (subst (λ (s : List ℕ). is_in (a name) s ≡ true) (sym is ∙ c.in_default.ensures.none) (can name).1)

pub loop-name-preserved : goal.loop-name-preserved
loop-name-preserved c =
    let inv = c.loop-name.invariant in
    let name = c.loop-name.name in
    let code = c.in-Some.code in
    let codes = c.loop-name.codes.items in
    let possible = c.args.naming.now.possible.items in
    let pushed = c.in_ok-push.ensures.items in
    let longer = ap (λ (l : List ℕ). length l) pushed ∙ length_push codes code in
    let is = c.possible_at.ensures ∙ ap (λ (l : List (List ℕ)). get_or l name all_codes) c.deref.ensures.value in
    record {
      count = omega (arith, longer, inv.count);
      low = λ n. subst (λ (l : List ℕ). by_code l n < 31) (sym pushed)
          (elim (cases_lt n name) [
            | inl less ↦ subst (λ (x : ℕ). x < 31) (sym (get_or_append_left codes (code ∷ []) 0 n (omega (arith, less, inv.count)))) (inv.low n)
            | inr most ↦ elim (cases_lt name n) [
              | inl past ↦ subst (λ (x : ℕ). x < 31) (sym (get_or_past (codes ++ code ∷ []) n 0 (omega (arith, past, inv.count, length_push codes code))))
                  (omega arith)
              | inr least ↦ subst (λ (x : ℕ). x < 31) (sym (get_or_push codes code 0 n (omega (arith, most, least, inv.count)))) c.in-Some.ensures.low
            ]
          ]);
      first = λ n below. subst (λ (l : List ℕ). first_usual (get_or possible n all_codes) ≡ Some (by_code l n)) (sym pushed)
          (elim (cases_lt n name) [
            | inl less ↦ inv.first n less ∙ ap (λ (x : ℕ). Some x) (sym (get_or_append_left codes (code ∷ []) 0 n (omega (arith, less, inv.count))))
            | inr most ↦
                let same : n ≡ name = omega arith in
                let at : length codes ≡ n = omega (arith, inv.count, same) in
                ap (λ (m : ℕ). first_usual (get_or possible m all_codes)) same
                ∙ ap (λ (s : List ℕ). first_usual s) (sym is) ∙ sym c.in-Some.ensures.first ∙ ap (λ (x : ℕ). Some x) (sym (get_or_push codes code 0 n at))
          ]);
      member = λ n below. subst (λ (l : List ℕ). is_in (by_code l n) (get_or possible n all_codes) ≡ true) (sym pushed)
          (elim (cases_lt n name) [
            | inl less ↦ subst (λ (x : ℕ). is_in x (get_or possible n all_codes) ≡ true)
                (sym (get_or_append_left codes (code ∷ []) 0 n (omega (arith, less, inv.count)))) (inv.member n less)
            | inr most ↦
                let same : name ≡ n = omega arith in
                let at : length codes ≡ n = omega (arith, inv.count, same) in
                subst (λ (x : ℕ). is_in x (get_or possible n all_codes) ≡ true) (sym (get_or_push codes code 0 n at))
                (subst (λ (m : ℕ). is_in code (get_or possible m all_codes) ≡ true) same
                (subst (λ (s : List ℕ). is_in code s ≡ true) is c.in-Some.ensures.member))
          ]);
    }

pub returns-clause-some : goal.returns-clause-some
unfolding IsPossible
returns-clause-some c n =
    let inv = c.loop-name.invariant in
    let codes = c.loop-name.codes.items in
    let possible = c.args.naming.now.possible.items in (
      inv.low n,
      elim (cases_lt n c.loop-name.name) [
        | inl less ↦ inv.member n less
        | inr most ↦
            let past : length possible ≤ n = omega (arith, most, c.len-name-end.ensures, c.loop-name-test.false) in
            subst (λ (s : List ℕ). is_in (by_code codes n) s ≡ true) (sym (get_or_past possible n all_codes past)) (in-all (by_code codes n) (inv.low n))
      ],
    )

pub returns-clause-first : goal.returns-clause-first
unfolding AreUsual
returns-clause-first c n below = c.loop-name.invariant.first n (omega (arith, below, c.len-name-end.ensures, c.loop-name-test.false))
