-- The index of the first unescaped closing bracket, bracket by bracket.
use Rattle.std.proofs.Common.{◌≡◌, ◌≢◌, ◌<◌, ◌≤◌, ◌+◌, ◌-◌, ◌&&◌, ℕ, zero, suc, Bool, true, false, not, List, ◌∷◌, length, get_or, drop}
use Rattle.std.proofs.Common.{Option, Some, None, cond, eqb, ltb, ap, ◌∙◌, sym, subst, refl, arith, add-one, eq-eqb}
use Rattle.std.specs.Option.{option_map}
use Rattle.std.proofs.lemmas.Bool.{eqb-true, false≢true, lt-ltb}
use Rattle.std.proofs.lemmas.List.{drop_all}
use Rattle.std.proofs.Math.Seq.{drop-cons}
use Rattle.memchr.specs.Find.{IsFirstByte, is_byte}
use Rattle.pam_codes.specs.Control.{closing_at}
use Rattle.pam_codes.specs.inner.Control.{escaped_at}

drop_here : (text : List ℕ) (i : ℕ) → i < length text → drop i text ≡ get_or text i 0 ∷ drop (i + 1) text
drop_here text i h = rw (add-one, drop-cons text i 0) refl

closing_found : (text : List ℕ) (i : ℕ) (e : Bool) → i < length text
    → closing_at false text ≡ option_map (λ n. i + n) (closing_at e (drop i text)) → get_or text i 0 ≡ 93 → e ≡ false → Some i ≡ closing_at false text
unfolding closing_at
closing_found text i e h inv b f =
    sym (inv ∙ ap (λ (s : List ℕ). option_map (λ n. i + n) (closing_at e s)) (drop_here text i h) ∙ rw (b, f) (ap Some (omega arith)))

shifted : (i : ℕ) (o : Option ℕ) → option_map (λ n. i + n) (option_map (λ n. n + 1) o) ≡ option_map (λ n. (i + 1) + n) o
shifted i None = refl
shifted i (Some n) = ap Some (omega arith)

goes_on : (b : ℕ) (e : Bool) → (b ≡ 93 → e ≡ true) → (eqb b 93 && not e) ≡ false
goes_on b true h = elim (eqb b 93) as (λ (t : Bool). (t && false) ≡ false) [ true ↦ refl | false ↦ refl ]
goes_on b false h =
    elim (eqb b 93) as (λ (t : Bool). eqb b 93 ≡ t → (t && true) ≡ false) [
      | true ↦ λ q. absurd (false≢true (h (eqb-true b 93 q)))
      | false ↦ λ q. refl
    ] refl

closing_next : (text : List ℕ) (i : ℕ) (e : Bool) → i < length text → closing_at false text ≡ option_map (λ n. i + n) (closing_at e (drop i text))
    → (get_or text i 0 ≡ 93 → e ≡ true)
    → closing_at false text ≡ option_map (λ n. (i + 1) + n) (closing_at (eqb (get_or text i 0) 92) (drop (i + 1) text))
unfolding closing_at
closing_next text i e h inv f = inv ∙ ap (λ (s : List ℕ). option_map (λ n. i + n) (closing_at e s)) (drop_here text i h)
    ∙ ap (λ (t : Bool).
    option_map (λ n. i + n) (cond t (Some 0) (option_map (λ n. n + 1) (closing_at (eqb (get_or text i 0) 92) (drop (i + 1) text)))))
    (goes_on (get_or text i 0) e f)
    ∙ shifted i _

closing_none : (text : List ℕ) (i : ℕ) (e : Bool) → length text ≤ i → closing_at false text ≡ option_map (λ n. i + n) (closing_at e (drop i text))
    → None ≡ closing_at false text
unfolding closing_at
closing_none text i e h inv = sym (inv ∙ rw (drop_all i text h) refl)

pub unshifted : (o : Option ℕ) → option_map (λ n. 0 + n) o ≡ o
unshifted None = refl
unshifted (Some n) = ap Some (omega arith)

-- the search goes on after bytes that are no closing brackets
after_others : (text : List ℕ) (i : ℕ) → i ≤ length text → ((k : ℕ) → k < i → get_or text k 0 ≢ 93)
    → closing_at false text ≡ option_map (λ n. i + n) (closing_at (escaped_at text i) (drop i text))
after_others text zero h none = sym (unshifted (closing_at false text))
after_others text (suc i) h none =
    let before = after_others text i (omega arith) (λ k l. none k (omega arith)) in
    let next = closing_next text i (escaped_at text i) (omega arith) before (λ e. absurd (none i (omega arith) e)) in
    let same : suc i - 1 ≡ i = omega arith in
    let positive : ltb 0 (suc i) ≡ true = lt-ltb _ _ (omega arith) in
    rw (same, positive)
    (subst (λ (j : ℕ). closing_at false text ≡ option_map (λ n. j + n) (closing_at (eqb (get_or text i 0) 92) (drop j text))) (add-one i) next)

module _ (text : List ℕ) where
  others : (i : ℕ) → IsFirstByte (is_byte 93) text (Some i) → (k : ℕ) → k < i → get_or text k 0 ≢ 93
  others i first k l e = first.0.before k (omega arith) l (eq-eqb _ _ e)

  pub bracket_found : (i : ℕ) → IsFirstByte (is_byte 93) text (Some i) → escaped_at text i ≡ false → closing_at false text ≡ Some i
  bracket_found i first e =
      sym (closing_found text i (escaped_at text i) first.0.high (after_others text i (omega (arith, first.0.high)) (others i first))
      (eqb-true _ _ first.1) e)

  pub bracket_escaped : (i : ℕ) → IsFirstByte (is_byte 93) text (Some i) → escaped_at text i ≡ true
      → closing_at false text ≡ option_map (λ n. (i + 1) + n) (closing_at false (drop (i + 1) text))
  bracket_escaped i first e =
      closing_next text i (escaped_at text i) first.0.high (after_others text i (omega (arith, first.0.high)) (others i first)) (λ _. e)
      ∙ rw (eqb-true _ _ first.1) refl

  pub no_bracket : IsFirstByte (is_byte 93) text None → closing_at false text ≡ None
  no_bracket none =
      sym (closing_none text (length text) (escaped_at text (length text)) (omega arith)
      (after_others text (length text) (omega arith) (λ k l e. none k (omega arith) l (eq-eqb _ _ e))))

-- a search of the rest of a text
pub found_after : (text rest : List ℕ) (n i : ℕ) → closing_at false text ≡ option_map (λ k. n + k) (closing_at false rest)
    → closing_at false rest ≡ Some i → closing_at false text ≡ Some (n + i)
found_after text rest n i before here = before ∙ ap (option_map (λ k. n + k)) here

pub none_after : (text rest : List ℕ) (n : ℕ) → closing_at false text ≡ option_map (λ k. n + k) (closing_at false rest)
    → closing_at false rest ≡ None → closing_at false text ≡ None
none_after text rest n before here = before ∙ ap (option_map (λ k. n + k)) here

shifted_twice : (m n : ℕ) (o : Option ℕ) → option_map (λ k. m + k) (option_map (λ k. n + k) o) ≡ option_map (λ k. (m + n) + k) o
shifted_twice m n None = refl
shifted_twice m n (Some k) = ap Some (omega arith)

pub passed_after : (text rest back : List ℕ) (m n : ℕ) → closing_at false text ≡ option_map (λ k. m + k) (closing_at false rest)
    → closing_at false rest ≡ option_map (λ k. n + k) (closing_at false back)
    → closing_at false text ≡ option_map (λ k. (m + n) + k) (closing_at false back)
passed_after text rest back m n before here = before ∙ ap (option_map (λ k. m + k)) here ∙ shifted_twice m n _
