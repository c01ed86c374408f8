-- Lists of numbers that rise strictly.
use Rattle.std.proofs.Common.{◌≡◌, ℕ, ◌+◌, ◌<◌, ◌≤◌, Bool, filter, List, [], ◌∷◌, ◌++◌, refl, sym, ◌∙◌, ap, subst, inl, inr, arith, suc, zero}
use Rattle.std.proofs.lemmas.Bool.{cond_both}
use Rattle.std.specs.List.{range_with_len}
use Rattle.pam_conf.specs.Stack.{Items, End, ThenModule, ThenSub, IsNumberedFrom, ModuleText, module_count}
use Rattle.pam_conf.proofs.StackTree.{numbered-module_parts, numbered-sub_parts}
use Rattle.pam_dispatch.specs.Tree.{count}
use Rattle.pam_text.specs.Members.{Member}
use Rattle.pam_findings.specs.stack.Asked.{RiseAbove}
use Rattle.pam_findings.specs.stack.Laws.{RisingListsAreOne}
use Rattle.pam_findings.specs.stack.inner.PastEnd.{numbers_where}
use Rattle.pam_findings.proofs.StackProofs.Placed.{placed-range, where-passing}

rise-lower : (low above : ℕ) (numbers : List ℕ) → low ≤ above → RiseAbove above numbers → RiseAbove low numbers
unfolding RiseAbove
rise-lower low above [] le h = tt
rise-lower low above (n ∷ numbers) le h = (omega (arith, le, h.0), h.1)

rise-append : (low middle : ℕ) (xs ys : List ℕ) → RiseAbove low xs → ((x : ℕ) → Member x xs → x ≤ middle) → low ≤ middle → RiseAbove middle ys →
    RiseAbove low (xs ++ ys)
unfolding RiseAbove Member
rise-append low middle [] ys h within le k = rise-lower low middle ys le k
rise-append low middle (x ∷ xs) ys h within le k =
    (h.0, rise-append x middle xs ys h.1 (λ y i. within y (inr i)) (within x (inl refl)) k)

-- the numbers of a range that pass a test
pub range-rises : (test : ℕ → Bool) (low n : ℕ) → RiseAbove low (filter test (range_with_len (low + 1) n))
unfolding RiseAbove
range-rises test low zero = tt
range-rises test low (suc n) =
    let later = filter test (range_with_len ((low + 1) + 1) n) in
    let again : RiseAbove (low + 1) later = range-rises test (low + 1) n in
    cond_both (test (low + 1)) ((low + 1) ∷ later) later (RiseAbove low) (λ t. (omega arith, again)) (λ t. rise-lower low (low + 1) later (omega arith) again)

-- those of the modules of a stack
pub where-rises : (test : ModuleText → ℕ → Bool) (low : ℕ) (items : Items) → IsNumberedFrom (low + 1) items → RiseAbove low (numbers_where test items)
unfolding numbers_where RiseAbove
where-rises test low End h = tt
where-rises test low (ThenModule m rest) h =
    let parts = numbered-module_parts (low + 1) m rest h in
    let later = numbers_where test rest in
    let again : RiseAbove (low + 1) later = where-rises test (low + 1) rest parts.1 in
    cond_both (test m (count rest)) (m.number ∷ []) [] (λ l. RiseAbove low (l ++ later))
    (λ t. (omega (arith, parts.0), subst (λ n. RiseAbove n later) (sym parts.0) again))
    (λ t. rise-lower low (low + 1) later (omega arith) again)
where-rises test low (ThenSub sub inner rest) h =
    let parts = numbered-sub_parts (low + 1) sub inner rest h in
    let middle = low + module_count inner in
    let from : (low + 1) + module_count inner ≡ middle + 1 = omega arith in
    rise-append low middle (numbers_where test inner) (numbers_where test rest) (where-rises test low inner parts.0)
    (λ x i. let p = where-passing test inner x i in
    let r = placed-range (low + 1) p.module_text p.after inner parts.0 p.placed in omega (arith, r.1, p.numbered))
    (omega arith)
    (where-rises test middle rest (subst (λ n. IsNumberedFrom n rest) from parts.1))

-- RISING LISTS WITH THE SAME MEMBERS are equal

above-all : (low x : ℕ) (numbers : List ℕ) → RiseAbove low numbers → Member x numbers → low < x
unfolding RiseAbove Member
above-all low x [] h i = absurd i
above-all low x (n ∷ numbers) h (inl e) = omega (arith, e, h.0)
above-all low x (n ∷ numbers) h (inr i) = let k = above-all n x numbers h.1 i in omega (arith, k, h.0)

same-members : (low high : ℕ) (xs ys : List ℕ) → RiseAbove low xs → RiseAbove high ys → ((x : ℕ) → Member x xs → Member x ys) →
    ((x : ℕ) → Member x ys → Member x xs) → xs ≡ ys
unfolding RiseAbove Member
same-members low high [] [] rx ry to back = refl
same-members low high [] (y ∷ ys) rx ry to back = absurd (back y (inl refl))
same-members low high (x ∷ xs) [] rx ry to back = absurd (to x (inl refl))
same-members low high (x ∷ xs) (y ∷ ys) rx ry to back =
    let heads = same_heads x y xs ys rx.1 ry.1 (to x (inl refl)) (back y (inl refl)) in
    ap (λ (z : ℕ). z ∷ xs) heads
    ∙ ap (λ (zs : List ℕ). y ∷ zs)
    (same-members x y xs ys rx.1 ry.1
    (λ z i. others x y z xs ys rx.1 heads i (to z (inr i)))
    (λ z i. others y x z ys xs ry.1 (sym heads) i (back z (inr i))))
  where
    same_heads : (x y : ℕ) (xs ys : List ℕ) → RiseAbove x xs → RiseAbove y ys → Member x (y ∷ ys) → Member y (x ∷ xs) → x ≡ y
    same_heads x y xs ys rx ry (inl e) j = e
    same_heads x y xs ys rx ry (inr i) (inl e) = sym e
    same_heads x y xs ys rx ry (inr i) (inr j) =
        let one = above-all y x ys ry i in
        let two = above-all x y xs rx j in
        absurd (omega (arith, one, two))

    others : (x y z : ℕ) (xs ys : List ℕ) → RiseAbove x xs → x ≡ y → Member z xs → Member z (y ∷ ys) → Member z ys
    others x y z xs ys rx e i (inl f) = let one = above-all x z xs rx i in absurd (omega (arith, one, e, f))
    others x y z xs ys rx e i (inr j) = j

pub rising_lists : RisingListsAreOne
rising_lists one other a b same = same-members 0 0 one other a b (λ x i. (same x).0 i) (λ x i. (same x).1 i)
