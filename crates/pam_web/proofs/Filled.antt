-- A text that is put over the beginning of another one.
use Rattle.std.proofs.Common.{◌≡◌, ◌∙◌, ◌++◌, ◌-◌, ◌<◌, ◌≤◌, [], ◌∷◌, ℕ, ap, arith, drop, length, min, refl, suc, take, zero}
use Rattle.std.proofs.Math.Nat.{le-min, min-le_left, min-le_right}
use Rattle.std.proofs.lemmas.List.{length-drop}
use Rattle.clap.specs.Words.{Text}
use Rattle.pam_web.specs.Run.{filled}

-- the first bytes are put, as many as there are and as there is room for
pub put_first : (n : ℕ) (from room : Text) → n ≤ length from → n ≤ length room → (n < length from → n < length room → ⊥)
    → take n from ++ drop n room ≡ filled from room
put_first zero [] [] a b c = refl
put_first zero (x ∷ from) [] a b c = refl
put_first zero [] (o ∷ room) a b c = refl
put_first zero (x ∷ from) (o ∷ room) a b c = absurd (c (omega arith) (omega arith))
put_first (suc n) [] room a b c = absurd (omega (arith, a))
put_first (suc n) (x ∷ from) [] a b c = absurd (omega (arith, b))
put_first (suc n) (x ∷ from) (o ∷ room) a b c =
    ap (λ l. x ∷ l) (put_first n from room (omega (arith, a)) (omega (arith, b)) (λ p q. c (omega (arith, p)) (omega (arith, q))))

-- a second text is put after a first one
pub put_after : (n : ℕ) (one two room : Text) → n ≤ length one → n ≤ length room → (n < length one → n < length room → ⊥)
    → take n (filled one room) ++ filled two (drop n (filled one room)) ≡ filled (one ++ two) room
put_after zero [] two [] a b c = refl
put_after zero (x ∷ one) two [] a b c = refl
put_after zero [] two (o ∷ room) a b c = refl
put_after zero (x ∷ one) two (o ∷ room) a b c = absurd (c (omega arith) (omega arith))
put_after (suc n) [] two room a b c = absurd (omega (arith, a))
put_after (suc n) (x ∷ one) two [] a b c = absurd (omega (arith, b))
put_after (suc n) (x ∷ one) two (o ∷ room) a b c =
    ap (λ l. x ∷ l) (put_after n one two room (omega (arith, a)) (omega (arith, b)) (λ p q. c (omega (arith, p)) (omega (arith, q))))

-- a part of the room from a place on is replaced by as much of a text as it has room for
pub put_part : (start n k m : ℕ) (from room part : Text) → n ≡ min (length from) (length room - start) → k ≡ n → m ≡ n → part ≡ take m from
    → take start room ++ (part ++ drop k (drop start room)) ≡ take start room ++ filled from (drop start room)
put_part start n k m from room part is same_k same_m here =
    let long = length-drop start room in
    let some : n ≤ length from = omega (arith, is, min-le_left (length from) (length room - start)) in
    let fits : n ≤ length (drop start room) = omega (arith, long, is, min-le_right (length from) (length room - start)) in
    let full : n < length from → n < length (drop start room) → ⊥ = λ p q.
    let more : suc n ≤ min (length from) (length room - start) = le-min (omega (arith, p)) (omega (arith, q, long)) in omega (arith, more, is) in
    rw (here, same_k, same_m) (ap (λ l. take start room ++ l) (put_first n from (drop start room) some fits full))

-- a text is put, and then another one after it
pub put_twice : (s : ℕ) (one two old mid new : Text) → mid ≡ filled one old → length mid ≡ length old → s ≡ min (length one) (length mid)
    → new ≡ take s mid ++ filled two (drop s mid) → new ≡ filled (one ++ two) old
put_twice s one two old mid new is long here last =
    let some : s ≤ length one = omega (arith, here, min-le_left (length one) (length mid)) in
    let fits : s ≤ length old = omega (arith, here, long, min-le_right (length one) (length mid)) in
    let full : s < length one → s < length old → ⊥ = λ p q.
    let more : suc s ≤ min (length one) (length mid) = le-min (omega (arith, p)) (omega (arith, q, long)) in omega (arith, more, here) in
    last ∙ ap (λ m. take s m ++ filled two (drop s m)) is ∙ put_after s one two old some fits full
