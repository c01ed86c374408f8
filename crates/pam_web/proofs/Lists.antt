-- Texts behind references, one by one.
use Rattle.std.proofs.Common.{◌≡◌, ◌<◌, Bor, List, [], ◌∷◌, ℕ, arith, drop, get_or, length, map, refl, suc, zero, zip}
use Rattle.std.specs.List.{AllByRecursion}
use Rattle.clap.specs.Words.{Text}

-- what holds of all holds of one
pub one_of : (P : Text → Type 0) (texts : List (Bor Text)) (i : ℕ) (d : Bor Text) → i < length texts → AllByRecursion P (map (λ t. t.now) texts)
    → P (get_or texts i d).now
one_of P [] i d low all = absurd (omega (arith, low))
one_of P (t ∷ texts) zero d low all = all.0
one_of P (t ∷ texts) (suc i) d low all = one_of P texts i d (omega (arith, low)) all.1

zip_none : (xs : List Text) → zip {X = Text} xs [] ≡ []
zip_none [] = refl
zip_none (x ∷ xs) = refl

-- past the end of one of two lists, no pair is left
pub none_left : (i : ℕ) (one other : List (Bor Text)) → (i < length one → i < length other → ⊥)
    → zip (map (λ t. t.now) (drop i one)) (map (λ t. t.now) (drop i other)) ≡ []
none_left zero [] other past = refl
none_left zero (x ∷ one) [] past = refl
none_left zero (x ∷ one) (y ∷ other) past = absurd (past (omega arith) (omega arith))
none_left (suc i) [] other past = refl
none_left (suc i) (x ∷ one) [] past = zip_none (map (λ t. t.now) (drop i one))
none_left (suc i) (x ∷ one) (y ∷ other) past = none_left i one other (λ p q. past (omega (arith, p)) (omega (arith, q)))
