-- Keys, and the order of keys.
use Rattle.std.proofs.Common.{zero, suc, ◌≡◌, ℕ, ◌<◌, ◌==◌, ◌&&◌, ◌||◌, Bool, true, false, List, [], ◌∷◌, ◌++◌, All, nat_lt, refl, sym, ◌∙◌, ap, subst, arith}
use Rattle.std.proofs.Common.{inl, inr}
use Rattle.std.proofs.lemmas.List.Elements.{All-append}
use Rattle.std.proofs.lemmas.Bool.{le-ltb, ne_eqb, eqb-true, eq-eqb, ltb-true, lt-ltb, or_cases, or_left, or_right, and_parts, and_from, false≢true}
use Rattle.pam_paths.specs.Classes.{least}
use Rattle.pam_paths.specs.Paths.{Precedes, StepValue, precedes, key_of}

pub key_of-append : (ss : List StepValue) (s : StepValue) → key_of (ss ++ s ∷ []) ≡ key_of ss ++ least s.class ∷ []
unfolding key_of
key_of-append [] s = refl
key_of-append (x ∷ ss) s = ap (λ (k : List ℕ). least x.class ∷ k) (key_of-append ss s)

pub All-none : (P : ℕ → Type 0) (xs : List ℕ) → xs ≡ [] → All P xs
All-none P xs e = subst (All P) (sym e) (λ k d l. absurd (omega (arith, l)))

pub All-code : (P : ℕ → Type 0) (xs ys : List ℕ) (n : ℕ) → ys ≡ xs ++ n ∷ [] → All P xs → P n → All P ys
All-code P xs ys n e all last = subst (All P) (sym e) (All-append P xs (n ∷ []) all (one P n last))
  where
    one : (P : ℕ → Type 0) (n : ℕ) → P n → All P (n ∷ [])
    one P n h zero d l = h
    one P n h (suc k) d l = absurd (omega (arith, l))

-- the order of keys by their first codes
pub before-less : (c d : ℕ) (k l : List ℕ) → c < d → precedes (c ∷ k) (d ∷ l) ≡ true
unfolding precedes
before-less c d k l h = or_left (nat_lt c d) ((c == d) && precedes k l) (lt-ltb c d h)

pub before-more : (c d : ℕ) (k l : List ℕ) → d < c → precedes (c ∷ k) (d ∷ l) ≡ false
unfolding precedes
before-more c d k l h =
    ap (λ (b : Bool). b || ((c == d) && precedes k l)) (le-ltb c d (omega (arith, h)))
    ∙ ap (λ (b : Bool). b && precedes k l) (ne_eqb c d (λ e. omega (arith, h, e)))

pub before-same : (c d : ℕ) (k l : List ℕ) → c ≡ d → precedes (c ∷ k) (d ∷ l) ≡ precedes k l
unfolding precedes
before-same c d k l e =
    ap (λ (b : Bool). b || ((c == d) && precedes k l)) (le-ltb c d (omega (arith, e)))
    ∙ ap (λ (b : Bool). b && precedes k l) (eq-eqb c d e)

-- the test and the relation
pub Precedes-from : (k l : List ℕ) → precedes k l ≡ true → Precedes k l
unfolding precedes Precedes
Precedes-from [] [] h = absurd (false≢true h)
Precedes-from [] (y ∷ ys) h = tt
Precedes-from (x ∷ xs) [] h = absurd (false≢true h)
Precedes-from (x ∷ xs) (y ∷ ys) h = elim (or_cases (nat_lt x y) ((x == y) && precedes xs ys) h) [
  | inl l ↦ inl (ltb-true x y l)
  | inr b ↦ let k = and_parts (x == y) (precedes xs ys) b in inr (eqb-true x y k.0, Precedes-from xs ys k.1)
]

pub Precedes-to : (k l : List ℕ) → Precedes k l → precedes k l ≡ true
unfolding precedes Precedes
Precedes-to [] [] h = absurd h
Precedes-to [] (y ∷ ys) h = refl
Precedes-to (x ∷ xs) [] h = absurd h
Precedes-to (x ∷ xs) (y ∷ ys) (inl h) = or_left (nat_lt x y) ((x == y) && precedes xs ys) (lt-ltb x y h)
Precedes-to (x ∷ xs) (y ∷ ys) (inr h) =
    or_right (nat_lt x y) ((x == y) && precedes xs ys) (and_from (x == y) (precedes xs ys) (eq-eqb x y h.0) (Precedes-to xs ys h.1))
