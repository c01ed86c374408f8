-- The class of an answer.
use Rattle.std.proofs.Common.{◌≡◌, ◌∙◌, ◌||◌, ℕ, Bool, true, false, eqb, eq-eqb, [], ◌∷◌, refl, sym}
use Rattle.std.proofs.lemmas.Bool.{eqb-true}
use Rattle.pam_codes.specs.Set.{is_in}
use Rattle.pam_dispatch.specs.Runs.{Runs}
use Rattle.pam_compare.specs.declared.turn.Turn.{Turn}
use Rattle.pam_compare.specs.declared.turn.Turn.TheVariants.{Old, New, Both}
use Rattle.pam_compare.specs.Walks.{HaveOneOutcome}
use Rattle.pam_compare.proofs.Holding.{or-first}

or-none : (s : Bool) → (s || false) ≡ true → s ≡ true
or-none true e = refl
or-none false e = e

-- the one code of a set
pub in-one : (code d : ℕ) → is_in d (code ∷ []) ≡ true → code ≡ d
in-one code d h = eqb-true code d (or-none (eqb code d) h)

pub self-in : (code : ℕ) → is_in code (code ∷ []) ≡ true
self-in code = or-first (eqb code code) false (eq-eqb code code refl)

-- CODES WITH ONE OUTCOME

pub one-self : (turn : Turn) (left right : Runs) (code : ℕ) → HaveOneOutcome turn left right code code
one-self (Old i) left right code = refl
one-self (New j) left right code = refl
one-self (Both i j) left right code = (refl, refl)

pub one-back : (turn : Turn) (left right : Runs) (code other : ℕ) → HaveOneOutcome turn left right code other → HaveOneOutcome turn left right other code
one-back (Old i) left right code other e = sym e
one-back (New j) left right code other e = sym e
one-back (Both i j) left right code other e = (sym e.0, sym e.1)

pub one-through : (turn : Turn) (left right : Runs) (code other third : ℕ) → HaveOneOutcome turn left right code other →
    HaveOneOutcome turn left right other third → HaveOneOutcome turn left right code third
one-through (Old i) left right code other third e f = e ∙ f
one-through (New j) left right code other third e f = e ∙ f
one-through (Both i j) left right code other third e f = (e.0 ∙ f.0, e.1 ∙ f.1)
