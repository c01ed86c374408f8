-- Folders of a list.
use Rattle.std.proofs.Common.{◌≡◌, ℕ, ◌+◌, ◌<◌, ◌≤◌, Bool, true, List, [], ◌∷◌, add-one, arith, get_or, inl, inr, length, map, refl}
use Rattle.std.proofs.Common.{subst, suc, sym, take, zero}
use Rattle.pam_cli.specs.Sources.{IsUnread}
use Rattle.pam_cli.specs.inner.Reading.{known_with}
use Rattle.pam_text.specs.Members.{Member}
use Rattle.pam_report.specs.declared.inputs.InputError.{InputError}
use Rattle.pam_report.specs.declared.inputs.InputError.TheVariants.{Read, Memory}

-- the view of an element is among the views
pub member-at : {A : Type 0} (view : A → List ℕ) (xs : List A) (i : ℕ) (d : A) → i < length xs → Member (view (get_or xs i d)) (map view xs)
unfolding Member
member-at view [] i d h = absurd (omega (arith, h))
member-at view (x ∷ xs) zero d h = inl refl
member-at view (x ∷ xs) (suc i) d h = inr (member-at view xs i d (omega (arith, h)))

-- an error at one of these names
pub unread-one : (names : List (List ℕ)) (name : List ℕ) (error : InputError) → Member name names → IsUnread (λ n. n ≡ name) error
    → IsUnread (λ n. Member n names) error
unread-one names name Memory m h = tt
unread-one names name (Read text why) m h = subst (λ (n : List ℕ). Member n names) (sym h) m

-- which modules are there is known with one more folder
pub known-next : {A : Type 0} (known : Bool) (xs : List A) (i : ℕ) → i < length xs → known_with (take (i + 1) xs) known ≡ true
known-next known [] i h = absurd (omega (arith, h))
known-next known (x ∷ xs) i h = rw add-one refl

-- no folder is left
pub known-all : {A : Type 0} (known : Bool) (xs : List A) (i : ℕ) → length xs ≤ i → known_with (take i xs) known ≡ known_with xs known
known-all known [] zero h = refl
known-all known [] (suc i) h = refl
known-all known (x ∷ xs) zero h = absurd (omega (arith, h))
known-all known (x ∷ xs) (suc i) h = refl
