-- For private contracts and proofs alone: lists of held answers. Each is stored as its last answer and the number of the list before
-- that answer. List 0 is empty.
use Rattle.std.specs.Prelude.{◌≡◌, ◌<◌, ◌≤◌, ◌-◌, ◌&&◌, ℕ, Bool, List, [], ◌∷◌, Some, nat_eq, slice_get}
use Rattle.pam_codes.specs.Set.{IsCodeSet}
use Rattle.pam_compare.specs.declared.held.HeldAnswer.{HeldAnswer}
use Rattle.pam_compare.specs.declared.held_lists.Link.{Link}
use Rattle.pam_compare.specs.inner.Held.{same_held}

-- the derived test of equality
abbrev pub same_link : Link → Link → Bool
same_link a b = nat_eq a.before b.before && same_held a.answer b.answer

-- list n has the answers of the list `before`, and then this one
pub record IsLast (links : List Link) (n before : ℕ) (answer : HeldAnswer) : Type 0 where
  pub within : before < n
  pub link : Link
  pub is_there : slice_get links (n - 1) ≡ Some link
  pub before_is : link.before ≡ before
  pub answer_is : link.answer ≡ answer

-- list n has these answers, the last one first
unfoldable pub IsListed : List Link → ℕ → List HeldAnswer → Type 0
IsListed links n [] = n ≡ 0
IsListed links n (answer ∷ rest) = (before : ℕ) × IsLast links n before answer × IsListed links before rest

-- each list goes on from an earlier one, and the codes of its last answer are a set of codes
pub record AreLinks (links : List Link) : Type 0 where
  pub each : (k : ℕ) (l : Link) → slice_get links k ≡ Some l → (l.before ≤ k) × IsCodeSet l.answer.codes
