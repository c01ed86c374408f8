-- Lists of marks.
use Rattle.std.proofs.Common.{◌≡◌, ◌≢◌, ℕ, ◌-◌, ◌≤◌, ◌==◌, ◌||◌, Bool, true, false, List, [], ◌∷◌, length, zero, suc, refl, sym, ◌∙◌, ap, arith}
use Rattle.std.proofs.Common.{inl, inr, get_or, slice_set, replicate}
use Rattle.std.proofs.lemmas.Bool.{cases_eq, eq-eqb, ne_eqb}
use Rattle.std.proofs.lemmas.List.{get_or-set_same, get_or-set_other}
use Rattle.pam_graph.specs.declared.node.Node.{Node}
use Rattle.pam_findings.specs.stack.inner.Marks.{has_number, mark_of}

pub or-false : (a : Bool) → (a || false) ≡ a
or-false true = refl
or-false false = refl

pub or-swap : (a b c : Bool) → ((a || b) || c) ≡ (b || (a || c))
or-swap true true c = refl
or-swap true false c = refl
or-swap false true c = refl
or-swap false false c = refl

pub none-marked : (n i : ℕ) → get_or (replicate n false) i false ≡ false
none-marked zero i = refl
none-marked (suc n) zero = refl
none-marked (suc n) (suc i) = none-marked n i

pub past-marks : (marks : List Bool) (i : ℕ) → length marks ≤ i → get_or marks i false ≡ false
past-marks [] i h = refl
past-marks (x ∷ xs) zero h = absurd (omega (arith, h))
past-marks (x ∷ xs) (suc i) h = past-marks xs i (omega (arith, h))

pub set-mark : (marks : List Bool) (number n : ℕ) → length marks ≡ 256 → 1 ≤ number → number ≤ 256 → 1 ≤ n →
    get_or (slice_set marks (number - 1) true) (n - 1) false ≡ (n == number || get_or marks (n - 1) false)
set-mark marks number n len first last from = elim (cases_eq n number) [
  | inl e ↦
      let same : n - 1 ≡ number - 1 = omega (arith, e) in
      ap (λ (x : ℕ). get_or (slice_set marks (number - 1) true) x false) same
      ∙ get_or-set_same marks (number - 1) true false (omega (arith, len, first, last))
      ∙ sym (ap (λ (t : Bool). t || get_or marks (n - 1) false) (eq-eqb n number e))
  | inr ne ↦
      let other : n - 1 ≢ number - 1 = λ e. ne (omega (arith, e, first, from)) in
      get_or-set_other marks (number - 1) (n - 1) true false other
      ∙ sym (ap (λ (t : Bool). t || get_or marks (n - 1) false) (ne_eqb n number ne))
]

-- no module is marked, and all nodes are left
pub marks-none : (n number : ℕ) (nodes : List Node) → (mark_of (replicate n false) number || has_number number nodes) ≡ has_number number nodes
marks-none n number nodes = ap (λ (t : Bool). t || has_number number nodes) (none-marked n (number - 1))

-- the module of a node is marked
pub marks-more : (old new : List Bool) (number : ℕ) (node : Node) (rest all : List Node) →
    mark_of new number ≡ (number == node.module_number || mark_of old number) →
    (mark_of old number || has_number number (node ∷ rest)) ≡ has_number number all →
    (mark_of new number || has_number number rest) ≡ has_number number all
marks-more old new number node rest all is h =
    ap (λ (t : Bool). t || has_number number rest) is
    ∙ or-swap (number == node.module_number) (mark_of old number) (has_number number rest)
    ∙ h

-- no node is left
pub marks-all : (marks : List Bool) (number : ℕ) (nodes : List Node) → (mark_of marks number || has_number number []) ≡ has_number number nodes →
    mark_of marks number ≡ has_number number nodes
marks-all marks number nodes h = sym (or-false (mark_of marks number)) ∙ h
