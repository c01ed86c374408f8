-- The stacks that meet a problem.
use Rattle.std.specs.Prelude.{◌≡◌, ◌↔◌, ℕ, ◌+◌, ◌≤◌, true, List, [], ◌∷◌, Some, length, slice_get}
use Rattle.pam_conf.specs.declared.rule.Kind.{Kind}
use Rattle.pam_facts.specs.Kinds.{has_kind}
use Rattle.pam_text.specs.Members.{Member}
use Rattle.pam_findings.specs.declared.host.met.Met.{Met}

-- positions rise strictly, and the first is at least this
unfoldable pub RiseFrom : ℕ → List ℕ → Type 0
RiseFrom low [] = Unit {0}
RiseFrom low (position ∷ positions) = (low ≤ position) × RiseFrom (position + 1) positions

-- the stacks that meet a problem: the stack of a service for a kind
module _ (Meets : ℕ → Kind → Type 0) where
  -- some stack of this service does
  abbrev pub IsMetBy : ℕ → Type 0
  IsMetBy service = (kind : Kind) × Meets service kind

  -- no stack does
  abbrev pub IsMetByNone : Type 0
  IsMetByNone = (service : ℕ) (kind : Kind) → Meets service kind → ⊥

  -- THE STACKS that meet it: their kinds, and their services, of which the first two and the last are named
  pub record AreMet (met : Met) : Type 0 where
    pub kinds : (kind : Kind) → (has_kind kind met.kinds ≡ true) ↔ ((service : ℕ) × Meets service kind)
    pub positions : List ℕ
    pub rising : RiseFrom 0 positions
    pub members : (service : ℕ) → Member service positions ↔ IsMetBy service
    pub first : slice_get positions 0 ≡ Some met.first
    pub second : slice_get positions 1 ≡ met.second
    pub last : Member met.last positions
    pub latest : (service : ℕ) → Member service positions → service ≤ met.last
    pub count : met.services ≡ length positions
