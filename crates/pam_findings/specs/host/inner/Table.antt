-- For private contracts and proofs alone: what a pass over a table of findings, or over the files that are read, changes.
use Rattle.std.specs.Prelude.{◌≡◌, ◌⊎◌, ◌↔◌, ℕ, ◌<◌, List, IfSome, length, slice_index_or, Option, Some, None}
use Rattle.std.specs.BTreeMap.{BTreeMap, get}
use Rattle.pam_conf.specs.declared.rule.Kind.{Kind}
use Rattle.pam_text.specs.Members.{Member}
use Rattle.pam_findings.specs.host.inner.Meeting.{Changes, also_met}
use Rattle.pam_findings.specs.host.Problems.{compare_places, place_of}
use Rattle.pam_findings.specs.declared.host.met.Met.{Met}
use Rattle.pam_findings.specs.declared.host.problem.Place.{Place}
use Rattle.pam_findings.specs.declared.host.problem.Spot.{Spot}
use Rattle.pam_findings.specs.declared.host.report.Finding.{Finding}

abbrev pub Table : Type 0
Table = BTreeMap Place Finding

-- what is found of a problem
abbrev pub finding_at : Table → Spot → Option Finding
finding_at table spot = get compare_places table (place_of spot)

abbrev pub met_of : Option Finding → Option Met
met_of None = None
met_of (Some finding) = finding.met

-- the finding with one more stack
abbrev pub with_stack : ℕ → Kind → Spot → Option Finding → Finding
with_stack service kind spot old = record { problem = spot.problem; met = Some (also_met service kind (met_of old)) }

-- the finding that these stacks meet, whatever was found before
abbrev pub with_met : Option Met → Spot → Option Finding → Finding
with_met met spot old = record { problem = spot.problem; met = met }

-- each finding is at the place of its problem
abbrev pub ArePlaced : Table → Type 0
ArePlaced table = (place : Place) → IfSome (get compare_places table place)
    (λ f. place ≡ place_of record { file = place.file; line = place.line; problem = f.problem })

-- the problems of which something holds get a finding, and the others keep theirs
pub record Puts (Holds : Spot → Type 0) (value : Spot → Option Finding → Finding) (old new : Table) : Type 0 where
  pub each : (spot : Spot) → Changes (Holds spot) (value spot (finding_at old spot)) (finding_at old spot) (finding_at new spot)
  pub placed : ArePlaced old → ArePlaced new

-- the problems of which something holds lose their finding, and the others keep theirs
pub record Removes (Holds : Spot → Type 0) (old new : Table) : Type 0 where
  pub each : (spot : Spot) → (Holds spot × (finding_at new spot ≡ None)) ⊎ ((Holds spot → ⊥) × (finding_at new spot ≡ finding_at old spot))
  pub placed : ArePlaced old → ArePlaced new

-- a stack is noted at the files of which something holds
pub record Notes (Holds : ℕ → Type 0) (service : ℕ) (kind : Kind) (old new : List (Option Met)) : Type 0 where
  pub each : (file : ℕ) → file < length old →
      Changes (Holds file) (also_met service kind (slice_index_or old file None)) (slice_index_or old file None) (slice_index_or new file None)
  pub count : length new ≡ length old

-- problems are added of which something holds
pub record Adds (Holds : Spot → Type 0) (old new : List Spot) : Type 0 where
  pub each : (spot : Spot) → (Member spot old ⊎ Holds spot) ↔ Member spot new
