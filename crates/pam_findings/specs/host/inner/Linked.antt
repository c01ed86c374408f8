-- For private contracts and proofs alone: the links among the first files.
use Rattle.std.specs.Prelude.{◌≡◌, ℕ, ◌<◌, Bool, List, Some}
use Rattle.pam_findings.specs.host.Links.{IsLinkOutside}
use Rattle.pam_findings.specs.declared.host.problem.Spot.{Spot}

-- S27 at this file
abbrev pub IsLinkAt : List Bool → ℕ → Spot → Type 0
IsLinkAt outside position spot = (spot.file ≡ Some position) × IsLinkOutside outside spot

-- S27 at one of the first files
pub record IsFirstLink (outside : List Bool) (files : ℕ) (spot : Spot) : Type 0 where
  pub position : ℕ
  pub within : position < files
  pub at : IsLinkAt outside position spot
