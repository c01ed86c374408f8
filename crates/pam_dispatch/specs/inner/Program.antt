-- For private contracts and proofs alone: what a program stores of a stack, in the order of pam.conf(5), DESCRIPTION.
use Rattle.std.specs.Prelude.{◌≡◌, ℕ, ◌≤◌, Bool, List, All, drop}
use Rattle.pam_conf.specs.declared.stack.TheConstants.{MAX_MODULES}
use Rattle.std.specs.List.{AllZip}
use Rattle.pam_codes.specs.declared.parts.Part.{Part}
use Rattle.pam_codes.specs.Parts.{IsParts}
use Rattle.pam_dispatch.specs.declared.flat_item.FlatItem.{FlatItem}
use Rattle.pam_dispatch.specs.Flat.{controls_in, modules_of}
use Rattle.pam_dispatch.specs.inner.Flat.{IsNumbered, IsBounded, positions_from}
use Rattle.pam_dispatch.specs.inner.ReadLevels.{IsReadTable}
use Rattle.pam_dispatch.specs.inner.Settled.{KeepFailure}
use Rattle.pam_dispatch.specs.inner.Stretches.{IsStretchTable}

-- a flat list of a stack's items, with the positions of its modules and the parts of their controls; of each position, the length of
-- the stretch of items on one level, and the levels of the lists whose entry states a reset can still read; from `harmless_from` on no
-- item changes a failed stack
pub record IsProgram (flat_items : List FlatItem) (positions : List ℕ) (parts : List (List Part)) (stretches : List ℕ)
    (harmless_from : ℕ) (read_levels : List (List Bool)) : Type 0 where
  pub bounded : All IsBounded flat_items
  pub numbered : IsNumbered 0 flat_items
  pub few : modules_of flat_items ≤ MAX_MODULES
  pub found : positions ≡ positions_from 0 flat_items
  pub divided : AllZip IsParts (controls_in flat_items) parts
  pub stretched : IsStretchTable flat_items stretches
  pub settled : KeepFailure (drop harmless_from flat_items)
  pub read : IsReadTable flat_items read_levels
