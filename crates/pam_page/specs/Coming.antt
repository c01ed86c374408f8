-- A listing, as contracts see it: its remaining paths, its direction and its work.
use Rattle.std.specs.Prelude.{◌≡◌, ℕ, ◌+◌, ◌*◌, ◌≤◌, List, codes}
use Rattle.pam_paths.specs.Paths.{PathValue}
use Rattle.pam_page.specs.declared.listing.Listing.{Listing}
use Rattle.pam_page.specs.declared.listing.Listing.TheVariants.{Forward, Backward, WalksForward, WalksBackward}

-- the remaining paths, in order
abbrev pub coming : {K : Type 0} → Listing K → List PathValue
coming (Forward explorer) = explorer.coming
coming (Backward before) = before.coming
coming (WalksForward walks) = walks.coming
coming (WalksBackward walks) = walks.coming

-- the path followed last
abbrev pub followed : {K : Type 0} → Listing K → PathValue
followed (Forward explorer) = explorer.path
followed (Backward before) = before.path
followed (WalksForward walks) = walks.path
followed (WalksBackward walks) = walks.path

-- the option that, with the last cursor of a page, lists the next page
abbrev pub side : {K : Type 0} → Listing K → List ℕ
side (Forward explorer) = codes "after"
side (Backward before) = codes "before"
side (WalksForward walks) = codes "after"
side (WalksBackward walks) = codes "before"

-- the number of steps made so far; walks of a graph make none
abbrev pub work : {K : Type 0} → Listing K → ℕ
work (Forward explorer) = explorer.work
work (Backward before) = before.work
work (WalksForward walks) = 0
work (WalksBackward walks) = 0

-- the most steps that following one path makes
abbrev pub most_steps : {K : Type 0} → Listing K → ℕ
most_steps (Forward explorer) = 64 * (explorer.modules + 1)
most_steps (Backward before) = 64 * (before.modules + 1)
most_steps (WalksForward walks) = 0
most_steps (WalksBackward walks) = 0

-- what following at most `count` paths leaves: the same side, and no more work than each of them can make
abbrev pub GoesOn : {K : Type 0} → ℕ → Listing K → Listing K → Type 0
GoesOn count old new = record {
  same_side : side new ≡ side old;
  same_most : most_steps new ≡ most_steps old;
  bounded : work new ≤ work old + most_steps old * count;
  grows : work old ≤ work new;
}
