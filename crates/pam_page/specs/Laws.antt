-- A page is the first of the pages of a listing.
use Rattle.std.specs.Prelude.{◌≡◌, ℕ, List, ◌∷◌}
use Rattle.pam_page.specs.Page.{first_page}
use Rattle.pam_paths.specs.Pages.{Page, pages}
use Rattle.pam_paths.specs.Paths.{PathValue}

-- the first of some pages, wherever the next one begins
abbrev pub FirstOfPages : Type 0
FirstOfPages =
    (going_on : List ℕ → List PathValue) (left : List PathValue) (size : ℕ) (sizes : List ℕ)
    → (others : List Page) × (pages going_on left (size ∷ sizes) ≡ first_page size left ∷ others)
