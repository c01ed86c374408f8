use Rattle.std.proofs.Common.{◌≡◌, ℕ, List, [], ◌∷◌, Bool, Some, None, cond, nat_le, length, take, true, false, refl}
use Rattle.pam_page.specs.Page.{first_page}
use Rattle.pam_paths.specs.Pages.{Page, last_key, pages}
use Rattle.pam_paths.specs.Paths.{PathValue}
use Rattle.pam_page.proofs.laws.first_page.Goals as goal

first : (going_on : List ℕ → List PathValue) (left : List PathValue) (size : ℕ) (sizes : List ℕ)
    → (others : List Page) × (pages going_on left (size ∷ sizes) ≡ first_page size left ∷ others)
unfolding pages
first going_on left size sizes =
    let whole : Page = record { paths = left; more = None } in
    let part : Page = record { paths = take size left; more = Some (last_key (take size left)) } in
    let others : List Page = pages going_on (going_on (last_key (take size left))) sizes in
    elim (nat_le (length left) size) as (λ (fits : Bool). (rest : List Page) × (cond fits (whole ∷ []) (part ∷ others) ≡ cond fits whole part ∷ rest)) [
      | true ↦ ([], refl)
      | false ↦ (others, refl)
    ]

pub returns : goal.returns
returns c = first
