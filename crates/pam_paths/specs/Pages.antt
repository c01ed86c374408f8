-- A listing in pages: pam.conf(5), DESCRIPTION, through the listings of this crate.
use Rattle.std.specs.Prelude.{◌≡◌, ℕ, nat_le, if◌then◌else◌, List, [], ◌∷◌, ◌++◌, filter, take, length, reverse, Option, Some, None}
use Rattle.pam_paths.specs.Paths.{PathValue, key, precedes}

-- the paths after a key
abbrev pub after : List ℕ → List PathValue → List PathValue
after k paths = filter (λ path. precedes k (key path)) paths

-- the paths before a key, last first
abbrev pub before : List ℕ → List PathValue → List PathValue
before k paths = reverse (filter (λ path. precedes (key path) k) paths)

-- the key of the last path
unfoldable pub last_key : List PathValue → List ℕ
last_key [] = []
last_key (path ∷ []) = key path
last_key (path ∷ next ∷ paths) = last_key (next ∷ paths)

-- the paths of a page, and the cursor from which the next page continues; None if the page says `end`
pub record Page : Type 0 where
  pub paths : List PathValue
  pub more : Option (List ℕ)

-- the pages of these sizes, up to the first that says `end`; a page takes the first paths that are left, as many as its
-- size, and `going_on` tells which paths are left after its cursor
unfoldable pub pages : (List ℕ → List PathValue) → List PathValue → List ℕ → List Page
pages going_on left [] = []
pages going_on left (size ∷ sizes) =
    if nat_le (length left) size then record { paths = left; more = None } ∷ []
    else record { paths = take size left; more = Some (last_key (take size left)) } ∷ pages going_on (going_on (last_key (take size left))) sizes

-- the paths of pages, one page after another
unfoldable pub joined : List Page → List PathValue
joined [] = []
joined (page ∷ more) = page.paths ++ joined more

-- the last page says `end`
unfoldable pub SayEnd : List Page → Type 0
SayEnd [] = ⊥
SayEnd (page ∷ []) = page.more ≡ None
SayEnd (page ∷ next ∷ more) = SayEnd (next ∷ more)

-- the paths of pages are a prefix of these, and all of them if the last page says `end`
abbrev pub ArePrefix : List Page → List PathValue → Type 0
ArePrefix given paths = (rest : List PathValue) × (joined given ++ rest ≡ paths) × (SayEnd given → rest ≡ [])
