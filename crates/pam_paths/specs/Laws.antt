-- What the definitions of paths, listings, cursors and pages imply: pam.conf(5), DESCRIPTION.
use Rattle.std.specs.Prelude.{◌≡◌, ℕ, ◌<◌, ◌≤◌, List, All, filter, ◌∷◌, ◌++◌, reverse}
use Rattle.pam_conf.specs.Stack.{Items}
use Rattle.pam_dispatch.specs.Decision.{decision_of}
use Rattle.pam_dispatch.specs.Runs.{Assignment, AsksRise, Runs, final_state}
use Rattle.pam_dispatch.specs.Tree.{runs_of_stack}
use Rattle.pam_text.specs.Members.{Member}
use Rattle.pam_paths.specs.Paths.{Agrees, PathValue, key, path_of, path_through}
use Rattle.pam_paths.specs.Listing.{Allowance, IsAllowed, IsLawful, IsListing, IsListingAfter, IsListingBefore, anything, can_follow}
use Rattle.pam_paths.specs.Cursor.{Verdict, HasVerdict}
use Rattle.pam_paths.specs.CursorText.{IsCursor, cursor_text}
use Rattle.pam_paths.specs.Pages.{ArePrefix, after, before, pages}

-- the path of an assignment through the open run of a stack is its path through the tree
abbrev pub PathOfStack : Type 0
PathOfStack = (items : Items) (answers : Assignment) → path_of (runs_of_stack items) answers ≡ path_through items answers

-- two listings of one stack and knowledge are equal
abbrev pub OneListing : Type 0
OneListing =
    (allows : Allowance) (n : ℕ) (path_by : Assignment → PathValue) (xs ys : List PathValue) →
    IsListing allows n path_by xs → IsListing allows n path_by ys → xs ≡ ys

-- exactly one path of a listing agrees with an allowed assignment: its own, with its decision
abbrev pub OnePath : Type 0
OnePath =
    (allows : Allowance) (n : ℕ) (runs : Runs) (paths : List PathValue) (answers : Assignment) →
    AsksRise 0 n runs → IsListing allows n (path_of runs) paths → IsAllowed allows n answers →
    Member (path_of runs answers) paths
    × Agrees answers (path_of runs answers)
    × ((path : PathValue) → Member path paths → Agrees answers path → path ≡ path_of runs answers)
    × ((path_of runs answers).decision ≡ decision_of (final_state runs answers))

-- the listing under a knowledge is the full listing without the paths that it excludes
abbrev pub Narrowed : Type 0
Narrowed =
    (allows : Allowance) (n : ℕ) (runs : Runs) (some all : List PathValue) →
    AsksRise 0 n runs → IsLawful allows n → IsListing allows n (path_of runs) some → IsListing anything n (path_of runs) all →
    some ≡ filter (can_follow allows) all

-- two cursors with the same text are equal
abbrev pub CursorTextIsOne : Type 0
CursorTextIsOne = (xs ys : List ℕ) → IsCursor xs → IsCursor ys → cursor_text xs ≡ cursor_text ys → xs ≡ ys

-- codes have exactly one verdict
abbrev pub OneVerdict : Type 0
OneVerdict =
    (n : ℕ) (runs : Runs) (codes : List ℕ) → AsksRise 0 n runs → All (λ code. code < 31) codes →
    (verdict : Verdict) × HasVerdict n (path_of runs) codes verdict
    × ((other : Verdict) → HasVerdict n (path_of runs) codes other → other ≡ verdict)

-- the paths after a cursor, and those before it, are parts of the listing
abbrev pub PartAfter : Type 0
PartAfter =
    (allows : Allowance) (n : ℕ) (path_by : Assignment → PathValue) (k : List ℕ) (all part : List PathValue) →
    IsListing allows n path_by all → IsListingAfter allows n path_by k part → part ≡ after k all

abbrev pub PartBefore : Type 0
PartBefore =
    (allows : Allowance) (n : ℕ) (path_by : Assignment → PathValue) (k : List ℕ) (all part : List PathValue) →
    IsListing allows n path_by all → IsListingBefore allows n path_by k part → part ≡ before k all

-- the pages of a listing, each begun at the cursor of the one before, are a prefix of it
abbrev pub PagesJoin : Type 0
PagesJoin =
    (allows : Allowance) (n : ℕ) (path_by : Assignment → PathValue) (all : List PathValue) (sizes : List ℕ) →
    IsListing allows n path_by all → All (λ size. 1 ≤ size) sizes →
    ArePrefix (pages (λ k. after k all) all sizes) all

-- the paths before a member, the member, and the paths after it are the listing
abbrev pub EndsMeet : Type 0
EndsMeet =
    (allows : Allowance) (n : ℕ) (path_by : Assignment → PathValue) (all back : List PathValue) (path : PathValue) →
    IsListing allows n path_by all → Member path all → IsListingBefore allows n path_by (key path) back →
    reverse back ++ path ∷ after (key path) all ≡ all

-- the pages of the paths before a member, last first, are a prefix of them
abbrev pub PagesJoinBackwards : Type 0
PagesJoinBackwards =
    (allows : Allowance) (n : ℕ) (path_by : Assignment → PathValue) (all back : List PathValue) (path : PathValue) (sizes : List ℕ) →
    IsListing allows n path_by all → Member path all → IsListingBefore allows n path_by (key path) back →
    All (λ size. 1 ≤ size) sizes →
    ArePrefix (pages (λ k. before k all) back sizes) back
