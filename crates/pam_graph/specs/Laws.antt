-- What the definition of goals implies, and of walks after a cursor; and the number of nodes.
use Rattle.std.specs.Prelude.{◌≡◌, ℕ, ◌≤◌, false, All, List, []}
use Rattle.std.specs.List.{list_any}
use Rattle.pam_dispatch.specs.Runs.{Assignment}
use Rattle.pam_graph.specs.declared.goal.Goal.{Goal}
use Rattle.pam_graph.specs.declared.goal.Goal.TheVariants.{Any}
use Rattle.pam_graph.specs.declared.graph.TheConstants.{MAX_NODES}
use Rattle.pam_graph.specs.Goals.{meeting, meets}
use Rattle.pam_paths.specs.Listing.{Allowance, IsListing}
use Rattle.pam_paths.specs.Pages.{ArePrefix, after, before, pages}
use Rattle.pam_paths.specs.Paths.{PathValue}

-- each path meets the goal that wants nothing
abbrev pub AllMeetAny : Type 0
AllMeetAny = (paths : List PathValue) → meeting Any paths ≡ paths

-- a goal that no path meets has none
abbrev pub NoneMeets : Type 0
NoneMeets = (goal : Goal) (paths : List PathValue) → list_any (meets goal) paths ≡ false → meeting goal paths ≡ []

-- the pages of the paths of a listing that meet a goal, each begun at the cursor of the one before, are a prefix of these paths
abbrev pub MeetingPagesJoin : Type 0
MeetingPagesJoin =
    (goal : Goal) (allows : Allowance) (n : ℕ) (path_by : Assignment → PathValue) (all : List PathValue) (sizes : List ℕ) →
    IsListing allows n path_by all → All (λ size. 1 ≤ size) sizes →
    ArePrefix (pages (λ k. meeting goal (after k all)) (meeting goal all) sizes) (meeting goal all)

-- the same of the paths before a cursor, last first
abbrev pub MeetingPagesJoinBackwards : Type 0
MeetingPagesJoinBackwards =
    (goal : Goal) (allows : Allowance) (n : ℕ) (path_by : Assignment → PathValue) (k : List ℕ) (all : List PathValue) (sizes : List ℕ) →
    IsListing allows n path_by all → All (λ size. 1 ≤ size) sizes →
    ArePrefix (pages (λ j. meeting goal (before j all)) (meeting goal (before k all)) sizes) (meeting goal (before k all))

-- the most nodes of a graph
abbrev pub MostNodes : Type 0
MostNodes = MAX_NODES ≡ 65536
