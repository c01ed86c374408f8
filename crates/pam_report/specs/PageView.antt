-- A page that is requested, and the paths that it is taken from.
use Rattle.std.specs.Prelude.{◌≡◌, ⊤, List, Option, Some, None, Result, Ok, Err, option_map}
use Rattle.pam_conf.specs.Stack.{Items}
use Rattle.pam_dispatch.specs.declared.flat_item.FlatItem.{FlatItem}
use Rattle.pam_graph.specs.Goals.{meeting}
use Rattle.pam_graph.specs.Walks.{GraphValue}
use Rattle.pam_graph.specs.declared.goal.Goal.{Goal}
use Rattle.pam_graph.specs.declared.goal.Goal.TheVariants.{Any}
use Rattle.pam_page.specs.Coming.{coming, side}
use Rattle.pam_page.specs.declared.listing.Listing.{Listing}
use Rattle.pam_paths.specs.Known.{may_answer}
use Rattle.pam_paths.specs.Listing.{Allowance}
use Rattle.pam_paths.specs.Paths.{PathValue}
use Rattle.pam_words.specs.declared.wanted.PagePart.{PagePart}
use Rattle.pam_report.specs.Paths as paths
use Rattle.pam_report.specs.Reply.{PageValue}
use Rattle.pam_report.specs.declared.fault.Fault.{Fault}
use Rattle.pam_report.specs.declared.fault.Fault.TheVariants as faults
use Rattle.pam_report.specs.declared.report.goal_pages.GoalGraph.{GoalGraph}
use Rattle.pam_report.specs.declared.report.paths.PathsPage.{PathsPage}

-- the goal that the paths of a page meet
abbrev pub goal_of : Option GoalGraph → Goal
goal_of None = Any
goal_of (Some given) = given.goal

abbrev pub graph_of : Option GoalGraph → Option GraphValue
graph_of given = option_map (λ g. g.graph) given

abbrev pub page_value : PathsPage → PageValue
page_value page = record {
  service = page.service.now;
  kind = page.kind;
  items = page.found.stack;
  program = page.program;
  allows = may_answer page.found.known;
  graph = graph_of page.walks;
  goal = goal_of page.walks;
  limit = page.limit;
  part = page.part;
}

-- for each stack that has this program, and whose paths are the walks of the graph, if there is one: the paths of a part that meet
-- a goal, in the direction of the part, or the reason why its cursor is refused, unless an allocation failed
module _ (program : List FlatItem) (allows : Allowance) (graph : Option GraphValue) (goal : Goal) (part : PagePart) {K : Type 0} where
  abbrev pub FindsListing : Result (Listing K) Fault → Type 0
  FindsListing (Ok listing) =
      (items : Items) → paths.IsProgramOf program items → paths.AreWalks graph allows program items
      → (given : List PathValue) × paths.IsPart allows items part (Ok given) × (coming listing ≡ meeting goal given) × (side listing ≡ paths.side_of part)
  FindsListing (Err (faults.Cursor e)) =
      (items : Items) → paths.IsProgramOf program items → paths.AreWalks graph allows program items → paths.IsPart allows items part (Err e)
  FindsListing (Err faults.Memory) = ⊤
  FindsListing (Err fault) = ⊥

-- those of a page
abbrev pub FindsPage : {K : Type 0} → PageValue → Result (Listing K) Fault → Type 0
FindsPage page = FindsListing page.program page.allows page.graph page.goal page.part

-- a listing that is found is rendered. If it is not found, nothing is, and the fault is the result
module _ {K T : Type 0} (renders : Listing K → T → T → Result (Unit {0}) Fault → Type 0) (old new : T) (result : Result (Unit {0}) Fault) where
  abbrev pub RendersFound : Result (Listing K) Fault → Type 0
  RendersFound (Ok listing) = renders listing old new result
  RendersFound (Err fault) = (new ≡ old) × (result ≡ Err fault)

  -- the same, for one that a relation finds
  abbrev pub Renders : (Result (Listing K) Fault → Type 0) → Type 0
  Renders Found = (found : Result (Listing K) Fault) × Found found × RendersFound found
