-- For private contracts and proofs alone: a page that is requested, and the paths that it is taken from.
use Rattle.std.specs.Prelude.{◌≡◌, ⊤, ℕ, List, Some, None, Result, Ok, Err}
use Rattle.pam_conf.specs.Stack.{Items}
use Rattle.pam_graph.specs.Walks.{GraphValue}
use Rattle.pam_graph.specs.declared.goal.Goal.{Goal}
use Rattle.pam_graph.specs.declared.goal.Goal.TheVariants.{Any}
use Rattle.pam_page.specs.Coming.{coming, side}
use Rattle.pam_page.specs.declared.listing.Listing.{Listing}
use Rattle.pam_paths.specs.Known.{may_answer}
use Rattle.pam_paths.specs.Listing.{Allowance}
use Rattle.pam_paths.specs.Paths.{PathValue}
use Rattle.pam_words.specs.declared.wanted.PagePart.{PagePart}
use Rattle.pam_report.specs.Paths as paths
use Rattle.pam_report.specs.declared.fault.Fault.{Fault}
use Rattle.pam_report.specs.declared.fault.Fault.TheVariants as faults
use Rattle.pam_report.specs.declared.report.paths.PageRequest.{PageRequest}
use Rattle.pam_report.specs.declared.report.paths.Paging.{Paging}
use Rattle.pam_report.specs.PageView.{FindsListing}

abbrev pub page_view : PageRequest → paths.PageRequest
page_view request = record {
  service = request.stack.service.now;
  kind = request.stack.kind;
  limit = request.limit;
  part = request.part;
  filter = request.filter;
}

-- all paths of a part
abbrev pub ListsPart : {K : Type 0} → Paging → PagePart → Result (Listing K) Fault → Type 0
ListsPart paging part = FindsListing paging.program.now (may_answer paging.known.now) None Any part

-- the walks of a part that meet a goal
abbrev pub ListsWalks : {K : Type 0} → Paging → GraphValue → Goal → PagePart → Result (Listing K) Fault → Type 0
ListsWalks paging graph goal part = FindsListing paging.program.now (may_answer paging.known.now) (Some graph) goal part

-- these paths, in a direction, unless an allocation failed
abbrev pub ListsPaths : {K : Type 0} → List PathValue → List ℕ → Result (Listing K) Fault → Type 0
ListsPaths paths to (Ok listing) = (coming listing ≡ paths) × (side listing ≡ to)
ListsPaths paths to (Err faults.Memory) = ⊤
ListsPaths paths to (Err fault) = ⊥

-- a cursor is that of a text, and these are the paths of a stack on one side of it
abbrev pub IsSide : (List ℕ → List PathValue → Type 0) → Allowance → Items → PagePart → List ℕ → Type 0
IsSide IsRest allows items part cursor = (given : List PathValue) × IsRest cursor given × paths.IsPart allows items part (Ok given)

-- a fault is the reason why the cursor of a part is refused
abbrev pub IsRefused : Paging → PagePart → Fault → Type 0
IsRefused paging part (faults.Cursor e) =
    (items : Items) → paths.IsProgramOf paging.program.now items → paths.IsPart (may_answer paging.known.now) items part (Err e)
IsRefused paging part fault = ⊥
