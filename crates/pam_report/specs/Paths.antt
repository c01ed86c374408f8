-- The answer to `paths`: a page of the paths through a stack (pam.conf(5), DESCRIPTION), given what modules may return.
use Rattle.std.specs.Prelude.{◌≡◌, ◌≢◌, ◌⊎◌, ⊤, ℕ, nat_lt, Bool, true, false, List, codes, Option, Some, None, Result, Ok, Err}
use Rattle.pam_conf.specs.Stack.{Items, module_count}
use Rattle.pam_conf.specs.declared.rule.Kind.{Kind}
use Rattle.pam_dispatch.specs.Flat.{modules_of, runs_of}
use Rattle.pam_dispatch.specs.Tree.{runs_of_stack}
use Rattle.pam_dispatch.specs.declared.flat_item.FlatItem.{FlatItem}
use Rattle.pam_graph.specs.Walks.{GraphValue, walks}
use Rattle.pam_graph.specs.declared.goal.Goal.{Goal}
use Rattle.pam_graph.specs.declared.goal.Goal.TheVariants as goals
use Rattle.pam_facts.specs.known.Knowledge.{Agree}
use Rattle.pam_paths.specs.Cursor.{IsAccepted, IsRefusal}
use Rattle.pam_paths.specs.CursorText.{IsCursor, cursor_text}
use Rattle.pam_paths.specs.Listing.{Allowance, IsListing, IsListingAfter, IsListingBefore}
use Rattle.pam_paths.specs.Paths.{PathValue, path_through}
use Rattle.pam_paths.specs.declared.cursor.CursorError.{CursorError}
use Rattle.pam_paths.specs.declared.cursor.CursorError.TheVariants.{Syntax}
use Rattle.pam_words.specs.declared.wanted.PagePart.{PagePart}
use Rattle.pam_words.specs.declared.wanted.PagePart.TheVariants.{Whole, After, Before}
use Rattle.pam_words.specs.declared.wanted.PathFilter.{PathFilter}
use Rattle.pam_words.specs.declared.wanted.PathFilter.TheVariants.{All, Decides, Asks}
use Rattle.pam_report.specs.KnownStack.{IsAnswerFrom, KnownItems}
use Rattle.pam_report.specs.Reply.{Answer, Page, PageValue}
use Rattle.pam_report.specs.TooLarge.{IsTooLarge}
use Rattle.pam_report.specs.declared.fault.Fault.{Fault}
use Rattle.pam_report.specs.declared.fault.Fault.TheVariants as faults

-- the paths after or before the cursor of a text, or the reason why it is the cursor of no path
abbrev pub IsTaken : (List ℕ → List PathValue → Type 0) → Items → List ℕ → Result (List PathValue) CursorError → Type 0
IsTaken IsRest items text (Err Syntax) = (cursor : List ℕ) → IsCursor cursor → cursor_text cursor ≢ text
IsTaken IsRest items text (Err e) =
    (cursor : List ℕ) × IsCursor cursor × (cursor_text cursor ≡ text) × IsRefusal (module_count items) (path_through items) cursor e
IsTaken IsRest items text (Ok paths) =
    (cursor : List ℕ) × IsCursor cursor × (cursor_text cursor ≡ text) × IsAccepted (module_count items) (path_through items) cursor × IsRest cursor paths

-- the part of the listing of a stack, if these codes are allowed, or the reason why its cursor is refused
abbrev pub IsPart : Allowance → Items → PagePart → Result (List PathValue) CursorError → Type 0
IsPart allows items Whole (Ok paths) = IsListing allows (module_count items) (path_through items) paths
IsPart allows items Whole (Err e) = ⊥
IsPart allows items (After text) given = IsTaken (IsListingAfter allows (module_count items) (path_through items)) items text.now given
IsPart allows items (Before text) given = IsTaken (IsListingBefore allows (module_count items) (path_through items)) items text.now given

-- the option that, with the last cursor of a page, lists the next page
abbrev pub side_of : PagePart → List ℕ
side_of Whole = codes "after"
side_of (After text) = codes "after"
side_of (Before text) = codes "before"

-- a page that is requested
pub record PageRequest : Type 0 where
  pub service : List ℕ
  pub kind : Kind
  pub limit : ℕ
  pub part : PagePart
  pub filter : PathFilter

-- the page of the paths that meet a goal
abbrev pub page_of : PageRequest → Items → List FlatItem → Allowance → Option GraphValue → Goal → PageValue
page_of request items program allows graph goal = record {
  service = request.service;
  kind = request.kind;
  items = items;
  program = program;
  allows = allows;
  graph = graph;
  goal = goal;
  limit = request.limit;
  part = request.part;
}

-- a program is that of a stack
abbrev pub IsProgramOf : List FlatItem → Items → Type 0
IsProgramOf program items = (runs_of program ≡ runs_of_stack items) × (modules_of program ≡ module_count items)

-- the walks of a graph, if there is one, are the paths of a stack that has this program
abbrev pub AreWalks : Option GraphValue → Allowance → List FlatItem → Items → Type 0
AreWalks None allows program items = ⊤
AreWalks (Some graph) allows program items = IsListing allows (modules_of program) (path_through items) (walks graph)

-- a page is listed from the program of its stack, or from a graph whose walks are the paths
abbrev pub IsOfStack : PageValue → Type 0
IsOfStack page = IsProgramOf page.program page.items × AreWalks page.graph page.allows page.program page.items

-- the answer, if these codes are allowed: a fault of the cursor comes last, when the page is listed
abbrev pub IsListedPage : Goal → PageRequest → Items → Allowance → Answer → Type 0
IsListedPage goal request items allows answer =
    (program : List FlatItem) × (same : Allowance) × (graph : Option GraphValue) × Agree (module_count items) same allows
    × IsOfStack (page_of request items program same graph goal) × (answer ≡ Ok (Page (page_of request items program same graph goal)))

-- the answer with the paths that meet a goal: or the run comes to too many places
abbrev pub IsMeetingPage : Goal → PageRequest → Items → Allowance → Answer → Type 0
IsMeetingPage goal request items allows answer =
    (IsTooLarge items allows × (answer ≡ Err faults.TooManyStates)) ⊎ IsListedPage goal request items allows answer

-- the answer with the paths that ask a module, which is past the last of the stack or not
abbrev pub IsAskingPage : Bool → ℕ → PageRequest → Items → Allowance → Answer → Type 0
IsAskingPage true number request items allows answer = answer ≡ Err faults.NoSuchModule
IsAskingPage false number request items allows answer = IsMeetingPage (goals.Asks number) request items allows answer

-- the answer with a filter
abbrev pub IsFilteredPage : PathFilter → PageRequest → Items → Allowance → Answer → Type 0
IsFilteredPage All request items allows answer = IsListedPage goals.Any request items allows answer
IsFilteredPage (Decides decisions) request items allows answer = IsMeetingPage (goals.Decides decisions) request items allows answer
IsFilteredPage (Asks number) request items allows answer = IsAskingPage (nat_lt (module_count items) number) number request items allows answer

abbrev pub IsPageOf : PageRequest → Items → Allowance → Answer → Type 0
IsPageOf request = IsFilteredPage request.filter request

-- THE ANSWER to `paths`: of the known stack, the page, or the first fault
abbrev pub IsPage : PageRequest → Result KnownItems Fault → Answer → Type 0
IsPage request = IsAnswerFrom (IsPageOf request)
