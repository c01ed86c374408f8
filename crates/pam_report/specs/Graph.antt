-- The answer to `graph`: the graph of all runs of a stack (pam.conf(5), DESCRIPTION).
use Rattle.std.specs.Prelude.{◌≡◌, ◌⊎◌, ℕ, nat_lt, Bool, false, if◌then◌else◌, length, List, Result, Ok, Err}
use Rattle.pam_conf.specs.Stack.{Items, module_count}
use Rattle.pam_conf.specs.declared.rule.Kind.{Kind}
use Rattle.pam_dispatch.specs.Flat.{runs_of}
use Rattle.pam_dispatch.specs.Tree.{runs_of_stack}
use Rattle.pam_dispatch.specs.declared.flat_item.FlatItem.{FlatItem}
use Rattle.pam_graph.specs.Places.{AreEdgesOf}
use Rattle.pam_graph.specs.Walks.{GraphValue, walks}
use Rattle.pam_facts.specs.known.Knowledge.{Agree}
use Rattle.pam_paths.specs.Listing.{Allowance, IsListing}
use Rattle.pam_paths.specs.Paths.{path_through}
use Rattle.pam_words.specs.declared.wanted.GraphFormat.{GraphFormat}
use Rattle.pam_words.specs.declared.wanted.GraphFormat.TheVariants.{Dot, Mermaid, Svg}
use Rattle.pam_report.specs.KnownStack.{IsAnswerFrom, KnownItems}
use Rattle.pam_report.specs.Reply.{Answer, Drawing}
use Rattle.pam_report.specs.TooLarge.{IsTooLarge}
use Rattle.pam_report.specs.declared.fault.Fault.{Fault}
use Rattle.pam_report.specs.declared.report.graph.TheConstants.{MAX_PICTURE_NODES}
use Rattle.pam_report.specs.declared.fault.Fault.TheVariants as faults

-- the nodes of a graph are at places of their own, to which runs of a stack come if modules return codes that are allowed,
-- with their modules and states, and its edges lead where the runs go on after these codes
abbrev pub AreEdgesOfStack : Items → Allowance → GraphValue → Type 0
AreEdgesOfStack items allows graph =
    (program : List FlatItem) × (other : Allowance) × (runs_of program ≡ runs_of_stack items) × Agree (module_count items) other allows
    × AreEdgesOf other program graph

-- A GRAPH of the runs of a stack, if modules return codes that are allowed: its walks are the paths, in their order
pub record IsGraphOf (items : Items) (allows : Allowance) (graph : GraphValue) : Type 0 where
  pub listing : IsListing allows (module_count items) (path_through items) (walks graph)
  pub edges : AreEdgesOfStack items allows graph

-- whether a picture of this number of nodes could not be read
abbrev pub has_too_many : GraphFormat → GraphValue → Bool
has_too_many Dot graph = false
has_too_many Mermaid graph = false
has_too_many Svg graph = nat_lt MAX_PICTURE_NODES (length graph.nodes)

-- the graph in a format, or that it has too many nodes for it
abbrev pub drawn_in : GraphFormat → List ℕ → Kind → Items → GraphValue → Answer
drawn_in format service kind items graph =
    if has_too_many format graph then Err faults.TooManyStates
    else Ok (Drawing record { service = service; kind = kind; items = items; format = format; graph = graph })

-- the answer, if these codes are allowed: the graph, and the format in which it is to be drawn; or that the run comes to too
-- many places
abbrev pub IsGraphReplyOf : GraphFormat → List ℕ → Kind → Items → Allowance → Answer → Type 0
IsGraphReplyOf format service kind items allows answer =
    (IsTooLarge items allows × (answer ≡ Err faults.TooManyStates))
    ⊎ ((graph : GraphValue) × IsGraphOf items allows graph
    × (answer ≡ drawn_in format service kind items graph))

-- THE ANSWER to `graph`: of the known stack, the graph, or the first fault
abbrev pub IsGraphReply : GraphFormat → List ℕ → Kind → Result KnownItems Fault → Answer → Type 0
IsGraphReply format service kind = IsAnswerFrom (IsGraphReplyOf format service kind)
