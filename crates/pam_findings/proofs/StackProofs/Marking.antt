-- Marks of the modules that the nodes of a graph ask.
use Rattle.std.proofs.Common.{◌≡◌, ℕ, Bool, true, false, List, sym, ◌∙◌, subst}
use Rattle.std.proofs.lemmas.Bool.{false≢true}
use Rattle.pam_conf.specs.Stack.{Items, module_count}
use Rattle.pam_dispatch.specs.declared.flat_item.FlatItem.{FlatItem}
use Rattle.pam_dispatch.specs.Flat.{modules_of, runs_of}
use Rattle.pam_dispatch.specs.Runs.{AsksRise}
use Rattle.pam_graph.specs.declared.node.Node.{Node}
use Rattle.pam_graph.specs.declared.node.Target.{Target}
use Rattle.pam_graph.specs.Places.{AreNodesOf}
use Rattle.pam_graph.specs.Walks.{walks_of, walks_to}
use Rattle.pam_paths.specs.Listing.{Allowance, IsLawful, IsListing}
use Rattle.pam_paths.specs.Paths.{path_through}
use Rattle.pam_paths.proofs.Listings.{some_assignment}
use Rattle.pam_findings.specs.stack.inner.Marks.{IsProgramOf, SaysAsked, has_number}
use Rattle.pam_findings.proofs.StackProofs.Reaching.{node-asked}
use Rattle.pam_findings.proofs.StackProofs.Walking.{asked-has}

-- a listing of a program is one of its stack
pub listing-of : (allows : Allowance) (program : List FlatItem) (items : Items) (of : IsProgramOf program items) (nodes : List Node) (start : Target) →
    IsListing allows (modules_of program) (path_through items) (walks_to (walks_of nodes) start) →
    IsListing allows (module_count items) (path_through items) (walks_to (walks_of nodes) start)
listing-of allows program items of nodes start is =
    subst (λ (n : ℕ). IsListing allows n (path_through items) (walks_to (walks_of nodes) start)) of.modules is

module _ (allows : Allowance) (program : List FlatItem) (items : Items) (of : IsProgramOf program items)
    (rise : AsksRise 0 (modules_of program) (runs_of program)) (lawful : IsLawful allows (modules_of program)) where
  pub says-asked : (nodes : List Node) (start : Target) (number : ℕ) (t : Bool) → AreNodesOf allows program nodes →
      IsListing allows (modules_of program) (path_through items) (walks_to (walks_of nodes) start) → t ≡ has_number number nodes →
      SaysAsked allows items number t
  says-asked nodes start number true at is e =
      let some = some_assignment allows (modules_of program) lawful in
      λ code small may. node-asked allows program items of rise some.0 some.1 at.0 nodes (walks_of nodes) number code at.2 (sym e) small may
  says-asked nodes start number false at is e =
      λ a. false≢true (e ∙ asked-has allows items nodes start number (listing-of allows program items of nodes start is) a)
