use Rattle.std.proofs.Common.{◌∙◌, [], ap, arith, subst, sym}
use Rattle.pam_dispatch.specs.Flat.{modules_of, runs_of}
use Rattle.pam_dispatch.specs.Runs.{Runs}
use Rattle.pam_graph.specs.declared.graph.TheConstants.{MAX_NODES}
use Rattle.pam_graph.specs.Places.{GoesOnAt}
use Rattle.pam_graph.specs.Reached.{AreAllowed, after_answers}
use Rattle.pam_graph.proofs.Growing.{built-length}
use Rattle.pam_graph.proofs.Placing.{built-at}
use Rattle.pam_paths.specs.Computed.{listing}
use Rattle.pam_paths.specs.Listing.{IsListing}
use Rattle.pam_paths.specs.Paths.{path_of}
use Rattle.pam_paths.proofs.Listings.{listing-is, some_assignment}
use Rattle.pam_paths.proofs.Trees.{listing-tree}
use Rattle.pam_graph.proofs.graph.Graph.of.Goals as goal

pub target_of-requires-clause-draft : goal.target_of-requires-clause-draft
target_of-requires-clause-draft g c = c.in_ok-draft.ensures MAX_NODES (g.K.Knowledge.allows c.args.knowledge.now) c.args.program.now

pub returns-clause-listing : goal.returns-clause-listing
returns-clause-listing g c =
    let allows = g.K.Knowledge.allows c.args.knowledge.now in
    let program = c.args.program.now in
    let n = modules_of program in
    let some = some_assignment allows n
    (λ m first last. g.met.K.Knowledge.lawful c.args.knowledge.now m first (omega (arith, last, c.first-first.ensures.few))) in
    subst (IsListing allows n (path_of (runs_of program)))
    (sym (c.in_ok-start.ensures.continues.walks ∙ ap (listing allows) c.first-first.ensures.whole))
    (listing-is allows n (runs_of program) c.first-first.ensures.rise some.0 some.1)

pub returns-clause-nodes : goal.returns-clause-nodes
returns-clause-nodes g c =
    let allows = g.K.Knowledge.allows c.args.knowledge.now in
    let program = c.args.program.now in
    let some = some_assignment allows (modules_of program)
    (λ m first last. g.met.K.Knowledge.lawful c.args.knowledge.now m first (omega (arith, last, c.first-first.ensures.few))) in (
      c.target_of.new.draft.places,
      c.len-count.ensures.different,
      built-at allows program some.0 some.1 c.target_of.new.draft.nodes.items c.target_of.new.draft.places c.in_ok-start.ensures.draft.built
          c.in_ok-start.ensures.draft.keys,
    )

pub returns-clause-edges : goal.returns-clause-edges
unfolding returns-clause-nodes
returns-clause-edges g c =
    let at = returns-clause-nodes g c in (
      at.0,
      at.1,
      at.2,
      c.in_ok-start.ensures.draft.edges,
      subst (λ (r : Runs). GoesOnAt c.args.program.now c.target_of.new.draft.places r c.in_ok-start.start) c.first-first.ensures.whole
          c.in_ok-start.ensures.continues.leads,
    )

pub returns-clause-few : goal.returns-clause-few
returns-clause-few g c =
    let d = c.in_ok-start.ensures.draft in
    let same = built-length _ c.args.program.now c.target_of.new.draft.nodes.items c.target_of.new.draft.places d.built in
    omega (arith, same, d.fits)

pub returns-clause-stack : goal.returns-clause-stack
returns-clause-stack g c items is = listing-tree _ _ _ items is _ (returns-clause-listing g c)

pub target_of-requires-clause-reached : goal.target_of-requires-clause-reached
unfolding AreAllowed after_answers
target_of-requires-clause-reached g c = ([], tt, c.first-first.ensures.whole)
