use Rattle.std.proofs.Common.{◌≡◌, ◌+◌, ◌-◌, ◌*◌, ◌≤◌, ◌++◌}
use Rattle.std.specs.List.{flat_map}
use Rattle.std.specs.Prelude.{All}
use Rattle.pam_dispatch.specs.Flat.{modules_of, rest_of}
use Rattle.pam_dispatch.specs.Keys.{DiffersFrom, KeyValue, rest_at}
use Rattle.pam_graph.specs.inner.Building.{IsBefore, IsDraft, IsExtended, modules_left}
use Rattle.pam_graph.specs.Order.{AreAbove, LeastRise, numbers_of}
use Rattle.pam_graph.specs.Places.{IsEdgeAt}
use Rattle.pam_graph.specs.Reached.{node_key}
use Rattle.pam_graph.specs.Walks.{walks_by, walks_of}
use Rattle.pam_paths.specs.Computed.{listing}
use Rattle.pam_paths.specs.Forks.{paths_from}
use Rattle.pam_graph.proofs.building.Builder.+building.Given as goal

abbrev pub decreases-target_of : goal.decreases-target_of
decreases-target_of g l = 2 * modules_left (modules_of l.self.now.program.now) (rest_of l.self.now.program.now l.place.now) + 1

abbrev pub decreases-node_at : goal.decreases-node_at
decreases-node_at g l = 2 * modules_left (modules_of l.self.now.program.now) (rest_of l.self.now.program.now l.place.now)

abbrev pub invariant-node_at-loop-choice : goal.invariant-node_at-loop-choice
invariant-node_at-loop-choice g l =
    let allows = g.K.Knowledge.allows l.self.knowledge.now in
    record {
      bound : l.bound ≤ 31;
      draft : IsDraft l.self.limit allows l.self.program.now l.draft;
      extended : IsExtended l.fn.draft.nodes.items l.draft.nodes.items;
      later : AreAbove (numbers_of l.draft.nodes.items) l.module_number l.edges.items;
      rise : LeastRise 0 l.bound l.edges.items;
      new : DiffersFrom (node_key l.self.program.now l.place) l.draft.places;
      apart : (key : KeyValue) → DiffersFrom key l.fn.draft.places → IsBefore (rest_at l.self.program.now key) (rest_of l.self.program.now l.place)
          → DiffersFrom key l.draft.places;
      walks : flat_map (walks_by (walks_of l.draft.nodes.items) l.module_number) l.edges.items ++ paths_from allows l.self.program.now l.fork l.bound
          ≡ listing allows (rest_of l.self.program.now l.place);
      kept : IsExtended l.fn.draft.places l.draft.places;
      leads : All (IsEdgeAt allows l.self.program.now l.draft.places l.module_number
          (rest_at l.self.program.now (node_key l.self.program.now l.place))) l.edges.items;
    }

abbrev pub decreases-node_at-loop-choice : goal.decreases-node_at-loop-choice
decreases-node_at-loop-choice g l = 31 - l.bound
