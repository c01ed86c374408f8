use Rattle.std.proofs.Common.{◌≡◌, ◌<◌, ℕ, Some}
use Rattle.std.specs.Prelude.{slice_get}
use Rattle.pam_compare.specs.declared.situation.Situation.{Situation}
use Rattle.pam_compare.specs.inner.Nodes.{AreEarlier, AreNodes, IsBegun, IsVisited}
use Rattle.pam_compare.specs.inner.Turn.{first_of}
use Rattle.pam_compare.specs.inner.Ways.{AreEnds, AreOrdered, AreReached, AreWalked}
use Rattle.pam_compare.proofs.comparing.search.Given as goal

abbrev pub invariant-loop-index : goal.invariant-loop-index
invariant-loop-index l =
    let old = l.pair.old.now in
    let new = l.pair.new.now in
    let naming = l.pair.naming.now in
    record {
      nodes : AreNodes old new l.nodes;
      reached : AreReached old new naming.names.items naming.possible.items l.nodes;
      ordered : AreOrdered l.nodes.ways.items l.index;
      walked : AreWalked old new naming l.nodes;
      ends : AreEnds old new l.nodes l.found;
      begun : IsBegun old new l.nodes;
      visited : (k : ℕ) (s : Situation) → k < l.index → slice_get l.nodes.situations.keys k ≡ Some s →
          IsVisited old new naming.names.items (first_of naming.ranks) naming.possible.items l.nodes l.found k s;
      earlier : AreEarlier l.found l.index;
    }
