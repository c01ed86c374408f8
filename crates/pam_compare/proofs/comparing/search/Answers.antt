use Rattle.std.proofs.Common.{◌≡◌, ◌<◌, ◌∙◌, ℕ, Some, arith, inl, inr, length, subst, sym}
use Rattle.std.specs.Prelude.{slice_get}
use Rattle.std.proofs.lemmas.Bool.{cases_lt}
use Rattle.std.proofs.lemmas.Option.{slice_get_within}
use Rattle.pam_compare.specs.inner.Nodes.{AreEarlier, IsVisited}
use Rattle.pam_compare.specs.inner.Turn.{first_of}
use Rattle.pam_compare.specs.inner.Ways.{AreEnds}
use Rattle.pam_compare.proofs.Growing.{first-kept, kept-back, nothing, visited-kept}
use Rattle.pam_compare.proofs.Meeting.{all-searched}
use Rattle.pam_compare.proofs.comparing.search.Goals as goal

pub loop-index-init : goal.loop-index-init
unfolding AreEarlier AreEnds
loop-index-init c = record {
  nodes = c.in_ok-nodes.ensures.nodes;
  reached = c.in_ok-nodes.ensures.reached;
  walked = c.in_ok-nodes.ensures.walked;
  ordered = c.in_ok-nodes.ensures.ordered;
  ends = λ change k is. absurd (nothing k (sym (c.new-found.ensures change) ∙ is));
  begun = c.in_ok-nodes.ensures.begun;
  visited = λ k s below. absurd (omega (arith, below));
  earlier = λ change k is. absurd (nothing k (sym (c.new-found.ensures change) ∙ is));
}

pub returns-then-index-len-clause-all : goal.returns-then-index-len-clause-all
returns-then-index-len-clause-all c few =
    let inv = c.loop-index.invariant in
    all-searched _ _ _ _ _ c.loop-index.nodes c.loop-index.found
    (λ k s at. let inside = slice_get_within _ k s at in inv.visited k s (omega (arith, inside, c.len.ensures.len, c.if-index-len.true)) at)
    (λ k s at. let way = (inv.reached.reached k s at).way in (way.trail, way.is_trail)) inv.ordered.rising inv.begun

pub loop-index-preserved : goal.loop-index-preserved
loop-index-preserved c =
    let inv = c.loop-index.invariant in
    let step = c.in_ok-visit.ensures in
    let old = c.args.pair.now.old.now in
    let new = c.args.pair.now.new.now in
    let before = c.loop-index.nodes.situations.keys in
    record {
      nodes = step.nodes;
      reached = step.reached;
      walked = step.walked;
      ordered = step.ordered;
      ends = step.ends;
      begun = λ a low. first-kept old new _ _ a _ _ step.keeps (inv.begun a low);
      earlier = step.earlier;
      visited = λ k s below at.
          let inside : k < length before = omega (arith, c.len.ensures.len, c.if-index-len.false, below) in
          let was = kept-back before c.visit.new.nodes.situations.keys k s step.keeps.situations inside at in
          elim (cases_lt k c.loop-index.index) [
            | inl earlier ↦ visited-kept old new _ _ _ _ _ _ _ _ s step.keeps step.found (inv.visited k s earlier was)
            | inr most ↦
                let same : k ≡ c.loop-index.index = omega arith in
                let naming = c.args.pair.now.naming.now in
                subst (λ (n : ℕ). IsVisited old new naming.names.items (first_of naming.ranks) naming.possible.items c.visit.new.nodes c.visit.new.found n s)
                (sym same) (step.visited s (subst (λ (n : ℕ). slice_get before n ≡ Some s) same was))
          ];
    }

pub returns-then-len-limit-clause-all : goal.returns-then-len-limit-clause-all
returns-then-len-limit-clause-all c few = absurd (omega (arith, few, c.len-in-loop-index.ensures.len, c.if-len-limit.true))

pub returns-clause-all : goal.returns-clause-all
returns-clause-all c few =
    let inv = c.loop-index.invariant in
    all-searched _ _ _ _ _ c.loop-index.nodes c.loop-index.found
    (λ k s at. let inside = slice_get_within _ k s at in inv.visited k s (omega (arith, inside, few, c.loop-index-test.false)) at)
    (λ k s at. let way = (inv.reached.reached k s at).way in (way.trail, way.is_trail)) inv.ordered.rising inv.begun
