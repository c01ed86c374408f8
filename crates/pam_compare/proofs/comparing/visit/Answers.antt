use Rattle.std.proofs.Common.{◌≡◌, ◌<◌, ◌≤◌, ◌+◌, ◌∙◌, ℕ, zero, suc, Option, Some, None, ap, arith, get_or, inl, inr, length, refl, subst, sym}
use Rattle.std.specs.Prelude.{IfNone, slice_get}
use Rattle.std.proofs.lemmas.Option.{slice_get_within}
use Rattle.pam_compare.specs.declared.change.Change.{Change}
use Rattle.pam_compare.specs.declared.nodes.Nodes.{Nodes}
use Rattle.pam_compare.specs.declared.nodes.Way.{Way}
use Rattle.pam_compare.specs.declared.situation.Situation.{Situation}
use Rattle.pam_compare.specs.inner.HeldLists.{IsListed}
use Rattle.pam_compare.specs.declared.turn.Turn.{Turn}
use Rattle.pam_compare.specs.Names.{by_name}
use Rattle.pam_compare.specs.inner.Nodes.{AreEarlier, IsAt, IsDone, IsNear, IsNoted, list_of, stop_of}
use Rattle.pam_compare.proofs.Growing.{at-kept, found-same, nodes-same, same-some, there-within}
use Rattle.pam_compare.specs.inner.Ways.{AreBelow, AreEnds, AreWalked}
use Rattle.pam_compare.proofs.Reaching.{ends-kept, way-at}
use Rattle.pam_compare.proofs.Stepping.{below-more}
use Rattle.pam_compare.proofs.Walking.{walk-at}
use Rattle.pam_compare.proofs.comparing.visit.Goals as goal

-- each node is near one that has been visited
near-any : (nodes : Nodes) (index met : ℕ) (s : Situation) → length nodes.ways.items ≡ length nodes.situations.keys →
    slice_get nodes.situations.keys met ≡ Some s → ((w : Way) → 0 < met → slice_get nodes.ways.items met ≡ Some w → w.parent ≤ index) →
    IsNear nodes index met
near-any nodes index zero s count there below = inl refl
near-any nodes index (suc met) s count there below =
    let inside = slice_get_within nodes.situations.keys (suc met) s there in
    let way = there-within nodes.ways.items (suc met) (omega (arith, inside, count)) in
    inr (way.0, way.1, below way.0 (omega arith) way.1)

-- what is so where it is nobody's turn
no-turn : (o : Option Turn) (X : Type 0) → ((t : Turn) → o ≡ Some t → ⊥) → IfNone o X → X
no-turn None X none x = x
no-turn (Some t) X none x = absurd (none t refl)

pub returns-in_err-node-clause-found : goal.returns-in_err-node-clause-found
returns-in_err-node-clause-found c = found-same _

pub returns-in_err-expand-clause-found : goal.returns-in_err-expand-clause-found
returns-in_err-expand-clause-found c = found-same _

pub returns-clause-found : goal.returns-clause-found
returns-clause-found c = found-same _

pub returns-in_default-clause-earlier : goal.returns-in_default-clause-earlier
unfolding AreEarlier
returns-in_default-clause-earlier c change k is =
    elim (c.note.ensures.ends change k is) [
      | inl was ↦ let less = c.requires.earlier change k was in omega (arith, less)
      | inr noted ↦ omega (arith, noted.1)
    ]

pub returns-clause-earlier : goal.returns-clause-earlier
unfolding AreEarlier
returns-clause-earlier c change k is = let less = c.requires.earlier change k is in omega (arith, less)

pub turn_at-requires-clause-old : goal.turn_at-requires-clause-old
turn_at-requires-clause-old c = let n = c.in_ok-node.ensures in (c.requires.nodes.of_old.stored _ _ n.2.old).place

pub turn_at-requires-clause-new : goal.turn_at-requires-clause-new
turn_at-requires-clause-new c = let n = c.in_ok-node.ensures in (c.requires.nodes.of_new.stored _ _ n.2.new).place

pub change_at-requires-clause-old : goal.change_at-requires-clause-old
change_at-requires-clause-old c = let n = c.in_ok-node.ensures in (c.requires.nodes.of_old.stored _ _ n.2.old).place

pub change_at-requires-clause-new : goal.change_at-requires-clause-new
change_at-requires-clause-new c = let n = c.in_ok-node.ensures in (c.requires.nodes.of_new.stored _ _ n.2.new).place

pub expand-requires-clause-old : goal.expand-requires-clause-old
expand-requires-clause-old c = let n = c.in_ok-node.ensures in (c.requires.nodes.of_old.stored _ _ n.2.old).place

pub expand-requires-clause-new : goal.expand-requires-clause-new
expand-requires-clause-new c = let n = c.in_ok-node.ensures in (c.requires.nodes.of_new.stored _ _ n.2.new).place

pub returns-in_default-clause-keeps : goal.returns-in_default-clause-keeps
returns-in_default-clause-keeps c = nodes-same _

pub returns-in_default-clause-visited : goal.returns-in_default-clause-visited
unfolding IsDone
returns-in_default-clause-visited c s at =
    let n = c.in_ok-node.ensures in
    let names = c.args.pair.now.naming.now.names.items in
    record {
      node = stop_of c.in_ok-node.node;
      is_at = subst (λ (x : Situation). IsAt c.args.nodes.now x (stop_of c.in_ok-node.node)) (same-some n.0 s (sym n.1 ∙ at)) n.2;
      done = λ a can holds.
          inl (subst (λ (o : Option Change). IsNoted c.note.new.self c.args.index o) (c.change_at.ensures a (by_name names a)) c.note.ensures.noted);
    }

pub returns-clause-visited : goal.returns-clause-visited
unfolding IsDone AreBelow
returns-clause-visited c s at =
    let n = c.in_ok-node.ensures in
    let step = c.in_ok-expand.ensures in
    record {
      node = stop_of c.in_ok-node.node;
      is_at = at-kept _ _ s _ step.keeps (subst (λ (x : Situation). IsAt c.args.nodes.now x (stop_of c.in_ok-node.node)) (same-some n.0 s (sym n.1 ∙ at)) n.2);
      done = λ a can holds.
          let f = step.done a can holds in
          inr (
            f,
            near-any c.expand.new.nodes c.args.index f.2.index f.2.situation step.reached.count f.2.is_there
                (λ w first at. let less = step.ordered.below f.2.index w first at in omega (arith, less)),
          );
    }

pub returns-in_default-clause-ends : goal.returns-in_default-clause-ends
unfolding AreEnds
returns-in_default-clause-ends c change k is =
    let n = c.in_ok-node.ensures in
    elim (c.note.ensures.ends change k is) [
      | inl was ↦ c.requires.ends change k was
      | inr noted ↦ record {
        situation = n.0;
        node = stop_of c.in_ok-node.node;
        is_there = ap (λ (m : ℕ). slice_get c.args.nodes.now.situations.keys m) noted.1 ∙ n.1;
        is_at = n.2;
        old_ends = no-turn c.turn_at.result _ c.in_default.not-Some c.turn_at.ensures.old;
        new_ends = no-turn c.turn_at.result _ c.in_default.not-Some c.turn_at.ensures.new;
        change_is = λ a b. sym (c.change_at.ensures a b) ∙ noted.0;
      }
    ]

pub expand-requires-clause-way : goal.expand-requires-clause-way
expand-requires-clause-way c =
    let n = c.in_ok-node.ensures in
    let naming = c.args.pair.now.naming.now in
    way-at c.args.pair.now.old.now c.args.pair.now.new.now naming.names.items naming.possible.items c.args.nodes.now c.args.index n.0
    (stop_of c.in_ok-node.node) (c.requires.reached.reached c.args.index n.0 n.1) n.2

pub returns-clause-ends : goal.returns-clause-ends
returns-clause-ends c = ends-kept c.args.pair.now.old.now c.args.pair.now.new.now _ _ c.args.found.now c.in_ok-expand.ensures.keeps c.requires.ends

pub expand-requires-clause-held : goal.expand-requires-clause-held
expand-requires-clause-held c =
    let n = c.in_ok-node.ensures in
    subst (λ (o : Option Situation). IsListed c.args.nodes.now.held_lists.links.keys (list_of o) c.in_ok-node.node.held.items) (sym n.1) n.2.held

pub expand-requires-clause-walk : goal.expand-requires-clause-walk
unfolding AreWalked
expand-requires-clause-walk c =
    let n = c.in_ok-node.ensures in
    walk-at c.args.pair.now.old.now c.args.pair.now.new.now c.args.pair.now.naming.now c.args.nodes.now c.args.index n.0 (stop_of c.in_ok-node.node)
    (c.requires.walked c.args.index n.0 n.1) n.2

pub returns-in_default-clause-ordered : goal.returns-in_default-clause-ordered
returns-in_default-clause-ordered c =
    record {
      unique = c.requires.ordered.unique;
      below = below-more c.args.nodes.now.ways.items c.args.index c.requires.ordered.below;
      rising = c.requires.ordered.rising;
    }
