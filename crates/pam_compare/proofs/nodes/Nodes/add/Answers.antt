use Rattle.std.proofs.Common.{◌∙◌, ◌++◌, ◌∷◌, [], List, ap, inl, inr, length, subst, sym}
use Rattle.std.specs.Prelude.{slice_get}
use Rattle.pam_compare.specs.declared.nodes.Way.{Way}
use Rattle.pam_compare.specs.inner.Ways.{HasOneMore}
use Rattle.pam_compare.proofs.Growing.{met-added, new-added, nodes-added, nodes-both, situation-keeps}
use Rattle.pam_compare.proofs.nodes.Nodes.add.Goals as goal

pub returns-clause-keeps : goal.returns-clause-keeps
returns-clause-keeps c =
    let added = c.in_ok-add_situation.ensures in
    nodes-both _ _ _ c.in_ok-situation.ensures.keeps (situation-keeps _ _ added.places.0 added.places.1 added.lists added.keeps added.ways)

pub returns-clause-nodes : goal.returns-clause-nodes
returns-clause-nodes c old new held are is here there =
    let stored = c.in_ok-situation.ensures in
    let added = c.in_ok-add_situation.ensures in
    nodes-added old new _ _ _ _ _ _ added.places.0 added.places.1 added.lists (stored.at old new held are is here there)
    (stored.nodes old new held are is here there)
    (λ k s at. elim (added.added k s at) [ inl was ↦ inl was | inr n ↦ inr n.0 ])

pub returns-clause-added : goal.returns-clause-added
returns-clause-added c old new held are is here there k s at =
    let stored = c.in_ok-situation.ensures in
    let added = c.in_ok-add_situation.ensures in
    elim (added.added k s at) [
      | inl was ↦ inl (sym (ap (λ x. slice_get x.keys k) stored.situations) ∙ was)
      | inr n ↦ inr (new-added old new _ _ _ _ _ _ added.places.0 added.places.1 added.lists (stored.at old new held are is here there)
          c.args.self.now c.args.way k s
          n.0 (n.1 ∙ ap (λ x. length x.keys) stored.situations) (n.2 ∙ ap (λ x. x.items ++ c.args.way ∷ []) stored.ways))
    ]

pub returns-clause-met : goal.returns-clause-met
returns-clause-met c old new held a are is here there low holds =
    let stored = c.in_ok-situation.ensures in
    let added = c.in_ok-add_situation.ensures in
    let s = added.found in
    met-added old new _ _ _ _ _ _ added.places.0 added.places.1 added.lists (stored.at old new held are is here there) a _ s.0 s.1 s.2 holds

pub returns-clause-more : goal.returns-clause-more
returns-clause-more c =
    subst (λ (l : List Way). HasOneMore l c.add_situation.new.self.ways.items c.args.way)
    (ap (λ x. x.items) c.in_ok-situation.ensures.ways) c.in_ok-add_situation.ensures.more
