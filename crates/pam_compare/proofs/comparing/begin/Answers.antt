use Rattle.std.proofs.Common.{◌≡◌, ◌≤◌, ◌∙◌, ◌++◌, ◌∷◌, ℕ, zero, suc, List, [], Option, ap, arith, drop, inl, inr, length, refl, subst, sym}
use Rattle.std.proofs.lemmas.List.{length_push}
use Rattle.std.proofs.lemmas.Option.{slice_get_within}
use Rattle.pam_compare.specs.declared.held.HeldAfter.{HeldAfter}
use Rattle.pam_compare.specs.declared.held.HeldAnswer.{HeldAnswer}
use Rattle.pam_compare.specs.declared.nodes.Nodes.{Nodes}
use Rattle.pam_compare.specs.declared.nodes.Way.{Way}
use Rattle.pam_compare.proofs.Stepping.{ordered-first}
use Rattle.pam_compare.specs.declared.situation.Situation.{Situation}
use Rattle.pam_compare.specs.inner.Ways.{AreWalked, HasOneMore, IsWalkTo, IsWayTo}
use Rattle.pam_compare.proofs.Reaching.{way-begun}
use Rattle.pam_compare.proofs.Walking.{walk-begun}
use Rattle.pam_dispatch.specs.Flat.{rest_of, runs_of}
use Rattle.pam_dispatch.specs.Runs.{Runs}
use Rattle.pam_compare.specs.Held.{Holds}
use Rattle.pam_compare.specs.inner.Held.{held_in}
use Rattle.pam_compare.specs.inner.HeldLists.{IsListed}
use Rattle.pam_compare.specs.inner.Nodes.{AreHeldAt, IsMet, list_of}
use Rattle.pam_compare.proofs.Growing.{nothing-at}
use Rattle.pam_compare.proofs.Lists.{listed-none}
use Rattle.pam_compare.proofs.Holding.{holds-equal}
use Rattle.pam_compare.proofs.comparing.begin.Goals as goal

no-end : (start : ℕ) → drop {A = HeldAnswer} start [] ≡ []
no-end zero = refl
no-end (suc start) = refl

-- nothing is held after no answers
none-after : (after : HeldAfter) → after.latest.items ≡ [] → held_in after [] ≡ []
none-after after e = ap (λ (l : List HeldAnswer). l ++ drop after.start []) e ∙ no-end after.start

-- nothing is held where there is no situation before
none-held : (nodes : Nodes) → length nodes.situations.keys ≡ 0 → AreHeldAt nodes 0 []
none-held nodes none =
    subst (λ (o : Option Situation). IsListed nodes.held_lists.links.keys (list_of o) []) (sym (nothing-at nodes.situations.keys 0 none))
    (listed-none nodes.held_lists.links.keys)

-- there is one step at most
one-at-most : (before after : List Way) (way : Way) → length before ≡ 0 → HasOneMore before after way → length after ≤ 1
one-at-most before after way none (inl same) = let e = ap (λ (l : List Way). length l) same in omega (arith, e, none)
one-at-most before after way none (inr more) = let e = ap (λ (l : List Way). length l) more ∙ length_push before way in omega (arith, e, none)

pub returns-clause-nodes : goal.returns-clause-nodes
returns-clause-nodes c =
    let old = c.args.pair.now.old.now in
    let new = c.args.pair.now.new.now in
    c.in_ok-add.ensures.nodes old new [] (c.new-nodes.ensures.nodes old new) (none-held c.new-nodes.result c.new-nodes.ensures.none)
    c.first-old.ensures.place c.first-new.ensures.place

pub returns-clause-begun : goal.returns-clause-begun
unfolding Holds
returns-clause-begun c a low =
    let old = c.args.pair.now.old.now in
    let new = c.args.pair.now.new.now in
    let none = none-after (record { latest = c.new.result; start = 0 }) c.new.ensures.items in
    let met = c.in_ok-add.ensures.met old new [] a (c.new-nodes.ensures.nodes old new) (none-held c.new-nodes.result c.new-nodes.ensures.none)
    c.first-old.ensures.place c.first-new.ensures.place low
    (holds-equal a [] _ (sym none) tt) in
    let start = c.new-nodes.ensures in
    let count = c.in_ok-add.ensures.count (start.ways ∙ sym start.none) in
    let inside = slice_get_within _ met.index met.situation met.is_there in
    let few = one-at-most c.new-nodes.result.ways.items c.add.new.self.ways.items _ start.ways c.in_ok-add.ensures.more in
    let Begun : Runs → Runs → Type 0 = λ l r. (m : IsMet old new c.add.new.self a l r) × (m.index ≡ 0) in
    subst (λ (r : Runs). Begun r (runs_of new)) c.first-old.ensures.whole
    (subst (λ (r : Runs). Begun (rest_of old c.first-old.result) r) c.first-new.ensures.whole (met, omega (arith, inside, count, few)))

pub returns-clause-reached : goal.returns-clause-reached
returns-clause-reached c =
    let old = c.args.pair.now.old.now in
    let new = c.args.pair.now.new.now in
    let names = c.args.pair.now.naming.now.names.items in
    let possible = c.args.pair.now.naming.now.possible.items in
    let step = c.in_ok-add.ensures in
    let start = c.new-nodes.ensures in
    let more = c.add.new.self.ways.items in
    let none = none-after (record { latest = c.new.result; start = 0 }) c.new.ensures.items in
    record {
      count = step.count (start.ways ∙ sym start.none);
      reached = λ k s at. elim (step.added old new [] (start.nodes old new) (none-held c.new-nodes.result start.none)
          c.first-old.ensures.place c.first-new.ensures.place k s at) [
            | inl was ↦ let inside = slice_get_within _ k s was in absurd (omega (arith, inside, start.none))
            | inr n ↦
                let begun = way-begun old new names possible more c.first-old.ensures.rise c.first-new.ensures.rise in
                record {
                  node = n.node;
                  is_at = n.is_at;
                  way = subst (λ (r : Runs). IsWayTo old new names possible more k r (rest_of new n.node.new) n.node.held)
                      (sym (n.left_is ∙ c.first-old.ensures.whole))
                      (subst (λ (r : Runs). IsWayTo old new names possible more k (runs_of old) r n.node.held) (sym (n.right_is ∙ c.first-new.ensures.whole))
                      (subst (λ (l : List HeldAnswer). IsWayTo old new names possible more k (runs_of old) (runs_of new) l) (sym (n.held_is ∙ none))
                      (subst (λ (m : ℕ). IsWayTo old new names possible more m (runs_of old) (runs_of new) []) (sym (n.index ∙ start.none)) begun)));
                }
          ];
    }

pub returns-clause-walked : goal.returns-clause-walked
unfolding AreWalked
returns-clause-walked c k s at =
    let old = c.args.pair.now.old.now in
    let new = c.args.pair.now.new.now in
    let naming = c.args.pair.now.naming.now in
    let start = c.new-nodes.ensures in
    let more = c.add.new.self.ways.items in
    let none = none-after (record { latest = c.new.result; start = 0 }) c.new.ensures.items in
    elim (c.in_ok-add.ensures.added old new [] (start.nodes old new) (none-held c.new-nodes.result start.none)
    c.first-old.ensures.place c.first-new.ensures.place k s at) [
      | inl was ↦ let inside = slice_get_within _ k s was in absurd (omega (arith, inside, start.none))
      | inr n ↦ record {
        node = n.node;
        is_at = n.is_at;
        walk = subst (λ (r : Runs). IsWalkTo old new naming more k r (rest_of new n.node.new) n.node.held) (sym (n.left_is ∙ c.first-old.ensures.whole))
            (subst (λ (r : Runs). IsWalkTo old new naming more k (runs_of old) r n.node.held) (sym (n.right_is ∙ c.first-new.ensures.whole))
            (subst (λ (l : List HeldAnswer). IsWalkTo old new naming more k (runs_of old) (runs_of new) l) (sym (n.held_is ∙ none))
            (subst (λ (m : ℕ). IsWalkTo old new naming more m (runs_of old) (runs_of new) []) (sym (n.index ∙ start.none)) (walk-begun old new naming more))));
      }
    ]

no-items : (xs : List Way) → length xs ≡ 0 → xs ≡ []
no-items [] e = refl
no-items (x ∷ xs) e = absurd (omega (arith, e))

pub returns-clause-ordered : goal.returns-clause-ordered
returns-clause-ordered c =
    ordered-first c.add.new.self.ways.items _ c.new-nodes.result.ways.items (no-items _ c.new-nodes.ensures.ways) c.in_ok-add.ensures.more
