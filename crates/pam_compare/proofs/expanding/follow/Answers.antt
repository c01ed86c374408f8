use Rattle.std.proofs.Common.{◌≡◌, ◌∙◌, ◌∷◌, ◌++◌, [], ℕ, List, Option, Some, ap, arith, inl, inr, refl, subst, sym, true}
use Rattle.std.specs.Prelude.{slice_get}
use Rattle.pam_codes.specs.Set.{is_in}
use Rattle.pam_dispatch.specs.Flat.{modules_of, rest_of}
use Rattle.pam_dispatch.specs.Runs.{Runs, asked_module}
use Rattle.pam_compare.specs.declared.held.HeldAnswer.{HeldAnswer}
use Rattle.pam_compare.specs.declared.nodes.Way.{Way}
use Rattle.pam_compare.specs.Held.{Holds}
use Rattle.pam_compare.specs.inner.Held.{held_in}
use Rattle.pam_compare.specs.inner.Nodes.{IsMet}
use Rattle.pam_compare.specs.inner.Held.{AreAhead, IsNumber}
use Rattle.pam_compare.specs.inner.Turn.{StaysThere}
use Rattle.pam_compare.specs.inner.Trails.{IsHeldAfter}
use Rattle.pam_dispatch.proofs.Asking.{AsksRise-step}
use Rattle.pam_compare.specs.Walks.{held_after, new_after, old_after, turn_name}
use Rattle.pam_compare.specs.inner.Ways.{AreWalked, IsWalkTo, IsWayTo}
use Rattle.pam_compare.proofs.Growing.{at-end}
use Rattle.pam_compare.proofs.Reaching.{new-rises, reached-kept, way-longer}
use Rattle.pam_compare.proofs.Stepping.{unique-more}
use Rattle.pam_compare.proofs.Walking.{stays-there, walk-longer, walked-kept}
use Rattle.pam_compare.proofs.expanding.follow.Goals as goal

pub returns-clause-reached : goal.returns-clause-reached
returns-clause-reached c =
    let old = c.args.pair.now.old.now in
    let new = c.args.pair.now.new.now in
    let naming = c.args.pair.now.naming.now in
    let names = naming.names.items in
    let possible = naming.possible.items in
    let node = c.args.fork.now.node.now in
    let turn = c.args.fork.now.turn in
    let left = rest_of old node.old in
    let right = rest_of new node.new in
    let way = c.args.way in
    let after = held_in c.in_ok-after.after node.held.items in
    let answer : HeldAnswer = record { name = way.name; codes = way.class } in
    let ways = c.args.nodes.now.ways.items in
    let more = c.add.new.self.ways.items in
    let step = c.in_ok-add.ensures in
    let places = c.places_after.ensures in
    let Told : ℕ → List HeldAnswer → Option ℕ → Option ℕ → Type 0 = λ count held x y.
    IsHeldAfter possible names count (modules_of new) held (held_in c.in_ok-after.after held) answer x y in
    let told =
    subst (λ (x : Option ℕ). Told (modules_of old) node.held.items (asked_module (old_after turn left way.code)) x)
    (c.module-2.ensures new places.new ∙ ap asked_module places.right)
    (subst (λ (x : Option ℕ). Told (modules_of old) node.held.items x c.module-2.result) (c.module.ensures old places.old ∙ ap asked_module places.left)
    (subst (λ (l : List HeldAnswer). Told (modules_of old) l c.module.result c.module-2.result) c.deref.ensures.value
    (subst (λ (n : ℕ). Told n c.deref.result.now c.module.result c.module-2.result) c.requires.naming.old_modules
    (c.in_ok-after.ensures.held (modules_of new) c.requires.naming.names c.requires.naming.last)))) in
    record {
      count = step.count c.requires.reached.count;
      reached = λ k s at. elim (step.added old new node.held.items c.requires.nodes c.requires.held places.old places.new k s at) [
        | inl was ↦ reached-kept old new names possible _ _ k s step.keeps (c.requires.reached.reached k s was)
        | inr n ↦
            let there : slice_get more k ≡ Some way =
            ap (λ (l : List Way). slice_get l k) n.ways ∙ ap (λ (m : ℕ). slice_get (ways ++ way ∷ []) m) (n.index ∙ sym c.requires.reached.count)
            ∙ at-end ways way in
            let longer = way-longer old new names possible ways more left right node.held.items after turn way k answer c.requires.way c.requires.step
            c.requires.naming.low c.requires.naming.possible step.keeps.ways there (omega (arith, n.index, c.requires.within)) refl refl told
            (λ a h member. subst (λ (l : List HeldAnswer). Holds a (held_in c.in_ok-after.after l)) c.deref.ensures.value
            (c.in_ok-after.ensures.holds a (subst (Holds a) (sym c.deref.ensures.value) h) member)) in
            record {
              node = n.node;
              is_at = n.is_at;
              way = subst (λ (r : Runs). IsWayTo old new names possible more k r (rest_of new n.node.new) n.node.held) (sym (n.left_is ∙ places.left))
                  (subst (λ (r : Runs). IsWayTo old new names possible more k (old_after turn left way.code) r n.node.held)
                  (sym (n.right_is ∙ places.right))
                  (subst (λ (l : List HeldAnswer). IsWayTo old new names possible more k (old_after turn left way.code) (new_after turn right way.code) l)
                  (sym n.held_is) longer));
            }
      ];
    }

pub returns-clause-met : goal.returns-clause-met
returns-clause-met c a low holds member =
    let old = c.args.pair.now.old.now in
    let new = c.args.pair.now.new.now in
    let code = a (turn_name c.args.pair.now.naming.now.names.items c.args.fork.now.turn) in
    let alike = c.requires.step.alike code member in
    let named = subst (λ (n : ℕ). is_in (a n) c.args.way.class ≡ true) (sym c.requires.step.name) member in
    let held = subst (λ (l : List HeldAnswer). Holds a (held_in c.in_ok-after.after l)) c.deref.ensures.value
    (c.in_ok-after.ensures.holds a (subst (Holds a) (sym c.deref.ensures.value) holds) named) in
    let met = c.in_ok-add.ensures.met old new _ a c.requires.nodes c.requires.held c.places_after.ensures.old c.places_after.ensures.new low held in
    subst (λ (r : Runs). IsMet old new c.add.new.self a r (new_after c.args.fork.now.turn (rest_of new c.args.fork.now.node.now.new) code))
    (c.places_after.ensures.left ∙ alike.0)
    (subst (λ (r : Runs). IsMet old new c.add.new.self a (rest_of old c.places_after.result.0) r) (c.places_after.ensures.right ∙ alike.1) met)

pub returns-clause-walked : goal.returns-clause-walked
unfolding AreWalked
returns-clause-walked c k s at =
    let pair = c.args.pair.now in
    let old = pair.old.now in
    let new = pair.new.now in
    let naming = pair.naming.now in
    let names = naming.names.items in
    let fork = c.args.fork.now in
    let node = fork.node.now in
    let turn = fork.turn in
    let left = rest_of old node.old in
    let right = rest_of new node.new in
    let way = c.args.way in
    let after = held_in c.in_ok-after.after node.held.items in
    let more = c.add.new.self.ways.items in
    let ways = c.args.nodes.now.ways.items in
    let step = c.in_ok-add.ensures in
    let places = c.places_after.ensures in
    let way_to = c.requires.way in
    let next_old : c.module.result ≡ asked_module (old_after turn left way.code) = c.module.ensures old places.old ∙ ap asked_module places.left in
    let next_new : c.module-2.result ≡ asked_module (new_after turn right way.code) = c.module-2.ensures new places.new ∙ ap asked_module places.right in
    let rises = new-rises old new names left right way_to.old_low way_to.new_low way_to.old_rise way_to.new_rise turn way.code c.requires.step.turn_is in
    let positive : IsNumber c.module-2.result =
    λ i asked.
    let first = (AsksRise-step rises.0 (modules_of new) (new_after turn right way.code) i rises.1 (sym next_new ∙ asked)).0 in omega (arith, first) in
    let deref = c.deref.ensures.value in
    let count = c.requires.naming.old_modules in
    let Ahead : ℕ → List HeldAnswer → Type 0 = λ n l. AreAhead names n (modules_of new) l (asked_module left) (asked_module right) in
    let told = c.in_ok-after.ensures.exact (modules_of new) (asked_module left) (asked_module right)
    (record { names = c.requires.naming.names; last = c.requires.naming.last; found = c.requires.naming.found }) positive
    (record {
      turn_is = c.requires.step.turn_is;
      name_is = c.requires.step.name;
      stays = subst (λ (x : Option ℕ). StaysThere turn (asked_module left) (asked_module right) x c.module-2.result) (sym next_old)
          (subst (λ (x : Option ℕ). StaysThere turn (asked_module left) (asked_module right) (asked_module (old_after turn left way.code)) x) (sym next_new)
          (stays-there turn left right way.code));
      ahead = subst (λ (l : List HeldAnswer). Ahead naming.old_modules l) (sym deref)
          (subst (λ (n : ℕ). Ahead n node.held.items) (sym count) c.requires.walk.ahead);
    }) in
    let Held : ℕ → List HeldAnswer → ℕ → Option ℕ → Option ℕ → List HeldAnswer =
    λ count l name x y. held_after names count (modules_of new) naming.possible.items l (record { name = name; codes = way.class }) x y in
    let x = asked_module (old_after turn left way.code) in
    let y = asked_module (new_after turn right way.code) in
    let held_is : after ≡ Held (modules_of old) node.held.items way.name x y =
    ap (held_in c.in_ok-after.after) (sym deref) ∙ told
    ∙ ap (λ (n : ℕ). Held n c.deref.result.now way.name c.module.result c.module-2.result) count
    ∙ ap (λ (l : List HeldAnswer). Held (modules_of old) l way.name c.module.result c.module-2.result) deref
    ∙ ap (λ (o : Option ℕ). Held (modules_of old) node.held.items way.name o c.module-2.result) next_old
    ∙ ap (λ (o : Option ℕ). Held (modules_of old) node.held.items way.name x o) next_new in
    elim (step.added old new node.held.items c.requires.nodes c.requires.held places.old places.new k s at) [
      | inl was ↦ walked-kept old new naming _ _ k s step.keeps (c.requires.walked k s was)
      | inr n ↦
          let there : slice_get more k ≡ Some way =
          ap (λ (l : List Way). slice_get l k) n.ways ∙ ap (λ (m : ℕ). slice_get (ways ++ way ∷ []) m) (n.index ∙ sym c.requires.reached.count)
          ∙ at-end ways way in
          let longer = walk-longer old new naming ways more left right node.held.items after turn way k c.requires.walk c.requires.order c.requires.class
          c.requires.step.name step.keeps.ways there (omega (arith, n.index, c.requires.within)) held_is in
          record {
            node = n.node;
            is_at = n.is_at;
            walk = subst (λ (r : Runs). IsWalkTo old new naming more k r (rest_of new n.node.new) n.node.held) (sym (n.left_is ∙ places.left))
                (subst (λ (r : Runs). IsWalkTo old new naming more k (old_after turn left way.code) r n.node.held) (sym (n.right_is ∙ places.right))
                (subst (λ (l : List HeldAnswer). IsWalkTo old new naming more k (old_after turn left way.code) (new_after turn right way.code) l)
                (sym n.held_is) longer));
          }
    ]

pub returns-clause-nodes : goal.returns-clause-nodes
returns-clause-nodes c =
    c.in_ok-add.ensures.nodes c.args.pair.now.old.now c.args.pair.now.new.now c.args.fork.now.node.now.held.items c.requires.nodes c.requires.held
    c.places_after.ensures.old c.places_after.ensures.new

pub returns-clause-unique : goal.returns-clause-unique
returns-clause-unique c =
    unique-more c.args.nodes.now.ways.items c.add.new.self.ways.items c.args.way c.in_ok-add.ensures.more c.requires.unique c.requires.fresh
