use Rattle.std.proofs.Common.{◌≡◌, ◌<◌, ◌++◌, ◌∷◌, ◌∙◌, [], ℕ, List, Some, ap, append-nil, arith, refl, rules, subst, sym, true}
use Rattle.std.specs.List.{flat_map}
use Rattle.std.specs.Prelude.{All, IsSome}
use Rattle.std.proofs.lemmas.List.Elements.{All-nil}
use Rattle.pam_dispatch.specs.declared.place.Place.{Place}
use Rattle.pam_dispatch.specs.Flat.{modules_of, rest_of}
use Rattle.pam_dispatch.specs.Keys.{rest_at}
use Rattle.pam_dispatch.specs.Runs.{AsksRise, after_answer, asked_module}
use Rattle.pam_graph.specs.declared.building.Draft.{Draft}
use Rattle.pam_graph.specs.declared.node.Edge.{Edge}
use Rattle.pam_graph.specs.declared.node.Node.{Node}
use Rattle.pam_graph.specs.inner.Building.{IsDraft, modules_left}
use Rattle.pam_graph.specs.inner.Caches.{AreCachesFor}
use Rattle.pam_graph.specs.Order.{AreAbove, IsNode, LeastRise, numbers_of}
use Rattle.pam_graph.specs.Places.{IsEdgeAt}
use Rattle.pam_graph.specs.Reached.{node_key}
use Rattle.pam_graph.specs.Walks.{walks_by, walks_of}
use Rattle.pam_graph.proofs.Drafts.{added-continued, added-draft}
use Rattle.pam_graph.proofs.Growing.{AreAbove-push, LeastRise-more, LeastRise-push, above-extended}
use Rattle.pam_graph.proofs.Growing.{added-above, added-built, added-extended, added-walks, built-found}
use Rattle.pam_graph.proofs.Growing.{built-length, extended-trans, found-above, left-at, left-fewer, listing-end, node-for, walks-all, walks-choice}
use Rattle.pam_graph.proofs.Leading.{added-edges, added-goes-on, edges-choice}
use Rattle.pam_graph.proofs.Reaching.{added-apart, added-keys, added-reason, added-rests, before-later, before-trans}
use Rattle.pam_graph.proofs.Reaching.{get-at, key-apart, key-reached, reached-on}
use Rattle.pam_graph.proofs.Rests.{asked-equal, before-equal, listing-equal, rise-equal, state-equal}
use Rattle.pam_paths.specs.Forks.{paths_from}
use Rattle.pam_paths.proofs.FrameLists.{AsksRise-lower, rise_after}
use Rattle.pam_graph.proofs.building.Builder.+building.Goals as goal

pub target_of-returns-in_default-clause-continues : goal.target_of-returns-in_default-clause-continues
target_of-returns-in_default-clause-continues g t c =
    let program = c.args.self.now.program.now in
    record {
      extended = ([], sym (append-nil _));
      apart = λ key h before. h;
      above = λ low rise. tt;
      walks = listing-end _ (rest_of program c.args.place.now) c.code.result
          (sym (c.module.ensures program c.requires.place) ∙ c.in_default.is) (c.code.ensures ∙ c.decision.ensures);
      kept = ([], sym (append-nil _));
      leads = (sym (c.module.ensures program c.requires.place) ∙ c.in_default.is, c.code.ensures ∙ c.decision.ensures);
    }

pub target_of-returns-in-Some-find-clause-draft : goal.target_of-returns-in-Some-find-clause-draft
target_of-returns-in-Some-find-clause-draft g t c =
    let d = c.requires.draft in
    record { built = d.built; cached = d.cached; keys = d.keys; fits = d.fits; edges = d.edges }

pub target_of-returns-in-Some-find-clause-continues : goal.target_of-returns-in-Some-find-clause-continues
target_of-returns-in-Some-find-clause-continues g t c =
    let program = c.args.self.now.program.now in
    let nodes = c.args.draft.now.nodes.items in
    let places = c.args.draft.now.places in
    let asked = sym (c.module.ensures program c.requires.place) ∙ c.in-Some.is in
    let key = node_key program c.args.place.now in
    let k = get-at places c.in-Some-find.index key c.in-Some-find.ensures.found in
    let same = c.in-Some-find.ensures.rests in
    let built = c.requires.draft.built in
    record {
      extended = ([], sym (append-nil _));
      apart = λ key h before. h;
      above = λ low rise. found-above _ program nodes places c.in-Some-find.index low (modules_of program) c.in-Some.module_number
          key (rest_at program key) built k.0 (ap (rest_at program) k.1) (asked-equal _ _ same ∙ asked) (rise-equal low (modules_of program) _ _ same rise);
      walks = built-found _ program nodes places c.in-Some-find.index key (rest_at program key) built k.0 (ap (rest_at program) k.1)
          ∙ listing-equal _ _ _ same;
      kept = ([], sym (append-nil _));
      leads = (key, c.in-Some-find.ensures.found, same);
    }

pub target_of-node_at-requires : goal.target_of-node_at-requires
target_of-node_at-requires g t c κs within =
    let d = c.requires.draft in
    let now = c.args.draft.now in
    let found : Draft = record { nodes = now.nodes; places = now.places; caches = now.caches; last_nodes = c.find.new.last_nodes } in
    let draft : IsDraft c.args.self.now.limit (g.K.Knowledge.allows c.args.self.now.knowledge.now) c.args.self.now.program.now found =
    record { built = d.built; cached = d.cached; keys = d.keys; fits = d.fits; edges = d.edges } in
    let asking : IsSome (asked_module (rest_of c.args.self.now.program.now c.args.place.now)) =
    subst IsSome (sym (sym (c.module.ensures c.args.self.now.program.now c.requires.place) ∙ c.in-Some.is)) refl in
    let rests = c.in_default-find.ensures.rests in
    let new = c.in_default-find.ensures.none in
    let k = c.decreases in
    search rules

pub node_at-loop-choice-init : goal.node_at-loop-choice-init
unfolding AreAbove LeastRise
node_at-loop-choice-init g t c =
    let allows = g.K.Knowledge.allows c.args.self.now.knowledge.now in
    let program = c.args.self.now.program.now in
    let nodes = c.args.draft.now.nodes.items in
    let key = node_key program c.args.place.now in
    let d = c.requires.draft in
    record {
      bound = omega arith;
      draft = record { built = d.built; cached = c.fork_at-fork.ensures.caches; keys = d.keys; fits = d.fits; edges = d.edges };
      extended = ([], sym (append-nil _));
      later = subst (AreAbove (numbers_of nodes) c.in-Some.module_number) (sym c.in_ok-edges.ensures.items) tt;
      rise = subst (LeastRise 0 0) (sym c.in_ok-edges.ensures.items) (omega arith);
      new = c.requires.new;
      apart = λ key h before. h;
      walks = ap (λ (x : List Edge). flat_map (walks_by (walks_of nodes) c.in-Some.module_number) x
          ++ paths_from allows c.args.self.now.program.now c.fork_at-fork.result 0) c.in_ok-edges.ensures.items ∙ c.fork_at-fork.ensures.paths;
      kept = ([], sym (append-nil _));
      leads = subst (All (IsEdgeAt allows program c.args.draft.now.places c.in-Some.module_number (rest_at program key)))
          (sym c.in_ok-edges.ensures.items) (All-nil _);
    }

pub node_at-target_of-requires : goal.node_at-target_of-requires
node_at-target_of-requires g t c κs within =
    let allows = g.K.Knowledge.allows c.args.self.now.knowledge.now in
    let program = c.args.self.now.program.now in
    let n = modules_of program in
    let m = c.in-Some.module_number in
    let after = rest_of program c.in-Some-choice.choice.place in
    let is = c.in-Some-choice.ensures.choice allows c.fork_at-fork.ensures.fork in
    let asked : asked_module (rest_of program c.args.place.now) ≡ Some m = sym (c.in-Some.ensures program c.requires.place) in
    let k = rise_after 0 n m 0 _ c.requires.rise asked in
    let later : AsksRise m n after = subst (λ (x : ℕ). AsksRise x n after) c.fork_at-fork.ensures.number is.rise in
    let rise : AsksRise 0 n after = AsksRise-lower 0 m n after (omega arith) later in
    let few = left-fewer m n after later k.1 in
    let here = left-at m n (rest_of program c.args.place.now) asked in
    let smaller : modules_left n after < modules_left n (rest_of program c.args.place.now) = omega (arith, few, here) in
    let place = is.place in
    let reached = reached-on allows program m is.code c.args.place.now c.in-Some-choice.choice.place c.requires.reached asked is.is_code
    (subst (λ (x : ℕ). allows x is.code ≡ true) c.fork_at-fork.ensures.number is.allowed)
    (is.rest ∙ ap (λ (p : Place). after_answer (rest_of program p) is.code) c.fork_at-fork.ensures.place) in
    let draft = c.loop-choice.invariant.draft in
    let d = c.decreases in
    search rules

pub node_at-loop-choice-preserved : goal.node_at-loop-choice-preserved
node_at-loop-choice-preserved g t c =
    let allows = g.K.Knowledge.allows c.args.self.now.knowledge.now in
    let program = c.args.self.now.program.now in
    let n = modules_of program in
    let m = c.in-Some.module_number in
    let old = c.loop-choice.draft.nodes.items in
    let new = c.target_of.new.draft.nodes.items in
    let places = c.target_of.new.draft.places in
    let key = node_key program c.args.place.now in
    let edges = c.loop-choice.edges.items in
    let choice = c.in-Some-choice.choice in
    let i = c.loop-choice.invariant in
    let e = c.in_ok-target.ensures.continues in
    let pushed = c.in_ok-push.ensures.items in
    let low = c.in-Some-choice.ensures.least in
    let edge : Edge = record { class = choice.class; target = c.in_ok-target.target } in
    let asked : asked_module (rest_of program c.args.place.now) ≡ Some m = sym (c.in-Some.ensures program c.requires.place) in
    let is = c.in-Some-choice.ensures.choice allows c.fork_at-fork.ensures.fork in
    let later : AsksRise m n (rest_of program choice.place) =
    subst (λ (x : ℕ). AsksRise x n (rest_of program choice.place)) c.fork_at-fork.ensures.number is.rise in
    record {
      bound = low.2;
      draft = c.in_ok-target.ensures.draft;
      extended = extended-trans c.args.draft.now.nodes.items old new i.extended e.extended;
      later = subst (AreAbove (numbers_of new) m) (sym pushed)
          (AreAbove-push (numbers_of new) m edges edge (above-extended old new m edges e.extended i.later) (e.above m later));
      rise = subst (LeastRise 0 choice.next) (sym pushed)
          (subst (λ (h : ℕ). LeastRise 0 h (edges ++ edge ∷ [])) (sym low.1) (LeastRise-push 0 c.loop-choice.bound edges edge i.rise low.0));
      new = e.apart (node_key program c.args.place.now) i.new
          (before-later m n _ _ (asked-equal _ _ c.requires.rests ∙ asked) later);
      apart = λ key h before. e.apart key (i.apart key h before) (before-trans m n _ _ _ before asked later);
      walks = ap (λ (x : List Edge). flat_map (walks_by (walks_of new) m) x ++ paths_from allows program c.fork_at-fork.result choice.next) pushed
          ∙ walks-choice allows program c.fork_at-fork.result c.loop-choice.bound m old new edges choice c.in_ok-target.target _
          e.extended i.later c.fork_at-fork.ensures.number (c.in-Some-choice.ensures.paths allows c.fork_at-fork.ensures.fork) e.walks i.walks;
      kept = extended-trans c.args.draft.now.places c.loop-choice.draft.places places i.kept e.kept;
      leads = subst (All (IsEdgeAt allows program places m (rest_at program key))) (sym pushed)
          (edges-choice allows program c.loop-choice.draft.places places m c.args.place.now key c.fork_at-fork.result choice edges
          c.in_ok-target.target e.kept c.requires.rests c.fork_at-fork.ensures.place c.fork_at-fork.ensures.number is e.leads i.leads);
    }

pub node_at-add-requires-clause-same : goal.node_at-add-requires-clause-same
node_at-add-requires-clause-same g t c =
    built-length _ c.args.self.now.program.now c.loop-choice.draft.nodes.items c.loop-choice.draft.places c.loop-choice.invariant.draft.built

pub node_at-returns-clause-draft : goal.node_at-returns-clause-draft
node_at-returns-clause-draft g t c =
    let allows = g.K.Knowledge.allows c.args.self.now.knowledge.now in
    let program = c.args.self.now.program.now in
    let nodes = c.loop-choice.draft.nodes.items in
    let places = c.loop-choice.draft.places in
    let node : Node = record { module_number = c.in-Some.module_number; state = c.state-state.result; edges = c.loop-choice.edges } in
    let i = c.loop-choice.invariant in
    let none = c.in_default-choice.ensures.none allows c.fork_at-fork.ensures.fork in
    let asked = sym (c.in-Some.ensures program c.requires.place) in
    let k = rise_after 0 (modules_of program) c.in-Some.module_number 0 _ c.requires.rise asked in
    let valid : IsNode (numbers_of nodes) node = record {
      first = omega (arith, k.0);
      last = omega (arith, k.1, c.requires.few);
      later = i.later;
      rise = LeastRise-more 0 c.loop-choice.bound 31 c.loop-choice.edges.items i.rise i.bound;
    } in
    let same = c.requires.rests in
    let key = node_key program c.args.place.now in
    let reached = key-reached allows program c.args.place.now c.requires.place c.requires.asking c.requires.reached in
    added-draft c.args.self.now.limit allows program c.add.new.draft c.add.result
    (added-built allows program nodes c.add.new.draft.nodes.items places c.add.new.draft.places node (rest_at program key) c.add.result i.draft.built valid
    (node-for (modules_of program) c.in-Some.module_number (rest_at program key) node (asked-equal _ _ same ∙ asked)
    (rise-equal 0 (modules_of program) _ _ same c.requires.rise) refl (c.state-state.ensures program c.requires.place ∙ sym (state-equal _ _ same)))
    (walks-all allows program c.fork_at-fork.result c.loop-choice.bound node nodes _ none i.walks ∙ sym (listing-equal allows _ _ same)) c.add.ensures.node
    (added-rests program places c.add.new.draft.places key c.add.result c.add.ensures.place))
    (subst (AreCachesFor allows program) (sym c.add.ensures.caches) i.draft.cached)
    (added-keys c.args.self.now.limit allows program places c.add.new.draft.places key c.add.result i.draft.keys reached c.add.ensures.place)
    c.add.ensures.fits
    (added-edges allows program nodes c.add.new.draft.nodes.items places c.add.new.draft.places node key c.add.result i.draft.edges i.leads
    c.add.ensures.node c.add.ensures.place)

pub node_at-returns-clause-continues : goal.node_at-returns-clause-continues
node_at-returns-clause-continues g t c =
    let allows = g.K.Knowledge.allows c.args.self.now.knowledge.now in
    let program = c.args.self.now.program.now in
    let nodes = c.loop-choice.draft.nodes.items in
    let places = c.loop-choice.draft.places in
    let new = c.add.new.draft in
    let key = node_key program c.args.place.now in
    let node : Node = record { module_number = c.in-Some.module_number; state = c.state-state.result; edges = c.loop-choice.edges } in
    let i = c.loop-choice.invariant in
    let none = c.in_default-choice.ensures.none allows c.fork_at-fork.ensures.fork in
    let asked = sym (c.in-Some.ensures program c.requires.place) in
    added-continued allows program c.args.place.now c.args.draft.now new c.add.result
    (added-extended nodes new.nodes.items c.args.draft.now.nodes.items _ c.add.result i.extended c.add.ensures.node)
    (λ other h before. added-apart c.args.self.now.limit allows program places new.places other key c.add.result (i.apart other h before)
    (key-apart program other key (before-equal _ _ _ c.requires.rests before)) c.add.ensures.place)
    (λ low rise. let k = rise_after low (modules_of program) c.in-Some.module_number 0 _ rise asked in
    added-above nodes new.nodes.items node low c.add.result k.0 c.add.ensures.node c.add.ensures.target)
    (added-walks allows program nodes new.nodes.items node (rest_of program c.args.place.now) c.add.result
    (walks-all allows program c.fork_at-fork.result c.loop-choice.bound node nodes _ none i.walks) c.add.ensures.node c.add.ensures.target)
    (added-extended places new.places c.args.draft.now.places key c.add.result i.kept c.add.ensures.place)
    (added-goes-on program places new.places key (rest_of program c.args.place.now) _ c.add.result
    (built-length allows program nodes places i.draft.built) c.requires.rests c.add.ensures.place c.add.ensures.target)

pub node_at-returns-clause-reason : goal.node_at-returns-clause-reason
node_at-returns-clause-reason g t c =
    let allows = g.K.Knowledge.allows c.args.self.now.knowledge.now in
    let program = c.args.self.now.program.now in
    added-reason c.args.self.now.limit allows program c.loop-choice.draft.places (node_key program c.args.place.now) c.add.result
    c.loop-choice.invariant.draft.keys (key-reached allows program c.args.place.now c.requires.place c.requires.asking c.requires.reached)
    c.add.ensures.many
