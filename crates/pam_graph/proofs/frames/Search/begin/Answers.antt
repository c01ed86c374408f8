use Rattle.std.proofs.Common.{◌≡◌, ◌∙◌, [], IfSome, Option, ap, subst, sym}
use Rattle.pam_graph.specs.declared.frames.Way.{Way}
use Rattle.pam_graph.specs.Frames.{along, known_in}
use Rattle.pam_graph.specs.inner.Tallies.{has_walks}
use Rattle.pam_graph.specs.inner.Within.{IsWithin}
use Rattle.pam_graph.proofs.Counting.{none-onward, some-onward, tallies-within}
use Rattle.pam_graph.proofs.Sides.{tallies-in}
use Rattle.pam_graph.proofs.frames.Search.begin.Goals as goal
use Rattle.std.proofs.Common.{length}

pub count_to-requires : goal.count_to-requires
count_to-requires c =
    let s = c.args.self.now in
    tallies-within s.goal.now s.nodes.now s.tallies.now c.in-Some.way.target c.requires.search.tallies
    (subst (λ (p : Option Way). IfSome p (λ way. IsWithin (length s.nodes.now) way.target)) c.in-Some.is c.requires.within)

pub returns-then-has_walks-clause-wanted : goal.returns-then-has_walks-clause-wanted
returns-then-has_walks-clause-wanted c none =
    let s = c.args.self.now in
    let way = c.in-Some.way in
    some-onward s.goal.now way.is_met (known_in s.direction s.nodes.now) s.tallies.now way.target
    (tallies-in s.direction s.goal.now s.nodes.now s.tallies.now c.requires.search.tallies)
    (ap has_walks (sym c.count_to.ensures) ∙ sym c.has_walks.ensures ∙ c.if-has_walks.true) none

pub returns-clause-none : goal.returns-clause-none
returns-clause-none c =
    let s = c.args.self.now in
    let way = c.in-Some.way in
    subst (λ (p : Option Way). IfSome p (λ w. along s.direction s.goal.now s.nodes.now w ≡ [])) (sym c.in-Some.is)
    (none-onward s.goal.now way.is_met (known_in s.direction s.nodes.now) s.tallies.now way.target
    (tallies-in s.direction s.goal.now s.nodes.now s.tallies.now c.requires.search.tallies)
    (ap has_walks (sym c.count_to.ensures) ∙ sym c.has_walks.ensures ∙ c.if-has_walks.false))
