use Rattle.std.proofs.Common.{◌≡◌, ◌∙◌, List, ℕ, ap, arith, filter, length, map}
use Rattle.std.proofs.lemmas.List.{length-map}
use Rattle.std.specs.List.{range_with_len}
use Rattle.pam_policy.specs.host.Places.{place_view, speaks_at, spoken_classes, spoken_positions}
use Rattle.pam_policy.specs.text.Rules.{rule_view}
use Rattle.pam_policy.proofs.HostProofs.Places.{classes-next, classes_left, positions-next}
use Rattle.pam_policy.proofs.host.spoken.Spoken.of.Goals as goal

pub loop-position-init : goal.loop-position-init
unfolding spoken_classes
loop-position-init c = record {
  places = c.new.ensures.items;
  classes = ap (λ (classes : List ℕ). classes_left (rule_view c.args.rule.now) classes c.args.places.now) c.new-2.ensures.empty;
}

pub loop-position-preserved : goal.loop-position-preserved
loop-position-preserved c =
    let rule = rule_view c.args.rule.now in
    let places = c.args.places.now in
    let i = c.loop-position.position in
    record {
      places = positions-next rule places i _ c.loop-position.spoken.places.items _ c.loop-position-test.true c.loop-position.invariant.places
          c.in_ok-add.ensures.places;
      classes = classes-next rule places i _ c.loop-position.spoken.classes.keys _ _ c.loop-position-test.true c.loop-position.invariant.classes
          c.in_ok-add.ensures.classes;
    }

pub returns-clause-places : goal.returns-clause-places
unfolding spoken_positions
returns-clause-places c =
    let places = c.args.places.now in
    let whole : c.loop-position.position ≡ length (map place_view places) =
    omega (arith, length-map places place_view, c.loop-position.auto.position-end, c.loop-position-test.false) in
    c.loop-position.invariant.places
    ∙ ap (λ (n : ℕ). filter (speaks_at (rule_view c.args.rule.now) (map place_view places)) (range_with_len 0 n)) whole
