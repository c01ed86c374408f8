use Rattle.std.proofs.Common.{◌≡◌, drop, filter, map}
use Rattle.std.specs.List.{range_with_len}
use Rattle.pam_policy.specs.host.Places.{place_view, speaks_at, spoken_classes}
use Rattle.pam_policy.specs.text.Rules.{rule_view}
use Rattle.pam_policy.proofs.HostProofs.Places.{classes_left}
use Rattle.pam_policy.proofs.host.spoken.Spoken.of.Given as goal

-- the positions so far; and the classes so far, and those of the places that are left
abbrev pub invariant-loop-position : goal.invariant-loop-position
invariant-loop-position l = record {
  places : l.spoken.places.items ≡ filter (speaks_at (rule_view l.rule) (map place_view l.places)) (range_with_len 0 l.position);
  classes : classes_left (rule_view l.rule) l.spoken.classes.keys (drop l.position l.places) ≡ spoken_classes (rule_view l.rule) (map place_view l.places);
}
