use Rattle.std.proofs.Common.{◌∙◌, sym}
use Rattle.pam_web.proofs.memory.Memory.names_from.Goals as goal

pub returns-then-is_any_below : goal.returns-then-is_any_below
returns-then-is_any_below c = record {
  there = sym c.is_any_below.ensures ∙ c.if-is_any_below.true;
  rising = c.in_ok-names.ensures.rising;
  those = c.in_ok-names.ensures.those;
}
