use Rattle.std.proofs.Common.{◌≡◌}
use Rattle.std.specs.Prelude.{slice_get}
use Rattle.pam_policy.proofs.needs.event.text_at.Given as goal

-- the text is as far from here as is left
abbrev pub invariant-loop-text : goal.invariant-loop-text
invariant-loop-text l = slice_get l.text-iterator l.left ≡ slice_get l.texts l.position
