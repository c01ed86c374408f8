use Rattle.std.proofs.Common.{◌≡◌, []}
use Rattle.std.specs.Prelude.{slice_get, unwrap_or}
use Rattle.pam_report.proofs.tables.text_at.Given as goal

-- the text is as far into what is left as texts are still to be passed over
abbrev pub invariant-loop-text : goal.invariant-loop-text
invariant-loop-text l = unwrap_or (slice_get l.text-iterator l.before) [] ≡ unwrap_or (slice_get l.texts l.position) []
