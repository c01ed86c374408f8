use Rattle.std.proofs.Common.{sym, refl, ◌∙◌}
use Rattle.pam_text.proofs.Sources.{sound}
use Rattle.pam_text.proofs.source.Source.of.Goals as goal

pub returns-then-not-has_nul : goal.returns-then-not-has_nul
returns-then-not-has_nul c = (sound c.args.bytes.now c.if-bytes-gt-MAX_FILE_BYTES.false (sym c.has_nul.ensures ∙ c.if-not-has_nul.true), refl)
