use Rattle.std.proofs.Common.{get_or}
use Rattle.memchr.specs.Find.{is_byte}
use Rattle.pam_text.specs.Cut.{is_among}
use Rattle.pam_text.proofs.Searching.{first_place, only_byte}
use Rattle.pam_text.proofs.cuts.position_among.Goals as goal

pub returns-then-separators-eq1-clause-value : goal.returns-then-separators-eq1-clause-value
returns-then-separators-eq1-clause-value c =
    let bytes = c.args.separators.now.bytes.now in
    first_place (is_among bytes) (is_byte (get_or bytes 0 0)) (only_byte bytes c.if-separators-eq1.true) c.args.text.now c.memchr.result c.memchr.ensures
