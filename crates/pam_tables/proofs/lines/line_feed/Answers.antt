use Rattle.std.proofs.Common.{[], ◌∷◌}
use Rattle.memchr.specs.Find.{is_byte}
use Rattle.pam_text.specs.Cut.{is_among}
use Rattle.pam_text.proofs.Searching.{first_place, same_byte}
use Rattle.pam_tables.proofs.lines.line_feed.Goals as goal

pub returns-clause-value : goal.returns-clause-value
returns-clause-value c = first_place (is_among (10 ∷ [])) (is_byte 10) (same_byte 10) c.args.text.now c.memchr.result c.memchr.ensures
