use Rattle.std.proofs.Common.{◌∙◌, ap, sym}
use Rattle.pam_released.specs.Lines.{ends_in_feed}
use Rattle.pam_released.proofs.Scanning.{last_feed, nothing_last_feed}
use Rattle.pam_released.proofs.lines.ends_in_feed.Goals as goal

pub returns-in-Some : goal.returns-in-Some
returns-in-Some c = sym (ap ends_in_feed c.in-Some.ensures.cases.0 ∙ last_feed c.in-Some.field-0-1.now c.in-Some.last.now)

pub returns-in-None : goal.returns-in-None
returns-in-None c = sym (nothing_last_feed c.args.bytes.now c.in-None.ensures.cases)
