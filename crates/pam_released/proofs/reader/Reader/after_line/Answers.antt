use Rattle.std.proofs.Common.{◌∙◌, sym}
use Rattle.pam_released.specs.Reader.{state_of}
use Rattle.pam_released.proofs.Scanning.{line_read, no_empty_line}
use Rattle.pam_released.proofs.reader.Reader.after_line.Goals as goal

pub returns-in-Some : goal.returns-in-Some
returns-in-Some c =
    line_read (state_of c.args.self) (state_of c.after.result) (state_of c.next.result) c.args.line.now c.without_end_blanks.result.now
    c.in-Some.front.now c.in-Some.field-0-0.now (sym c.goes_on.ensures ∙ c.if-not-goes_on.false) c.without_end_blanks.ensures
    c.in-Some.ensures.cases.0 c.after.ensures c.next.ensures

pub returns-in-None : goal.returns-in-None
returns-in-None c = absurd (no_empty_line c.args.line.now c.without_end_blanks.result.now (sym c.goes_on.ensures ∙ c.if-not-goes_on.false)
    c.without_end_blanks.ensures c.in-None.ensures.cases)
