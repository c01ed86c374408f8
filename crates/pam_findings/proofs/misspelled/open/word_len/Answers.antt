use Rattle.std.proofs.Common.{sym}
use Rattle.pam_findings.proofs.MisspelledProofs.Opening.{skip_brackets, skip_plain, stays_open}
use Rattle.pam_findings.proofs.misspelled.open.word_len.Goals as goal

pub returns-then-bytes-ne91 : goal.returns-then-bytes-ne91
returns-then-bytes-ne91 c =
    skip_plain c.args.bytes.now c.plain_len.result c.requires.some c.requires.word c.if-bytes-ne91.true c.plain_len.ensures.value c.plain_len.ensures.bound

pub returns-in-Some : goal.returns-in-Some
returns-in-Some c =
    skip_brackets c.args.bytes.now c.split_at.result.1.now c.in-Some.len c.requires.some c.if-bytes-ne91.false c.split_at.ensures.back
    (sym c.in-Some.ensures.found) c.in-Some.ensures.bound

pub returns-in-None : goal.returns-in-None
returns-in-None c =
    stays_open c.args.bytes.now c.split_at.result.1.now c.requires.some c.if-bytes-ne91.false c.split_at.ensures.back (sym c.in-None.ensures.found)
