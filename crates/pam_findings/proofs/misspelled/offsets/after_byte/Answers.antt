use Rattle.std.proofs.Common.{◌≡◌, ◌+◌, ◌∙◌, ◌∷◌, ap, arith, length, sym}
use Rattle.pam_text.specs.inner.Text.{past_comment}
use Rattle.pam_findings.proofs.MisspelledProofs.Offsets.{joining, kept, plain}
use Rattle.pam_findings.proofs.misspelled.offsets.after_byte.Goals as goal

pub returns-then-byte-ne92-clause-text : goal.returns-then-byte-ne92-clause-text
returns-then-byte-ne92-clause-text c =
    λ bytes first offset is next moved. plain bytes c.args.after.rest.now first offset c.args.byte is moved c.if-byte-ne92.true c.args.after.offset next

pub returns-in-Some-clause-text : goal.returns-in-Some-clause-text
returns-in-Some-clause-text c =
    λ bytes first offset is next moved.
    let r = c.args.after.rest.now in
    let more = c.in-Some.joined.rest.now in
    let here = c.skip_comment.result in
    let feed : past_comment r ≡ 10 ∷ more = sym c.skip_comment.ensures.value ∙ c.in-Some.ensures.value in
    let size : length (past_comment r) ≡ length here.rest.now = ap length (sym c.skip_comment.ensures.value) in
    let longer : length here.rest.now ≡ length more + 1 = ap length c.in-Some.ensures.value ∙ omega arith in
    joining bytes r first offset c.args.byte is moved c.if-byte-ne92.false more here.offset c.in-Some.joined.offset feed
    (omega (arith, size, c.skip_comment.ensures.moved, next)) (omega (arith, longer, c.in-Some.ensures.moved))

pub returns-in-None-clause-text : goal.returns-in-None-clause-text
returns-in-None-clause-text c =
    λ bytes first offset is next moved.
    let r = c.args.after.rest.now in
    let here = c.skip_comment.result in
    let size : length (past_comment r) ≡ length here.rest.now = ap length (sym c.skip_comment.ensures.value) in
    kept bytes r first offset c.args.byte is moved here.offset (omega (arith, size, c.skip_comment.ensures.moved, next))
    (λ more k. c.in-None.ensures.value more (c.skip_comment.ensures.value ∙ k)) c.args.after.offset next
