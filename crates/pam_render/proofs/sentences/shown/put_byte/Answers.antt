use Rattle.std.proofs.Common.{◌/◌, ◌%◌, sym}
use Rattle.pam_codes.proofs.Writing.{all-then, err-front, front-is, front-longer, front-then, writes-is, writes-then}
use Rattle.pam_render.specs.sentences.Shown.{hex_digit}
use Rattle.pam_render.proofs.SentencesProofs.ShownTexts.{byte-numbered}
use Rattle.pam_render.proofs.sentences.shown.put_byte.Goals as goal

pub returns-in_err-put : goal.returns-in_err-put
returns-in_err-put g c =
    let byte = c.args.byte in
    err-front _ c.from_residual.ensures.0
    (front-is (front-longer (hex_digit (byte % 16)) (front-longer (hex_digit (byte / 16)) c.in_err-put.ensures))
    (byte-numbered c.args.is_numbered byte (sym c.if-not-is_numbered.false)))

pub returns-in_err-put_hex_digit : goal.returns-in_err-put_hex_digit
returns-in_err-put_hex_digit g c =
    err-front _ c.from_residual-in_err-put_hex_digit.ensures.0
    (front-is (front-longer _ (front-then c.in_ok-put.ensures c.in_err-put_hex_digit.ensures))
    (byte-numbered c.args.is_numbered c.args.byte (sym c.if-not-is_numbered.false)))

pub returns : goal.returns
returns g c =
    writes-is _ _ _ _ _ _ (writes-then _ _ _ (all-then c.in_ok-put.ensures c.in_ok-put_hex_digit.ensures) c.put_hex_digit-2.ensures)
    (byte-numbered c.args.is_numbered c.args.byte (sym c.if-not-is_numbered.false))
