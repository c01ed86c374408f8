use Rattle.std.proofs.Common.{◌<◌, ◌+◌, arith, length, drop}
use Rattle.pam_codes.specs.Code.{code_names}
use Rattle.pam_codes.specs.ControlText.{mentions}
use Rattle.pam_codes.proofs.Mentions.{mentions-next, mentions-failed, mentions-all}
use Rattle.pam_codes.proofs.Tables.{length-code_names}
use Rattle.pam_text.proofs.Writing.{err-front, front-then, front-longer, front-is, all-then, all-is}
use Rattle.pam_codes.proofs.control.Control.write_mentions.Goals as goal

pub returns-in_err-write_mention : goal.returns-in_err-write_mention
returns-in_err-write_mention g c =
    let names : c.loop-number.number < length code_names = omega (arith, length-code_names) in
    let actions : c.loop-number.number < length c.args.self.now = omega (arith, c.requires.one_each) in
    err-front _ c.from_residual.ensures.0
    (front-is (front-longer (mentions c.args.default (drop (c.loop-number.number + 1) code_names) (drop (c.loop-number.number + 1) c.args.self.now))
    (front-then c.loop-number.invariant c.in_err-write_mention.ensures))
    (mentions-failed c.args.default code_names c.args.self.now c.loop-number.number c.of_number-code.result c.action.result names actions
    c.of_number-code.ensures c.action.ensures.of_code))

pub loop-number-preserved : goal.loop-number-preserved
loop-number-preserved g c =
    let names : c.loop-number.number < length code_names = omega (arith, length-code_names) in
    let actions : c.loop-number.number < length c.args.self.now = omega (arith, c.requires.one_each) in
    all-is (all-then c.loop-number.invariant c.in_ok-write_mention.ensures)
    (mentions-next c.args.default code_names c.args.self.now c.loop-number.number c.of_number-code.result c.action.result names actions
    c.of_number-code.ensures c.action.ensures.of_code)

pub returns : goal.returns
returns g c =
    all-is c.loop-number.invariant (mentions-all c.args.default code_names c.args.self.now c.loop-number.number (omega (arith, length-code_names))
    (omega (arith, c.requires.one_each)))
