use Rattle.std.proofs.Common.{◌∙◌, arith, ap, find, refl, sym}
use Rattle.pam_codes.specs.inner.Code.{has_len}
use Rattle.pam_codes.proofs.CodeNames.{first_from, first_of_len, has_name, low_code}
use Rattle.pam_codes.proofs.Tables.{name_at}
use Rattle.pam_codes.proofs.code.Code.from_name.Goals as goal

pub loop-number-init : goal.loop-number-init
loop-number-init c = ap (find (has_name c.args.name.now)) c.numbers_of_len-number-items.ensures ∙ first_of_len c.args.name.now

pub of_number-code-requires : goal.of_number-code-requires
of_number-code-requires c =
    low_code (has_len _) c.numbers_of_len-number-items.result.now c.loop-number.number-index c.numbers_of_len-number-items.ensures (omega arith)

pub returns-then-is_name : goal.returns-then-is_name
returns-then-is_name c =
    sym (sym c.loop-number.invariant ∙ first_from (has_name c.args.name.now) c.numbers_of_len-number-items.result.now c.loop-number.number-index
    c.of_number-code.result (omega arith) c.of_number-code.ensures
    ∙ rw (name_at _ _ _ _ _ c.name.ensures c.as_bytes.ensures.value (sym c.is_name.ensures ∙ c.if-is_name.true)) refl)

pub loop-number-preserved : goal.loop-number-preserved
loop-number-preserved c =
    sym (first_from (has_name c.args.name.now) c.numbers_of_len-number-items.result.now c.loop-number.number-index
    c.of_number-code.result (omega arith) c.of_number-code.ensures
    ∙ rw (name_at _ _ _ _ _ c.name.ensures c.as_bytes.ensures.value (sym c.is_name.ensures ∙ c.if-is_name.false)) refl)
    ∙ c.loop-number.invariant
