use Rattle.std.proofs.Common.{◌∙◌, sym, refl}
use Rattle.pam_tables.specs.Access.{access_line}
use Rattle.pam_tables.specs.Error.{verdict}
use Rattle.pam_tables.proofs.ReadSteps.{fails_in, fails_there, line_passes, line_fails, lines_done}
use Rattle.pam_tables.proofs.access.check_lines.Goals as goal

pub loop-number-init : goal.loop-number-init
loop-number-init c = record { can = tt; finite = tt; same = rw (c.into_iter-number-iterator.ensures.into_iter_gives, c.of-number-items.ensures) refl }

pub returns-in-Err : goal.returns-in-Err
returns-in-Err c =
    let line = access_line c.args.separators.now.fields.bytes.now c.args.separators.now.tokens.bytes.now in
    let faulty = c.in-Err.ensures c.in-Some.number in
    rw c.new.ensures (
      refl,
      fails_there c.in-Err.fault c.in-Some.number (verdict (line c.in-Some.number c.in-Some.line.now)) _
          (λ h. sym c.loop-number.invariant.same ∙ line_fails line _ _ _ _ c.in-Some.ensures.steps _ (sym h)) (fails_in _ _ (sym faulty)),
    )

pub loop-number-preserved : goal.loop-number-preserved
loop-number-preserved c =
    let line = access_line c.args.separators.now.fields.bytes.now c.args.separators.now.tokens.bytes.now in
    record {
      can = tt;
      finite = tt;
      same = line_passes line _ _ _ _ c.in-Some.ensures.steps (c.in_default.ensures c.in-Some.number)
          ∙ c.loop-number.invariant.same;
    }

pub returns : goal.returns
returns c =
    let line = access_line c.args.separators.now.fields.bytes.now c.args.separators.now.tokens.bytes.now in
    sym c.loop-number.invariant.same ∙ lines_done line _ c.in-None.ensures.steps.0
