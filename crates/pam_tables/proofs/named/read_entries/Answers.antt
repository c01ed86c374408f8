use Rattle.std.proofs.Common.{◌∙◌, sym, refl}
use Rattle.std.proofs.lemmas.Result.{err_from_is_err_and}
use Rattle.pam_tables.specs.inner.Named.{with_line}
use Rattle.pam_tables.proofs.ReadSteps.{fails_on, fails_there, checked_fails, checked_passes}
use Rattle.pam_tables.proofs.NamedSteps.{none_before, line_added, line_fails, lines_end}
use Rattle.pam_tables.proofs.named.read_entries.Goals as goal

pub returns-in_err-source : goal.returns-in_err-source
returns-in_err-source g c =
    let p = err_from_is_err_and c.from_residual.result c.from_residual.ensures.1 in
    rw (p.1, p.2) (c.in_err-source.ensures.fault.0, fails_on _ _ _ _ (λ h. checked_fails c.args.bytes.now _ _ h) c.in_err-source.ensures.fault.1)

pub loop-number-init : goal.loop-number-init
loop-number-init g c =
    record {
      can = tt;
      finite = tt;
      same = rw (c.into_iter-number-iterator.ensures.into_iter_gives, c.of-number-items.ensures, c.requires, c.in_ok-source.ensures.bytes) (none_before _);
    }

pub returns-in-Err : goal.returns-in-Err
returns-in-Err g c =
    let read = g.E.Entries.meant in
    rw c.new.ensures (
      refl,
      fails_there c.in-Err.fault c.in-Some.number (with_line (g.E.Entries.entries c.loop-number.entries) (read c.in-Some.line.now)) _
          (λ h. checked_passes c.args.bytes.now _ _ c.in_ok-source.ensures.fault ∙ sym c.loop-number.invariant.same
          ∙ line_fails read _ _ _ _ _ _ c.in-Some.ensures.steps h) c.in-Err.ensures,
    )

pub loop-number-preserved : goal.loop-number-preserved
loop-number-preserved g c = record {
  can = tt;
  finite = tt;
  same = line_added g.E.Entries.meant _ _ _ _ _ _ c.in-Some.ensures.steps c.in_default.ensures ∙ c.loop-number.invariant.same;
}

pub returns : goal.returns
returns g c =
    checked_passes c.args.bytes.now _ _ c.in_ok-source.ensures.fault ∙ sym c.loop-number.invariant.same
    ∙ lines_end g.E.Entries.meant (g.E.Entries.entries c.loop-number.entries) _ c.in-None.ensures.steps.0
