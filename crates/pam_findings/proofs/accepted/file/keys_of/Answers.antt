use Rattle.std.proofs.Common.{◌∙◌}
use Rattle.pam_findings.proofs.AcceptedProofs.KeySteps.{all_keys, keys_with}
use Rattle.pam_findings.proofs.accepted.file.keys_of.Goals as goal

pub loop-line-preserved : goal.loop-line-preserved
loop-line-preserved c =
    keys_with (λ key. key.items) c.args.lines.now c.line-item.result c.loop-line.line-index c.loop-line.keys.keys
    c.insert.new.self.keys c.in_ok-from_slice.field-0 c.loop-line-test.true c.line-item.is
    (c.in_ok-from_slice.ensures.items ∙ c.deref.ensures.value) c.in_ok-insert.ensures.keys c.loop-line.invariant

pub returns : goal.returns
returns c = all_keys (λ key. key.items) c.args.lines.now _ _ c.loop-line-test.false c.loop-line.invariant
