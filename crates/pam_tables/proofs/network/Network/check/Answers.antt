use Rattle.std.proofs.Common.{refl}
use Rattle.pam_tables.proofs.NetworkSteps.{no_bad_mask}
use Rattle.pam_tables.proofs.network.Network.check.Goals as goal

pub returns-then-is_prefix_length_for : goal.returns-then-is_prefix_length_for
returns-then-is_prefix_length_for c =
    no_bad_mask c.args.text.now c.in-Some.parts.0.now c.in-Some.parts.1.now c.in-Some.ensures.value
    (c.if-is_prefix_length_for.ensures.v4 refl) (c.if-is_prefix_length_for.ensures.v6 refl)
