use Rattle.std.proofs.Common.{arith, refl}
use Rattle.std.proofs.lemmas.Bool.{le-leb}
use Rattle.pam_tables.specs.Network.{v4_mask_of, v6_mask_of}
use Rattle.pam_tables.proofs.network.is_prefix_length_for.Goals as goal

pub returns-then-count-le32-clause-v4 : goal.returns-then-count-le32-clause-v4
unfolding v4_mask_of
returns-then-count-le32-clause-v4 c = λ few some. rw (← c.in-Some.ensures.value, few) refl

pub returns-then-count-le32-clause-v6 : goal.returns-then-count-le32-clause-v6
unfolding v6_mask_of
returns-then-count-le32-clause-v6 c =
    λ few. rw (← c.in-Some.ensures.value, le-leb c.in-Some.count 128 (omega (arith, c.if-count-le32.true))) refl

pub returns-then-count-le128-clause-v6 : goal.returns-then-count-le128-clause-v6
unfolding v6_mask_of
returns-then-count-le128-clause-v6 c = λ none. rw (← c.in-Some.ensures.value, le-leb c.in-Some.count 128 c.if-count-le128.true) refl
