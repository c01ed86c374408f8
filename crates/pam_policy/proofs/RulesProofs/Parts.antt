-- Parts that are borrowed.
use Rattle.std.proofs.Common.{◌≡◌, Bor, None, Option, Some, ap}
use Rattle.std.specs.Option.{option_copied}
use Rattle.std.specs.Prelude.{option_map}
use Rattle.pam_policy.specs.declared.rules.part.Part.{Part}
use Rattle.pam_policy.specs.rules.inner.Marking.{part_view}

pub part-of-ref : (borrowed : Option (Bor Part)) (part : Option Part) → option_copied borrowed ≡ part →
    option_map (λ p. part_view p.now) borrowed ≡ option_map part_view part
part-of-ref None part e = ap (option_map part_view) e
part-of-ref (Some p) part e = ap (option_map part_view) e
