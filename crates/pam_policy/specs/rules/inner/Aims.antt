-- For private contracts and proofs alone: what is looked for, without its layout in memory.
use Rattle.std.specs.Prelude.{option_map}
use Rattle.pam_policy.specs.declared.rules.looking.Aim.{Aim}
use Rattle.pam_policy.specs.rules.inner.Looking.{AimText}
use Rattle.pam_policy.specs.rules.inner.Marking.{part_view}

abbrev pub aim_view : Aim → AimText
aim_view aim = record { decisions = aim.decisions; with = option_map part_view aim.with; without = option_map part_view aim.without }
