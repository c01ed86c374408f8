-- For private contracts and proofs alone: the sizes of the fields of a moment.
use Rattle.std.specs.Prelude.{◌<◌}
use Rattle.pam_tables.specs.declared.times.moments.CivilParts.{CivilParts}

-- the year has four digits, and each other field two
abbrev pub IsShort : CivilParts → Type 0
IsShort p = (p.year < 10000) × (p.month < 100) × (p.day < 100) × (p.hour < 100) × (p.minute < 100) × (p.second < 100)
