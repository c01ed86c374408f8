-- For private contracts and proofs alone: the days of an entry of times, toggled range by range.
use Rattle.std.specs.Prelude.{Bool, false, List, map, slice_index_or}
use Rattle.pam_tables.specs.declared.times.entry.DayRun.{DayRun}
use Rattle.pam_tables.specs.times.Entry.{weekdays, covers, differ}

-- a set of days, with those of a range toggled
abbrev pub toggled : List Bool → DayRun → List Bool
toggled days r = map (λ day. differ (slice_index_or days day false) (covers r day)) weekdays
