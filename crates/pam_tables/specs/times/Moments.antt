-- The moment of a decision of pam_time(8): `YYYY-MM-DDTHH:MM`, or with `:SS`, or an instant in a time zone.
use Rattle.std.specs.Prelude.{◌≡◌, ◌+◌, ◌-◌, ◌*◌, ◌==◌, ◌&&◌, ℕ, ℤ, ◌+ℤ◌, ◌*ℤ◌, Bool, List, Option, Some, None, pos, length, nat_le}
use Rattle.std.specs.Prelude.{slice_index, if◌then◌else◌}
use Rattle.std.specs.Char.{is_ascii_digit}
use Rattle.jiff.specs.Placed.{IsPosixZone}
use Rattle.jiff.specs.Types.{DateTime, TimeZone}
use Rattle.jiff.specs.Words.{IsDate, IsTime, IsYmd, IsHms, IsTimestampNanos, civil_nanos, nanos_of_seconds, offset_at}
use Rattle.pam_tables.specs.declared.times.moments.CivilParts.{CivilParts}

abbrev pub two_digits : ℕ → ℕ → Option ℕ
two_digits a b = if is_ascii_digit a && is_ascii_digit b then Some (10 * (a - 48) + (b - 48)) else None

-- the number of two digits at an index
abbrev pub pair_at : List ℕ → ℕ → Option ℕ
pair_at text i = two_digits (slice_index text i) (slice_index text (i + 1))

-- the text is long enough, and has its two hyphens, its `T` and its colon
abbrev pub has_marks : List ℕ → Bool
has_marks text = nat_le 16 (length text) && (slice_index text 4 == 45 && slice_index text 7 == 45 && (slice_index text 10 == 84 && slice_index text 13 == 58))

-- the seconds, 0 if left out
abbrev pub seconds_of : List ℕ → Option ℕ
seconds_of text = if length text == 16 then Some 0
    else if length text == 19 && slice_index text 16 == 58 then pair_at text 17 else None

abbrev pub parts_from : Option ℕ → Option ℕ → Option ℕ → Option ℕ → Option ℕ → Option ℕ → Option ℕ → Option CivilParts
parts_from (Some century) (Some year) (Some month) (Some day) (Some hour) (Some minute) (Some second) = Some (record {
  year = 100 * century + year;
  month = month;
  day = day;
  hour = hour;
  minute = minute;
  second = second;
})
parts_from _ _ _ _ _ _ _ = None

-- the fields of a text in this format
abbrev pub parts_of : List ℕ → Option CivilParts
parts_of text = if has_marks text
    then parts_from (pair_at text 0) (pair_at text 2) (pair_at text 5) (pair_at text 8) (pair_at text 11) (pair_at text 14) (seconds_of text) else None

-- the calendar and the clock have such a date and time
abbrev pub Exist : Option CivilParts → Type 0
Exist None = ⊥
Exist (Some p) = IsDate (pos p.year) (pos p.month) (pos p.day) × IsTime (pos p.hour) (pos p.minute) (pos p.second) (pos 0)

-- the civil time with these fields
abbrev pub HasParts : Option CivilParts → DateTime → Type 0
HasParts None d = ⊥
HasParts (Some p) d = IsYmd (pos p.year) (pos p.month) (pos p.day) d.date × IsHms (pos p.hour) (pos p.minute) (pos p.second) (pos 0) d.time

-- ---- an instant on the clock of a POSIX zone rule

-- the calendar has this instant: from -9999-01-02T01:59:59Z to 9999-12-30T22:00:00Z, so each zone has a date for it
abbrev pub IsInstant : ℤ → Type 0
IsInstant seconds = IsTimestampNanos (seconds *ℤ pos 1000000000)

-- the calendar has the instant, and d is the civil time in the zone of the rule
pub record Shows (seconds : ℤ) (rule : List ℕ) (d : DateTime) : Type 0 where
  pub exists : IsInstant seconds
  pub zone : TimeZone
  pub is_of_rule : IsPosixZone rule zone
  pub shown : civil_nanos d ≡ ((seconds *ℤ pos 1000000000) +ℤ nanos_of_seconds (offset_at zone (seconds *ℤ pos 1000000000)))
