-- time.conf(5): an entry of times is one or more days of the week and a range of the hours of a day.
use Rattle.std.specs.Prelude.{ℕ, ◌+◌, ◌-◌, ◌*◌, ◌%◌, ◌==◌, ◌&&◌, ◌||◌, Bool, true, false, not, List, [], ◌∷◌, length, take, map, codes, count_by, nat_lt}
use Rattle.std.specs.Prelude.{nat_le, slice_index, slice_index_or, if◌then◌else◌, Option, Some, None, ℤ, pos, ◌+ℤ◌, unsigned_abs}
use Rattle.std.proofs.Math.Bool.{beq}
use Rattle.std.specs.Int.{int_rem_euclid}
use Rattle.std.specs.Option.{option_map}
use Rattle.pam_codes.specs.Code.{same_name}
use Rattle.pam_tables.specs.times.Moments.{pair_at}
use Rattle.pam_tables.specs.declared.times.entry.DayRun.{DayRun}
use Rattle.pam_tables.specs.declared.times.entry.TimeEntry.{TimeEntry}

-- ---- days

-- Monday is 0 and Sunday 6
abbrev pub weekdays : List ℕ
weekdays = 0 ∷ 1 ∷ 2 ∷ 3 ∷ 4 ∷ 5 ∷ 6 ∷ []

-- the day of the week of a day number. Day 0, 1970-01-01, is a Thursday
unfoldable pub weekday_of_day : ℤ → ℕ
weekday_of_day number = unsigned_abs (int_rem_euclid (number +ℤ pos 3) (pos 7))

abbrev pub day_before : ℕ → ℕ
day_before day = (day + 6) % 7

abbrev pub run : ℕ → ℕ → DayRun
run first last = record { first = first; last = last }

abbrev pub covers : DayRun → ℕ → Bool
covers r day = nat_le r.first day && nat_le day r.last

-- the names of days, in either case
unfoldable pub named_days : List ℕ → Option DayRun
named_days name =
    if same_name name (codes "mo") then Some (run 0 0)
    else if same_name name (codes "tu") then Some (run 1 1)
    else if same_name name (codes "we") then Some (run 2 2)
    else if same_name name (codes "th") then Some (run 3 3)
    else if same_name name (codes "fr") then Some (run 4 4)
    else if same_name name (codes "sa") then Some (run 5 5)
    else if same_name name (codes "su") then Some (run 6 6)
    else if same_name name (codes "wk") then Some (run 0 4)
    else if same_name name (codes "wd") then Some (run 5 6)
    else if same_name name (codes "al") then Some (run 0 6)
    else None

abbrev pub onto : {A : Type 0} → Option A → Option (List A) → Option (List A)
onto (Some x) (Some xs) = Some (x ∷ xs)
onto _ _ = None

-- the days that a text names, by two letters each
abbrev pub mentions : List ℕ → Option (List DayRun)
mentions [] = Some []
mentions (a ∷ []) = None
mentions (a ∷ b ∷ rest) = onto (named_days (a ∷ b ∷ [])) (mentions rest)

abbrev pub is_odd : ℕ → Bool
is_odd n = n % 2 == 1

-- a day is in the set if an odd number of names cover it
abbrev pub day_set : List DayRun → List Bool
day_set runs = map (λ day. is_odd (count_by (λ r. covers r day) runs)) weekdays

unfoldable pub days_of : List ℕ → Option (List Bool)
days_of text = option_map day_set (mentions text)

abbrev pub differ : Bool → Bool → Bool
differ a b = not (beq a b)

-- ---- minutes

abbrev pub minute_of : Option ℕ → Option ℕ → Option ℕ
minute_of (Some hour) (Some minute) = if nat_le hour 23 && nat_le minute 59 then Some (60 * hour + minute) else None
minute_of _ _ = None

-- the minute of the day written HHMM at an index
abbrev pub time_at : List ℕ → ℕ → Option ℕ
time_at text i = minute_of (pair_at text i) (pair_at text (i + 2))

-- the same, or 2400, the end of the day
abbrev pub finish_at : List ℕ → ℕ → Option ℕ
finish_at text i =
    if slice_index text i == 50 && slice_index text (i + 1) == 52 && slice_index text (i + 2) == 48 && slice_index text (i + 3) == 48 then Some 1440
    else time_at text i

-- ---- entries

abbrev pub entry_from : Option (List Bool) → Option ℕ → Bool → Option ℕ → Option TimeEntry
entry_from (Some days) (Some start) true (Some finish) = Some (record { days = days; start = start; finish = finish })
entry_from _ _ _ _ = None

-- an entry: one or more days, and HHMM-HHMM
unfoldable pub entry_of : List ℕ → Option TimeEntry
entry_of text = if nat_lt (length text) 11 then None
    else let at = length text - 9 in
    entry_from (days_of (take at text)) (time_at text at) (slice_index text (at + 4) == 45) (finish_at text (at + 5))

-- whether the range of an entry goes past midnight
abbrev pub goes_past_midnight : TimeEntry → Bool
goes_past_midnight e = not (nat_lt e.start e.finish)

abbrev pub is_on : TimeEntry → ℕ → Bool
is_on e day = slice_index_or e.days day false

-- whether an entry covers a minute of a day. A range that goes past midnight belongs to the day on which it starts
unfoldable pub holds : TimeEntry → ℕ → ℕ → Bool
holds e day minute =
    if nat_lt e.start e.finish then is_on e day && (nat_le e.start minute && nat_lt minute e.finish)
    else (is_on e day && nat_le e.start minute) || (is_on e (day_before day) && nat_lt minute e.finish)
