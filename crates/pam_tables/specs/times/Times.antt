-- time.conf(5): a rule has services, terminals, users and times. pam_time(8) denies a login by the first rule
-- whose first three fields match and whose times do not.
use Rattle.std.specs.Prelude.{ℕ, ◌+◌, ◌*◌, ◌&&◌, Bool, not, List, [], ◌∷◌, if◌then◌else◌}
use Rattle.jiff.specs.Types.{DateTime}
use Rattle.jiff.specs.Words.{epoch_day}
use Rattle.pam_tables.specs.times.Login.{LoginText, without_dev}
use Rattle.pam_tables.specs.times.Entry.{holds, weekday_of_day}
use Rattle.pam_tables.specs.times.Logic.{ItemOf, is_true}
use Rattle.pam_tables.specs.times.Pattern.{matches}
use Rattle.pam_tables.specs.declared.times.entry.TimeEntry.{TimeEntry}
use Rattle.pam_tables.specs.declared.times.table.TimeAnswer.{TimeAnswer}
use Rattle.pam_tables.specs.declared.times.table.TimeAnswer.TheVariants.{Granted, Denied}

-- ---- rules

abbrev pub NameList : Type 0
NameList = List (ItemOf (List ℕ))

abbrev pub TimeList : Type 0
TimeList = List (ItemOf TimeEntry)

-- a rule, with the number of its line
pub record Rule : Type 0 where
  pub line : ℕ
  pub services : NameList
  pub terminals : NameList
  pub users : NameList
  pub times : TimeList

-- ---- the answer of a table

abbrev pub names_hold : NameList → List ℕ → Bool
names_hold items text = is_true (λ name. matches name text) items

abbrev pub minute_of_day : DateTime → ℕ
minute_of_day moment = moment.time.hour * 60 + moment.time.minute

abbrev pub times_hold : TimeList → ℕ → ℕ → Bool
times_hold items day minute = is_true (λ entry. holds entry day minute) items

-- the services, the terminals (without one `/dev/` prefix) and the users of a rule match a login
abbrev pub is_active : Rule → LoginText → Bool
is_active r login = names_hold r.services login.service && (names_hold r.terminals (without_dev login.tty) && names_hold r.users login.user)

-- a rule denies a login that it matches at a time that it does not include
abbrev pub denies : Rule → LoginText → ℕ → ℕ → Bool
denies r login day minute = is_active r login && not (times_hold r.times day minute)

-- denied by the first rule that does
abbrev pub answer_at : List Rule → LoginText → ℕ → ℕ → TimeAnswer
answer_at [] login day minute = Granted
answer_at (r ∷ rs) login day minute = if denies r login day minute then Denied r.line else answer_at rs login day minute

unfoldable pub answer_of : List Rule → LoginText → DateTime → TimeAnswer
answer_of rules login moment = answer_at rules login (weekday_of_day (epoch_day moment.date)) (minute_of_day moment)
