-- For private contracts and proofs alone: time.conf(5): whether a token holds for a login.
use Rattle.std.specs.Prelude.{ℕ, Bool, false, List}
use Rattle.std.specs.Option.{option_map_or}
use Rattle.pam_tables.specs.times.Entry.{entry_of, holds}
use Rattle.pam_tables.specs.times.Pattern.{matches}
use Rattle.pam_tables.specs.declared.times.fact.Fact.{Fact}
use Rattle.pam_tables.specs.declared.times.fact.Fact.TheVariants.{Name, Time}

-- a name matches a name of the login, and an entry covers its time
abbrev pub meets : Fact → List ℕ → Bool
meets (Name name) token = matches token name.now
meets (Time time) token = option_map_or (λ entry. holds entry time.day time.minute) (entry_of token) false
