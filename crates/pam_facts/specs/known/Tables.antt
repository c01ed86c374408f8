-- What tells the codes of modules: access.conf(5), time.conf(5), group(5), which modules are there, and what is known of them.
use Rattle.std.specs.Prelude.{ℕ, List, [], Option}
use Rattle.std.specs.Option.{option_map, option_map_or}
use Rattle.jiff.specs.Types.{DateTime}
use Rattle.pam_facts.specs.Rows.{Row}
use Rattle.pam_facts.specs.declared.known.tables.Tables.{Tables}
use Rattle.pam_facts.specs.declared.known.tables.TimedTable.{TimedTable}

-- a time table, and the moment of the login
pub record TimedText : Type 0 where
  pub bytes : List ℕ
  pub moment : DateTime

-- the files that are given, the access tables in the order in which they are read; the paths at which a module is there, if that is
-- known; and the facts, if they are asked
pub record TablesText : Type 0 where
  pub there : Option (List (List ℕ))
  pub groups : Option (List ℕ)
  pub access : List (List ℕ)
  pub time : Option TimedText
  pub returns : Option (List ℕ)
  pub facts : Option (List Row)

abbrev pub timed_view : TimedTable → TimedText
timed_view t = record { bytes = t.bytes.now; moment = t.moment }

abbrev pub tables_view : Tables → TablesText
tables_view t = record {
  there = option_map (λ p. p.now) t.there;
  groups = option_map (λ b. b.now) t.groups;
  access = option_map_or (λ t. t.now) t.access [];
  time = option_map timed_view t.time;
  returns = option_map (λ b. b.now) t.returns;
  facts = option_map (λ f. f.now) t.facts;
}
