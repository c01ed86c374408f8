-- A fault is of a table that is read: by a module, by some module, for a stack.
use Rattle.std.proofs.Common.{◌≡◌, ℕ, ◌+◌, ◌<◌, Bool, true, false, ◌&&◌, ◌||◌, List, [], ◌∷◌, ◌∙◌, ap, arith, refl}
use Rattle.std.specs.Prelude.{Option, Some, None, is_some, if◌then◌else◌}
use Rattle.std.specs.List.{list_any}
use Rattle.std.specs.Option.{option_map_or}
use Rattle.pam_conf.specs.Stack.{Items, ModuleText, module_at, module_count}
use Rattle.pam_conf.specs.declared.rule.Kind.{Kind}
use Rattle.pam_tables.specs.declared.error.Table.{Table}
use Rattle.pam_tables.specs.declared.error.Table.TheVariants.{Access, Group, Returns}
use Rattle.pam_tables.specs.declared.error.TableError.{TableError}
use Rattle.pam_facts.specs.known.Answers.{access_read, if_any, time_read}
use Rattle.pam_facts.specs.known.Knowledge.{numbers, reads_access}
use Rattle.pam_facts.specs.known.Reads.{IsOfRead, TablesRead, is_read, reads_time, tables_read}
use Rattle.pam_facts.specs.known.inner.Sets.{all_given, number_reads, of_groups, of_module, some_read}
use Rattle.pam_facts.specs.known.Tables.{TablesText, tables_view}
use Rattle.pam_facts.specs.declared.known.error.KnownError.{KnownError}
use Rattle.pam_facts.specs.declared.known.error.KnownError.TheVariants as known
use Rattle.pam_facts.specs.declared.known.knowledge.Lookup.{Lookup}
use Rattle.pam_facts.proofs.KnownProofs.SetSteps.{any_of_run}

table_more : (a b : TablesRead) (table : Table) → (a.groups ≡ true → b.groups ≡ true) → (a.access ≡ true → b.access ≡ true)
    → (a.returns ≡ true → b.returns ≡ true) → is_read a table ≡ true → is_read b table ≡ true
table_more a b Access g c r h = c h
table_more a b Group g c r h = g h
table_more a b Returns g c r h = r h

-- where more tables are read
of_more : (a b : TablesRead) (e : KnownError) → (a.groups ≡ true → b.groups ≡ true) → (a.access ≡ true → b.access ≡ true)
    → (a.time ≡ true → b.time ≡ true) → (a.returns ≡ true → b.returns ≡ true) → IsOfRead a e → IsOfRead b e
of_more a b (known.Table e) g c t r h = table_more a b e.error.table g c r h
of_more a b (known.Time e) g c t r h = t h

module_more : (access time other later : Bool) (e : KnownError) → (access ≡ true → other ≡ true) → (time ≡ true → later ≡ true)
    → IsOfRead (of_module access time) e → IsOfRead (of_module other later) e
module_more access time other later e f g h = of_more (of_module access time) (of_module other later) e (λ x. x) f g (λ x. x) h

-- the access table alone, and the time table alone
pub access_alone : (access time : Bool) (e : KnownError) → access ≡ true → IsOfRead (of_module true false) e → IsOfRead (of_module access time) e
access_alone access time e is h = module_more true false access time e (λ _. is) (λ f. absurd (cc)) h

pub time_alone : (access time : Bool) (e : KnownError) → time ≡ true → IsOfRead (of_module false true) e → IsOfRead (of_module access time) e
time_alone access time e is h = module_more false true access time e (λ f. absurd (cc)) (λ _. is) h

-- what one of the modules reads, some module reads
pub some_of : (l : Lookup) (items : Items) (i : ℕ) (e : KnownError) → i < module_count items
    → IsOfRead (number_reads l items (i + 1)) e → IsOfRead (some_read l items) e
some_of l items i e within h =
    let some = λ (test : ℕ → Bool) (t : test (i + 1) ≡ true). any_of_run test 1 (module_count items) (i + 1) (omega arith) (omega (arith, within)) t in
    module_more _ _ _ _ e (some (reads_access (tables_view l.tables.now) items)) (some (reads_time l.kind (tables_view l.tables.now) items)) h

module _ (kind : Kind) (tables : TablesText) (items : Items) where
  pub groups_are_read : (e : KnownError) → IsOfRead (of_groups tables items) e → IsOfRead (tables_read kind tables items) e
  groups_are_read e h =
      of_more (of_groups tables items) (tables_read kind tables items) e (λ x. x) (λ f. absurd (cc)) (λ f. absurd (cc)) (λ f. absurd (cc)) h

  pub tables_are_read : (e : KnownError)
      → IsOfRead (of_module (list_any (reads_access tables items) (numbers items)) (list_any (reads_time kind tables items) (numbers items))) e
      → IsOfRead (tables_read kind tables items) e
  tables_are_read e h =
      of_more (of_module (list_any (reads_access tables items) (numbers items)) (list_any (reads_time kind tables items) (numbers items)))
      (tables_read kind tables items) e (λ f. absurd (cc)) (λ x. x) (λ x. x) (λ f. absurd (cc)) h

  pub returns_are_read : (e : TableError) (bytes : List ℕ) → e.table ≡ Returns → tables.returns ≡ Some bytes
      → IsOfRead (tables_read kind tables items) (known.Table (record { number = 1; error = e }))
  returns_are_read e bytes is given = ap (is_read (tables_read kind tables items)) is ∙ ap is_some given

-- ---- what is read is given

both_first : (x y : Bool) → (x && y) ≡ true → x ≡ true
both_first true y h = refl
both_first false y h = absurd (cc)

any_gives : (test : ℕ → Bool) (numbers : List ℕ) (given : Bool) → ((n : ℕ) → test n ≡ true → given ≡ true) → list_any test numbers ≡ true → given ≡ true
any_gives test [] given each h = absurd (cc)
any_gives test (n ∷ ns) given each h =
    elim (test n) as (λ (t : Bool). test n ≡ t → (t || list_any test ns) ≡ true → given ≡ true) [
      | true ↦ λ e k. each n e
      | false ↦ λ e k. any_gives test ns given each k
    ] refl h

module_gives : (reads : ModuleText → Bool) (m : Option ModuleText) (given : Bool) → ((m : ModuleText) → reads m ≡ true → given ≡ true)
    → option_map_or reads m false ≡ true → given ≡ true
module_gives reads None given each h = absurd (cc)
module_gives reads (Some m) given each h = each m h

reader_gives : {A : Type 0} (reads : Bool) (given : Option A) → is_some (if reads then given else None) ≡ true → is_some given ≡ true
reader_gives true given h = h
reader_gives false given h = absurd (cc)

access_given : (tables : TablesText) (items : Items) → list_any (reads_access tables items) (numbers items) ≡ true →
    is_some (if_any tables.access) ≡ true
unfolding access_read
access_given tables items h =
    any_gives (reads_access tables items) (numbers items) (is_some (if_any tables.access))
    (λ n some. module_gives (λ m. is_some (access_read tables m)) (module_at n items) (is_some (if_any tables.access))
    (λ m reads. reader_gives _ (if_any tables.access) reads) some) h

time_given : (kind : Kind) (tables : TablesText) (items : Items) → list_any (reads_time kind tables items) (numbers items) ≡ true → is_some tables.time ≡ true
unfolding time_read
time_given kind tables items h =
    any_gives (reads_time kind tables items) (numbers items) (is_some tables.time)
    (λ n some. module_gives (λ m. is_some (time_read kind tables m)) (module_at n items) (is_some tables.time)
    (λ m reads. reader_gives _ tables.time reads) some) h

pub read_is_given : (kind : Kind) (tables : TablesText) (items : Items) (e : KnownError) → IsOfRead (tables_read kind tables items) e
    → IsOfRead (all_given tables) e
read_is_given kind tables items e h =
    of_more (tables_read kind tables items) (all_given tables) e
    (λ g. both_first (is_some tables.groups) (list_any (reads_access tables items) (numbers items)) g)
    (access_given tables items) (time_given kind tables items) (λ r. r) h
