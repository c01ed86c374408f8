-- Tables that are named are given.
use Rattle.std.proofs.Common.{◌≡◌, ◌&&◌, Bool, None, Option, Some, ap₂, length, refl, subst, sym, true}
use Rattle.std.specs.Borrow.{Bor}
use Rattle.std.specs.Option.{option_copied, option_map}
use Rattle.std.specs.Prelude.{◌||◌, codes, is_none, is_some, nat_le}
use Rattle.clap.specs.Words.{Text}
use Rattle.pam_cli.specs.Reading.{AreKnownTables, AreTables, IsTable, has_user}
use Rattle.pam_cli.specs.System.{Told}
use Rattle.pam_cli.proofs.AccessTables.{all_given}
use Rattle.pam_report.specs.Inputs.{has_named_tables}
use Rattle.pam_report.specs.declared.inputs.TableFile.{TableFile}
use Rattle.pam_report.specs.declared.inputs.TableFiles.{TableFiles}
use Rattle.pam_words.specs.declared.wanted.ConfSource.{ConfSource}
use Rattle.pam_words.specs.declared.wanted.KnowledgeSource.{KnowledgeSource}
use Rattle.pam_words.specs.declared.wanted.TableNames.{TableNames}

one_given : (told : Told) (by : Bool) (source : ConfSource) (own : Text) (named : Option (Bor Text)) (table : Option TableFile)
    → IsTable told by source own (option_copied named) table → (is_none named || is_some table) ≡ true
one_given told by source own None table h = refl
one_given told by source own (Some name) (Some file) h = refl
one_given told by source own (Some name) None h = absurd h

-- each table that is named is given
pub tables_given : (told : Told) (by_login by_moment : Bool) (source : ConfSource) (named : TableNames) (tables : TableFiles)
    → AreTables told by_login by_moment source named tables → has_named_tables named tables ≡ true
tables_given told by_login by_moment source named tables h =
    ap₂ ◌&&◌ (one_given told by_login source (codes "etc/group") named.groups tables.groups h.groups)
    (ap₂ ◌&&◌ (all_given told by_login source (λ s. s.now) named.access.items tables.access h.access)
    (one_given told by_moment source (codes "etc/security/time.conf") named.time tables.time h.time))

-- what is made of each value is there where the value is
pub same_there : {A B C : Type 0} (f : A → C) (g : B → C) (a : Option A) (b : Option B) → option_map f a ≡ option_map g b → is_some a ≡ is_some b
same_there f g None None h = refl
same_there f g (Some x) (Some y) h = refl
same_there f g None (Some y) h = absurd (cc)
same_there f g (Some x) None h = absurd (cc)

-- with the users of a passwd file too
pub known_given : (told : Told) (source : ConfSource) (named : KnowledgeSource) (tables : TableFiles) → AreKnownTables told source named tables
    → has_named_tables named.tables tables ≡ true
known_given told source named tables h =
    let there : is_some tables.groups ≡ is_some h.read.groups = same_there _ _ tables.groups h.read.groups h.groups.bytes in
    let has : has_named_tables named.tables (record { groups = h.read.groups; access = tables.access; time = tables.time }) ≡ true =
    subst (λ access. has_named_tables named.tables (record { groups = h.read.groups; access = access; time = tables.time }) ≡ true) (sym h.access)
    (subst (λ time. has_named_tables named.tables (record { groups = h.read.groups; access = h.read.access; time = time }) ≡ true) (sym h.time)
    (tables_given told (has_user named) (has_user named && is_some named.moment) source named.tables h.read h.are_read)) in
    subst (λ is_there. ((is_none named.tables.groups || is_there)
    && (nat_le (length named.tables.access.items) (length tables.access.contents) && (is_none named.tables.time || is_some tables.time))) ≡ true)
    (sym there) has
