-- Access tables that are read one after another.
use Rattle.std.proofs.Common.{◌≡◌, ◌∙◌, ◌++◌, ℕ, ◌+◌, ◌<◌, List, [], ◌∷◌, add-one, append_assoc, append-nil, ap, false, get_or, length, map, refl}
use Rattle.std.proofs.Common.{◌≤◌, ◌==◌, Bool, arith, nat_le, subst, suc, sym, take, true, zero}
use Rattle.std.proofs.Math.Seq.{take-suc}
use Rattle.std.proofs.lemmas.Bool.{eq-eqb}
use Rattle.std.proofs.lemmas.Bool.Decides.{nat_tests}
use Rattle.std.proofs.lemmas.List.{length-map, map-append}
use Rattle.std.proofs.lemmas.List.Elements.{filter-append}
use Rattle.std.specs.List.{filter}
use Rattle.std.specs.Prelude.{codes}
use Rattle.clap.specs.Words.{Text}
use Rattle.pam_report.specs.declared.inputs.AccessFiles.{AccessFiles}
use Rattle.pam_words.specs.declared.wanted.ConfSource.{ConfSource}
use Rattle.pam_cli.specs.AccessTables.{AreAccess, AreContents, AreFilesAt, AreNamed, AreNone, AreOfSystem, is_table_name}
use Rattle.pam_cli.specs.Sources.{AreInOrder}
use Rattle.pam_cli.specs.System.{PlaceText, Told, entry_at}
use Rattle.pam_cli.specs.System as system
use Rattle.pam_cli.specs.inner.AccessTables.{AddsEntries, AddsEntry, AddsFile, AddsFolder, AddsOwn, AddsTables}
use Rattle.pam_cli.specs.declared.system.Found.TheVariants as there

abbrev File : Type 0
File = Text × Text

-- the view of one more element
view_with : {A : Type 0} (view : A → Text) (xs : List A) (i : ℕ) (d : A) → i < length xs
    → map view (take (i + 1) xs) ≡ map view (take i xs) ++ view (get_or xs i d) ∷ []
view_with view xs i d low = rw add-one (ap (map view) (take-suc xs i d low) ∙ map-append view (take i xs) (get_or xs i d ∷ []))

-- tables after others
tables_and : (files more : List File) (first old new : AccessFiles) → AddsTables files first old → AddsTables more old new
    → AddsTables (files ++ more) first new
tables_and files more first old new before added = record {
  paths = added.paths ∙ ap (λ ps. ps ++ map (λ (f : File). f.0) more) before.paths
      ∙ append_assoc first.paths (map (λ (f : File). f.0) files) (map (λ (f : File). f.0) more)
      ∙ ap (λ ps. first.paths ++ ps) (sym (map-append (λ (f : File). f.0) files more));
  contents = added.contents ∙ ap (λ cs. cs ++ map (λ (f : File). f.1) more) before.contents
      ∙ append_assoc first.contents (map (λ (f : File). f.1) files) (map (λ (f : File). f.1) more)
      ∙ ap (λ cs. first.contents ++ cs) (sym (map-append (λ (f : File). f.1) files more));
}

no_more_than : (n m : ℕ) → n ≤ m → nat_le n m ≡ true
no_more_than n m h = grind (arith, nat_tests)

no_more : (tables : AccessFiles) → AddsTables [] tables tables
no_more tables = record { paths = sym (append-nil tables.paths); contents = sym (append-nil tables.contents) }

module _ (told : Told) where
  -- ---- tables that are named

  contents_with : (names contents : List Text) (name bytes : Text) → AreContents told names contents → told.file name bytes
      → AreContents told (names ++ name ∷ []) (contents ++ bytes ∷ [])
  contents_with [] [] name bytes h read = (read, tt)
  contents_with (n ∷ names) (c ∷ contents) name bytes h read = (h.0, contents_with names contents name bytes h.1 read)
  contents_with [] (c ∷ contents) name bytes h read = absurd h
  contents_with (n ∷ names) [] name bytes h read = absurd h

  -- one more table that is named
  pub next_named : {A : Type 0} (view : A → Text) (xs : List A) (i : ℕ) (d : A) → i < length xs → (bytes : Text) (old new : AccessFiles)
      → AreNamed told (map view (take i xs)) old → told.file (view (get_or xs i d)) bytes → AddsTables ((view (get_or xs i d), bytes) ∷ []) old new
      → AreNamed told (map view (take (i + 1) xs)) new
  next_named view xs i d low bytes old new before read added =
      let name = view (get_or xs i d) in
      let names = map view (take i xs) in
      subst (λ (l : List Text). AreNamed told l new) (sym (view_with view xs i d low)) (
        added.paths ∙ ap (λ ps. ps ++ name ∷ []) before.0,
        subst (λ (l : List Text). AreContents told (names ++ name ∷ []) l) (sym added.contents)
            (contents_with names old.contents name bytes before.1 read),
      )

  -- ---- how many are given

  contents_length : (names contents : List Text) → AreContents told names contents → length contents ≡ length names
  contents_length [] [] h = refl
  contents_length (n ∷ names) (c ∷ contents) h = ap suc (contents_length names contents h.1)
  contents_length [] (c ∷ contents) h = absurd h
  contents_length (n ∷ names) [] h = absurd h

  -- the contents of as many tables as are named
  pub as_many : {A : Type 0} (view : A → Text) (named : List A) (contents : List Text) → AreContents told (map view named) contents
      → (length contents == length named) ≡ true
  as_many view named contents h = eq-eqb _ _ (contents_length (map view named) contents h ∙ length-map named view)

  -- each table that is named is given
  pub all_given : {A : Type 0} (reads : Bool) (source : ConfSource) (view : A → Text) (named : List A) (tables : AccessFiles)
      → AreAccess told reads source (map view named) tables → nat_le (length named) (length tables.contents) ≡ true
  all_given reads source view [] tables h = no_more_than zero (length tables.contents) (omega arith)
  all_given reads source view (n ∷ named) tables h =
      let same = contents_length (map view (n ∷ named)) tables.contents h.1 ∙ length-map (n ∷ named) view in
      no_more_than (length (n ∷ named)) (length tables.contents) (omega (arith, same))

  -- ---- tables of a folder

  files_and : (folder : PlaceText) (names later : List Text) (files more : List File) → AreFilesAt told folder names files
      → AreFilesAt told folder later more → AreFilesAt told folder (names ++ later) (files ++ more)
  files_and folder [] later files more before at = subst (λ (l : List File). AreFilesAt told folder later (l ++ more)) (sym before) at
  files_and folder (n ∷ names) later files more before at = (
    before.0,
    before.1 ++ more,
    before.2,
    files_and folder names later before.1 more before.3 at,
    ap (λ l. l ++ more) before.4 ∙ append_assoc before.0 before.1 more,
  )

  -- no entry is read
  pub no_entry : (folder : PlaceText) (tables : AccessFiles) → AddsEntries told folder [] tables tables
  no_entry folder tables = ([], refl, no_more tables)

  -- an entry has no name of a table
  pub no_table : (folder : PlaceText) (name : Text) (tables : AccessFiles) → is_table_name name ≡ false → AddsEntry told folder name tables tables
  no_table folder name tables other = ([], rw other refl, no_more tables)

  -- an entry has the name of a table
  pub one_table : (folder : PlaceText) (name : Text) (old new : AccessFiles) → is_table_name name ≡ true
      → AddsFile told (entry_at folder name) old new → AddsEntry told folder name old new
  one_table folder name old new named added =
      (added.0, rw named (added.0, [], added.1, refl, sym (append-nil added.0)), added.2)

  -- one more entry
  pub next_entry : (folder : PlaceText) {A : Type 0} (view : A → Text) (xs : List A) (i : ℕ) (d : A) → i < length xs → (first old new : AccessFiles)
      → AddsEntries told folder (map view (take i xs)) first old → AddsEntry told folder (view (get_or xs i d)) old new
      → AddsEntries told folder (map view (take (i + 1) xs)) first new
  next_entry folder view xs i d low first old new before added =
      let name = view (get_or xs i d) in
      let names = map view (take i xs) in
      let same : filter is_table_name (map view (take (i + 1) xs)) ≡ filter is_table_name names ++ filter is_table_name (name ∷ []) =
      ap (filter is_table_name) (view_with view xs i d low) ∙ filter-append is_table_name names (name ∷ []) in (
        before.0 ++ added.0,
        subst (λ (l : List Text). AreFilesAt told folder l (before.0 ++ added.0)) (sym same)
            (files_and folder (filter is_table_name names) (filter is_table_name (name ∷ [])) before.0 added.0 before.1 added.1),
        tables_and before.0 added.0 first old new before.2 added.2,
      )

  -- all entries of a folder
  pub all_entries : (folder : PlaceText) (names : List Text) (old new : AccessFiles) → told.look folder there.Folder → told.entries folder names
      → AreInOrder names → AddsEntries told folder names old new → AddsFolder told folder old new
  all_entries folder names old new looked listed order added = (there.Folder, added.0, looked, (names, listed, order, added.1), added.2)

  -- access.conf and then the tables of access.d
  pub of_system : (root : Text) (none old new : AccessFiles) → AreNone none
      → AddsOwn told (system.below root (codes "etc/security/access.conf")) none old
      → AddsFolder told (system.below root (codes "etc/security/access.d")) old new → AreOfSystem told root new
  of_system root none old new empty own beside =
      let all = tables_and own.0 beside.1 none old new own.2 beside.4 in
      record {
        first = own.0;
        later = beside.1;
        own = own.1;
        found = beside.0;
        looked = beside.2;
        beside = beside.3;
        paths = all.paths ∙ ap (λ ps. ps ++ map (λ (f : File). f.0) (own.0 ++ beside.1)) empty.0;
        contents = all.contents ∙ ap (λ cs. cs ++ map (λ (f : File). f.1) (own.0 ++ beside.1)) empty.1;
      }
