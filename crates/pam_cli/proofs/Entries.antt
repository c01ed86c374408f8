-- The entries of a folder, which are read in the order of their names.
use Rattle.std.proofs.Common.{◌≡◌, ◌∙◌, ◌++◌, ◌||◌, Bool, List, Option, [], ◌∷◌, ℕ, append_assoc, append-nil, ap, false, inl, inr, map, refl, subst, sym, true}
use Rattle.std.proofs.lemmas.List.{map-append}
use Rattle.std.proofs.lemmas.List.Folds.{list_any-append}
use Rattle.std.proofs.lemmas.Slice.Eq.{bytes_eq-Decides}
use Rattle.std.specs.Cmp.Lexicographic.{slice_cmp}
use Rattle.std.specs.List.{AllByRecursion}
use Rattle.std.specs.List.Sorted.{IsStrictlySortedBy}
use Rattle.std.specs.Ordering.{nat_cmp}
use Rattle.std.specs.Str.{bytes_eq}
use Rattle.pam_conf.specs.Files.{Named}
use Rattle.pam_text.specs.Members.{Member}
use Rattle.pam_cli.specs.Sources.{AddsNamed, AreInOrder, IsHidden, IsKept, IsShown, IsThen, is_given}
use Rattle.pam_cli.specs.System.{PlaceText, Told, entry_at, shown}
use Rattle.pam_cli.specs.System as system
use Rattle.pam_cli.specs.inner.Sources.{AddsBefore, AddsEntry, AddsFile, ReadsEntry}
use Rattle.pam_cli.specs.declared.reading.sources.SourceFiles.{SourceFiles}
use Rattle.pam_cli.proofs.Added.{any-map, first_of_none, neither, second_of_none}
use Rattle.pam_cli.proofs.Rising.{all_with, rising-with, without}

abbrev names_of : List Named → List (List ℕ)
names_of files = map (λ f. f.0) files

-- ---- lists

every : {X : Type 0} (P Q : X → Type 0) → ((x : X) → P x → Q x) → (xs : List X) → AllByRecursion P xs → AllByRecursion Q xs
every P Q step [] h = tt
every P Q step (x ∷ xs) h = (step x h.0, every P Q step xs h.1)

member_front : (x : List ℕ) (xs ys : List (List ℕ)) → Member x xs → Member x (xs ++ ys)
unfolding Member
member_front x [] ys h = absurd h
member_front x (y ∷ xs) ys (inl same) = inl same
member_front x (y ∷ xs) ys (inr later) = inr (member_front x xs ys later)

member_last : (x : List ℕ) (xs : List (List ℕ)) → Member x (xs ++ x ∷ [])
unfolding Member
member_last x [] = inl refl
member_last x (y ∷ xs) = inr (member_last x xs)

second_true : (a b : Bool) → b ≡ true → (a || b) ≡ true
second_true true b h = refl
second_true false b h = h

-- a name is still given once more files are
given_more : (name : List ℕ) (files more : List Named) → is_given name files ≡ true → is_given name (files ++ more) ≡ true
given_more name files more given =
    list_any-append (λ (f : Named). bytes_eq name f.0) files more ∙ ap (λ t. t || is_given name more) given

given_last : (name bytes : List ℕ) (files : List Named) → is_given name (files ++ (name, bytes) ∷ []) ≡ true
given_last name bytes files =
    list_any-append (λ (f : Named). bytes_eq name f.0) files ((name, bytes) ∷ [])
    ∙ second_true (is_given name files) _ (ap (λ t. t || false) ((bytes_eq-Decides name name).1 refl))

module _ (told : Told) (above : Option PlaceText) (folder : PlaceText) where
  -- the file of an entry is added
  pub one_entry : (name text bytes path : List ℕ) (old new : SourceFiles) → name ≡ text → is_given name old.files.entries ≡ false
      → IsHidden told above name false → told.held (entry_at folder name) (system.bytes bytes)
      → path ≡ shown (entry_at folder name) → AddsFile name bytes path old new
      → AddsEntry told above folder text old new
  one_entry name text bytes path old new same lacked free held at added =
      subst (λ (n : List ℕ). AddsEntry told above folder n old new) same
      (inr (lacked, free, (bytes, held, subst (λ (p : List ℕ). AddsFile name bytes p old new) at added)))

  -- no entry is read
  pub no_entry : (left : List (List ℕ)) (found : SourceFiles) → told.entries folder left → AreInOrder left → AddsBefore told above folder left found found
  unfolding IsStrictlySortedBy
  no_entry left found listed order = record {
    names = left;
    listed = listed;
    done = [];
    all = refl;
    added = record {
      more = [];
      form = refl;
      entries = sym (append-nil found.files.entries);
      paths = sym (append-nil found.paths);
      lacked = refl;
      rising = tt;
      read = tt;
      left = tt;
    };
    order = order;
  }

  -- all entries are read
  pub all_entries : (left : List (List ℕ)) (old new : SourceFiles) → left ≡ [] → AddsBefore told above folder left old new
      → IsThen told above folder old.files old.paths new.files new.paths
  all_entries left old new none before =
      let same : before.names ≡ before.done = before.all ∙ ap (λ l. before.done ++ l) none ∙ append-nil before.done in
      record {
        names = before.names;
        listed = before.listed;
        added = subst (λ (ns : List (List ℕ)). AddsNamed told above folder ns old.files old.paths new.files new.paths) (sym same) before.added;
      }

  entry_more : (done : List (List ℕ)) (name : List ℕ) (f : Named) → IsShown told above folder done f
      → IsShown told above folder (done ++ name ∷ []) f
  entry_more done name f entry = ((member_front f.0 done (name ∷ []) entry.0.0, entry.0.1), entry.1)

  kept_more : (files more : List Named) (name : List ℕ) → IsKept told above folder files name → IsKept told above folder (files ++ more) name
  kept_more files more name (inl given) = inl (given_more name files more given)
  kept_more files more name (inr none) = inr none

  module _ (name : List ℕ) (left : List (List ℕ)) (old mid : SourceFiles) (before : AddsBefore told above folder (name ∷ left) old mid) where
    abbrev onward : before.names ≡ (before.done ++ name ∷ []) ++ left
    onward = before.all ∙ sym (append_assoc before.done (name ∷ []) left)

    abbrev entries_read : AllByRecursion (IsShown told above folder (before.done ++ name ∷ [])) before.added.more
    entries_read = every _ _ (entry_more before.done name) before.added.more before.added.read

    skipped : IsKept told above folder mid.files.entries name → AddsBefore told above folder left old mid
    skipped kept = record {
      names = before.names;
      listed = before.listed;
      done = before.done ++ name ∷ [];
      all = onward;
      added = record {
        more = before.added.more;
        form = before.added.form;
        entries = before.added.entries;
        paths = before.added.paths;
        lacked = before.added.lacked;
        rising = before.added.rising;
        read = entries_read;
        left = all_with (IsKept told above folder mid.files.entries) before.done name before.added.left kept;
      };
      order = without (names_of before.added.more) name left before.order;
    }

    read : (new : SourceFiles) → ReadsEntry told above folder name mid new → AddsBefore told above folder left old new
    read new reads =
        let lacked = reads.0 in
        let bytes = reads.2.0 in
        let file = reads.2.2 in
        let more = before.added.more in
        let one : List Named = (name, bytes) ∷ [] in
        let here = is_given name old.files.entries in
        let among = is_given name more in
        let none = sym (list_any-append (λ (f : Named). bytes_eq name f.0) old.files.entries more)
        ∙ ap (is_given name) (sym before.added.entries) ∙ lacked in
        let other = sym (any-map (λ (f : Named). f.0) name more) ∙ second_of_none here among none in
        let names : names_of (more ++ one) ≡ names_of more ++ name ∷ [] = map-append (λ (f : Named). f.0) more one in
        let entries : new.files.entries ≡ mid.files.entries ++ one = ap (λ f. f.entries) file.files in
        let place : Named → List ℕ = λ f. shown (entry_at folder f.0) in
        record {
          names = before.names;
          listed = before.listed;
          done = before.done ++ name ∷ [];
          all = onward;
          added = record {
            more = more ++ one;
            form = ap (λ f. f.form) file.files ∙ before.added.form;
            entries = entries ∙ ap (λ es. es ++ one) before.added.entries ∙ append_assoc old.files.entries more one;
            paths = file.paths ∙ ap (λ ps. ps ++ shown (entry_at folder name) ∷ []) before.added.paths
                ∙ append_assoc old.paths (map place more) (shown (entry_at folder name) ∷ [])
                ∙ ap (λ ps. old.paths ++ ps) (sym (map-append place more one));
            lacked = list_any-append (λ (f : Named). is_given f.0 old.files.entries) more one
                ∙ neither _ _ before.added.lacked (neither here false (first_of_none here among none) refl);
            rising = subst (IsStrictlySortedBy (slice_cmp nat_cmp)) (sym names) (rising-with (names_of more) name left before.added.rising before.order other);
            read = all_with (IsShown told above folder (before.done ++ name ∷ [])) more (name, bytes) entries_read
                ((member_last name before.done, reads.2.1), reads.1);
            left = subst (λ (es : List Named). AllByRecursion (IsKept told above folder es) (before.done ++ name ∷ [])) (sym entries)
                (all_with (IsKept told above folder (mid.files.entries ++ one)) before.done name
                (every _ _ (kept_more mid.files.entries one) before.done before.added.left) (inl (given_last name bytes mid.files.entries)));
          };
          order = subst AreInOrder (sym (ap (λ ns. ns ++ left) names ∙ append_assoc (names_of more) (name ∷ []) left)) before.order;
        }

    -- one more entry is read
    pub next_entry : (new : SourceFiles) → AddsEntry told above folder name mid new → AddsBefore told above folder left old new
    next_entry new (inl leaves) = subst (AddsBefore told above folder left old) (sym leaves.0) (skipped leaves.1)
    next_entry new (inr reads) = read new reads
