-- The files of candidates.
use Rattle.std.proofs.Common.{◌≡◌, ◌∙◌, ◌++◌, ◌||◌, ◌==◌, ◌+◌, ◌<◌, Bool, true, false, List, [], ◌∷◌, ℕ, add-one, append-nil, ap, arith, get_or}
use Rattle.std.proofs.Common.{ap₂, inl, inr, length, map, not, refl, subst, sym, take, if◌then◌else◌}
use Rattle.std.proofs.Math.Seq.{take-suc}
use Rattle.std.proofs.lemmas.Bool.{eqb-true}
use Rattle.std.proofs.lemmas.List.{map-append}
use Rattle.std.proofs.lemmas.List.Elements.{filter-append}
use Rattle.std.proofs.lemmas.Slice.Eq.{bytes_eq-Decides}
use Rattle.std.specs.List.{filter, list_any}
use Rattle.std.specs.Str.{bytes_eq}
use Rattle.pam_conf.specs.Files.{Named}
use Rattle.pam_cli.specs.Sources.{AreFilesOf, IsOfCandidates, firsts_of, is_given}
use Rattle.pam_cli.specs.System.{Told}
use Rattle.pam_cli.specs.inner.Sources.{AddsCandidate}
use Rattle.pam_cli.specs.declared.reading.sources.SourceFiles.{SourceFiles}
use Rattle.pam_cli.proofs.Added.{among_names}

abbrev Pair : Type 0
Pair = List ℕ × List ℕ

-- a candidate of this name is among these
abbrev has : List ℕ → List Pair → Bool
has name cs = list_any (λ c. bytes_eq name c.0) cs

abbrev differs : Pair → Pair → Bool
differs c other = not (bytes_eq other.0 c.0)

abbrev unless : {A : Type 0} → Bool → A → List A
unless t x = if t then [] else x ∷ []

-- those of another name are still there if the ones of one name are left out
kept_names : (name : List ℕ) (c : Pair) → bytes_eq name c.0 ≡ false → (cs : List Pair) → has name (filter (differs c) cs) ≡ has name cs
kept_names name c other [] = refl
kept_names name c other (d ∷ ds) =
    elim (bytes_eq d.0 c.0) as (λ (t : Bool). bytes_eq d.0 c.0 ≡ t
    → has name (if not t then d ∷ filter (differs c) ds else filter (differs c) ds) ≡ (bytes_eq name d.0 || has name ds)) [
      | true ↦ λ same. kept_names name c other ds
          ∙ sym (ap (λ t. t || has name ds) (ap (bytes_eq name) ((bytes_eq-Decides d.0 c.0).0 same) ∙ other))
      | false ↦ λ apart. ap (λ t. bytes_eq name d.0 || t) (kept_names name c other ds)
    ] refl

-- the first ones have all names
has_firsts : (name : List ℕ) (cs : List Pair) → has name (firsts_of cs) ≡ has name cs
has_firsts name [] = refl
has_firsts name (c ∷ cs) =
    elim (bytes_eq name c.0) as (λ (t : Bool). bytes_eq name c.0 ≡ t → (t || has name (filter (differs c) (firsts_of cs))) ≡ (t || has name cs)) [
      | true ↦ λ same. refl
      | false ↦ λ other. kept_names name c other (firsts_of cs) ∙ has_firsts name cs
    ] refl

kept : (c d : Pair) (t : Bool) → filter (differs d) (unless t c) ≡ unless (bytes_eq c.0 d.0 || t) c
kept c d true =
    elim (bytes_eq c.0 d.0) as (λ (t : Bool). [] ≡ unless (t || true) c) [
      | true ↦ refl
      | false ↦ refl
    ]
kept c d false =
    elim (bytes_eq c.0 d.0) as (λ (t : Bool). (if not t then c ∷ [] else []) ≡ unless (t || false) c) [
      | true ↦ refl
      | false ↦ refl
    ]

-- one more candidate is a first one unless its name is there
firsts_with : (cs : List Pair) (c : Pair) → firsts_of (cs ++ c ∷ []) ≡ firsts_of cs ++ unless (has c.0 cs) c
firsts_with [] c = refl
firsts_with (d ∷ ds) c =
    ap (λ l. d ∷ filter (differs d) l) (firsts_with ds c)
    ∙ ap (λ l. d ∷ l) (filter-append (differs d) (firsts_of ds) (unless (has c.0 ds) c))
    ∙ ap (λ l. d ∷ (filter (differs d) (firsts_of ds) ++ l)) (kept c d (has c.0 ds))

-- files have the names of their candidates
names_alike : (told : Told) (cs : List Pair) (files : List Named) → AreFilesOf told cs files → map (λ c. c.0) cs ≡ map (λ f. f.0) files
names_alike told [] [] h = refl
names_alike told (c ∷ cs) (f ∷ fs) h = ap₂ (λ n ns. n ∷ ns) (sym h.0) (names_alike told cs fs h.2)
names_alike told [] (f ∷ fs) h = absurd h
names_alike told (c ∷ cs) [] h = absurd h

-- the file of one more candidate
files_with : (told : Told) (cs : List Pair) (files : List Named) (c : Pair) (bytes : List ℕ) → AreFilesOf told cs files → told.file c.1 bytes
    → AreFilesOf told (cs ++ c ∷ []) (files ++ (c.0, bytes) ∷ [])
files_with told [] [] c bytes h read = (refl, read, tt)
files_with told (d ∷ ds) (f ∷ fs) c bytes h read = (h.0, h.1, files_with told ds fs c bytes h.2 read)
files_with told [] (f ∷ fs) c bytes h read = absurd h
files_with told (d ∷ ds) [] c bytes h read = absurd h

module _ (told : Told) (cs : List Pair) (c : Pair) (folder : List ℕ) (old new : SourceFiles)
    (before : IsOfCandidates told cs folder old.files old.paths) where
  abbrev found_as : is_given c.0 old.files.entries ≡ has c.0 cs
  found_as =
      sym (among_names (λ (d : Pair). d.0) c.0 (firsts_of cs) old.files.entries (names_alike told (firsts_of cs) old.files.entries before.files))
      ∙ has_firsts c.0 cs

  -- one more candidate
  one_more : AddsCandidate told c old new → IsOfCandidates told (cs ++ c ∷ []) folder new.files new.paths
  one_more (inl given) =
      let firsts : firsts_of (cs ++ c ∷ []) ≡ firsts_of cs =
      firsts_with cs c ∙ ap (λ t. firsts_of cs ++ unless t c) (sym found_as ∙ given.0) ∙ append-nil (firsts_of cs) in
      subst (λ (found : SourceFiles). IsOfCandidates told (cs ++ c ∷ []) folder found.files found.paths) (sym given.1) (record {
        form = before.form;
        files = subst (λ (l : List Pair). AreFilesOf told l old.files.entries) (sym firsts) before.files;
        paths = before.paths ∙ ap (λ (l : List Pair). folder ∷ map (λ d. d.1) l) (sym firsts);
      })
  one_more (inr reads) =
      let bytes = reads.1.0 in
      let added = reads.1.2 in
      let firsts : firsts_of (cs ++ c ∷ []) ≡ firsts_of cs ++ c ∷ [] =
      firsts_with cs c ∙ ap (λ t. firsts_of cs ++ unless t c) (sym found_as ∙ reads.0) in
      let more = files_with told (firsts_of cs) old.files.entries c bytes before.files reads.1.1 in
      record {
        form = ap (λ f. f.form) added.files ∙ before.form;
        files = subst (λ (es : List Named). AreFilesOf told (firsts_of (cs ++ c ∷ [])) es) (sym (ap (λ f. f.entries) added.files))
            (subst (λ (l : List Pair). AreFilesOf told l (old.files.entries ++ (c.0, bytes) ∷ [])) (sym firsts) more);
        paths = added.paths ∙ ap (λ ps. ps ++ c.1 ∷ []) before.paths
            ∙ ap (λ l. folder ∷ l) (sym (map-append (λ (d : Pair). d.1) (firsts_of cs) (c ∷ [])))
            ∙ sym (ap (λ (l : List Pair). folder ∷ map (λ d. d.1) l) firsts);
      }

-- the next candidate of a list
pub next_one : (told : Told) {A : Type 0} (view : A → Pair) (cs : List A) (i : ℕ) (d : A) → i < length cs → (folder : List ℕ) (old new : SourceFiles)
    → IsOfCandidates told (map view (take i cs)) folder old.files old.paths → AddsCandidate told (view (get_or cs i d)) old new
    → IsOfCandidates told (map view (take (i + 1) cs)) folder new.files new.paths
next_one told view cs i d low folder old new before added =
    let same : map view (take (i + 1) cs) ≡ map view (take i cs) ++ view (get_or cs i d) ∷ [] =
    rw add-one (ap (map view) (take-suc cs i d low) ∙ map-append view (take i cs) (get_or cs i d ∷ [])) in
    subst (λ (l : List Pair). IsOfCandidates told l folder new.files new.paths) (sym same)
    (one_more told (map view (take i cs)) (view (get_or cs i d)) folder old new before added)

pub none_given : {A : Type 0} (view : A → Pair) (cs : List A) → (length cs == 0) ≡ true → map view cs ≡ []
none_given view [] e = refl
none_given view (c ∷ cs) e = absurd (let none : length (c ∷ cs) ≡ 0 = eqb-true _ _ e in omega (arith, none))
