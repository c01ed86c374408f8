-- Entries by name, of which the first of each name counts: in a map, and line by line.
use Rattle.std.proofs.Common.{◌≡◌, ◌∙◌, ◌++◌, ◌||◌, ℕ, Bool, true, false, List, [], ◌∷◌, map, cond, is_some, Option, Some, None, Result, Ok, Err, refl, sym, ap}
use Rattle.std.proofs.Common.{append_assoc, append-nil}
use Rattle.std.specs.List.{list_any}
use Rattle.std.specs.Map.{lookup}
use Rattle.std.specs.Option.{option_map}
use Rattle.std.specs.Str.{bytes_eq}
use Rattle.std.proofs.lemmas.List.{map-append}
use Rattle.indexmap.specs.IndexMap.{insert_entry}
use Rattle.pam_tables.specs.Error.{read_lines, onto_lines}
use Rattle.pam_tables.specs.Named.{first_of_each, first_of_each_read}
use Rattle.pam_tables.specs.inner.Named.{with_entry, with_line}
use Rattle.pam_tables.specs.declared.error.TableFault.{TableFault}

abbrev pub has_name : {V : Type 0} → List ℕ → List (List ℕ × V) → Bool
has_name name entries = list_any (λ e. bytes_eq name e.0) entries

-- ---- a map's entries

module _ {K X V : Type 0} (name : K → List ℕ) (value : X → V) where
  abbrev pub entry_view : K × X → List ℕ × V
  entry_view e = (name e.0, value e.1)

  pub known_name : (key : List ℕ) (es : List (K × X)) → has_name key (map entry_view es) ≡ is_some (lookup {K = K} {X = X} (λ k. bytes_eq key (name k)) es)
  known_name key [] = refl
  known_name key (e ∷ es) =
      elim (bytes_eq key (name e.0)) as (λ (t : Bool). (t || has_name key (map entry_view es))
      ≡ is_some (cond t (Some e.1) (lookup {K = K} {X = X} (λ k. bytes_eq key (name k)) es))) [ true ↦ refl | false ↦ known_name key es ]

  pub value_of_name : (key : List ℕ) (es : List (K × X)) →
      lookup {K = List ℕ} {X = V} (λ n. bytes_eq key n) (map entry_view es) ≡ option_map value (lookup {K = K} {X = X} (λ k. bytes_eq key (name k)) es)
  value_of_name key [] = refl
  value_of_name key (e ∷ es) =
      elim (bytes_eq key (name e.0)) as (λ (t : Bool). cond t (Some (value e.1)) (lookup {K = List ℕ} {X = V} (λ n. bytes_eq key n) (map entry_view es))
      ≡ option_map value (cond t (Some e.1) (lookup {K = K} {X = X} (λ k. bytes_eq key (name k)) es))) [ true ↦ refl | false ↦ value_of_name key es ]

  new_name_last : (k : K) (v : X) (es : List (K × X)) → has_name (name k) (map entry_view es) ≡ false →
      map entry_view (insert_entry (λ a b. bytes_eq (name a) (name b)) es k v) ≡ map entry_view es ++ (name k, value v) ∷ []
  new_name_last k v [] h = refl
  new_name_last k v (e ∷ es) h =
      elim (bytes_eq (name k) (name e.0)) as (λ (t : Bool). (t || has_name (name k) (map entry_view es)) ≡ false →
      map entry_view (cond t ((e.0, v) ∷ es) (e ∷ insert_entry (λ a b. bytes_eq (name a) (name b)) es k v))
      ≡ entry_view e ∷ (map entry_view es ++ (name k, value v) ∷ [])) [
        | true ↦ λ f. absurd (cc)
        | false ↦ λ f. ap (λ (gs : List (List ℕ × V)). entry_view e ∷ gs) (new_name_last k v es f)
      ] h

  pub added_last : (known : List (List ℕ × V)) (es more : List (K × X)) (k : K) (v : X) (key : List ℕ) (x : V) → map entry_view es ≡ known →
      name k ≡ key → value v ≡ x → has_name key known ≡ false → more ≡ insert_entry (λ a b. bytes_eq (name a) (name b)) es k v →
      map entry_view more ≡ known ++ (key, x) ∷ []
  added_last known es more k v key x e f g h i =
      let absent : has_name (name k) (map entry_view es) ≡ false = rw (e, f) h in
      ap (map entry_view) i ∙ new_name_last k v es absent ∙ rw (e, f, g) refl

module _ {K : Type 0} (name : K → List ℕ) where
  abbrev pub same_key : K → K → Bool
  same_key a b = bytes_eq (name a) (name b)

  put_back : {X : Type 0} (k : K) (new old : X) (es : List (K × X)) → lookup {K = K} {X = X} (same_key k) es ≡ Some old →
      insert_entry same_key (insert_entry same_key es k new) k old ≡ es
  put_back k new old [] h = absurd (cc)
  put_back {X} k new old (e ∷ es) h =
      elim (same_key k e.0) as (λ (t : Bool). same_key k e.0 ≡ t → cond t (Some e.1) (lookup {K = K} {X = X} (same_key k) es) ≡ Some old →
      insert_entry same_key (cond t ((e.0, new) ∷ es) (e ∷ insert_entry same_key es k new)) k old ≡ e ∷ es) [
        | true ↦ λ q f. let same : e.1 ≡ old = cc in rw q (ap (λ (x : X). (e.0, x) ∷ es) (sym same))
        | false ↦ λ q f. rw q (ap (λ (gs : List (K × X)). e ∷ gs) (put_back k new old es f))
      ] refl h

  -- a value that was replaced is put back
  pub restored : {X : Type 0} (k : K) (new old : X) (es more last : List (K × X)) (found : Option X) →
      found ≡ lookup {K = K} {X = X} (same_key k) es → found ≡ Some old → more ≡ insert_entry same_key es k new →
      last ≡ insert_entry same_key more k old → last ≡ es
  restored {X} k new old es more last found f g h i =
      i ∙ ap (λ (gs : List (K × X)). insert_entry same_key gs k old) h ∙ put_back k new old es (sym f ∙ g)

-- ---- entries line by line

module _ {V : Type 0} where
  -- the entries read so far, with those of the later lines
  unfoldable pub followed_by : List (List ℕ × V) → Result (List (List ℕ × V)) (TableFault × ℕ) → Result (List (List ℕ × V)) (TableFault × ℕ)
  followed_by known (Ok entries) = Ok (known ++ first_of_each (map (λ e. e.0) known) entries)
  followed_by known (Err e) = Err e

  pub none_before : (r : Result (List (List ℕ × V)) (TableFault × ℕ)) → followed_by [] r ≡ first_of_each_read r
  unfolding followed_by
  none_before (Ok entries) = refl
  none_before (Err e) = refl

  any-names : (name : List ℕ) (entries : List (List ℕ × V)) → list_any (λ n. bytes_eq name n) (map (λ e. e.0) entries) ≡ has_name name entries
  any-names name [] = refl
  any-names name (e ∷ es) = ap (λ (t : Bool). bytes_eq name e.0 || t) (any-names name es)

  one_more : (known : List (List ℕ × V)) (e : List ℕ × V) (r : Result (List (List ℕ × V)) (TableFault × ℕ)) (n : ℕ) →
      followed_by (with_entry known (Some e)) r ≡ followed_by known (onto_lines n (Ok (Some e)) r)
  unfolding followed_by
  one_more known e (Err f) n = refl
  one_more known e (Ok es) n =
      ap Ok (choose (has_name e.0 known) ∙ ap (λ (t : Bool). known ++ cond t (first_of_each (map (λ h. h.0) known) es)
      (e ∷ first_of_each (map (λ h. h.0) known ++ e.0 ∷ []) es)) (sym (any-names e.0 known)))
    where
      choose : (t : Bool) → cond t known (known ++ e ∷ []) ++ first_of_each (map (λ h. h.0) (cond t known (known ++ e ∷ []))) es
          ≡ known ++ cond t (first_of_each (map (λ h. h.0) known) es) (e ∷ first_of_each (map (λ h. h.0) known ++ e.0 ∷ []) es)
      choose true = refl
      choose false =
          append_assoc known (e ∷ []) _ ∙ ap (λ (ns : List (List ℕ)). known ++ e ∷ first_of_each ns es) (map-append (λ h. h.0) known (e ∷ []))

  step : (known new : List (List ℕ × V)) (n : ℕ) (r : Result (Option (List ℕ × V)) TableFault) (others : Result (List (List ℕ × V)) (TableFault × ℕ)) →
      with_line known r ≡ Ok new → followed_by new others ≡ followed_by known (onto_lines n r others)
  step known new n (Err f) others h = absurd (cc)
  step known new n (Ok None) others h = let same : known ≡ new = cc in ap (λ (es : List (List ℕ × V)). followed_by es others) (sym same)
  step known new n (Ok (Some e)) others h =
      let same : with_entry known (Some e) ≡ new = cc in
      ap (λ (es : List (List ℕ × V)). followed_by es others) (sym same) ∙ one_more known e others n

  stops : (known : List (List ℕ × V)) (n : ℕ) (fault : TableFault) (r : Result (Option (List ℕ × V)) TableFault)
      (others : Result (List (List ℕ × V)) (TableFault × ℕ)) → with_line known r ≡ Err fault → followed_by known (onto_lines n r others) ≡ Err (fault, n)
  unfolding followed_by
  stops known n fault (Err f) others h = let same : f ≡ fault = cc in ap (λ (x : TableFault). Err (x, n)) same
  stops known n fault (Ok o) others h = absurd (cc)

  -- a line with a name and a value adds them, if the name is new
  module _ (known : List (List ℕ × V)) (r : Result (Option (List ℕ × V)) TableFault) (name : List ℕ) (x : V) (e : r ≡ Ok (Some (name, x))) where
    pub name_known : has_name name known ≡ true → with_line known r ≡ Ok known
    name_known h = ap (with_line known) e ∙ ap (λ (t : Bool). Ok (cond t known (known ++ (name, x) ∷ []))) h

    pub name_new : (new : List (List ℕ × V)) → has_name name known ≡ false → new ≡ known ++ (name, x) ∷ [] → with_line known r ≡ Ok new
    name_new new h f = ap (with_line known) e ∙ ap (λ (t : Bool). Ok (cond t known (known ++ (name, x) ∷ []))) h ∙ ap Ok (sym f)

  module _ (read : List ℕ → Result (Option (List ℕ × V)) TableFault) where
    abbrev pub entries_in : List (ℕ × List ℕ) → Result (List (List ℕ × V)) (TableFault × ℕ)
    entries_in lines = read_lines (λ _ line. read line) lines

    pub line_added : (known new : List (List ℕ × V)) (n : ℕ) (line : List ℕ) (all lines : List (ℕ × List ℕ)) → all ≡ (n, line) ∷ lines →
        with_line known (read line) ≡ Ok new → followed_by new (entries_in lines) ≡ followed_by known (entries_in all)
    unfolding read_lines
    line_added known new n line all lines e h =
        step known new n (read line) (entries_in lines) h ∙ ap (λ (ls : List (ℕ × List ℕ)). followed_by known (entries_in ls)) (sym e)

    pub line_fails : (known : List (List ℕ × V)) (n : ℕ) (line : List ℕ) (all lines : List (ℕ × List ℕ)) (fault : TableFault) → all ≡ (n, line) ∷ lines →
        with_line known (read line) ≡ Err fault → followed_by known (entries_in all) ≡ Err (fault, n)
    unfolding read_lines
    line_fails known n line all lines fault e h =
        ap (λ (ls : List (ℕ × List ℕ)). followed_by known (entries_in ls)) e ∙ stops known n fault (read line) (entries_in lines) h

    pub lines_end : (known : List (List ℕ × V)) (all : List (ℕ × List ℕ)) → all ≡ [] → followed_by known (entries_in all) ≡ Ok known
    unfolding followed_by read_lines
    lines_end known all e = ap (λ (ls : List (ℕ × List ℕ)). followed_by known (entries_in ls)) e ∙ ap Ok (append-nil known)
