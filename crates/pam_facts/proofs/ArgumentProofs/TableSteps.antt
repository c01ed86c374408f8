-- Lines that are put into an index by their names, one after another.
use Rattle.std.proofs.Common.{◌≡◌, ◌∙◌, ℕ, Bool, true, false, List, [], ◌∷◌, Bor, cond, Option, Some, None, if◌then◌else◌, refl, sym, ap}
use Rattle.std.proofs.lemmas.Slice.Eq.{bytes_eq-Decides}
use Rattle.std.specs.List.{filter_map}
use Rattle.std.specs.Map.{lookup}
use Rattle.std.specs.Option.{option_map, option_or}
use Rattle.std.specs.Str.{bytes_eq}
use Rattle.indexmap.specs.IndexMap.{insert_entry}
use Rattle.pam_text.specs.Cut.{cut_at, is_among}
use Rattle.pam_facts.specs.arguments.Cuts.{parts_of}
use Rattle.pam_facts.specs.arguments.Table.{line_named, lines_of}

abbrev pub Index : Type 0
Index = List (Bor (List ℕ) × Bor (List ℕ))

-- what an index has at a name
abbrev pub at_name : List ℕ → Index → Option (Bor (List ℕ))
at_name name index = lookup {K = Bor (List ℕ)} {X = Bor (List ℕ)} (λ k. bytes_eq name k.now) index

-- the names and texts of lines
abbrev pub named_lines : List (List ℕ) → List (List ℕ × List ℕ)
named_lines lines = filter_map (λ line. cut_at (is_among (32 ∷ [])) line) lines

-- what an index has, and the lines that are left have
abbrev pub with_left : List ℕ → Index → List (List ℕ) → Option (List ℕ)
with_left name index left = option_or (line_named name (named_lines left)) (option_map (λ t. t.now) (at_name name index))

module _ (name a b : List ℕ) where
  same_name : bytes_eq a b ≡ true → bytes_eq name a ≡ bytes_eq name b
  same_name same = ap (λ (x : List ℕ). bytes_eq name x) ((bytes_eq-Decides a b).0 same)

  -- no name is two names
  one_name : bytes_eq a b ≡ false → bytes_eq name b ≡ true → bytes_eq name a ≡ false
  one_name other is = go (bytes_eq name a) refl
    where
      go : (t : Bool) → bytes_eq name a ≡ t → t ≡ false
      go false e = refl
      go true e =
          let same : bytes_eq a b ≡ true = (bytes_eq-Decides a b).1 (sym ((bytes_eq-Decides name a).0 e) ∙ (bytes_eq-Decides name b).0 is) in
          absurd (cc)

twice : {T : Type 0} (t : Bool) (x y l : T) → cond t x l ≡ cond t x (cond t y l)
twice true x y l = refl
twice false x y l = refl

crossed : {T : Type 0} (a b : Bool) (x y l : T) → (b ≡ true → a ≡ false) → cond b y (cond a x l) ≡ cond a x (cond b y l)
crossed true true x y l h = absurd (let e : true ≡ false = h refl in cc)
crossed true false x y l h = refl
crossed false true x y l h = refl
crossed false false x y l h = refl

-- a text that is put at a name is found there, and changes nothing at others
pub put_at : (name : List ℕ) (index : Index) (k v : Bor (List ℕ)) →
    at_name name (insert_entry (λ a b. bytes_eq a.now b.now) index k v) ≡ cond (bytes_eq name k.now) (Some v) (at_name name index)
put_at name [] k v = refl
put_at name (e ∷ es) k v =
    elim (bytes_eq k.now e.0.now) as (λ (t : Bool). bytes_eq k.now e.0.now ≡ t →
    at_name name (cond t ((e.0, v) ∷ es) (e ∷ insert_entry (λ a b. bytes_eq a.now b.now) es k v))
    ≡ cond (bytes_eq name k.now) (Some v) (at_name name (e ∷ es))) [
      | true ↦ λ h.
          twice (bytes_eq name e.0.now) (Some v) (Some e.1) (at_name name es)
          ∙ ap (λ (t : Bool). cond t (Some v) (at_name name (e ∷ es))) (sym (same_name name k.now e.0.now h))
      | false ↦ λ h.
          ap (λ (o : Option (Bor (List ℕ))). cond (bytes_eq name e.0.now) (Some e.1) o) (put_at name es k v)
          ∙ crossed (bytes_eq name k.now) (bytes_eq name e.0.now) (Some v) (Some e.1) (at_name name es) (one_name name k.now e.0.now h)
    ] refl

or_none : (o : Option (List ℕ)) → option_or o None ≡ o
or_none None = refl
or_none (Some x) = refl

pub at_start : (name text : List ℕ) (index : Index) (left : List (List ℕ)) → index ≡ [] → left ≡ parts_of 10 text →
    with_left name index left ≡ line_named name (lines_of text)
unfolding lines_of
at_start name text index left none all =
    ap (λ (i : Index). with_left name i left) none ∙ or_none (line_named name (named_lines left)) ∙ ap (λ ls. line_named name (named_lines ls)) all

joined : (m : Option (List ℕ)) (t : Bool) (v : Bor (List ℕ)) (o : Option (Bor (List ℕ))) →
    option_or m (option_map (λ x. x.now) (cond t (Some v) o)) ≡ option_or (option_or m (if t then Some v.now else None)) (option_map (λ x. x.now) o)
joined None true v o = refl
joined None false v o = refl
joined (Some x) t v o = refl

named_first : (line a b : List ℕ) (left : List (List ℕ)) → Some (a, b) ≡ cut_at (is_among (32 ∷ [])) line →
    named_lines (line ∷ left) ≡ (a, b) ∷ named_lines left
named_first line a b left e = rw (← e) refl

pub line_put : (name : List ℕ) (index new : Index) (all left : List (List ℕ)) (line : List ℕ) (k v : Bor (List ℕ)) →
    all ≡ line ∷ left → Some (k.now, v.now) ≡ cut_at (is_among (32 ∷ [])) line → new ≡ insert_entry (λ a b. bytes_eq a.now b.now) index k v →
    with_left name new left ≡ with_left name index all
line_put name index new all left line k v is cuts put =
    ap (λ (i : Index). with_left name i left) put
    ∙ ap (λ (o : Option (Bor (List ℕ))). option_or (line_named name (named_lines left)) (option_map (λ x. x.now) o)) (put_at name index k v)
    ∙ joined (line_named name (named_lines left)) (bytes_eq name k.now) v (at_name name index)
    ∙ sym (ap (λ (ls : List (List ℕ × List ℕ)). option_or (line_named name ls) (option_map (λ x. x.now) (at_name name index)))
    (named_first line k.now v.now left cuts))
    ∙ sym (ap (λ (ls : List (List ℕ)). with_left name index ls) is)
