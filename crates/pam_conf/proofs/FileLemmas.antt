use Rattle.std.proofs.Common.{◌≡◌, ◌+◌, ℕ, suc, Bool, true, false, not, cond, List, [], ◌∷◌, map, length, Some, None, Vec, position, ap, refl, ◌∙◌, arith}
use Rattle.std.specs.Global.{Global}
use Rattle.std.specs.Str.{bytes_eq}
use Rattle.std.specs.List.{position_or_len}
use Rattle.std.specs.Map.{keys_of, lookup}
use Rattle.std.proofs.lemmas.Bool.{le-ltb}
use Rattle.indexmap.specs.IndexMap.{insert_entry}
use Rattle.pam_conf.specs.Files.{Folder, Named, named, position_of, put_file}

abbrev pub Kept : Type 0
Kept = List (Vec ℕ Global × Vec ℕ Global)

prefix_named : (name : List ℕ) (es : Kept) → position_or_len (λ k. bytes_eq name k.items) (keys_of es) ≡ position_or_len (λ f. bytes_eq name f.0) (map named es)
prefix_named name [] = refl
prefix_named name (e ∷ es) = ap (λ n. cond (not (bytes_eq name e.0.items)) (1 + n) 0) (prefix_named name es)

length_named : (es : Kept) → length (keys_of es) ≡ length (map named es)
length_named [] = refl
length_named (e ∷ es) = ap suc (length_named es)

-- a name has the position of its key
pub position_named : (name : List ℕ) (es : Kept) → position (λ k. bytes_eq name k.items) (keys_of es) ≡ position_of name (map named es)
position_named name es = rw (prefix_named name es, length_named es) refl

insert_named : (name bytes : Vec ℕ Global) (es : Kept) → map named (insert_entry (λ a b. bytes_eq a.items b.items) es name bytes)
    ≡ put_file name.items bytes.items (map named es)
insert_named name bytes [] = refl
insert_named name bytes (e ∷ es) =
    elim (bytes_eq name.items e.0.items) as (λ (t : Bool). map named
    (cond t ((e.0, bytes) ∷ es) (e ∷ insert_entry (λ a b. bytes_eq a.items b.items) es name bytes))
    ≡ cond t ((e.0.items, bytes.items) ∷ map named es) (named e ∷ put_file name.items bytes.items (map named es)))
    [ true ↦ refl | false ↦ ap (λ fs. named e ∷ fs) (insert_named name bytes es) ]

past_all : (name : List ℕ) (es : Kept) → lookup (λ k. bytes_eq name k.items) es ≡ None →
    position_or_len (λ f. bytes_eq name f.0) (map named es) ≡ length (map named es)
past_all name [] h = refl
past_all name (e ∷ es) h =
    elim (bytes_eq name e.0.items) as (λ (t : Bool). cond t (Some e.1) (lookup (λ k. bytes_eq name k.items) es) ≡ None →
    cond (not t) (1 + position_or_len (λ f. bytes_eq name f.0) (map named es)) 0 ≡ suc (length (map named es))) [
      | true ↦ λ g. absurd (cc)
      | false ↦ λ g. let k : position_or_len (λ f. bytes_eq name f.0) (map named es) ≡ length (map named es) = past_all name es g in
          omega arith
    ] h

-- a name without a key has no position
pub position_none : (name : List ℕ) (es : Kept) → lookup (λ k. bytes_eq name k.items) es ≡ None → position_of name (map named es) ≡ None
position_none name es h = rw (past_all name es h, le-ltb (length (map named es)) (length (map named es)) (omega arith)) refl

abbrev with_entries : Folder → List Named → Folder
with_entries f es = record f { entries = es }

-- the files after an insertion
pub put_named : (f g : Folder) (es fs : Kept) (name bytes : Vec ℕ Global) → with_entries f (map named es) ≡ g →
    fs ≡ insert_entry (λ a b. bytes_eq a.items b.items) es name bytes →
    with_entries f (map named fs) ≡ with_entries g (put_file name.items bytes.items g.entries)
put_named f g es fs name bytes is new =
    ap (λ gs. with_entries f (map named gs)) new ∙ ap (with_entries f) (insert_named name bytes es)
    ∙ ap (λ (h : Folder). with_entries h (put_file name.items bytes.items h.entries)) is
