-- The fields of a group's line, its members, and the entry it adds.
use Rattle.std.proofs.Common.{◌≡◌, ◌∙◌, ◌||◌, ℕ, Bool, true, false, List, [], ◌∷◌, length, map, filter, cond, codes, Option, Some, None, Result}
use Rattle.std.proofs.Common.{Ok, Err, refl, sym, ap, arith, if◌then◌else◌}
use Rattle.std.specs.List.{list_any, slice_get, slice_split}
use Rattle.std.specs.Map.{lookup}
use Rattle.std.specs.Option.{option_map, option_map_or}
use Rattle.std.proofs.lemmas.Option.{slice_get-map}
use Rattle.std.specs.Str.{bytes_eq}
use Rattle.pam_tables.specs.Groups.{Group, members_of, lists_user, group_of_fields, some_group, group_at}
use Rattle.pam_tables.specs.inner.Groups.{lists_at}
use Rattle.pam_tables.specs.Lines.{has_bytes, is_among, cut_at, is_blank_line}
use Rattle.pam_tables.specs.inner.Named.{with_line}
use Rattle.pam_tables.specs.declared.error.TableFault.{TableFault}
use Rattle.pam_tables.specs.declared.error.TableFault.TheVariants.{BadGroup}
use Rattle.pam_tables.proofs.Cutting.{split_two, split_three, split_parts}
use Rattle.pam_text.proofs.Splits.{split_found, split_none}
use Rattle.pam_tables.proofs.NamedSteps.{entry_view}

-- ---- fields

abbrev colon : ℕ → Bool
colon = is_among (codes ":")

pub no_colon : (line : List ℕ) → None ≡ cut_at colon line → group_of_fields (slice_split colon line) ≡ Err BadGroup
no_colon line e = ap group_of_fields (split_none colon line e)

pub one_colon : (line a r : List ℕ) → Some (a, r) ≡ cut_at colon line → None ≡ cut_at colon r → group_of_fields (slice_split colon line) ≡ Err BadGroup
one_colon line a r e f = ap group_of_fields (split_found colon line a r e ∙ ap (λ (ps : List (List ℕ)). a ∷ ps) (split_none colon r f))

pub two_colons : (line a r b s : List ℕ) → Some (a, r) ≡ cut_at colon line → Some (b, s) ≡ cut_at colon r → None ≡ cut_at colon s →
    group_of_fields (slice_split colon line) ≡ Err BadGroup
two_colons line a r b s e f g = ap group_of_fields (split_two colon line a r b s e f ∙ ap (λ (ps : List (List ℕ)). a ∷ b ∷ ps) (split_none colon s g))

no_name : (a b c : List ℕ) (ps : List (List ℕ)) → length a ≡ 0 → group_of_fields (a ∷ b ∷ c ∷ ps) ≡ Err BadGroup
no_name a b c [] h = refl
no_name [] b c (m ∷ []) h = refl
no_name (x ∷ a) b c (m ∷ []) h = absurd (omega arith)
no_name a b c (m ∷ k ∷ ps) h = refl

pub empty_name : (line a r b s c d : List ℕ) → Some (a, r) ≡ cut_at colon line → Some (b, s) ≡ cut_at colon r → Some (c, d) ≡ cut_at colon s → length a ≡ 0 →
    group_of_fields (slice_split colon line) ≡ Err BadGroup
empty_name line a r b s c d e f g h = ap group_of_fields (split_three colon line a r b s c d e f g) ∙ no_name a b c (slice_split colon d) h

pub four_colons : (line a r b s c d x y : List ℕ) → Some (a, r) ≡ cut_at colon line → Some (b, s) ≡ cut_at colon r → Some (c, d) ≡ cut_at colon s →
    Some (x, y) ≡ cut_at colon d → group_of_fields (slice_split colon line) ≡ Err BadGroup
four_colons line a r b s c d x y e f g h =
    let ps = split_parts colon y in
    ap group_of_fields (split_three colon line a r b s c d e f g)
    ∙ ap (λ (qs : List (List ℕ)). group_of_fields (a ∷ b ∷ c ∷ qs)) (split_found colon d x y h ∙ ap (λ (qs : List (List ℕ)). x ∷ qs) ps.are)

name_first : (a b c d : List ℕ) → (length a ≡ 0 → ⊥) → group_of_fields (a ∷ b ∷ c ∷ d ∷ []) ≡ Ok (a, members_of d)
name_first [] b c d h = absurd (h refl)
name_first (x ∷ a) b c d h = refl

pub four_fields : (line a r b s c d : List ℕ) → Some (a, r) ≡ cut_at colon line → Some (b, s) ≡ cut_at colon r → Some (c, d) ≡ cut_at colon s →
    None ≡ cut_at colon d → (length a ≡ 0 → ⊥) → group_of_fields (slice_split colon line) ≡ Ok (a, members_of d)
four_fields line a r b s c d e f g h n =
    ap group_of_fields (split_three colon line a r b s c d e f g) ∙ ap (λ (qs : List (List ℕ)). group_of_fields (a ∷ b ∷ c ∷ qs)) (split_none colon d h)
    ∙ name_first a b c d n

-- ---- members

abbrev comma : ℕ → Bool
comma = is_among (codes ",")

abbrev pub has_part : List ℕ → List ℕ → Bool
has_part user text = list_any (λ m. bytes_eq m user) (slice_split comma text)

full_parts : (user : List ℕ) (ps : List (List ℕ)) → (length user ≡ 0 → ⊥) →
    list_any (λ m. bytes_eq m user) (filter has_bytes ps) ≡ list_any (λ m. bytes_eq m user) ps
full_parts user [] h = refl
full_parts [] (p ∷ ps) h = absurd (h refl)
full_parts (u ∷ us) ([] ∷ ps) h = full_parts (u ∷ us) ps h
full_parts (u ∷ us) ((b ∷ bs) ∷ ps) h = ap (λ (t : Bool). bytes_eq (b ∷ bs) (u ∷ us) || t) (full_parts (u ∷ us) ps h)

pub members_has : (user members : List ℕ) → (length user ≡ 0 → ⊥) → list_any (λ m. bytes_eq m user) (members_of members) ≡ has_part user members
unfolding members_of
members_has user members h = full_parts user (slice_split comma members) h

no_full_part : (ps : List (List ℕ)) → list_any (λ m. bytes_eq m []) (filter has_bytes ps) ≡ false
no_full_part [] = refl
no_full_part ([] ∷ ps) = no_full_part ps
no_full_part ((b ∷ bs) ∷ ps) = no_full_part ps

pub nobody : (user members : List ℕ) → length user ≡ 0 → false ≡ list_any (λ m. bytes_eq m user) (members_of members)
unfolding members_of
nobody [] members h = sym (no_full_part (slice_split comma members))
nobody (u ∷ us) members h = absurd (omega arith)

pub part_found : (user rest a r : List ℕ) → Some (a, r) ≡ cut_at comma rest → bytes_eq a user ≡ true → true ≡ has_part user rest
part_found user rest a r e f = sym (ap (list_any (λ m. bytes_eq m user)) (split_found comma rest a r e) ∙ ap (λ (t : Bool). t || has_part user r) f)

pub part_missed : (user rest a r : List ℕ) → Some (a, r) ≡ cut_at comma rest → bytes_eq a user ≡ false → has_part user r ≡ has_part user rest
part_missed user rest a r e f = sym (ap (list_any (λ m. bytes_eq m user)) (split_found comma rest a r e) ∙ ap (λ (t : Bool). t || has_part user r) f)

or_false : (b : Bool) → (b || false) ≡ b
or_false true = refl
or_false false = refl

pub last_part : (user rest : List ℕ) → None ≡ cut_at comma rest → bytes_eq rest user ≡ has_part user rest
last_part user rest e = sym (ap (list_any (λ m. bytes_eq m user)) (split_none comma rest e) ∙ or_false (bytes_eq rest user))

-- ---- a map's entries as groups

module _ {K V : Type 0} (name : K → List ℕ) (members : V → List (List ℕ)) where
  found : (f : V → Bool) (b : Bool) (v : V) (o : Option V) (x : Bool) → x ≡ option_map_or f o false →
      (if b then f v else x) ≡ option_map_or f (cond b (Some v) o) false
  found f true v o x e = refl
  found f false v o x e = e

  pub lists_user-map : (group user : List ℕ) (es : List (K × V)) →
      lists_user (map (entry_view name members) es) group user ≡ option_map_or (λ v. list_any (λ m. bytes_eq m user) (members v))
      (lookup {K = K} {X = V} (λ k. bytes_eq group (name k)) es) false
  lists_user-map group user [] = refl
  lists_user-map group user (e ∷ es) =
      found (λ v. list_any (λ m. bytes_eq m user) (members v)) (bytes_eq group (name e.0)) e.1 _ _ (lists_user-map group user es)

  -- a group that a map finds by its name is the one at its index
  module _ (groups : List Group) (es : List (K × V)) (view : map (entry_view name members) es ≡ groups) (user : List ℕ) where
    pub named_in : (group : List ℕ) (o : Option V) → o ≡ lookup {K = K} {X = V} (λ k. bytes_eq group (name k)) es →
        lists_user groups group user ≡ option_map_or (λ v. list_any (λ m. bytes_eq m user) (members v)) o false
    named_in group o e =
        sym (ap (λ o. option_map_or (λ v. list_any (λ m. bytes_eq m user) (members v)) o false) e ∙ sym (lists_user-map group user es)
        ∙ ap (λ gs. lists_user gs group user) view)

    pub listed_at : (index : ℕ) (k : K) (v : V) → slice_get es index ≡ Some (k, v) →
        lists_at groups user index ≡ list_any (λ m. bytes_eq m user) (members v)
    listed_at index k v e =
        let found : slice_get (map (entry_view name members) es) index ≡ Some (name k, members v) =
        slice_get-map (entry_view name members) es index ∙ ap (option_map (entry_view name members)) e in
        ap (λ gs. lists_at gs user index) (sym view) ∙ ap (λ o. option_map_or (λ g. list_any (λ m. bytes_eq m user) g.1) o false) found

-- ---- one line

pub blank_line : (known : List Group) (line : List ℕ) → is_blank_line line ≡ true → with_line known (group_at line) ≡ Ok known
unfolding group_at
blank_line known line h = rw h refl

pub bad_line : (known : List Group) (line : List ℕ) → is_blank_line line ≡ false → group_of_fields (slice_split colon line) ≡ Err BadGroup →
    with_line known (group_at line) ≡ Err BadGroup
unfolding group_at
bad_line known line h f = rw h (ap (λ (r : Result Group TableFault). with_line known (some_group r)) f)

pub group_line : (line name : List ℕ) (members : List (List ℕ)) → is_blank_line line ≡ false →
    group_of_fields (slice_split colon line) ≡ Ok (name, members) → group_at line ≡ Ok (Some (name, members))
unfolding group_at
group_line line name members h f = rw h (ap some_group f)
