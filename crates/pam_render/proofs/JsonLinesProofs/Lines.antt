-- The text of an object, member by member.
use Rattle.std.proofs.Common.{◌≡◌, ◌∙◌, ℕ, ◌+◌, ◌<◌, ◌≤◌, Bool, true, List, [], ◌∷◌, ◌++◌, ap, append_assoc, drop, drop_of_length-le, get_or, length, map, sym}
use Rattle.std.proofs.lemmas.List.{at_drop_more}
use Rattle.json.specs.Print.{quoted}
use Rattle.serde_json.specs.Data.{Data}
use Rattle.serde_json.specs.Written.{comma_if, compact_text, members_text}
use Rattle.pam_render.specs.json_lines.Line.{members_of}
use Rattle.pam_render.specs.json_lines.Values.{data_of, member_of}
use Rattle.pam_render.specs.json_lines.inner.Values.{member_text}
use Rattle.pam_render.specs.declared.json_lines.value.Member.{Member}

-- the text of members, with the closing brace
abbrev pub rest_text : {V : Type 0} → (V → Data) → Bool → List (Member V) → List ℕ
rest_text value later members = members_text later (members_of (map (member_of value) members))

-- one more member is written
pub member-more : {V : Type 0} (value : V → Data) (front text : List ℕ) (later : Bool) (members : List (Member V)) (i : ℕ) (d m : Member V)
    → i < length members → m ≡ get_or members i d
    → front ++ rest_text value later (drop i members) ≡ text
    → (front ++ (comma_if later ++ member_text value m)) ++ rest_text value true (drop (i + 1) members) ≡ text
member-more value front text later members i d m h is before =
    let rest = rest_text value true (drop (i + 1) members) in
    let at = get_or members i d in
    ap (λ x. (front ++ (comma_if later ++ member_text value x)) ++ rest) is
    ∙ append_assoc front (comma_if later ++ member_text value at) rest
    ∙ ap (λ l. front ++ l)
    (append_assoc (comma_if later) (member_text value at) rest
    ∙ ap (λ l. comma_if later ++ l) (append_assoc (quoted at.name.now) (58 ∷ compact_text (data_of value at.value)) rest))
    ∙ ap (λ l. front ++ l) (sym (at_drop_more (rest_text value later) members i d h)) ∙ before

-- no member is left
pub members-all : {V : Type 0} (value : V → Data) (front text : List ℕ) (later : Bool) (members : List (Member V)) (i : ℕ) → length members ≤ i
    → front ++ rest_text value later (drop i members) ≡ text → front ++ 125 ∷ [] ≡ text
members-all value front text later members i h before =
    ap (λ ms. front ++ rest_text value later ms) (sym (drop_of_length-le members h)) ∙ before
