-- The labels of the edges of a picture.
use Rattle.std.specs.Prelude.{ℕ, ◌-◌, nat_le, nat_lt, Bool, true, false, ◌&&◌, if◌then◌else◌, List, [], ◌∷◌, codes, decimal, length, slice_get}
use Rattle.std.specs.Option.{option_map_or}
use Rattle.std.specs.List.{concat}
use Rattle.pam_codes.specs.SetText.{name_of, set_text}
use Rattle.pam_codes.specs.declared.code.TheConstants.{CODES}
use Rattle.pam_drawing.specs.declared.picture.label.TheConstants.{MAX_NAMED_CODES, MIN_ELSE_CODES}

-- a class of this number of codes is every answer but a few, and no other class of its node has as many
abbrev pub has_else : List ℕ → Bool
has_else class = nat_le MIN_ELSE_CODES (length class) && nat_lt (length class) CODES

abbrev pub is_named : List ℕ → Bool
is_named class = nat_le (length class) MAX_NAMED_CODES

-- the codes of a class are told below the picture
abbrev pub has_note : List ℕ → Bool
has_note class = nat_lt MAX_NAMED_CODES (length class) && nat_lt (length class) MIN_ELSE_CODES

abbrev pub first_name : List ℕ → List ℕ
first_name class = option_map_or name_of (slice_get class 0) []

-- the first code, how many more there are, and the number of the note
unfoldable pub noted_label : List ℕ → ℕ → List ℕ
noted_label class note =
    concat (first_name class ∷ codes " +" ∷ decimal (length class - 1) ∷ codes " (" ∷ decimal note ∷ codes ")" ∷ [])

abbrev pub else_text : Bool → List ℕ
else_text true = codes "else"
else_text false = []

-- THE LABEL of an edge with a class of answers: none for every answer, and none in the place of `else` where the node has no other edge
unfoldable pub label_text : Bool → List ℕ → ℕ → List ℕ
label_text forked class note =
    if has_else class then else_text forked
    else if is_named class then set_text class
    else if has_note class then noted_label class note
    else []
