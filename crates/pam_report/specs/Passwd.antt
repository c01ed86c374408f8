-- Primary groups: a user is also in the group whose number is in the user's line of a passwd file: passwd(5), group(5).
use Rattle.std.specs.Prelude.{ℕ, ◌+◌, ◌==◌, Bool, false, not, ◌&&◌, ◌||◌, List, [], ◌∷◌, ◌++◌, codes, drop, length, slice_get, take, if◌then◌else◌}
use Rattle.std.specs.Prelude.{Option, Some, None}
use Rattle.std.specs.Char.{is_ascii_digit}
use Rattle.std.specs.List.{list_all, list_any, prefix_len, slice_split}
use Rattle.std.specs.Option.{option_map_or}
use Rattle.std.specs.Str.{bytes_eq}
use Rattle.pam_text.specs.Cut.{is_among}
use Rattle.pam_text.specs.declared.source.TheConstants.{MAX_FILE_BYTES}

-- ---- the users of a passwd file

-- a number is one or more decimal digits
abbrev pub is_number : List ℕ → Bool
is_number text = not (length text == 0) && list_all is_ascii_digit text

-- the digits of a number without zeros at the front, which equal numbers have in common
abbrev pub without_zeros : List ℕ → List ℕ
without_zeros digits = drop (prefix_len (λ b. b == 48) digits) digits

-- a line that begins with `#`, `+` or `-` is a comment or one of NIS, and names no user
abbrev pub is_mark : ℕ → Bool
is_mark b = b == 35 || b == 43 || b == 45

-- the name of a user, which a list with commas can hold
abbrev pub is_user : List ℕ → Bool
is_user name = option_map_or (λ b. not (is_mark b) && not (list_any (λ c. c == 44) name)) (slice_get name 0) false

-- a user with the number of the user's group
abbrev pub user_with : List ℕ → List ℕ → Option (List ℕ × List ℕ)
user_with name number = if is_user name && is_number number then Some (name, without_zeros number) else None

-- the user of a line. One with fewer than four fields, or of no user or no number, names nobody
abbrev pub user_of_fields : List (List ℕ) → Option (List ℕ × List ℕ)
user_of_fields (name ∷ password ∷ own ∷ number ∷ others) = user_with name number
user_of_fields _ = None

unfoldable pub user_at : List ℕ → Option (List ℕ × List ℕ)
user_at line = user_of_fields (slice_split (is_among (codes ":")) line)

-- the name with a comma, if the user's group has this number
abbrev pub user_in : List ℕ → Option (List ℕ × List ℕ) → List ℕ
user_in number None = []
user_in number (Some user) = if bytes_eq number user.1 then user.0 ++ codes "," else []

-- the users of the lines whose groups have this number, with a comma after each
abbrev pub users_of : List ℕ → List (List ℕ) → List ℕ
users_of number [] = []
users_of number (line ∷ lines) = user_in number (user_at line) ++ users_of number lines

abbrev pub lines_of : List ℕ → List (List ℕ)
lines_of text = slice_split (is_among (codes "\n")) text

-- ---- the group file with them

-- the fields of a group's line: name, password, number, members
abbrev pub Fields : Type 0
Fields = List ℕ × List ℕ × List ℕ × List ℕ

abbrev pub group_with : List ℕ → List ℕ → List ℕ → List ℕ → Option Fields
group_with name password number members =
    if not (length name == 0) && is_number number then Some (name, password, number, members) else None

abbrev pub group_of_fields : List (List ℕ) → Option Fields
group_of_fields (name ∷ password ∷ number ∷ members ∷ []) = group_with name password number members
group_of_fields _ = None

unfoldable pub group_at : List ℕ → Option Fields
group_at line = group_of_fields (slice_split (is_among (codes ":")) line)

-- a group's line with these users of its number before its members. Any other line stays as it is
abbrev pub line_with : (List ℕ → List ℕ) → Option Fields → List ℕ → List ℕ
line_with users None line = line
line_with users (Some (name, password, number, members)) line =
    name ++ codes ":" ++ password ++ codes ":" ++ number ++ codes ":" ++ users (without_zeros number) ++ members

-- the lines with their users, joined by line feeds
abbrev pub lines_with : (List ℕ → List ℕ) → List (List ℕ) → List ℕ
lines_with users [] = []
lines_with users (line ∷ []) = line_with users (group_at line) line
lines_with users (line ∷ lines) = line_with users (group_at line) line ++ codes "\n" ++ lines_with users lines

-- THE GROUP FILE in which the users of a passwd file are members of the groups whose numbers their lines have. What is past one byte more
-- than a table may have is left out: by that byte the text is known to be too long
unfoldable pub with_primary_members : List ℕ → List ℕ → List ℕ
with_primary_members groups passwd = take (MAX_FILE_BYTES + 1) (lines_with (λ number. users_of number (lines_of passwd)) (lines_of groups))

-- the same, if there is a passwd file
abbrev pub with_users : List ℕ → Option (List ℕ) → List ℕ
with_users groups None = groups
with_users groups (Some passwd) = with_primary_members groups passwd
