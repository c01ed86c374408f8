-- Groups of users: group(5).
use Rattle.std.specs.Prelude.{ℕ, Bool, false, List, [], ◌∷◌, filter, codes, if◌then◌else◌, Option, Some, None, Result, Ok, Err}
use Rattle.std.specs.List.{list_any, slice_split}
use Rattle.std.specs.Str.{bytes_eq}
use Rattle.pam_tables.specs.Error.{read_lines}
use Rattle.pam_tables.specs.Lines.{checked, has_bytes, is_among, is_blank_line, lines_from}
use Rattle.pam_tables.specs.Named.{first_of_each_read}
use Rattle.pam_tables.specs.declared.error.TableFault.{TableFault}
use Rattle.pam_tables.specs.declared.error.TableFault.TheVariants.{BadGroup}

-- a group's name and its members
abbrev pub Group : Type 0
Group = List ℕ × List (List ℕ)

-- the first group of that name lists the user
abbrev pub lists_user : List Group → List ℕ → List ℕ → Bool
lists_user [] name user = false
lists_user (group ∷ groups) name user = if bytes_eq name group.0 then list_any (λ m. bytes_eq m user) group.1 else lists_user groups name user

-- the members, joined by commas. Empty ones are dropped
unfoldable pub members_of : List ℕ → List (List ℕ)
members_of text = filter has_bytes (slice_split (is_among (codes ",")) text)

-- a group has exactly four fields: name, password, number, members
abbrev pub group_of_fields : List (List ℕ) → Result Group TableFault
group_of_fields (name ∷ password ∷ number ∷ members ∷ []) = if has_bytes name then Ok (name, members_of members) else Err BadGroup
group_of_fields _ = Err BadGroup

abbrev pub some_group : Result Group TableFault → Result (Option Group) TableFault
some_group (Ok group) = Ok (Some group)
some_group (Err fault) = Err fault

-- the group of a line. A blank line has none
unfoldable pub group_at : List ℕ → Result (Option Group) TableFault
group_at line = if is_blank_line line then Ok None else some_group (group_of_fields (slice_split (is_among (codes ":")) line))

-- the groups of a file, the first of each name, or its first fault
unfoldable pub groups_of : List ℕ → Result (List Group) (TableFault × ℕ)
groups_of bytes = checked bytes (first_of_each_read (read_lines (λ _ line. group_at line) (lines_from 1 bytes)))
