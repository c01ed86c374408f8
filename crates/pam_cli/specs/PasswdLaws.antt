-- Laws of the users of a passwd file.
use Rattle.std.specs.Prelude.{◌≡◌, ◌&&◌, ◌||◌, ◌++◌, ℕ, Bool, false, List, Option, Some, None}
use Rattle.std.specs.List.{list_any}
use Rattle.std.specs.Str.{bytes_eq}
use Rattle.pam_report.specs.Passwd.{user_at, users_of}
use Rattle.pam_tables.specs.Groups.{members_of}

abbrev pub is_primary : List ℕ → List ℕ → Option (List ℕ × List ℕ) → Bool
is_primary user number None = false
is_primary user number (Some found) = bytes_eq found.0 user && bytes_eq number found.1

-- a line of the passwd file names the user, with this number for the group
abbrev pub has_primary : List ℕ → List ℕ → List (List ℕ) → Bool
has_primary user number lines = list_any (λ line. is_primary user number (user_at line)) lines

-- the users of a number and the members of a group's line are members, and nobody else is
abbrev pub PrimaryMembersAreListed : Type 0
PrimaryMembersAreListed = (user number members : List ℕ) (lines : List (List ℕ))
    → list_any (λ m. bytes_eq m user) (members_of (users_of number lines ++ members))
    ≡ (list_any (λ m. bytes_eq m user) (members_of members) || has_primary user number lines)
