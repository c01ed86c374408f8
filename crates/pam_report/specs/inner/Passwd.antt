-- For private contracts and proofs alone: users by the numbers of their groups.
use Rattle.std.specs.Prelude.{ℕ, List, [], ◌∷◌, Vec}
use Rattle.std.specs.Borrow.{Bor}
use Rattle.std.specs.Global.{Global}
use Rattle.std.specs.Map.{lookup}
use Rattle.std.specs.Option.{option_map_or}
use Rattle.std.specs.Str.{bytes_eq}
use Rattle.pam_report.specs.Passwd.{Fields}
use Rattle.pam_report.specs.declared.passwd.GroupFields.{GroupFields}
use Rattle.pam_report.specs.declared.passwd.PrimaryGroup.{PrimaryGroup}

abbrev pub user_view : PrimaryGroup → List ℕ × List ℕ
user_view group = (group.user.now, group.number.now)

abbrev pub group_view : GroupFields → Fields
group_view group = (group.name.now, group.password.now, group.number.now, group.members.now)

-- the first part of a text that is cut
abbrev pub first_part : List (List ℕ) → List ℕ
first_part [] = []
first_part (part ∷ parts) = part

-- the users that are known of this number
abbrev pub users_known : List ℕ → List (Bor (List ℕ) × Vec ℕ Global) → List ℕ
users_known number users = option_map_or (λ names. names.items) (lookup (λ key. bytes_eq number key.now) users) []
