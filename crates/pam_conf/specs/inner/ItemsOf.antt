-- For private contracts and proofs alone: a list of items as a tree.
use Rattle.std.specs.Prelude.{ℕ, ◌+◌}
use Rattle.pam_conf.specs.Stack.{Items, End, ThenModule, ThenSub}

-- the number of substacks, nested ones included
abbrev pub sub_count : Items → ℕ
sub_count End = 0
sub_count (ThenModule m rest) = sub_count rest
sub_count (ThenSub s inner rest) = sub_count inner + sub_count rest + 1
