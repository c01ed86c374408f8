-- The bytes that separate words.
use Rattle.std.specs.Prelude.{ℕ, Bool, ◌==◌, ◌||◌}

-- pam.conf(5), time.conf(5): a space, a tab or a carriage return
abbrev pub is_text_blank : ℕ → Bool
is_text_blank b = b == 32 || b == 9 || b == 13

-- access.conf(5), group(5): a space or a tab
abbrev pub is_table_blank : ℕ → Bool
is_table_blank b = b == 32 || b == 9
