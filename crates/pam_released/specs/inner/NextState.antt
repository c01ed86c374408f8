-- For private contracts and proofs alone: the state of a reader of words, byte by byte.
use Rattle.std.specs.Prelude.{ℕ, ◌==◌, ◌&&◌, not, false, if◌then◌else◌}
use Rattle.pam_codes.specs.Tokens.{is_blank}
use Rattle.pam_conf.specs.Words.{State, Between, Plain, Bracket}

abbrev pub next_state : State → ℕ → State
next_state Between b = if is_blank b then Between else if b == 91 then Bracket false else Plain
next_state Plain b = if is_blank b then Between else Plain
next_state (Bracket escaped) b = if b == 93 && not escaped then Between else Bracket (b == 92)
