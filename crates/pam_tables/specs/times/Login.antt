-- A login: pam_time(8), pam_access(8).
use Rattle.std.specs.Prelude.{ℕ, List, take, drop, codes, if◌then◌else◌}
use Rattle.std.specs.Str.{bytes_eq}
use Rattle.pam_tables.specs.declared.times.login.Login.{Login}

pub record LoginText : Type 0 where
  pub user : List ℕ
  pub service : List ℕ
  pub tty : List ℕ
  pub rhost : List ℕ

abbrev pub login_view : Login → LoginText
login_view l = record { user = l.user.now; service = l.service.now; tty = l.tty.now; rhost = l.rhost.now }

-- a terminal without one `/dev/` prefix
abbrev pub without_dev : List ℕ → List ℕ
without_dev tty = if bytes_eq (take 5 tty) (codes "/dev/") then drop 5 tty else tty
