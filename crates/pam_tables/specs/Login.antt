-- A login, and where it comes from: access.conf(5), pam_access(8).
use Rattle.std.specs.Prelude.{ℕ, List, length, ◌==◌, not, if◌then◌else◌}
pub use Rattle.pam_tables.specs.times.Login.{LoginText, login_view, without_dev}

-- the origin of a login: a remote host, or a local place
pub data OriginText : Type 0 where
  Remote : List ℕ → OriginText
  Local : List ℕ → OriginText

-- the remote host if there is one, else the terminal if there is one, else the service
unfoldable pub origin_of : LoginText → OriginText
origin_of l =
    if not (length l.rhost == 0) then Remote l.rhost
    else if not (length l.tty == 0) then Local (without_dev l.tty)
    else Local l.service
