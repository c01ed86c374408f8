-- The kinds for which the program of a service never asks, so that nobody is let in by its stacks for them.
use Rattle.std.specs.Prelude.{ℕ, Bool, false, List, [], ◌∷◌, codes}
use Rattle.std.specs.List.{list_any}
use Rattle.std.specs.Str.{bytes_eq}
use Rattle.pam_conf.specs.declared.rule.Kind.{Kind}
use Rattle.pam_conf.specs.declared.rule.Kind.TheVariants.{Auth, Account}

-- programs that start sessions or jobs of a user whom nobody has to check, as user@.service(5), cron(8) and atd(8)
unfoldable pub services_without_auth : List (List ℕ)
services_without_auth = codes "systemd-user" ∷ codes "elogind-user" ∷ codes "nodm" ∷ codes "cron" ∷ codes "crond" ∷ codes "atd" ∷ []

-- programs that look at who it is alone: lockers of a screen, whose user has logged in already, and runuser(1), which is root's
unfoldable pub services_without_account : List (List ℕ)
services_without_account =
    codes "i3lock" ∷ codes "swaylock" ∷ codes "gtklock" ∷ codes "poppassd" ∷ codes "runuser" ∷ codes "runuser-l" ∷ []

-- THE PROGRAM of a service never asks for a kind
abbrev pub never_asks : List ℕ → Kind → Bool
never_asks service Auth = list_any (bytes_eq service) services_without_auth
never_asks service Account = list_any (bytes_eq service) services_without_account
never_asks service kind = false
