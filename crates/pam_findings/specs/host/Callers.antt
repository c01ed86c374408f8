-- Modules that look at the user of the calling process, and the services in which that user is whoever asks.
use Rattle.std.specs.Prelude.{ℕ, ◌&&◌, ◌||◌, Bool, true, false, not, List, [], ◌∷◌, codes}
use Rattle.std.specs.List.{list_any}
use Rattle.std.specs.Option.{option_map_or}
use Rattle.std.specs.Str.{bytes_eq}
use Rattle.pam_conf.specs.Stack.{ModuleText}
use Rattle.pam_conf.specs.declared.rule.Kind.{Kind}
use Rattle.pam_conf.specs.declared.rule.Kind.TheVariants.{Auth}
use Rattle.pam_facts.specs.Paths.{module_name}
use Rattle.pam_findings.specs.host.Unasked.{never_asks}

-- the services of programs that users start themselves: set-user-ID programs, tools of root, and what locks a screen
unfoldable pub user_services : List (List ℕ)
user_services =
    codes "su" ∷ codes "su-l" ∷ codes "runuser" ∷ codes "runuser-l" ∷ codes "sudo" ∷ codes "sudo-i" ∷ codes "pkexec" ∷ codes "polkit-1"
    ∷ codes "passwd" ∷ codes "chsh" ∷ codes "chfn" ∷ codes "chpasswd" ∷ codes "newusers" ∷ codes "useradd" ∷ codes "userdel" ∷ codes "usermod"
    ∷ codes "groupadd" ∷ codes "groupdel" ∷ codes "groupmod" ∷ codes "at" ∷ codes "crontab" ∷ codes "schroot" ∷ codes "doas" ∷ codes "chage"
    ∷ codes "groupmems" ∷ codes "newrole" ∷ codes "run_init" ∷ codes "screen" ∷ codes "vlock" ∷ codes "physlock" ∷ codes "xscreensaver"
    ∷ codes "i3lock" ∷ codes "swaylock" ∷ codes "kde" ∷ codes "gnome-screensaver" ∷ codes "mate-screensaver" ∷ codes "cinnamon-screensaver"
    ∷ codes "xfce4-screensaver" ∷ codes "ukui-screensaver" ∷ codes "light-locker" ∷ codes "gtklock" ∷ codes "waylock" ∷ codes "hyprlock"
    ∷ codes "xlock" ∷ codes "xtrlock" ∷ codes "slock" ∷ codes "super" ∷ codes "calife" ∷ codes "pwauth" ∷ codes "frr" ∷ codes "config-util"
    ∷ codes "sudo-rs" ∷ codes "su-rs" ∷ []

-- the services of daemons that run as root, and ask on behalf of whoever comes
unfoldable pub daemon_services : List (List ℕ)
daemon_services =
    codes "sshd" ∷ codes "login" ∷ codes "remote" ∷ codes "rlogin" ∷ codes "rsh" ∷ codes "gdm" ∷ codes "gdm-password" ∷ codes "gdm-autologin"
    ∷ codes "gdm-fingerprint" ∷ codes "gdm-smartcard" ∷ codes "gdm-smartcard-exclusive" ∷ codes "gdm-smartcard-sssd-exclusive"
    ∷ codes "gdm-smartcard-sssd-or-password" ∷ codes "gdm-smartcard-pkcs11-exclusive" ∷ codes "gdm-launch-environment" ∷ codes "lightdm"
    ∷ codes "lightdm-autologin" ∷ codes "lightdm-greeter" ∷ codes "sddm" ∷ codes "sddm-autologin" ∷ codes "sddm-greeter" ∷ codes "xdm" ∷ codes "kdm"
    ∷ codes "lxdm" ∷ codes "slim" ∷ codes "wdm" ∷ codes "greetd" ∷ codes "greetd-greeter" ∷ codes "ftp" ∷ codes "vsftpd" ∷ codes "proftpd"
    ∷ codes "pure-ftpd" ∷ codes "dovecot" ∷ codes "imap" ∷ codes "pop3" ∷ codes "smtp" ∷ codes "cockpit" ∷ codes "xrdp-sesman" ∷ codes "samba"
    ∷ codes "cups" ∷ codes "ppp" ∷ codes "pcsd" ∷ codes "monit" ∷ codes "radiusd" ∷ codes "ocserv" ∷ []

-- the services of greeters, which are asked for the user as which the greeter itself runs, and let in nobody else
unfoldable pub greeter_services : List (List ℕ)
greeter_services =
    codes "lightdm-greeter" ∷ codes "sddm-greeter" ∷ codes "greetd-greeter" ∷ codes "gdm-launch-environment" ∷ []

abbrev pub is_user_service : List ℕ → Bool
is_user_service service = list_any (bytes_eq service) user_services

abbrev pub is_daemon_service : List ℕ → Bool
is_daemon_service service = list_any (bytes_eq service) daemon_services

abbrev pub is_greeter : List ℕ → Bool
is_greeter service = list_any (bytes_eq service) greeter_services

abbrev pub has_argument : List ℕ → List (List ℕ) → Bool
has_argument wanted arguments = list_any (λ argument. bytes_eq argument wanted) arguments

-- pam_rootok(8) asks whether the user of the process is root; with use_uid pam_succeed_if(8) and pam_usertype(8) test that user; and
-- with trust pam_wheel(8) succeeds by the groups of that user
abbrev pub asks_caller_by : List (List ℕ) → List ℕ → Bool
asks_caller_by arguments name =
    bytes_eq name (codes "pam_rootok")
    || (((bytes_eq name (codes "pam_succeed_if") || bytes_eq name (codes "pam_usertype")) && has_argument (codes "use_uid") arguments)
    || (bytes_eq name (codes "pam_wheel") && has_argument (codes "trust") arguments))

abbrev pub asks_caller : ModuleText → Bool
asks_caller m = option_map_or (asks_caller_by m.arguments) (module_name m.path) false

abbrev pub is_auth : Kind → Bool
is_auth Auth = true
is_auth kind = false

-- S14: a module looks at the user of the process, where no user has started the program: it is root where the program is a daemon. Where the
-- program never asks for auth, nobody is let in by it
abbrev pub caller_is_root : Kind → List ℕ → ModuleText → Bool
caller_is_root kind service m = is_auth kind && not (is_user_service service) && not (never_asks service kind) && asks_caller m
