-- Tokens, which are the passwords that a module asks for, and stores for the modules after it: pam_get_authtok(3), and the manual page of
-- each module.
use Rattle.std.specs.Prelude.{◌≡◌, ℕ, ◌&&◌, ◌||◌, Bool, true, false, not, List, [], ◌∷◌, codes, slice_get, Some}
use Rattle.std.specs.List.{list_any}
use Rattle.std.specs.Option.{option_map_or}
use Rattle.std.specs.Str.{bytes_eq}
use Rattle.pam_codes.specs.Code.{all_codes}
use Rattle.pam_conf.specs.Stack.{ModuleText, module_at}
use Rattle.pam_conf.specs.declared.rule.Kind.{Kind}
use Rattle.pam_conf.specs.declared.rule.Kind.TheVariants.{Auth, Password}
use Rattle.pam_facts.specs.Paths.{module_name}
use Rattle.pam_paths.specs.Known.{may_answer}
use Rattle.pam_findings.specs.host.Verdicts.{Judgement}
use Rattle.pam_findings.specs.stack.Leading.{Leads}

-- modules that with use_first_pass take only a token that a module before them asked for, where they check it
unfoldable pub first_takers : List (List ℕ)
first_takers =
    codes "pam_unix" ∷ codes "pam_ldap" ∷ codes "pam_sss" ∷ codes "pam_winbind" ∷ codes "pam_userdb" ∷ codes "pam_radius_auth" ∷ codes "pam_pwdfile"
    ∷ codes "pam_google_authenticator" ∷ codes "pam_oath" ∷ codes "pam_yubico" ∷ codes "pam_mysql" ∷ codes "pam_ccreds" ∷ codes "pam_pkcs11" ∷ []

-- modules that with use_authtok take only a new token that a module before them asked for, where they change it
unfoldable pub new_takers : List (List ℕ)
new_takers =
    codes "pam_unix" ∷ codes "pam_ldap" ∷ codes "pam_sss" ∷ codes "pam_winbind" ∷ codes "pam_krb5" ∷ codes "pam_pwhistory" ∷ codes "pam_pwquality"
    ∷ codes "pam_passwdqc" ∷ codes "pam_cracklib" ∷ []

-- modules that never ask for a token which others can take, whatever their arguments. Any other module may, and so may one that is unknown
unfoldable pub never_askers : List (List ℕ)
never_askers =
    codes "pam_deny" ∷ codes "pam_permit" ∷ codes "pam_env" ∷ codes "pam_access" ∷ codes "pam_nologin" ∷ codes "pam_faildelay" ∷ codes "pam_faillock"
    ∷ codes "pam_group" ∷ codes "pam_issue" ∷ codes "pam_keyinit" ∷ codes "pam_limits" ∷ codes "pam_succeed_if" ∷ codes "pam_rootok"
    ∷ codes "pam_wheel" ∷ codes "pam_listfile" ∷ codes "pam_localuser" ∷ codes "pam_securetty" ∷ codes "pam_shells" ∷ codes "pam_usertype"
    ∷ codes "pam_warn" ∷ codes "pam_debug" ∷ codes "pam_echo" ∷ codes "pam_selinux" ∷ codes "pam_sepermit" ∷ codes "pam_mail" ∷ codes "pam_motd"
    ∷ codes "pam_lastlog" ∷ codes "pam_rhosts" ∷ codes "pam_timestamp" ∷ codes "pam_time" ∷ codes "pam_canonicalize_user" ∷ codes "pam_tmpdir"
    ∷ codes "pam_cap" ∷ codes "pam_systemd" ∷ codes "pam_u2f" ∷ codes "pam_fprintd" ∷ codes "pam_duo" ∷ codes "pam_ssh_agent_auth" ∷ []

abbrev pub is_one_of : List (List ℕ) → List ℕ → Bool
is_one_of names name = list_any (bytes_eq name) names

-- a module of this name has a word with which it takes only a token that a module before it asked for
abbrev pub takes_by : Kind → List ℕ → List ℕ → Bool
takes_by Auth name word =
    (bytes_eq word (codes "use_first_pass") && is_one_of first_takers name) || (bytes_eq word (codes "force_first_pass") && bytes_eq name (codes "pam_krb5"))
takes_by Password name word =
    (bytes_eq word (codes "use_authtok") && is_one_of new_takers name) || (bytes_eq word (codes "use_first_pass") && bytes_eq name (codes "pam_unix"))
takes_by kind name word = false

abbrev pub takes : Kind → ModuleText → List ℕ → Bool
takes kind rule word = option_map_or (λ name. takes_by kind name word) (module_name rule.path) false

-- the argument at a position, from 0, is such a word
abbrev pub takes_at : Kind → ModuleText → ℕ → Bool
takes_at kind rule position = option_map_or (takes kind rule) (slice_get rule.arguments position) false

-- a rule has such a word
abbrev pub only_takes : Kind → ModuleText → Bool
only_takes kind rule = list_any (takes kind rule) rule.arguments

abbrev pub never_asks_for : ModuleText → Bool
never_asks_for rule = option_map_or (is_one_of never_askers) (module_name rule.path) false

-- a module may ask for a token that later modules can take
abbrev pub may_ask_for : Kind → ModuleText → Bool
may_ask_for kind rule = not (only_takes kind rule) && not (never_asks_for rule)

-- no run asks a module that may ask for a token, and then the module with this number
abbrev pub NoneAsksBefore : Kind → Judgement → ℕ → Type 0
NoneAsksBefore kind j number =
    (first : ℕ) (rule : ModuleText) → module_at first j.items ≡ Some rule → may_ask_for kind rule ≡ true →
    Leads (may_answer j.free) j.items all_codes first number → ⊥
