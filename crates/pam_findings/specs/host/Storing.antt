-- New passwords that are stored though a module refused them: pam_get_authtok(3), and the manual page of each module.
use Rattle.std.specs.Prelude.{◌≡◌, ℕ, ◌&&◌, ◌==◌, Bool, true, false, not, List, [], ◌∷◌, codes, Some}
use Rattle.std.specs.List.{list_any}
use Rattle.std.specs.Option.{option_map_or}
use Rattle.std.specs.Str.{bytes_eq}
use Rattle.pam_codes.specs.Code.{ignored, new_authtok_reqd, success}
use Rattle.pam_codes.specs.Set.{codes_where}
use Rattle.pam_conf.specs.Stack.{ModuleText, module_at}
use Rattle.pam_conf.specs.declared.rule.Kind.TheVariants.{Password}
use Rattle.pam_facts.specs.Paths.{module_name}
use Rattle.pam_paths.specs.Known.{may_answer}
use Rattle.pam_findings.specs.host.Tokens.{is_one_of, only_takes}
use Rattle.pam_findings.specs.host.Verdicts.{Judgement}
use Rattle.pam_findings.specs.stack.Leading.{Leads}
use Rattle.pam_findings.specs.declared.host.refusing.Refuser.{Refuser}
use Rattle.pam_findings.specs.declared.host.refusing.Refuser.TheVariants.{Cracklib, Passwdqc, Pwhistory, Pwquality}

-- modules that check new passwords, and refuse some
abbrev pub refuser_name : Refuser → List ℕ
refuser_name Cracklib = codes "pam_cracklib"
refuser_name Passwdqc = codes "pam_passwdqc"
refuser_name Pwhistory = codes "pam_pwhistory"
refuser_name Pwquality = codes "pam_pwquality"

-- with this word such a module refuses none
abbrev pub refuses_none_by : Refuser → List ℕ → Bool
refuses_none_by Cracklib word = false
refuses_none_by Passwdqc word = bytes_eq word (codes "enforce=none")
refuses_none_by Pwhistory word = bytes_eq word (codes "remember=0")
refuses_none_by Pwquality word = bytes_eq word (codes "enforcing=0")

abbrev pub is_refuser : Refuser → ModuleText → Bool
is_refuser by rule = option_map_or (λ name. bytes_eq name (refuser_name by)) (module_name rule.path) false

-- the module of a rule may refuse a new password
abbrev pub refuses : Refuser → ModuleText → Bool
refuses by rule = is_refuser by rule && not (list_any (refuses_none_by by) rule.arguments)

-- modules that store a new password, and ask for it where no module before them did
unfoldable pub storers : List (List ℕ)
storers = codes "pam_unix" ∷ codes "pam_ldap" ∷ codes "pam_sss" ∷ codes "pam_winbind" ∷ codes "pam_krb5" ∷ []

abbrev pub is_storer : ModuleText → Bool
is_storer rule = option_map_or (is_one_of storers) (module_name rule.path) false

-- the module of a rule stores a new password, and by no word takes only one that a module before it asked for
abbrev pub stores : ModuleText → Bool
stores rule = is_storer rule && not (only_takes Password rule)

-- all codes but success, new_authtok_reqd, with which requisite and its like go on as with success, and ignore
unfoldable pub failures : List ℕ
failures = codes_where (λ code. not (code == success) && (not (code == new_authtok_reqd) && not (code == ignored)))

-- some run asks a module that may refuse, which fails, and then the module with this number
abbrev pub FailsBefore : Refuser → Judgement → ℕ → Type 0
FailsBefore by j number =
    (first : ℕ) × (rule : ModuleText) × (module_at first j.items ≡ Some rule) × (refuses by rule ≡ true)
    × Leads (may_answer j.free) j.items failures first number
