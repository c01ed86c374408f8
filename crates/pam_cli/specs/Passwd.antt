-- A passwd file that is read, whose users are members of the groups of their numbers: passwd(5).
use Rattle.std.specs.Prelude.{◌≡◌, Bool, false, true, ℕ, MatchOption, Option, Some, None, Vec, codes}
use Rattle.std.specs.Global.{Global}
use Rattle.clap.specs.Words.{Text}
use Rattle.pam_text.specs.Source.{source_fault}
use Rattle.pam_words.specs.declared.wanted.ConfSource.{ConfSource}
use Rattle.pam_words.specs.declared.wanted.ConfSource.TheVariants.{Root}
use Rattle.pam_cli.specs.System.{PlaceText, Told}
use Rattle.pam_cli.specs.System as system

-- a passwd file that is named. It is neither too long nor has a NUL byte
abbrev pub IsNamedPasswd : Told → Text → Vec ℕ Global → Type 0
IsNamedPasswd told name passwd = told.file name passwd.items × (source_fault passwd.items ≡ None)

-- that of a place, if it is there
abbrev pub IsPasswdAt : Told → PlaceText → Option (Vec ℕ Global) → Type 0
IsPasswdAt told place None = told.held place system.nothing
IsPasswdAt told place (Some passwd) = told.held place (system.bytes passwd.items) × (source_fault passwd.items ≡ None)

-- that of the source, if it is read there
abbrev pub IsOwnPasswd : Told → Bool → ConfSource → Option (Vec ℕ Global) → Type 0
IsOwnPasswd told false source passwd = passwd ≡ None
IsOwnPasswd told true (Root root) passwd = IsPasswdAt told (system.below root.now (codes "etc/passwd")) passwd
IsOwnPasswd told true source passwd = passwd ≡ None

-- that of the name, if there is one
abbrev pub IsGivenPasswd : Told → Option Text → Option (Vec ℕ Global) → Type 0
IsGivenPasswd told (Some name) passwd = MatchOption passwd ⊥ (IsNamedPasswd told name)
IsGivenPasswd told None passwd = passwd ≡ None

-- THE PASSWD FILE: that of the name, or else that of the root. The first is whether that of the root is read
abbrev pub IsPasswd : Told → Bool → ConfSource → Option Text → Option (Vec ℕ Global) → Type 0
IsPasswd told reads source (Some name) passwd = MatchOption passwd ⊥ (IsNamedPasswd told name)
IsPasswd told reads source None passwd = IsOwnPasswd told reads source passwd
