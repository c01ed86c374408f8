-- The kinds that a word names, as `auth,account`.
use Rattle.std.specs.Prelude.{ℕ, Bool, true, false, List, [], ◌∷◌, Option, Some, None}
use Rattle.std.specs.List.{slice_split}
use Rattle.std.specs.Option.{option_map}
use Rattle.pam_conf.specs.Rule.{kind_named}
use Rattle.pam_conf.specs.declared.rule.Kind.{Kind}
use Rattle.pam_conf.specs.declared.rule.Kind.TheVariants.{Auth, Account, Password, Session}
use Rattle.pam_text.specs.Cut.{is_among}
use Rattle.pam_facts.specs.declared.kinds.Kinds.{Kinds}

abbrev pub no_kinds : Kinds
no_kinds = record { auth = false; account = false; password = false; session = false }

abbrev pub all_kinds : Kinds
all_kinds = record { auth = true; account = true; password = true; session = true }

abbrev pub has_kind : Kind → Kinds → Bool
has_kind Auth kinds = kinds.auth
has_kind Account kinds = kinds.account
has_kind Password kinds = kinds.password
has_kind Session kinds = kinds.session

-- kinds, and this one
abbrev pub with_kind : Kind → Kinds → Kinds
with_kind Auth kinds = record kinds { auth = true }
with_kind Account kinds = record kinds { account = true }
with_kind Password kinds = record kinds { password = true }
with_kind Session kinds = record kinds { session = true }

abbrev pub and_kind : Option Kind → Option Kinds → Option Kinds
and_kind None kinds = None
and_kind (Some kind) kinds = option_map (with_kind kind) kinds

-- the kinds that these names name, if each is the name of one
abbrev pub kinds_of_names : List (List ℕ) → Option Kinds
kinds_of_names [] = Some no_kinds
kinds_of_names (name ∷ names) = and_kind (kind_named name) (kinds_of_names names)

-- the texts between commas, of which there is at least one
unfoldable pub names_in : List ℕ → List (List ℕ)
names_in word = slice_split (is_among (44 ∷ [])) word

-- THE KINDS that a word names, if each text between its commas is the name of one
unfoldable pub kinds_named : List ℕ → Option Kinds
kinds_named word = kinds_of_names (names_in word)
