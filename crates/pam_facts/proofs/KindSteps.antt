-- The names of a word of kinds, one after another, and the kinds that they name.
use Rattle.std.proofs.Common.{◌≡◌, ◌∙◌, ◌||◌, ℕ, Bool, true, false, List, [], ◌∷◌, Option, Some, None, refl, sym, ap}
use Rattle.std.specs.Option.{option_map}
use Rattle.pam_conf.specs.Rule.{kind_named}
use Rattle.pam_conf.specs.declared.rule.Kind.{Kind}
use Rattle.pam_conf.specs.declared.rule.Kind.TheVariants.{Auth, Account, Password, Session}
use Rattle.pam_text.specs.Cut.{cut_at, is_among}
use Rattle.pam_facts.specs.Kinds.{and_kind, kinds_named, kinds_of_names, names_in, no_kinds, with_kind}
use Rattle.pam_facts.specs.inner.Kinds.{names_left}
use Rattle.pam_facts.specs.declared.kinds.Kinds.{Kinds}
use Rattle.pam_text.proofs.Splits.{split_found, split_none}

-- ---- the names

pub name_found : (rest : Option (List ℕ)) (text a r : List ℕ) → rest ≡ Some text → Some (a, r) ≡ cut_at (is_among (44 ∷ [])) text →
    names_left rest ≡ a ∷ names_in r
unfolding names_in
name_found rest text a r is e = rw is (split_found (is_among (44 ∷ [])) text a r e)

pub last_name : (rest : Option (List ℕ)) (text : List ℕ) → rest ≡ Some text → None ≡ cut_at (is_among (44 ∷ [])) text → names_left rest ≡ text ∷ []
unfolding names_in
last_name rest text is e = rw is (split_none (is_among (44 ∷ [])) text e)

-- ---- the kinds

-- the kinds that are among some or among others
abbrev pub both : Kinds → Kinds → Kinds
both some others = record {
  auth = some.auth || others.auth;
  account = some.account || others.account;
  password = some.password || others.password;
  session = some.session || others.session;
}

-- the kinds found so far, with those of the names that are left
abbrev pub found_with : Kinds → List (List ℕ) → Option Kinds
found_with kinds names = option_map (both kinds) (kinds_of_names names)

same_option : (o : Option Kinds) → option_map (both no_kinds) o ≡ o
same_option None = refl
same_option (Some kinds) = refl

pub at_start : (word : List ℕ) (names : List (List ℕ)) → names ≡ names_in word → found_with no_kinds names ≡ kinds_named word
unfolding kinds_named
at_start word names e = same_option (kinds_of_names names) ∙ ap kinds_of_names e

or_true : (b : Bool) → true ≡ (b || true)
or_true true = refl
or_true false = refl

or_false : (b : Bool) → (b || false) ≡ b
or_false true = refl
or_false false = refl

moved : (kind : Kind) (some others : Kinds) → both (with_kind kind some) others ≡ both some (with_kind kind others)
moved Auth some others = ap (λ (b : Bool). record (both some others) { auth = b }) (or_true some.auth)
moved Account some others = ap (λ (b : Bool). record (both some others) { account = b }) (or_true some.account)
moved Password some others = ap (λ (b : Bool). record (both some others) { password = b }) (or_true some.password)
moved Session some others = ap (λ (b : Bool). record (both some others) { session = b }) (or_true some.session)

moved_in : (kind : Kind) (some : Kinds) (o : Option Kinds) → option_map (both (with_kind kind some)) o ≡ option_map (both some) (and_kind (Some kind) o)
moved_in kind some None = refl
moved_in kind some (Some others) = ap Some (moved kind some others)

pub one_more : (kind : Kind) (kinds : Kinds) (names others : List (List ℕ)) (name : List ℕ) → names ≡ name ∷ others → Some kind ≡ kind_named name →
    found_with (with_kind kind kinds) others ≡ found_with kinds names
one_more kind kinds names others name is named =
    moved_in kind kinds (kinds_of_names others) ∙ ap (λ (k : Option Kind). option_map (both kinds) (and_kind k (kinds_of_names others))) named
    ∙ ap (found_with kinds) (sym is)

pub no_kind : (kinds : Kinds) (names others : List (List ℕ)) (name : List ℕ) → names ≡ name ∷ others → None ≡ kind_named name →
    None ≡ found_with kinds names
no_kind kinds names others name is named =
    ap (λ (k : Option Kind). option_map (both kinds) (and_kind k (kinds_of_names others))) named ∙ ap (found_with kinds) (sym is)

both_none : (kinds : Kinds) → both kinds no_kinds ≡ kinds
both_none kinds =
    ap (λ (b : Bool). record (both kinds no_kinds) { auth = b }) (or_false kinds.auth)
    ∙ ap (λ (b : Bool). record { auth = kinds.auth; account = b; password = kinds.password || false; session = kinds.session || false })
    (or_false kinds.account)
    ∙ ap (λ (b : Bool). record { auth = kinds.auth; account = kinds.account; password = b; session = kinds.session || false }) (or_false kinds.password)
    ∙ ap (λ (b : Bool). record { auth = kinds.auth; account = kinds.account; password = kinds.password; session = b }) (or_false kinds.session)

pub at_end : (kinds : Kinds) (names : List (List ℕ)) → names ≡ [] → Some kinds ≡ found_with kinds names
at_end kinds names e = ap Some (sym (both_none kinds)) ∙ ap (found_with kinds) (sym e)
