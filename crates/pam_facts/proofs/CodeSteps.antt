-- The codes that the words of a row say, word by word.
use Rattle.std.proofs.Common.{◌≡◌, ◌∙◌, ◌||◌, ◌&&◌, ◌==◌, ◌<◌, ℕ, Bool, true, false, not, List}
use Rattle.std.proofs.Common.{[], ◌∷◌, Option, Some, None, if◌then◌else◌, is_some, refl, sym, ap}
use Rattle.std.specs.Option.{option_map_or}
use Rattle.pam_codes.specs.Code.{all_codes}
use Rattle.pam_codes.specs.Set.{codes_where, is_in, IsCodeSet}
use Rattle.pam_codes.specs.inner.SetBits.{codes_where-same, is_in-codes_where}
use Rattle.pam_conf.specs.declared.rule.Kind.{Kind}
use Rattle.pam_conf.specs.declared.rule.Kind.TheVariants.{Auth, Account, Password, Session}
use Rattle.pam_facts.specs.Codes.{are_complete, begin_with_kinds, code_named, codes_said, say_code}
use Rattle.pam_facts.specs.Facts.{any_codes}
use Rattle.pam_facts.specs.Kinds.{has_kind, kinds_named}
use Rattle.pam_facts.specs.declared.kinds.Kinds.{Kinds}
use Rattle.pam_facts.specs.declared.row.CodesByKind.{CodesByKind}

-- whether the last kinds, if there were any, have this kind
abbrev pub is_here : Kind → Option Kinds → Bool
is_here kind kinds = option_map_or (has_kind kind) kinds false

-- the codes read so far in a kind, with those of the words that are left
abbrev pub codes_with : Kind → List ℕ → Option Kinds → List (List ℕ) → List ℕ
codes_with kind set kinds words = codes_where (λ code. is_in code set || say_code kind code (is_here kind kinds) words)

abbrev pub all_with : CodesByKind → Option Kinds → List (List ℕ) → CodesByKind
all_with codes kinds words = record {
  auth = codes_with Auth codes.auth kinds words;
  account = codes_with Account codes.account kinds words;
  password = codes_with Password codes.password kinds words;
  session = codes_with Session codes.session kinds words;
}

-- whether the words that are left end a row well
abbrev pub ends_well : Option Kinds → Bool → List (List ℕ) → Bool
ends_well kinds needs_code words = are_complete needs_code words && (is_some kinds || begin_with_kinds words)

-- what is read in the end
unfoldable pub read_with : CodesByKind → Option Kinds → Bool → List (List ℕ) → Option CodesByKind
read_with codes kinds needs_code words = if ends_well kinds needs_code words then Some (all_with codes kinds words) else None

-- the same for words that are left, of which the first is kinds or names a code
abbrev said_with : Kind → List ℕ → Option Kinds → Option Kinds → Option ℕ → List (List ℕ) → List ℕ
said_with kind set kinds named code others =
    codes_where (λ c. is_in c set || option_map_or (λ ks. say_code kind c (has_kind kind ks) others) named
    ((is_here kind kinds && option_map_or (λ n. c == n) code false) || say_code kind c (is_here kind kinds) others))

unfoldable read_first : CodesByKind → Option Kinds → Bool → Option Kinds → Option ℕ → List (List ℕ) → Option CodesByKind
read_first codes kinds needs_code named code others =
    if (if is_some named then not needs_code && are_complete true others else is_some code && are_complete false others) && (is_some kinds || is_some named)
    then Some (record {
      auth = said_with Auth codes.auth kinds named code others;
      account = said_with Account codes.account kinds named code others;
      password = said_with Password codes.password kinds named code others;
      session = said_with Session codes.session kinds named code others;
    })
    else None

first_read : (codes : CodesByKind) (kinds : Option Kinds) (needs_code : Bool) (word : List ℕ) (others : List (List ℕ)) →
    read_first codes kinds needs_code (kinds_named word) (code_named word) others ≡ read_with codes kinds needs_code (word ∷ others)
unfolding read_first read_with are_complete say_code
first_read codes kinds needs_code word others = refl

-- nothing is read yet
pub at_start : (words all : List (List ℕ)) → words ≡ all → read_with any_codes None false words ≡ codes_said all
unfolding read_with codes_said
at_start words all e = ap codes_said e

pub record AreCodeSets (codes : CodesByKind) : Type 0 where
  pub auth : IsCodeSet codes.auth
  pub account : IsCodeSet codes.account
  pub password : IsCodeSet codes.password
  pub session : IsCodeSet codes.session

no_codes : IsCodeSet []
unfolding all_codes
no_codes = refl

pub any_are_sets : AreCodeSets any_codes
any_are_sets = record { auth = no_codes; account = no_codes; password = no_codes; session = no_codes }

module _ (codes : CodesByKind) (kinds : Option Kinds) (words : List (List ℕ)) (word : List ℕ) (others : List (List ℕ)) (e : words ≡ word ∷ others) where
  -- the word is kinds
  module _ (named : Kinds) (is : Some named ≡ kinds_named word) where
    after_kinds : (k : Option Kinds) (code : Option ℕ) → read_with codes (Some named) true others ≡ read_first codes k false (Some named) code others
    unfolding read_first read_with
    after_kinds None code = refl
    after_kinds (Some ks) code = refl

    pub kinds_read : read_with codes (Some named) true others ≡ read_with codes kinds false words
    kinds_read =
        after_kinds kinds (code_named word) ∙ ap (λ (o : Option Kinds). read_first codes kinds false o (code_named word) others) is
        ∙ first_read codes kinds false word others ∙ ap (read_with codes kinds false) (sym e)

    refused : (k : Option Kinds) (code : Option ℕ) → None ≡ read_first codes k true (Some named) code others
    unfolding read_first
    refused k code = refl

    pub kinds_refused : None ≡ read_with codes kinds true words
    kinds_refused =
        refused kinds (code_named word) ∙ ap (λ (o : Option Kinds). read_first codes kinds true o (code_named word) others) is
        ∙ first_read codes kinds true word others ∙ ap (read_with codes kinds true) (sym e)

  -- it is no kinds
  module _ (needs_code : Bool) (is : None ≡ kinds_named word) where
    from_first : (r : Option CodesByKind) → r ≡ read_first codes kinds needs_code None (code_named word) others → r ≡ read_with codes kinds needs_code words
    from_first r h =
        h ∙ ap (λ (o : Option Kinds). read_first codes kinds needs_code o (code_named word) others) is
        ∙ first_read codes kinds needs_code word others ∙ ap (read_with codes kinds needs_code) (sym e)

    without_code : None ≡ read_first codes kinds needs_code None None others
    unfolding read_first
    without_code = refl

    pub code_refused : None ≡ code_named word → None ≡ read_with codes kinds needs_code words
    code_refused no_code =
        from_first None (without_code ∙ ap (λ (o : Option ℕ). read_first codes kinds needs_code None o others) no_code)

    and_none : (b : Bool) (x : CodesByKind) → None ≡ (if b && false then Some x else None)
    and_none true x = refl
    and_none false x = refl

    without_kinds : kinds ≡ None → None ≡ read_first codes kinds needs_code None (code_named word) others
    unfolding read_first
    without_kinds none = rw none (and_none _ _)

    pub kinds_missing : kinds ≡ None → None ≡ read_with codes kinds needs_code words
    kinds_missing none = from_first None (without_kinds none)

-- ---- one more code

abbrev put_in : Bool → ℕ → List ℕ → List ℕ
put_in here n set = if here then codes_where (λ c. c == n || is_in c set) else set

-- codes with this one, in each of these kinds
abbrev pub with_code : Kinds → ℕ → CodesByKind → CodesByKind
with_code ks n codes = record {
  auth = put_in ks.auth n codes.auth;
  account = put_in ks.account n codes.account;
  password = put_in ks.password n codes.password;
  session = put_in ks.session n codes.session;
}

is_put : (here : Bool) (n : ℕ) (set : List ℕ) (c : ℕ) → c < 31 → is_in c (put_in here n set) ≡ ((here && c == n) || is_in c set)
is_put true n set c small = is_in-codes_where (λ d. d == n || is_in d set) c small
is_put false n set c small = refl

either : (a b c : Bool) → ((a || b) || c) ≡ (b || (a || c))
either true true c = refl
either true false c = refl
either false true c = refl
either false false c = refl

said_put : (kind : Kind) (ks : Kinds) (n : ℕ) (set : List ℕ) (others : List (List ℕ)) →
    codes_with kind (put_in (has_kind kind ks) n set) (Some ks) others ≡ said_with kind set (Some ks) None (Some n) others
said_put kind ks n set others =
    codes_where-same _ _ (λ c small. ap (λ (b : Bool). b || say_code kind c (has_kind kind ks) others) (is_put (has_kind kind ks) n set c small)
    ∙ either (has_kind kind ks && c == n) (is_in c set) (say_code kind c (has_kind kind ks) others))

four : List ℕ → List ℕ → List ℕ → List ℕ → CodesByKind
four a b c d = record { auth = a; account = b; password = c; session = d }

same_four : (a b c d a' b' c' d' : List ℕ) → a ≡ a' → b ≡ b' → c ≡ c' → d ≡ d' → four a b c d ≡ four a' b' c' d'
same_four a b c d a' b' c' d' e f g h = rw (e, f, g, h) refl

code_put : (codes : CodesByKind) (ks : Kinds) (needs_code : Bool) (n : ℕ) (others : List (List ℕ)) →
    read_with (with_code ks n codes) (Some ks) false others ≡ read_first codes (Some ks) needs_code None (Some n) others
unfolding read_first read_with four
code_put codes ks needs_code n others =
    ap (λ (x : CodesByKind). if are_complete false others && true then Some x else None)
    (same_four _ _ _ _ _ _ _ _ (said_put Auth ks n codes.auth others) (said_put Account ks n codes.account others)
    (said_put Password ks n codes.password others) (said_put Session ks n codes.session others))

pub code_read : (codes new : CodesByKind) (kinds : Option Kinds) (ks : Kinds) (needs_code : Bool) (n : ℕ) (words : List (List ℕ)) (word : List ℕ)
    (others : List (List ℕ)) → words ≡ word ∷ others → None ≡ kinds_named word → kinds ≡ Some ks → Some n ≡ code_named word → new ≡ with_code ks n codes →
    read_with new kinds false others ≡ read_with codes kinds needs_code words
code_read codes new kinds ks needs_code n words word others e no_kinds here is put =
    rw (put, here) (code_put codes ks needs_code n others ∙ ap (λ (o : Option ℕ). read_first codes (Some ks) needs_code None o others) is
    ∙ from_first codes (Some ks) words word others e needs_code no_kinds _ refl)

in_order : (test : ℕ → Bool) → IsCodeSet (codes_where test)
in_order test = codes_where-same _ _ (λ c small. sym (is_in-codes_where test c small))

put_order : (here : Bool) (n : ℕ) (set : List ℕ) → IsCodeSet set → IsCodeSet (put_in here n set)
put_order true n set h = in_order (λ c. c == n || is_in c set)
put_order false n set h = h

pub put_are_sets : (codes new : CodesByKind) (ks : Kinds) (n : ℕ) → new ≡ with_code ks n codes → AreCodeSets codes → AreCodeSets new
put_are_sets codes new ks n put h =
    rw put (record {
      auth = put_order ks.auth n codes.auth h.auth;
      account = put_order ks.account n codes.account h.account;
      password = put_order ks.password n codes.password h.password;
      session = put_order ks.session n codes.session h.session;
    })

-- ---- no words are left

or_true : (b : Bool) → (b || true) ≡ true
or_true true = refl
or_true false = refl

or_false : (b : Bool) → (b || false) ≡ b
or_false true = refl
or_false false = refl

same_set : (set : List ℕ) → IsCodeSet set → codes_where (λ c. is_in c set || false) ≡ set
same_set set h = codes_where-same _ _ (λ c small. or_false (is_in c set)) ∙ sym h

none_left : (codes : CodesByKind) (kinds : Option Kinds) → AreCodeSets codes → Some codes ≡ read_with codes kinds false []
unfolding read_with are_complete say_code four
none_left codes kinds h =
    rw (or_true (is_some kinds)) (ap Some (sym (same_four _ _ _ _ _ _ _ _ (same_set codes.auth h.auth) (same_set codes.account h.account)
    (same_set codes.password h.password) (same_set codes.session h.session))))

pub at_end : (codes : CodesByKind) (kinds : Option Kinds) (needs_code : Bool) (words : List (List ℕ)) → AreCodeSets codes → words ≡ [] →
    needs_code ≡ false → Some codes ≡ read_with codes kinds needs_code words
at_end codes kinds needs_code words h e done = rw (e, done) (none_left codes kinds h)

needs_one : (codes : CodesByKind) (kinds : Option Kinds) → None ≡ read_with codes kinds true []
unfolding read_with are_complete
needs_one codes kinds = refl

pub code_needed : (codes : CodesByKind) (kinds : Option Kinds) (needs_code : Bool) (words : List (List ℕ)) → words ≡ [] →
    needs_code ≡ true → None ≡ read_with codes kinds needs_code words
code_needed codes kinds needs_code words e needs = rw (e, needs) (needs_one codes kinds)
