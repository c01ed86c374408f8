-- The pairs of a written control have its actions.
use Rattle.std.proofs.Common.{◌≡◌, ◌<◌, ◌+◌, ◌∙◌, ◌||◌, ◌&&◌, ℕ, zero, suc, Bool, true, false, not, List, [], ◌∷◌, ◌++◌, length, get_or, take, cond}
use Rattle.std.proofs.Common.{eqb, codes, nat_lt, Option, Some, None, unwrap_or, Result, Ok, Err, All, ap, sym, refl, arith, append_assoc}
use Rattle.std.proofs.Common.{append-nil, length-append}
use Rattle.std.specs.List.{list_all, concat, find}
use Rattle.std.specs.Option.{option_map, option_map_or}
use Rattle.std.proofs.lemmas.Bool.{and_parts, eqb-true, le-ltb, ltb-true, false≢true}
use Rattle.std.proofs.lemmas.List.Elements.{All-head, All-tail, All-get_or}
use Rattle.std.proofs.lemmas.List.Folds.{list_all-append}
use Rattle.std.proofs.Math.Seq.{take-append_seam}
use Rattle.pam_codes.specs.declared.action.Action.{Action}
use Rattle.pam_codes.specs.declared.action.Action.TheVariants.{Bad}
use Rattle.pam_codes.specs.declared.subject.Subject.{Subject}
use Rattle.pam_codes.specs.declared.subject.Subject.TheVariants.{Named, Incomplete, Default}
use Rattle.pam_codes.specs.declared.error.ControlError.{ControlError}
use Rattle.pam_codes.specs.declared.error.ControlError.TheVariants.{BadControl, OpenBracket}
use Rattle.pam_codes.specs.Action.{IsAction, same_action, action_text}
use Rattle.pam_codes.specs.Code.{code_names}
use Rattle.pam_codes.specs.Control.{◌>>=◌, IsControl, Pairs, last_named, first_default, action_of, actions_of, keywords, keyword_pairs, closing_at}
use Rattle.pam_codes.specs.Control.{pairs_of, with_front, token_actions, closed_actions, bracket_actions, control_of}
use Rattle.pam_codes.specs.ControlText.{same_actions, keyword_of, default_of, mentions, list_text, control_text}
use Rattle.pam_codes.specs.inner.SetBits.{eqb-self, eqb-other}
use Rattle.pam_codes.specs.Subject.{subject_of}
use Rattle.pam_codes.specs.Tokens.{is_word_byte, tokens_of}
use Rattle.pam_codes.proofs.ControlParts.{text_of_keyword, text_of_list}
use Rattle.pam_codes.proofs.Overlay.{filled}
use Rattle.pam_codes.proofs.Tables.{length-code_names}
use Rattle.pam_codes.proofs.TokensOf.{tokens_of-blank}
use Rattle.pam_codes.proofs.SameActions.{same_action-true}
use Rattle.pam_codes.proofs.WrittenWords.{is_plain, is_written, IsWord, pair_read, action_read, action_word}

-- SAME ACTIONS

same_actions-true : (xs ys : List Action) → same_actions xs ys ≡ true → xs ≡ ys
same_actions-true [] [] h = refl
same_actions-true [] (y ∷ ys) h = absurd (false≢true h)
same_actions-true (x ∷ xs) [] h = absurd (false≢true h)
same_actions-true (x ∷ xs) (y ∷ ys) h =
    let parts = and_parts (same_action x y) (same_actions xs ys) h in
    ap (λ (a : Action). a ∷ xs) (same_action-true x y parts.0) ∙ ap (λ (zs : List Action). y ∷ zs) (same_actions-true xs ys parts.1)

-- KEYWORDS

abbrev AreRead : List (List ℕ × Pairs) → Type 0
AreRead [] = Unit {0}
AreRead (k ∷ ks) = (control_of k.0 ≡ Ok (actions_of k.1)) × AreRead ks

keywords-read : AreRead keywords
unfolding keywords keyword_pairs control_of
keywords-read = (refl, (refl, (refl, (refl, tt))))

found_read : (actions : List Action) (ks : List (List ℕ × Pairs)) → AreRead ks → (word : List ℕ)
    → option_map (λ k. k.0) (find (λ k. same_actions (actions_of k.1) actions) ks) ≡ Some word → control_of word ≡ Ok actions
found_read actions [] r word h = absurd (cc)
found_read actions (k ∷ ks) r word h =
    let is : List ℕ × Pairs → Bool = λ k. same_actions (actions_of k.1) actions in
    elim (is k) as (λ (t : Bool). is k ≡ t → option_map (λ k. k.0) (cond t (Some k) (find is ks)) ≡ Some word → control_of word ≡ Ok actions) [
      | true ↦ λ e f. let same : k.0 ≡ word = cc in ap control_of (sym same) ∙ r.0 ∙ ap Ok (same_actions-true (actions_of k.1) actions e)
      | false ↦ λ e f. found_read actions ks r.1 word f
    ] refl h

-- PAIRS

-- the written pairs of the actions from this code on
abbrev pairs_from : Action → ℕ → List Action → Pairs
pairs_from default code [] = (Default, default) ∷ []
pairs_from default code (a ∷ actions) =
    let pairs : Pairs = pairs_from default (code + 1) actions in
    cond (same_action a default) pairs ((Named code, a) ∷ pairs)

first_default-from : (default : Action) (code : ℕ) (actions : List Action) → first_default (pairs_from default code actions) ≡ Some default
first_default-from default code [] = refl
first_default-from default code (a ∷ actions) =
    let pairs : Pairs = pairs_from default (code + 1) actions in
    elim (same_action a default) as (λ (t : Bool). first_default (cond t pairs ((Named code, a) ∷ pairs)) ≡ Some default) [
      | true ↦ first_default-from default (code + 1) actions
      | false ↦ first_default-from default (code + 1) actions
    ]

named_before : (default : Action) (from : ℕ) (actions : List Action) (code : ℕ) → code < from → last_named code (pairs_from default from actions) ≡ None
named_before default from [] code h = refl
named_before default from (a ∷ actions) code h =
    let pairs : Pairs = pairs_from default (from + 1) actions in
    let rest : last_named code pairs ≡ None = named_before default (from + 1) actions code (omega arith) in
    elim (same_action a default) as (λ (t : Bool). last_named code (cond t pairs ((Named from, a) ∷ pairs)) ≡ None) [
      | true ↦ rest
      | false ↦ rw (eqb-other from code (omega arith)) rest
    ]

named_here : (default : Action) (from : ℕ) (actions : List Action) (i code : ℕ) → code ≡ from + i → i < length actions
    → unwrap_or (last_named code (pairs_from default from actions)) default ≡ get_or actions i Bad
named_here default from [] i code e h = absurd (omega arith)
named_here default from (a ∷ actions) zero code e h =
    let pairs : Pairs = pairs_from default (from + 1) actions in
    let none : last_named code pairs ≡ None = named_before default (from + 1) actions code (omega arith) in
    elim (same_action a default) as (λ (t : Bool).
    same_action a default ≡ t → unwrap_or (last_named code (cond t pairs ((Named from, a) ∷ pairs))) default ≡ a) [
      | true ↦ λ s. ap (λ (o : Option Action). unwrap_or o default) none ∙ sym (same_action-true a default s)
      | false ↦ λ s. let here : from ≡ code = omega arith in
          ap (λ (t : Bool). unwrap_or (cond t (Some (unwrap_or (last_named code pairs) a)) (last_named code pairs)) default)
          (ap (λ (n : ℕ). eqb from n) (sym here) ∙ eqb-self from)
          ∙ ap (λ (o : Option Action). unwrap_or o a) none
    ] refl
named_here default from (a ∷ actions) (suc i) code e h =
    let pairs : Pairs = pairs_from default (from + 1) actions in
    let rest : unwrap_or (last_named code pairs) default ≡ get_or actions i Bad = named_here default (from + 1) actions i code (omega arith) (omega arith) in
    elim (same_action a default) as (λ (t : Bool). unwrap_or (last_named code (cond t pairs ((Named from, a) ∷ pairs))) default ≡ get_or actions i Bad) [
      | true ↦ rest
      | false ↦
          ap (λ (t : Bool). unwrap_or (cond t (Some (unwrap_or (last_named code pairs) a)) (last_named code pairs)) default)
          (eqb-other from code (omega arith))
          ∙ rest
    ]

-- the actions of the pairs are the actions that were written
actions_of-from : (default : Action) (actions : List Action) → length actions ≡ 31 → actions_of (pairs_from default 0 actions) ≡ actions
unfolding actions_of
actions_of-from default actions n = sym (filled actions (action_of (pairs_from default 0 actions)) 31 n (omega arith)
    (λ k h.
    sym (ap (λ (o : Option Action). unwrap_or (last_named k (pairs_from default 0 actions)) (unwrap_or o Bad))
    (first_default-from default 0 actions)
    ∙ named_here default 0 actions k k (omega arith) (omega arith))))

-- NAMES

abbrev AreNamed : ℕ → List (List ℕ) → Type 0
AreNamed code [] = Unit {0}
AreNamed code (name ∷ names) = IsWord name × (subject_of name ≡ Ok (Named code)) × AreNamed (code + 1) names

abbrev is_named : Result Subject ControlError → ℕ → Bool
is_named (Ok (Named n)) code = eqb n code
is_named _ code = false

named-is : (read : Result Subject ControlError) (code : ℕ) → is_named read code ≡ true → read ≡ Ok (Named code)
named-is (Ok (Named n)) code h = ap (λ (m : ℕ). Ok (Named m)) (eqb-true n code h)
named-is (Ok Incomplete) code h = absurd (false≢true h)
named-is (Ok Default) code h = absurd (false≢true h)
named-is (Err e) code h = absurd (false≢true h)

-- the test of `AreNamed`, which computes
are_named : ℕ → List (List ℕ) → Bool
are_named code [] = true
are_named code (name ∷ names) =
    (nat_lt 0 (length name) && list_all is_written name) && (is_named (subject_of name) code && are_named (code + 1) names)

named-all : (code : ℕ) (names : List (List ℕ)) → are_named code names ≡ true → AreNamed code names
unfolding are_named
named-all code [] h = tt
named-all code (name ∷ names) h =
    let parts = and_parts (nat_lt 0 (length name) && list_all is_written name) _ h in
    let word = and_parts (nat_lt 0 (length name)) (list_all is_written name) parts.0 in
    let named = and_parts (is_named (subject_of name) code) (are_named (code + 1) names) parts.1 in (
      record { some = ltb-true 0 (length name) word.0; bytes = word.1 },
      named-is (subject_of name) code named.0,
      named-all (code + 1) names named.1,
    )

code_names-named : AreNamed 0 code_names
unfolding code_names subject_of are_named
code_names-named = named-all 0 code_names refl

default-word : IsWord (codes "default")
default-word = record { some = omega arith; bytes = refl }

default-named : subject_of (codes "default") ≡ Ok Default
unfolding code_names subject_of
default-named = refl

-- TEXT

abbrev default_text : Action → List ℕ
default_text default = codes "default=" ++ action_text default

-- a pair and the text after it
pair_apart : (name word more tail : List ℕ) → ((name ++ 61 ∷ (word ++ 32 ∷ [])) ++ more) ++ tail ≡ name ++ 61 ∷ (word ++ 32 ∷ (more ++ tail))
pair_apart name word more tail =
    append_assoc (name ++ 61 ∷ (word ++ 32 ∷ [])) more tail
    ∙ append_assoc name (61 ∷ (word ++ 32 ∷ [])) (more ++ tail)
    ∙ ap (λ (text : List ℕ). name ++ 61 ∷ text) (append_assoc word (32 ∷ []) (more ++ tail))

-- the written text between the brackets is read as the pairs
mentions_read : (default : Action) → IsAction default → (code : ℕ) (names : List (List ℕ)) (actions : List Action) → AreNamed code names
    → All IsAction actions → length names ≡ length actions
    → pairs_of (tokens_of (mentions default names actions ++ default_text default)) ≡ Ok (pairs_from default code actions)
unfolding pairs_of tokens_of
mentions_read default d code [] [] n h e =
    ap (λ (text : List ℕ). pairs_of (tokens_of (codes "default" ++ 61 ∷ text))) (sym (append-nil (action_text default)))
    ∙ pair_read (codes "default") (action_text default) [] Default default default-word (action_word default d) default-named (action_read default d) refl
mentions_read default d code [] (a ∷ actions) n h e = absurd (omega arith)
mentions_read default d code (name ∷ names) [] n h e = absurd (omega arith)
mentions_read default d code (name ∷ names) (a ∷ actions) n h e =
    let rest : pairs_of (tokens_of (mentions default names actions ++ default_text default)) ≡ Ok (pairs_from default (code + 1) actions) =
    mentions_read default d (code + 1) names actions n.2 (All-tail IsAction a actions h) (omega arith) in
    let lawful : IsAction a = All-head IsAction a actions h in
    let pairs : Pairs = pairs_from default (code + 1) actions in
    let mentioned : Bool → List ℕ = λ t. cond t [] (concat (name ∷ codes "=" ∷ action_text a ∷ codes " " ∷ [])) in
    elim (same_action a default) as (λ (t : Bool).
    pairs_of (tokens_of ((mentioned t ++ mentions default names actions) ++ default_text default)) ≡ Ok (cond t pairs ((Named code, a) ∷ pairs))) [
      | true ↦ rest
      | false ↦
          ap (λ (text : List ℕ). pairs_of (tokens_of text)) (pair_apart name (action_text a) (mentions default names actions) (default_text default))
          ∙ pair_read name (action_text a) (32 ∷ (mentions default names actions ++ default_text default)) (Named code) a n.0 (action_word a lawful)
          n.1 (action_read a lawful) refl
          ∙ ap (λ (ts : List (List ℕ)). with_front (Named code, a) (pairs_of ts))
          (tokens_of-blank 32 (mentions default names actions ++ default_text default) refl)
          ∙ ap (with_front (Named code, a)) rest
    ]

-- BRACKETS

plain_bytes : (word : List ℕ) → list_all is_written word ≡ true → list_all is_plain word ≡ true
plain_bytes [] h = refl
plain_bytes (b ∷ word) h =
    let parts = and_parts (is_written b) (list_all is_written word) h in
    rw (and_parts (is_word_byte b) (is_plain b) parts.0).1 (plain_bytes word parts.1)

plain_both : (xs ys : List ℕ) → list_all is_plain xs ≡ true → list_all is_plain ys ≡ true → list_all is_plain (xs ++ ys) ≡ true
plain_both xs ys h k = list_all-append is_plain xs ys ∙ rw (h, k) refl

mentions-plain : (default : Action) (code : ℕ) (names : List (List ℕ)) (actions : List Action) → AreNamed code names → All IsAction actions
    → list_all is_plain (mentions default names actions) ≡ true
mentions-plain default code [] actions n h = refl
mentions-plain default code (name ∷ names) [] n h = refl
mentions-plain default code (name ∷ names) (a ∷ actions) n h =
    let rest : list_all is_plain (mentions default names actions) ≡ true =
    mentions-plain default (code + 1) names actions n.2 (All-tail IsAction a actions h) in
    let word : list_all is_plain (action_text a) ≡ true = plain_bytes (action_text a) (action_word a (All-head IsAction a actions h)).bytes in
    elim (same_action a default) as (λ (t : Bool).
    list_all is_plain (cond t [] (concat (name ∷ codes "=" ∷ action_text a ∷ codes " " ∷ [])) ++ mentions default names actions) ≡ true) [
      | true ↦ rest
      | false ↦ plain_both (name ++ 61 ∷ (action_text a ++ 32 ∷ [])) (mentions default names actions)
          (plain_both name (61 ∷ (action_text a ++ 32 ∷ [])) (plain_bytes name n.0.bytes) (plain_both (action_text a) (32 ∷ []) word refl)) rest
    ]

not_both : (x y : Bool) → not (x || y) ≡ true → (x ≡ false) × (y ≡ false)
not_both true y h = absurd (false≢true h)
not_both false true h = absurd (false≢true h)
not_both false false h = (refl, refl)

-- the first closing bracket comes after plain bytes
closing_at-plain : (bytes rest : List ℕ) → list_all is_plain bytes ≡ true → closing_at false (bytes ++ 93 ∷ rest) ≡ Some (length bytes)
unfolding closing_at
closing_at-plain [] rest h = refl
closing_at-plain (b ∷ bytes) rest h =
    let parts = and_parts (is_plain b) (list_all is_plain bytes) h in
    let other = not_both (eqb b 93) (eqb b 92) parts.0 in
    rw (other.0, other.1) (ap (option_map (λ n. n + 1)) (closing_at-plain bytes rest parts.1) ∙ ap Some (omega arith))

list_text-whole : (actions : List Action)
    → list_text actions ≡ 91 ∷ ((mentions (default_of actions) code_names actions ++ default_text (default_of actions)) ++ 93 ∷ [])
unfolding list_text
list_text-whole actions =
    ap (λ (text : List ℕ). 91 ∷ text) (sym (append_assoc (mentions (default_of actions) code_names actions) (default_text (default_of actions)) (93 ∷ [])))

closed_read : (body : List ℕ) → closed_actions (length body) (body ++ 93 ∷ []) ≡ token_actions (tokens_of body)
closed_read body =
    let none : nat_lt (length body + 1) (length (body ++ 93 ∷ [])) ≡ false = le-ltb _ _ (omega (arith, length-append body (93 ∷ []))) in
    ap (λ (t : Bool). cond t (Err BadControl) (token_actions (tokens_of (take (length body) (body ++ 93 ∷ []))))) none
    ∙ ap (λ (bytes : List ℕ). token_actions (tokens_of bytes)) (take-append_seam body (93 ∷ []))

brackets_read : (body : List ℕ) (actions : List Action) → list_all is_plain body ≡ true → token_actions (tokens_of body) ≡ Ok actions
    → control_of (91 ∷ (body ++ 93 ∷ [])) ≡ Ok actions
unfolding control_of bracket_actions
brackets_read body actions plain h =
    ap (λ (o : Option ℕ). option_map_or (λ n. closed_actions n (body ++ 93 ∷ [])) o (Err OpenBracket)) (closing_at-plain body [] plain)
    ∙ closed_read body ∙ h

list_read : (actions : List Action) → IsControl actions → control_of (list_text actions) ≡ Ok actions
list_read actions h =
    let default : Action = default_of actions in
    let lawful : IsAction default = All-get_or IsAction actions 30 Bad (omega (arith, h.one_each)) h.each_action in
    let body : List ℕ = mentions default code_names actions ++ default_text default in
    let few : length code_names ≡ length actions = length-code_names ∙ sym h.one_each in
    ap control_of (list_text-whole actions)
    ∙ brackets_read body actions
    (plain_both (mentions default code_names actions) (default_text default) (mentions-plain default 0 code_names actions code_names-named h.each_action)
    (plain_both (codes "default=") (action_text default) refl (plain_bytes (action_text default) (action_word default lawful).bytes)))
    (ap (λ (r : Result Pairs ControlError). r >>= λ ps. Ok (actions_of ps))
    (mentions_read default lawful 0 code_names actions code_names-named h.each_action few)
    ∙ ap Ok (actions_of-from default actions h.one_each))

pub text_read : (actions : List Action) → IsControl actions → control_of (control_text actions) ≡ Ok actions
text_read actions h = elim (keyword_of actions) as (λ (o : Option (List ℕ)). keyword_of actions ≡ o → control_of (control_text actions) ≡ Ok actions) [
  | None ↦ λ e. ap control_of (text_of_list actions e) ∙ list_read actions h
  | Some word ↦ λ e. ap control_of (text_of_keyword actions word e) ∙ found_read actions keywords keywords-read word e
] refl
