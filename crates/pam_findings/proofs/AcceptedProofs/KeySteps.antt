-- The key of words, word by word, and the keys of lines.
use Rattle.std.proofs.Common.{◌≡◌, ◌∙◌, ◌+◌, ◌<◌, ◌≤◌, ◌||◌, ℕ, Bool, true, false, List, [], ◌∷◌, ◌++◌, Bor, append-nil, append_assoc}
use Rattle.std.proofs.Common.{ap, cond, drop, get_or, length, map, refl, sym, take}
use Rattle.std.proofs.lemmas.List.{drop_all, drop_more, map-append, take_all, take_more}
use Rattle.std.proofs.lemmas.List.Folds.{list_any-append}
use Rattle.std.proofs.lemmas.Slice.Eq.{bytes_eq-Decides}
use Rattle.std.specs.List.{join_with_byte, list_any}
use Rattle.std.specs.Str.{bytes_eq}
use Rattle.indexmap.specs.IndexSet.{insert_key}
use Rattle.pam_findings.specs.accepted.Views.{line_view}
use Rattle.pam_findings.specs.accepted.inner.Views.{HasKeys}
use Rattle.pam_findings.specs.declared.accepted.lines.AcceptLine.{AcceptLine}
use Rattle.pam_findings.proofs.AcceptedProofs.WordSteps.{texts}

-- texts, each after a space
abbrev pub spaced : List (List ℕ) → List ℕ
spaced [] = []
spaced (text ∷ texts) = 32 ∷ text ++ spaced texts

joined : (first : List ℕ) (others : List (List ℕ)) → first ++ spaced others ≡ join_with_byte 32 (first ∷ others)
joined first [] = append-nil first
joined first (text ∷ texts) = ap (λ (t : List ℕ). first ++ 32 ∷ t) (joined text texts)

pub first_word : (words others : List (Bor (List ℕ))) (first : Bor (List ℕ)) (key : List ℕ) → words ≡ first ∷ others → key ≡ first.now
    → key ++ spaced (texts others) ≡ join_with_byte 32 (texts words)
first_word words others first key all is =
    ap (λ (t : List ℕ). t ++ spaced (texts others)) is
    ∙ joined first.now (texts others)
    ∙ ap (λ (ws : List (Bor (List ℕ))). join_with_byte 32 (texts ws)) (sym all)

-- a space and one more word
pub one_more : (words : List (Bor (List ℕ))) (d : Bor (List ℕ)) (i : ℕ) (old apart new all : List ℕ) → i < length words
    → old ++ spaced (texts (drop i words)) ≡ all → apart ≡ old ++ 32 ∷ [] → new ≡ apart ++ (get_or words i d).now
    → new ++ spaced (texts (drop (i + 1) words)) ≡ all
one_more words d i old apart new all within same space put =
    let word = (get_or words i d).now in
    let rest = spaced (texts (drop (i + 1) words)) in
    ap (λ (t : List ℕ). t ++ rest) (put ∙ ap (λ (t : List ℕ). t ++ word) space ∙ append_assoc old (32 ∷ []) word)
    ∙ append_assoc old (32 ∷ word) rest
    ∙ sym (ap (λ (ws : List (Bor (List ℕ))). old ++ spaced (texts ws)) (drop_more words i d within))
    ∙ same

pub no_more : (words : List (Bor (List ℕ))) (i : ℕ) (key all : List ℕ) → length words ≤ i → key ++ spaced (texts (drop i words)) ≡ all → key ≡ all
no_more words i key all past same =
    sym (append-nil key) ∙ sym (ap (λ (ws : List (Bor (List ℕ))). key ++ spaced (texts ws)) (drop_all i words past)) ∙ same

-- ---- the keys of lines

any_text : {T : Type 0} (text : T → List ℕ) (key : List ℕ) (xs : List T) → list_any (λ x. bytes_eq key (text x)) xs ≡ list_any (bytes_eq key) (map text xs)
any_text text key [] = refl
any_text text key (x ∷ xs) = ap (λ t. bytes_eq key (text x) || t) (any_text text key xs)

pub or_false : (t : Bool) → (t || false) ≡ t
or_false true = refl
or_false false = refl

-- a key that is already among the keys adds none
pub any_there : (key one : List ℕ) (keys : List (List ℕ)) (t : Bool) → bytes_eq key one ≡ t → list_any (bytes_eq one) keys ≡ true
    → list_any (bytes_eq key) keys ≡ (list_any (bytes_eq key) keys || t)
any_there key one keys true same found =
    let all : list_any (bytes_eq key) keys ≡ true = ap (λ k. list_any (bytes_eq k) keys) ((bytes_eq-Decides key one).0 same) ∙ found in
    all ∙ sym (ap (λ t. t || true) all)
any_there key one keys false other found = sym (or_false (list_any (bytes_eq key) keys))

-- a key is among those with one more, if it is among the others or is that one
any_with : {T : Type 0} (text : T → List ℕ) (keys new : List T) (one : T) (key : List ℕ)
    → new ≡ insert_key (λ a b. bytes_eq (text a) (text b)) keys one
    → list_any (bytes_eq key) (map text new) ≡ (list_any (bytes_eq key) (map text keys) || bytes_eq key (text one))
any_with text keys new one key put =
    ap (λ ks. list_any (bytes_eq key) (map text ks)) put
    ∙ (elim (list_any (λ b. bytes_eq (text one) (text b)) keys) as (λ (t : Bool). list_any (λ b. bytes_eq (text one) (text b)) keys ≡ t
    → list_any (bytes_eq key) (map text (cond t keys (keys ++ one ∷ []))) ≡ (list_any (bytes_eq key) (map text keys) || bytes_eq key (text one))) [
      | true ↦ λ e. any_there key (text one) (map text keys) (bytes_eq key (text one)) refl (sym (any_text text (text one) keys) ∙ e)
      | false ↦ λ e.
          ap (list_any (bytes_eq key)) (map-append text keys (one ∷ []))
          ∙ list_any-append (bytes_eq key) (map text keys) (text one ∷ [])
          ∙ ap (λ t. list_any (bytes_eq key) (map text keys) || t) (or_false (bytes_eq key (text one)))
    ] refl)

pub keys_with : {T : Type 0} (text : T → List ℕ) (lines : List AcceptLine) (line : AcceptLine) (i : ℕ) (keys new : List T) (one : T) → i < length lines
    → line ≡ get_or lines i line → text one ≡ line.key.items → new ≡ insert_key (λ a b. bytes_eq (text a) (text b)) keys one
    → HasKeys (map text keys) (take i lines) → HasKeys (map text new) (take (i + 1) lines)
keys_with text lines line i keys new one within is copy put has = λ key.
    let test : ℕ × List ℕ → Bool = λ l. bytes_eq key l.1 in
    any_with text keys new one key put
    ∙ ap (λ t. t || bytes_eq key (text one)) (has key)
    ∙ ap (λ k. list_any test (map line_view (take i lines)) || bytes_eq key k) copy
    ∙ sym (ap (λ t. list_any test (map line_view (take i lines)) || t) (or_false (test (line_view line))))
    ∙ sym (list_any-append test (map line_view (take i lines)) (line_view line ∷ []))
    ∙ ap (list_any test) (sym (map-append line_view (take i lines) (line ∷ [])))
    ∙ ap (λ (l : AcceptLine). list_any test (map line_view (take i lines ++ l ∷ []))) is
    ∙ ap (λ ls. list_any test (map line_view ls)) (sym (take_more lines i line within))

pub all_keys : {T : Type 0} (text : T → List ℕ) (lines : List AcceptLine) (i : ℕ) (keys : List T) → length lines ≤ i
    → HasKeys (map text keys) (take i lines) → HasKeys (map text keys) lines
all_keys text lines i keys past has = λ key.
    has key ∙ ap (λ ls. list_any (λ l. bytes_eq key l.1) (map line_view ls)) (take_all i lines past)

-- a key that is looked up
pub looked_up : {T : Type 0} (text : T → List ℕ) (key : List ℕ) (keys : List T) (lines : List AcceptLine) (all : List (ℕ × List ℕ)) (found : Bool)
    → HasKeys (map text keys) lines → map line_view lines ≡ all → found ≡ list_any (λ k. bytes_eq key (text k)) keys
    → found ≡ list_any (λ l. bytes_eq key l.1) all
looked_up text key keys lines all found has same is = is ∙ any_text text key keys ∙ has key ∙ ap (list_any (λ l. bytes_eq key l.1)) same
