-- The words of a line are the one way to write it as blanks and spellings of words.
use Rattle.std.proofs.Math.Seq.{drop-cons}
use Rattle.std.proofs.Common.{◌<◌, ◌+◌, add-one, arith, drop, get_or, length}
use Rattle.pam_conf.specs.inner.FirstWord.{words_from}
use Rattle.pam_conf.proofs.WordSteps.{option_map_twice}
use Rattle.std.proofs.Common.{◌≡◌, ◌&&◌, ◌||◌, ◌++◌, ℕ, Bool, true, false, not, List, [], ◌∷◌, Option, Some, None, cond, eqb, ap, ◌∙◌, sym, refl, subst}
use Rattle.std.specs.Option.{option_map}
use Rattle.std.specs.List.{onto_first}
use Rattle.std.proofs.lemmas.Bool.{and_parts, eqb-true, eqb-false, ne_eqb}
use Rattle.pam_codes.specs.Tokens.{is_blank}
use Rattle.pam_conf.specs.Words.{State, Between, Plain, Bracket, words_in, words_of, is_inside, has_no_blank, EndsWord, at_end, at_blank, IsSplit, nothing}
use Rattle.pam_conf.specs.Words.{blank, bracketed, plain}

-- FROM THE SPLIT TO THE WORDS

not_true : (b : Bool) → not b ≡ true → b ≡ false
not_true true h = sym h
not_true false h = refl

not_false : (b : Bool) → b ≡ false → not b ≡ true
not_false true h = sym h
not_false false h = refl

-- a byte between brackets does not close them
goes_on : (c e : Bool) → (not c || e) ≡ true → (c && not e) ≡ false
goes_on true true h = refl
goes_on true false h = sym h
goes_on false e h = refl

kept_in : (c e : Bool) → (c && not e) ≡ false → (not c || e) ≡ true
kept_in true true h = refl
kept_in true false h = sym h
kept_in false e h = refl

blank_step : (b : ℕ) (bs : List ℕ) → is_blank b ≡ true → words_in Between (b ∷ bs) ≡ words_in Between bs
unfolding words_in
blank_step b bs h =
    ap (λ (t : Bool). cond t (words_in Between bs) (cond (eqb b 91) (option_map (onto_first b) (words_in (Bracket false) bs))
    (option_map (onto_first b) (words_in Plain bs)))) h

inside_words : (e : Bool) (inside rest : List ℕ) (ws : List (List ℕ)) → is_inside e inside ≡ true → words_in Between rest ≡ Some ws →
    words_in (Bracket e) (inside ++ 93 ∷ rest) ≡ Some ((inside ++ 93 ∷ []) ∷ ws)
unfolding words_in is_inside
inside_words e [] rest ws h k = rw (h, k) refl
inside_words e (b ∷ bs) rest ws h k =
    let parts = and_parts (not (eqb b 93) || e) (is_inside (eqb b 92) bs) h in
    rw (goes_on (eqb b 93) e parts.0, inside_words (eqb b 92) bs rest ws parts.1 k) refl

plain_ends : {rest : List ℕ} (ws : List (List ℕ)) → EndsWord rest → words_in Between rest ≡ Some ws → words_in Plain rest ≡ Some ([] ∷ ws)
unfolding words_in
plain_ends ws at_end k = ap (option_map (λ vs. [] ∷ vs)) k
plain_ends ws (at_blank b bs e) k = rw (e, sym (blank_step b bs e) ∙ k) refl

plain_words : (bs rest : List ℕ) (ws : List (List ℕ)) → has_no_blank bs ≡ true → EndsWord rest → words_in Between rest ≡ Some ws →
    words_in Plain (bs ++ rest) ≡ Some (bs ∷ ws)
unfolding words_in
plain_words [] rest ws h ends k = plain_ends ws ends k
plain_words (b ∷ bs) rest ws h ends k =
    let parts = and_parts (not (is_blank b)) (has_no_blank bs) h in
    rw (not_true (is_blank b) parts.0, plain_words bs rest ws parts.1 ends k) refl

-- a plain spelling before a blank, also in a line in which a bracket stays open
spelled : (w : List ℕ) (c : ℕ) (cs : List ℕ) → has_no_blank w ≡ true → is_blank c ≡ true →
    words_in Plain (w ++ c ∷ cs) ≡ option_map (λ ws. w ∷ ws) (words_of (c ∷ cs))
unfolding words_in
spelled [] c cs h k = rw k refl
spelled (b ∷ w) c cs h k =
    let parts = and_parts (not (is_blank b)) (has_no_blank w) h in
    rw (not_true (is_blank b) parts.0, spelled w c cs parts.1 k) (option_map_twice (onto_first b) (λ ws. w ∷ ws) (words_of (c ∷ cs)))

pub spelled_first : (w rest : List ℕ) → 0 < length w → has_no_blank w ≡ true → (get_or w 0 0 ≡ 91 → ⊥) → 0 < length rest → is_blank (get_or rest 0 0) ≡ true →
    words_of (w ++ rest) ≡ words_from (Some (w, rest))
unfolding words_in
spelled_first [] rest s h n l k = absurd (omega (arith, s))
spelled_first (b ∷ w) [] s h n l k = absurd (omega (arith, l))
spelled_first (b ∷ w) (c ∷ cs) s h n l k =
    let parts = and_parts (not (is_blank b)) (has_no_blank w) h in
    rw (not_true (is_blank b) parts.0, ne_eqb b 91 n, spelled w c cs parts.1 k) (option_map_twice (onto_first b) (λ ws. w ∷ ws) (words_of (c ∷ cs)))

-- a word that a line begins with, before a blank
drop_here : (text : List ℕ) (i : ℕ) → i < length text → drop i text ≡ get_or text i 0 ∷ drop (i + 1) text
drop_here text i h = rw (add-one, drop-cons text i 0) refl

pub after_first : (line word rest : List ℕ) → 0 < length word → has_no_blank word ≡ true → (get_or word 0 0 ≡ 91 → ⊥) →
    line ≡ word ++ drop (length word) line → length word < length line → is_blank (get_or line (length word) 0) ≡ true → rest ≡ drop (length word) line →
    words_of line ≡ words_from (Some (word, rest))
after_first line word rest s h b e l k f =
    let d : drop (length word) line ≡ get_or line (length word) 0 ∷ drop (length word + 1) line = drop_here line (length word) l in
    ap words_of e ∙ spelled_first word (drop (length word) line) s h b (rw d (omega arith)) (rw d k)
    ∙ ap (λ (r : List ℕ). words_from (Some (word, r))) (sym f)

pub is_words : {line : List ℕ} {ws : List (List ℕ)} → IsSplit line ws → words_of line ≡ Some ws
unfolding words_in
is_words nothing = refl
is_words (blank b bs ws e s) = blank_step b bs e ∙ is_words s
is_words (bracketed inside rest ws h s) = ap (option_map (onto_first 91)) (inside_words false inside rest ws h (is_words s))
is_words (plain b bs rest ws n h ends s) =
    let parts = and_parts (not (is_blank b)) (has_no_blank bs) h in
    rw (not_true (is_blank b) parts.0, ne_eqb b 91 n, plain_words bs rest ws parts.1 ends (is_words s)) refl

-- FROM THE WORDS TO THE SPLIT

-- the meaning of the words of the rest of a line
abbrev Means : State → List ℕ → List (List ℕ) → Type 0
Means Between line ws = IsSplit line ws
Means Plain line [] = ⊥
Means Plain line (w ∷ ws) = (tail : List ℕ) × (line ≡ w ++ tail) × (has_no_blank w ≡ true) × EndsWord tail × IsSplit tail ws
Means (Bracket e) line [] = ⊥
Means (Bracket e) line (w ∷ ws) =
    (inside : List ℕ) × (tail : List ℕ) × (w ≡ inside ++ 93 ∷ []) × (line ≡ inside ++ 93 ∷ tail) × (is_inside e inside ≡ true) × IsSplit tail ws

from_map : {A B : Type 0} (f : A → B) (o : Option A) (y : B) → option_map f o ≡ Some y → (x : A) × (o ≡ Some x) × (f x ≡ y)
from_map f None y h = absurd (cc)
from_map f (Some x) y h = (x, refl, cc)

-- the cases of a test
if_else : {A : Type 0} (t : Bool) (x y z : A) → cond t x y ≡ z → {P : Type 0} → (t ≡ true → x ≡ z → P) → (t ≡ false → y ≡ z → P) → P
if_else true x y z h f g = f refl h
if_else false x y z h f g = g refl h

-- a word of a spelling in brackets that begins here
opens : (b : ℕ) (bs : List ℕ) (ws : List (List ℕ)) → b ≡ 91 → Means (Bracket false) bs ws → IsSplit (b ∷ bs) (onto_first b ws)
opens b bs [] h m = absurd m
opens b bs (w ∷ ws) h (inside, tail, word, line, fine, rest) = rw (h, word, line) (bracketed inside tail ws fine rest)

-- a plain word that begins here
begins : (b : ℕ) (bs : List ℕ) (ws : List (List ℕ)) → is_blank b ≡ false → eqb b 91 ≡ false → Means Plain bs ws → IsSplit (b ∷ bs) (onto_first b ws)
begins b bs [] h n m = absurd m
begins b bs (w ∷ ws) h n (tail, line, fine, ends, rest) = rw line (plain b w tail ws (eqb-false b 91 n) (rw h fine) ends rest)

-- one more byte of a plain word
plain_more : (b : ℕ) (bs : List ℕ) (ws : List (List ℕ)) → is_blank b ≡ false → Means Plain bs ws → Means Plain (b ∷ bs) (onto_first b ws)
plain_more b bs [] h m = absurd m
plain_more b bs (w ∷ ws) h (tail, line, fine, ends, rest) = (tail, ap (λ xs. b ∷ xs) line, rw h fine, ends, rest)

-- one more byte between brackets
inside_more : (b : ℕ) (e : Bool) (bs : List ℕ) (ws : List (List ℕ)) → (eqb b 93 && not e) ≡ false → Means (Bracket (eqb b 92)) bs ws →
    Means (Bracket e) (b ∷ bs) (onto_first b ws)
unfolding is_inside
inside_more b e bs [] h m = absurd m
inside_more b e bs (w ∷ ws) h (inside, tail, word, line, fine, rest) =
    (b ∷ inside, tail, ap (λ xs. b ∷ xs) word, ap (λ xs. b ∷ xs) line, rw (kept_in (eqb b 93) e h) fine, rest)

-- the byte that closes
closes : (b : ℕ) (e : Bool) (bs : List ℕ) (ws : List (List ℕ)) → (eqb b 93 && not e) ≡ true → IsSplit bs ws → Means (Bracket e) (b ∷ bs) ((93 ∷ []) ∷ ws)
unfolding is_inside
closes b e bs ws h rest =
    let parts = and_parts (eqb b 93) (not e) h in
    ([], bs, refl, ap (λ c. c ∷ bs) (eqb-true b 93 parts.0), parts.1, rest)

means : (p : State) (line : List ℕ) (ws : List (List ℕ)) → words_in p line ≡ Some ws → Means p line ws
unfolding words_in
means Between [] ws h = let none : [] ≡ ws = cc in subst (λ vs. IsSplit [] vs) none nothing
means Plain [] ws h = let one : ([] ∷ []) ≡ ws = cc in subst (λ vs. Means Plain [] vs) one ([], refl, refl, at_end, nothing)
means (Bracket e) [] ws h = absurd (cc)
means Between (b ∷ bs) ws h = if_else (is_blank b) _ _ _ h
    (λ t k. blank b bs ws t (means Between bs ws k))
    (λ t k. if_else (eqb b 91) _ _ _ k
    (λ u l. let m = from_map (onto_first b) (words_in (Bracket false) bs) ws l in
    subst (λ vs. IsSplit (b ∷ bs) vs) m.2 (opens b bs m.0 (eqb-true b 91 u) (means (Bracket false) bs m.0 m.1)))
    (λ u l. let m = from_map (onto_first b) (words_in Plain bs) ws l in subst (λ vs. IsSplit (b ∷ bs) vs) m.2 (begins b bs m.0 t u (means Plain bs m.0 m.1))))
means Plain (b ∷ bs) ws h = if_else (is_blank b) _ _ _ h
    (λ t k. let m = from_map (λ vs. [] ∷ vs) (words_in Between bs) ws k in
    subst (λ vs. Means Plain (b ∷ bs) vs) m.2 (b ∷ bs, refl, refl, at_blank b bs t, blank b bs m.0 t (means Between bs m.0 m.1)))
    (λ t k. let m = from_map (onto_first b) (words_in Plain bs) ws k in
    subst (λ vs. Means Plain (b ∷ bs) vs) m.2 (plain_more b bs m.0 t (means Plain bs m.0 m.1)))
means (Bracket e) (b ∷ bs) ws h = if_else (eqb b 93 && not e) _ _ _ h
    (λ t k. let m = from_map (λ vs. (93 ∷ []) ∷ vs) (words_in Between bs) ws k in
    subst (λ vs. Means (Bracket e) (b ∷ bs) vs) m.2 (closes b e bs m.0 t (means Between bs m.0 m.1)))
    (λ t k. let m = from_map (onto_first b) (words_in (Bracket (eqb b 92)) bs) ws k in
    subst (λ vs. Means (Bracket e) (b ∷ bs) vs) m.2 (inside_more b e bs m.0 t (means (Bracket (eqb b 92)) bs m.0 m.1)))

pub is_split : (line : List ℕ) (ws : List (List ℕ)) → words_of line ≡ Some ws → IsSplit line ws
is_split line ws h = means Between line ws h
