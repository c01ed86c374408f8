-- The texts of the words of a line, byte by byte.
use Rattle.std.proofs.Common.{◌≡◌, ◌≤◌, ◌+◌, ◌++◌, ◌∙◌, ◌&&◌, ℕ, Bool, true, false, not, List, [], ◌∷◌, length}
use Rattle.std.proofs.Common.{take, drop, cond, eqb, ap, sym, refl, append-nil, append_assoc, one-add, arith}
use Rattle.std.specs.List.{onto_first, prefix_len}
use Rattle.std.proofs.lemmas.Bool.{ne_eqb}
use Rattle.pam_released.specs.Lines.{is_space_or_tab, onto_line}
use Rattle.pam_released.specs.Words.{Inside, Outside, Word, texts_in}

-- PLAIN WORDS

pub plain_word : (feed bs : List ℕ) → texts_in feed Word bs ≡ take (prefix_len (λ b. not (is_space_or_tab b)) bs) bs
    ∷ texts_in feed Outside (drop (prefix_len (λ b. not (is_space_or_tab b)) bs) bs)
unfolding texts_in
plain_word feed [] = refl
plain_word feed (b ∷ bs) =
    elim (is_space_or_tab b) as (λ (t : Bool). is_space_or_tab b ≡ t → cond t ([] ∷ texts_in feed Outside bs) (onto_first b (texts_in feed Word bs)) ≡
    take (cond (not t) (1 + prefix_len (λ c. not (is_space_or_tab c)) bs) 0) (b ∷ bs)
    ∷ texts_in feed Outside (drop (cond (not t) (1 + prefix_len (λ c. not (is_space_or_tab c)) bs) 0) (b ∷ bs))) [
      | true ↦ λ h. ap (λ (r : List (List ℕ)). [] ∷ r) (sym (ap (λ (t : Bool). cond t (texts_in feed Outside bs)
          (cond (eqb b 91) (texts_in feed Inside bs) (onto_first b (texts_in feed Word bs)))) h))
      | false ↦ λ h. ap (onto_first b) (plain_word feed bs)
          ∙ ap (λ (k : ℕ). take k (b ∷ bs) ∷ texts_in feed Outside (drop k (b ∷ bs))) (sym (one-add (prefix_len (λ c. not (is_space_or_tab c)) bs)))
    ] refl

-- WORDS IN BRACKETS

is_some : List (List ℕ) → Bool
is_some [] = false
is_some (w ∷ ws) = true

onto_some : (b : ℕ) (ws : List (List ℕ)) → is_some (onto_first b ws) ≡ true
unfolding is_some
onto_some b [] = refl
onto_some b (w ∷ ws) = refl

with_nothing : (ws : List (List ℕ)) → is_some ws ≡ true → onto_line [] ws ≡ ws
unfolding is_some
with_nothing [] h = absurd (cc)
with_nothing (w ∷ ws) h = refl

either_some : (t u : Bool) (x y z : List (List ℕ)) → is_some x ≡ true → is_some y ≡ true → is_some z ≡ true → is_some (cond t x (cond u y z)) ≡ true
either_some true u x y z h k l = h
either_some false true x y z h k l = k
either_some false false x y z h k l = l

last_some : (t : Bool) (b : ℕ) (feed : List ℕ) → is_some (cond t ([] ∷ []) ((b ∷ feed) ∷ [])) ≡ true
unfolding is_some
last_some true b feed = refl
last_some false b feed = refl

some_word : (feed bs : List ℕ) → is_some (texts_in feed Inside bs) ≡ true
unfolding texts_in is_some
some_word feed [] = refl
some_word feed (b ∷ []) = last_some (eqb b 93) b feed
some_word feed (b ∷ c ∷ bs) = either_some (eqb b 93) (eqb b 92 && eqb c 93) ([] ∷ texts_in feed Outside (c ∷ bs)) (onto_first 93 (texts_in feed Inside bs))
    (onto_first b (texts_in feed Inside (c ∷ bs))) refl (onto_some 93 (texts_in feed Inside bs)) (onto_some b (texts_in feed Inside (c ∷ bs)))

pub nothing_before : (feed text bs : List ℕ) → text ≡ [] → onto_line text (texts_in feed Inside bs) ≡ texts_in feed Inside bs
nothing_before feed text bs none = ap (λ (r : List ℕ). onto_line r (texts_in feed Inside bs)) none ∙ with_nothing (texts_in feed Inside bs) (some_word feed bs)

pub onto_pushed : (text : List ℕ) (b : ℕ) (ws : List (List ℕ)) → onto_line (text ++ b ∷ []) ws ≡ onto_line text (onto_first b ws)
onto_pushed text b [] = refl
onto_pushed text b (w ∷ ws) = ap (λ (r : List ℕ). r ∷ ws) (append_assoc text (b ∷ []) w)

pub closed : (feed bs : List ℕ) → texts_in feed Inside (93 ∷ bs) ≡ [] ∷ texts_in feed Outside bs
unfolding texts_in
closed feed [] = refl
closed feed (b ∷ bs) = refl

pub escaped : (feed bs : List ℕ) → texts_in feed Inside (92 ∷ 93 ∷ bs) ≡ onto_first 93 (texts_in feed Inside bs)
unfolding texts_in
escaped feed bs = refl

pub nothing_more : (feed : List ℕ) → texts_in feed Inside [] ≡ feed ∷ texts_in feed Outside []
unfolding texts_in
nothing_more feed = refl

-- the next byte, if any, is escaped by this one
abbrev pub is_escape : ℕ → List ℕ → Bool
is_escape b [] = false
is_escape b (c ∷ bs) = eqb b 92 && eqb c 93

pub one_byte : (feed : List ℕ) (b : ℕ) (bs : List ℕ) → eqb b 93 ≡ false → is_escape b bs ≡ false →
    texts_in feed Inside (b ∷ bs) ≡ onto_first b (texts_in feed Inside bs)
unfolding texts_in
one_byte feed b [] h e = ap (λ (t : Bool). cond t ([] ∷ []) ((b ∷ feed) ∷ [])) h
one_byte feed b (c ∷ bs) h e =
    ap (λ (t : Bool). cond t ([] ∷ texts_in feed Outside (c ∷ bs)) (cond (eqb b 92 && eqb c 93) (onto_first 93 (texts_in feed Inside bs))
    (onto_first b (texts_in feed Inside (c ∷ bs))))) h
    ∙ ap (λ (t : Bool). cond t (onto_first 93 (texts_in feed Inside bs)) (onto_first b (texts_in feed Inside (c ∷ bs)))) e

-- WORDS

pub blank_between : (feed : List ℕ) (b : ℕ) (bs : List ℕ) → is_space_or_tab b ≡ true → texts_in feed Outside (b ∷ bs) ≡ texts_in feed Outside bs
unfolding texts_in
blank_between feed b bs h = ap (λ (t : Bool). cond t (texts_in feed Outside bs) (cond (eqb b 91) (texts_in feed Inside bs) (onto_first b
    (texts_in feed Word bs)))) h

pub bracket_opens : (feed bs : List ℕ) → texts_in feed Outside (91 ∷ bs) ≡ texts_in feed Inside bs
unfolding texts_in
bracket_opens feed bs = refl

pub word_begins : (feed : List ℕ) (b : ℕ) (bs : List ℕ) → is_space_or_tab b ≡ false → eqb b 91 ≡ false →
    texts_in feed Outside (b ∷ bs) ≡ texts_in feed Word (b ∷ bs)
unfolding texts_in
word_begins feed b bs h e =
    ap (λ (t : Bool). cond t (texts_in feed Outside bs) (cond (eqb b 91) (texts_in feed Inside bs) (onto_first b (texts_in feed Word bs)))) h
    ∙ ap (λ (t : Bool). cond t (texts_in feed Inside bs) (onto_first b (texts_in feed Word bs))) e
    ∙ sym (ap (λ (t : Bool). cond t ([] ∷ texts_in feed Outside bs) (onto_first b (texts_in feed Word bs))) h)

-- BYTE BY BYTE, after the text that is read

pub inside_closed : (feed text rest after : List ℕ) (b : ℕ) (whole : List (List ℕ)) → rest ≡ b ∷ after → b ≡ 93 →
    onto_line text (texts_in feed Inside rest) ≡ whole → whole ≡ text ∷ texts_in feed Outside after
inside_closed feed text rest after b whole split is h =
    sym h ∙ ap (λ (r : List ℕ). onto_line text (texts_in feed Inside r)) (split ∙ ap (λ (c : ℕ). c ∷ after) is)
    ∙ ap (onto_line text) (closed feed after) ∙ ap (λ (r : List ℕ). r ∷ texts_in feed Outside after) (append-nil text)

pub inside_escaped : (feed text rest after later pushed : List ℕ) (b c : ℕ) (whole : List (List ℕ)) → rest ≡ b ∷ after → after ≡ c ∷ later → b ≡ 92 → c ≡ 93 →
    pushed ≡ text ++ 93 ∷ [] → onto_line text (texts_in feed Inside rest) ≡ whole → onto_line pushed (texts_in feed Inside later) ≡ whole
inside_escaped feed text rest after later pushed b c whole split next is closes push h =
    ap (λ (r : List ℕ). onto_line r (texts_in feed Inside later)) push
    ∙ onto_pushed text 93 (texts_in feed Inside later)
    ∙ ap (onto_line text) (sym (escaped feed later))
    ∙ ap (λ (r : List ℕ). onto_line text (texts_in feed Inside r))
    (sym (split ∙ ap (λ (r : List ℕ). b ∷ r) next ∙ ap (λ (k : ℕ). k ∷ c ∷ later) is ∙ ap (λ (k : ℕ). 92 ∷ k ∷ later) closes))
    ∙ h

pub inside_byte : (feed text rest after pushed : List ℕ) (b : ℕ) (whole : List (List ℕ)) → rest ≡ b ∷ after → eqb b 93 ≡ false → is_escape b after ≡ false →
    pushed ≡ text ++ b ∷ [] → onto_line text (texts_in feed Inside rest) ≡ whole → onto_line pushed (texts_in feed Inside after) ≡ whole
inside_byte feed text rest after pushed b whole split other plain push h =
    ap (λ (r : List ℕ). onto_line r (texts_in feed Inside after)) push
    ∙ onto_pushed text b (texts_in feed Inside after)
    ∙ ap (onto_line text) (sym (one_byte feed b after other plain))
    ∙ ap (λ (r : List ℕ). onto_line text (texts_in feed Inside r)) (sym split) ∙ h

pub inside_end : (feed text rest pushed : List ℕ) (whole : List (List ℕ)) → rest ≡ [] → pushed ≡ text ++ feed →
    onto_line text (texts_in feed Inside rest) ≡ whole → whole ≡ pushed ∷ texts_in feed Outside rest
inside_end feed text rest pushed whole none push h =
    sym h ∙ ap (λ (r : List ℕ). onto_line text (texts_in feed Inside r)) none ∙ ap (onto_line text) (nothing_more feed)
    ∙ ap (λ (r : List ℕ). r ∷ texts_in feed Outside []) (sym push) ∙ ap (λ (r : List ℕ). pushed ∷ texts_in feed Outside r) (sym none)

pub words_blank : (feed : List ℕ) (texts : List (List ℕ)) (rest after : List ℕ) (b : ℕ) (whole : List (List ℕ)) → rest ≡ b ∷ after → is_space_or_tab b ≡ true →
    texts ++ texts_in feed Outside rest ≡ whole → texts ++ texts_in feed Outside after ≡ whole
words_blank feed texts rest after b whole split blank h =
    ap (λ (r : List (List ℕ)). texts ++ r) (sym (blank_between feed b after blank)) ∙ ap (λ (r : List ℕ). texts ++ texts_in feed Outside r) (sym split) ∙ h

one_more : (texts pushed more : List (List ℕ)) (text : List ℕ) → pushed ≡ texts ++ text ∷ [] → pushed ++ more ≡ texts ++ text ∷ more
one_more texts pushed more text push = ap (λ (r : List (List ℕ)). r ++ more) push ∙ append_assoc texts (text ∷ []) more

pub words_inside : (feed : List ℕ) (texts pushed : List (List ℕ)) (rest after text later : List ℕ) (b : ℕ) (whole : List (List ℕ)) → rest ≡ b ∷ after → b ≡ 91 →
    texts_in feed Inside after ≡ text ∷ texts_in feed Outside later → pushed ≡ texts ++ text ∷ [] →
    texts ++ texts_in feed Outside rest ≡ whole → pushed ++ texts_in feed Outside later ≡ whole
words_inside feed texts pushed rest after text later b whole split is word push h =
    one_more texts pushed (texts_in feed Outside later) text push
    ∙ ap (λ (r : List (List ℕ)). texts ++ r) (sym (bracket_opens feed after ∙ word))
    ∙ ap (λ (r : List ℕ). texts ++ texts_in feed Outside r) (sym (split ∙ ap (λ (k : ℕ). k ∷ after) is)) ∙ h

pub words_plain : (feed : List ℕ) (texts pushed : List (List ℕ)) (rest after text later : List ℕ) (b : ℕ) (whole : List (List ℕ)) → rest ≡ b ∷ after →
    is_space_or_tab b ≡ false → eqb b 91 ≡ false → texts_in feed Word rest ≡ text ∷ texts_in feed Outside later → pushed ≡ texts ++ text ∷ [] →
    texts ++ texts_in feed Outside rest ≡ whole → pushed ++ texts_in feed Outside later ≡ whole
words_plain feed texts pushed rest after text later b whole split blank other word push h =
    one_more texts pushed (texts_in feed Outside later) text push
    ∙ ap (λ (r : List (List ℕ)). texts ++ r) (sym word)
    ∙ ap (λ (r : List ℕ). texts ++ texts_in feed Word r) split
    ∙ ap (λ (r : List (List ℕ)). texts ++ r) (sym (word_begins feed b after blank other))
    ∙ ap (λ (r : List ℕ). texts ++ texts_in feed Outside r) (sym split) ∙ h

no_bytes : (feed : List ℕ) → texts_in feed Outside [] ≡ []
unfolding texts_in
no_bytes feed = refl

pub words_end : (feed : List ℕ) (texts : List (List ℕ)) (rest : List ℕ) (whole : List (List ℕ)) → rest ≡ [] →
    texts ++ texts_in feed Outside rest ≡ whole → texts ≡ whole
words_end feed texts rest whole none h =
    sym (append-nil texts) ∙ ap (λ (r : List (List ℕ)). texts ++ r) (sym (no_bytes feed)) ∙ ap (λ (r : List ℕ). texts ++ texts_in feed Outside r) (sym none) ∙ h

-- LENGTHS, AND BYTES THAT ESCAPE NOTHING

pub one_longer : (rest after : List ℕ) (b : ℕ) → rest ≡ b ∷ after → length rest ≡ length after + 1
one_longer rest after b split = ap length split ∙ one_more_byte
  where
    one_more_byte : length (b ∷ after) ≡ length after + 1
    one_more_byte = omega arith

pub no_backslash : (b : ℕ) (after : List ℕ) → (b ≡ 92 → ⊥) → is_escape b after ≡ false
no_backslash b [] h = refl
no_backslash b (c ∷ after) h = ap (λ (t : Bool). t && eqb c 93) (ne_eqb b 92 h)

pub no_bracket : (b c : ℕ) (after later : List ℕ) → after ≡ c ∷ later → (c ≡ 93 → ⊥) → is_escape b after ≡ false
no_bracket b c after later split h = ap (is_escape b) split ∙ ap (λ (t : Bool). eqb b 92 && t) (ne_eqb c 93 h) ∙ no_and (eqb b 92)
  where
    no_and : (t : Bool) → (t && false) ≡ false
    no_and true = refl
    no_and false = refl

pub nothing_after : (b : ℕ) (after : List ℕ) → length after ≡ 0 → is_escape b after ≡ false
nothing_after b [] h = refl
nothing_after b (c ∷ after) h = absurd (omega (arith, h))

pub some_bytes : (rest after : List ℕ) (b : ℕ) → rest ≡ b ∷ after → is_space_or_tab b ≡ false → 1 ≤ prefix_len (λ c. not (is_space_or_tab c)) rest
some_bytes rest after b split h =
    let is : prefix_len (λ c. not (is_space_or_tab c)) rest ≡ 1 + prefix_len (λ c. not (is_space_or_tab c)) after =
    ap (prefix_len (λ c. not (is_space_or_tab c))) split
    ∙ ap (λ (t : Bool). cond (not t) (1 + prefix_len (λ c. not (is_space_or_tab c)) after) 0) h in
    omega (arith, is)
