-- What is written for a code, and the tokens of a text, by released Linux-PAM and by the manual pages.
use Rattle.std.proofs.Common.{◌≡◌, one-add, ◌≤◌, ◌<◌, ◌+◌, ◌&&◌, ◌||◌, ◌++◌, ◌∙◌, ℕ, zero, suc, Bool, true, false, List, [], ◌∷◌, map, take, drop}
use Rattle.std.proofs.Common.{length, get_or, cond, eqb, ap, sym, refl, Option, Some, None, arith}
use Rattle.std.specs.Prelude.{nat_lt, unwrap_or}
use Rattle.std.specs.List.{prefix_len}
use Rattle.std.specs.Char.{to_ascii_lowercase}
use Rattle.std.proofs.lemmas.Bool.{eqb-true, true≢false}
use Rattle.pam_text.specs.Blanks.{is_text_blank}
use Rattle.pam_codes.specs.Control.{Pairs, action_of, first_default, last_named}
use Rattle.pam_codes.specs.Tokens.{begins_word, is_word_byte, tokens_of}
use Rattle.pam_codes.specs.declared.action.Action.{Action}
use Rattle.pam_codes.specs.declared.action.Action.TheVariants.{Bad}
use Rattle.pam_codes.specs.declared.subject.Subject.TheVariants.{Named, Incomplete, Default}
use Rattle.pam_codes.proofs.TokensOf.{tokens_of-blank, tokens_of-equals, tokens_of-word}
use Rattle.pam_released.specs.Control.{after_spaces, is_space}
use Rattle.pam_released.specs.Control.{written}

-- WHAT IS WRITTEN FOR A CODE

-- a code's action after pairs: what the last name says, else what was written before, else what the first default says
pub or_before : Option Action → Option Action → Option Action → Option Action
or_before (Some a) before after = Some a
or_before None (Some a) after = Some a
or_before None None after = after

pub written_as : (code : ℕ) (before : Option Action) (ps : Pairs) → written code before ps ≡ or_before (last_named code ps) before (first_default ps)
unfolding or_before
written_as code None [] = refl
written_as code (Some a) [] = refl
written_as code before ((Named n, a) ∷ ps) =
    elim (eqb n code) as (λ (t : Bool). written code (cond t (Some a) before) ps ≡
    or_before (cond t (Some (unwrap_or (last_named code ps) a)) (last_named code ps)) before (first_default ps)) [
      | true ↦ written_as code (Some a) ps ∙ named (last_named code ps)
      | false ↦ written_as code before ps
    ]
  where
    named : (o : Option Action) → or_before o (Some a) (first_default ps) ≡ Some (unwrap_or o a)
    named None = refl
    named (Some c) = refl
written_as code before ((Incomplete, a) ∷ ps) = written_as code before ps
written_as code before ((Default, a) ∷ ps) = written_as code (Some (unwrap_or before a)) ps ∙ defaulted (last_named code ps) before
  where
    defaulted : (o b : Option Action) → or_before o (Some (unwrap_or b a)) (first_default ps) ≡ or_before o b (Some a)
    defaulted (Some c) b = refl
    defaulted None None = refl
    defaulted None (Some c) = refl

pub same_action_of : (ps : Pairs) (code : ℕ) → unwrap_or (written code None ps) Bad ≡ action_of ps code
unfolding or_before
same_action_of ps code = ap (λ (o : Option Action). unwrap_or o Bad) (written_as code None ps) ∙ either (last_named code ps) (first_default ps)
  where
    either : (o d : Option Action) → unwrap_or (or_before o None d) Bad ≡ unwrap_or o (unwrap_or d Bad)
    either None d = refl
    either (Some a) d = refl

pub all_alike : (f g : ℕ → Action) → ((n : ℕ) → f n ≡ g n) → (ns : List ℕ) → map f ns ≡ map g ns
all_alike f g h [] = refl
all_alike f g h (n ∷ ns) = ap (λ (a : Action). a ∷ map f ns) (h n) ∙ ap (λ (r : List Action). g n ∷ r) (all_alike f g h ns)

-- TOKENS

pub record First (text word : List ℕ) (more : List (List ℕ)) : Type 0 where
  pub rest : List ℕ
  pub parts : is_space (get_or word 0 0) ≡ false → after_spaces text ≡ word ++ rest
  pub others : tokens_of rest ≡ more
  pub stops : begins_word word ≡ true → begins_word rest ≡ false
  pub shorter : length rest < length text
  pub low : map to_ascii_lowercase text ≡ text → (map to_ascii_lowercase word ≡ word) × (map to_ascii_lowercase rest ≡ rest)

pub blank_space : (b : ℕ) → is_text_blank b ≡ true → is_space b ≡ true
blank_space b h =
    elim (eqb b 32) as (λ (t : Bool). (t || eqb b 9 || eqb b 13) ≡ true → (t || (nat_lt 8 b && nat_lt b 14)) ≡ true) [
      | true ↦ λ e. refl
      | false ↦ λ e. elim (eqb b 9) as (λ (t : Bool). eqb b 9 ≡ t → (t || eqb b 13) ≡ true → (nat_lt 8 b && nat_lt b 14) ≡ true) [
        | true ↦ λ f g. let is : b ≡ 9 = eqb-true b 9 f in rw is refl
        | false ↦ λ f g. let is : b ≡ 13 = eqb-true b 13 g in rw is refl
      ] refl e
    ] h

pub take_drop : (n : ℕ) (xs : List ℕ) → take n xs ++ drop n xs ≡ xs
take_drop zero xs = refl
take_drop (suc n) [] = refl
take_drop (suc n) (x ∷ xs) = ap (λ (r : List ℕ). x ∷ r) (take_drop n xs)

pub drop_short : (n : ℕ) (xs : List ℕ) → length (drop n xs) ≤ length xs
drop_short zero xs = omega arith
drop_short (suc n) [] = omega arith
drop_short (suc n) (x ∷ xs) = let more : length (drop n xs) ≤ length xs = drop_short n xs in omega (arith, more)

pub word_stops : (bs : List ℕ) → begins_word (drop (prefix_len is_word_byte bs) bs) ≡ false
word_stops [] = refl
word_stops (b ∷ bs) =
    elim (is_word_byte b) as (λ (t : Bool). is_word_byte b ≡ t → begins_word (drop (cond t (1 + prefix_len is_word_byte bs) 0) (b ∷ bs)) ≡ false) [
      | true ↦ λ e. rw one-add (word_stops bs)
      | false ↦ λ e. e
    ] refl

pub one_word : (b : ℕ) (bs : List ℕ) → is_word_byte b ≡ true →
    tokens_of (b ∷ bs) ≡ (b ∷ take (prefix_len is_word_byte bs) bs) ∷ tokens_of (drop (prefix_len is_word_byte bs) bs)
one_word b bs h =
    let here : prefix_len is_word_byte (b ∷ bs) ≡ suc (prefix_len is_word_byte bs) = ap (λ (t : Bool). cond t (1 + prefix_len is_word_byte bs) 0) h
    ∙ one-add (prefix_len is_word_byte bs) in
    tokens_of-word (b ∷ bs) h ∙ ap (λ (n : ℕ). take n (b ∷ bs) ∷ tokens_of (drop n (b ∷ bs))) here

pub no_tokens_none : tokens_of [] ≡ []
unfolding tokens_of
no_tokens_none = refl

pub lower_parts : (a u : List ℕ) → map to_ascii_lowercase (a ++ u) ≡ a ++ u → (map to_ascii_lowercase a ≡ a) × (map to_ascii_lowercase u ≡ u)
lower_parts [] u h = (refl, h)
lower_parts (b ∷ a) u h =
    let one : to_ascii_lowercase b ≡ b = cc in
    let more : map to_ascii_lowercase (a ++ u) ≡ a ++ u = cc in
    let rest = lower_parts a u more in
    (ap (λ (c : ℕ). c ∷ map to_ascii_lowercase a) one ∙ ap (λ (r : List ℕ). b ∷ r) rest.0, rest.1)

pub lower_tail : (b : ℕ) (t : List ℕ) → map to_ascii_lowercase (b ∷ t) ≡ b ∷ t → map to_ascii_lowercase t ≡ t
lower_tail b t h = cc

pub first_token : (t a : List ℕ) (more : List (List ℕ)) → tokens_of t ≡ a ∷ more → First t a more
first_token [] a more h = let e : [] ≡ a ∷ more = sym no_tokens_none ∙ h in absurd (cc)
first_token (b ∷ bs) a more h =
    elim (is_text_blank b) as (λ (t : Bool). is_text_blank b ≡ t → First (b ∷ bs) a more) [
      | true ↦ λ e.
          let f = first_token bs a more (sym (tokens_of-blank b bs e) ∙ h) in
          record {
            rest = f.rest;
            parts = λ s. ap (λ (t : Bool). cond t (after_spaces bs) (b ∷ bs)) (blank_space b e) ∙ f.parts s;
            others = f.others;
            stops = f.stops;
            shorter = let s : length f.rest < length bs = f.shorter in omega (arith, s);
            low = λ l. f.low (lower_tail b bs l);
          }
      | false ↦ λ e. elim (eqb b 61) as (λ (t : Bool). eqb b 61 ≡ t → First (b ∷ bs) a more) [
        | true ↦ λ g.
            let is : b ≡ 61 = eqb-true b 61 g in
            let both : (61 ∷ []) ∷ tokens_of bs ≡ a ∷ more = sym (tokens_of-equals bs) ∙ ap (λ (c : ℕ). tokens_of (c ∷ bs)) (sym is) ∙ h in
            let word : 61 ∷ [] ≡ a = cc in
            let rest : tokens_of bs ≡ more = cc in
            record {
              rest = bs;
              parts = λ s. ap (λ (c : ℕ). after_spaces (c ∷ bs)) is ∙ ap (λ (r : List ℕ). r ++ bs) word;
              others = rest;
              stops = λ w. absurd (true≢false (sym w ∙ ap begins_word (sym word)));
              shorter = omega arith;
              low = λ l. (ap (map to_ascii_lowercase) (sym word) ∙ word, lower_tail b bs l);
            }
        | false ↦ λ g.
            let starts : is_word_byte b ≡ true = rw e (rw g refl) in
            let both : (b ∷ take (prefix_len is_word_byte bs) bs) ∷ tokens_of (drop (prefix_len is_word_byte bs) bs) ≡
            a ∷ more = sym (one_word b bs starts) ∙ h in
            let word : b ∷ take (prefix_len is_word_byte bs) bs ≡ a = cc in
            let rest : tokens_of (drop (prefix_len is_word_byte bs) bs) ≡ more = cc in
            record {
              rest = drop (prefix_len is_word_byte bs) bs;
              parts = λ s. ap (λ (t : Bool). cond t (after_spaces bs) (b ∷ bs)) (ap (λ (r : List ℕ). is_space (get_or r 0 0)) word ∙ s)
                  ∙ ap (λ (r : List ℕ). b ∷ r) (sym (take_drop (prefix_len is_word_byte bs) bs))
                  ∙ ap (λ (r : List ℕ). r ++ drop (prefix_len is_word_byte bs) bs) word;
              others = rest;
              stops = λ w. word_stops bs;
              shorter = let s : length (drop (prefix_len is_word_byte bs) bs) ≤ length bs = drop_short (prefix_len is_word_byte bs) bs in omega (arith, s);
              low = λ l.
                  let cut : b ∷ take (prefix_len is_word_byte bs) bs ++ drop (prefix_len is_word_byte bs) bs ≡
                  b ∷ bs = ap (λ (r : List ℕ). b ∷ r) (take_drop (prefix_len is_word_byte bs) bs) in
                  let two = lower_parts (b ∷ take (prefix_len is_word_byte bs) bs) (drop (prefix_len is_word_byte bs) bs) (ap (map to_ascii_lowercase) cut
                  ∙ l ∙ sym cut) in
                  (ap (map to_ascii_lowercase) (sym word) ∙ two.0 ∙ word, two.1);
            }
      ] refl
    ] refl

pub no_token : (t : List ℕ) → tokens_of t ≡ [] → after_spaces t ≡ []
no_token [] h = refl
no_token (b ∷ bs) h =
    elim (is_text_blank b) as (λ (t : Bool). is_text_blank b ≡ t → after_spaces (b ∷ bs) ≡ []) [
      | true ↦ λ e. ap (λ (t : Bool). cond t (after_spaces bs) (b ∷ bs)) (blank_space b e) ∙ no_token bs (sym (tokens_of-blank b bs e) ∙ h)
      | false ↦ λ e. elim (eqb b 61) as (λ (t : Bool). eqb b 61 ≡ t → after_spaces (b ∷ bs) ≡ []) [
        | true ↦ λ g.
            let is : b ≡ 61 = eqb-true b 61 g in
            let both : (61 ∷ []) ∷ tokens_of bs ≡ [] = sym (tokens_of-equals bs) ∙ ap (λ (c : ℕ). tokens_of (c ∷ bs)) (sym is) ∙ h in absurd (cc)
        | false ↦ λ g.
            let starts : is_word_byte b ≡ true = rw e (rw g refl) in
            let both : (b ∷ take (prefix_len is_word_byte bs) bs) ∷ tokens_of (drop (prefix_len is_word_byte bs) bs) ≡ [] = sym (one_word b bs starts)
            ∙ h in absurd (cc)
      ] refl
    ] refl
