-- The lines of 1.7.0 have the words of the lines of the manual pages.
use Rattle.std.proofs.Common.{◌≡◌, ◌&&◌, ◌||◌, ◌++◌, ◌∙◌, ℕ, Bool, true, false, not, List, [], ◌∷◌, map, cond, eqb, ap, sym, refl, Option, Some, append-nil}
use Rattle.std.specs.List.{list_all, list_any, onto_first}
use Rattle.std.specs.Option.{option_map}
use Rattle.std.proofs.lemmas.Bool.{or_parts}
use Rattle.std.proofs.lemmas.List.Folds.{list_all-append}
use Rattle.pam_text.specs.Blanks.{is_text_blank}
use Rattle.pam_codes.specs.Tokens.{is_blank}
use Rattle.pam_conf.specs.Words.{State, Between, Plain, Bracket, words_in, words_of}
use Rattle.pam_released.specs.Lines.{before_hash, continued, ends_in_backslash, filled, front_part, goes_on, is_space_or_tab, last_is_space, lines_170}
use Rattle.pam_released.specs.Lines.{manual_lines_of, not_empty, onto_line, physical_lines, without_start_blanks}
use Rattle.pam_released.proofs.LineTests.{has_dropped_blank, is_line_read_otherwise}
use Rattle.pam_released.specs.Bracket.{after, begins_in_blank, in_bracket, part}
use Rattle.pam_released.proofs.LineFacts.{text_blank}
use Rattle.pam_released.proofs.Lines152.{IsEnd, nothing, empty, alone, followed, no_more, and_more, manual_by_lines}

-- WORDS AFTER A TEXT

-- words of two texts, alike in the state after a text, are alike with it in front
pub words_after : (s : State) (t x y : List ℕ) → words_in (after s t) x ≡ words_in (after s t) y → words_in s (t ++ x) ≡ words_in s (t ++ y)
unfolding words_in after
words_after s [] x y h = h
words_after Between (b ∷ t) x y h =
    elim (is_blank b) as (λ (u : Bool).
    words_in (cond u (after Between t) (cond (eqb b 91) (after (Bracket false) t) (after Plain t))) x
    ≡ words_in (cond u (after Between t) (cond (eqb b 91) (after (Bracket false) t) (after Plain t))) y →
    cond u (words_in Between (t ++ x)) (cond (eqb b 91) (option_map (onto_first b) (words_in (Bracket false) (t ++ x)))
    (option_map (onto_first b) (words_in Plain (t ++ x))))
    ≡ cond u (words_in Between (t ++ y)) (cond (eqb b 91) (option_map (onto_first b) (words_in (Bracket false) (t ++ y)))
    (option_map (onto_first b) (words_in Plain (t ++ y))))) [
      | true ↦ λ k. words_after Between t x y k
      | false ↦ elim (eqb b 91) as (λ (v : Bool).
          words_in (cond v (after (Bracket false) t) (after Plain t)) x ≡ words_in (cond v (after (Bracket false) t) (after Plain t)) y →
          cond v (option_map (onto_first b) (words_in (Bracket false) (t ++ x))) (option_map (onto_first b) (words_in Plain (t ++ x)))
          ≡ cond v (option_map (onto_first b) (words_in (Bracket false) (t ++ y))) (option_map (onto_first b) (words_in Plain (t ++ y)))) [
            | true ↦ λ k. ap (option_map (onto_first b)) (words_after (Bracket false) t x y k)
            | false ↦ λ k. ap (option_map (onto_first b)) (words_after Plain t x y k)
          ]
    ] h
words_after Plain (b ∷ t) x y h =
    elim (is_blank b) as (λ (u : Bool).
    words_in (cond u (after Between t) (after Plain t)) x ≡ words_in (cond u (after Between t) (after Plain t)) y →
    cond u (option_map (λ ws. [] ∷ ws) (words_in Between (t ++ x))) (option_map (onto_first b) (words_in Plain (t ++ x)))
    ≡ cond u (option_map (λ ws. [] ∷ ws) (words_in Between (t ++ y))) (option_map (onto_first b) (words_in Plain (t ++ y)))) [
      | true ↦ λ k. ap (option_map (λ ws. [] ∷ ws)) (words_after Between t x y k)
      | false ↦ λ k. ap (option_map (onto_first b)) (words_after Plain t x y k)
    ] h
words_after (Bracket e) (b ∷ t) x y h =
    elim (eqb b 93 && not e) as (λ (u : Bool).
    words_in (cond u (after Between t) (after (Bracket (eqb b 92)) t)) x ≡ words_in (cond u (after Between t) (after (Bracket (eqb b 92)) t)) y →
    cond u (option_map (λ ws. (93 ∷ []) ∷ ws) (words_in Between (t ++ x))) (option_map (onto_first b) (words_in (Bracket (eqb b 92)) (t ++ x)))
    ≡ cond u (option_map (λ ws. (93 ∷ []) ∷ ws) (words_in Between (t ++ y))) (option_map (onto_first b) (words_in (Bracket (eqb b 92)) (t ++ y)))) [
      | true ↦ λ k. ap (option_map (λ ws. (93 ∷ []) ∷ ws)) (words_after Between t x y k)
      | false ↦ λ k. ap (option_map (onto_first b)) (words_after (Bracket (eqb b 92)) t x y k)
    ] h

-- NO BLANKS AT THE START

c_is_text : (b : ℕ) → is_space_or_tab b ≡ true → is_blank b ≡ true
c_is_text b h = ap (λ (t : Bool). t || eqb b 13) h

-- between words they say nothing
skipped : (t x : List ℕ) → words_in Between (without_start_blanks t ++ x) ≡ words_in Between (t ++ x)
unfolding words_in without_start_blanks
skipped [] x = refl
skipped (b ∷ t) x =
    elim (is_space_or_tab b) as (λ (u : Bool). is_space_or_tab b ≡ u →
    words_in Between (cond u (without_start_blanks t) (b ∷ t) ++ x) ≡ words_in Between (b ∷ t ++ x)) [
      | true ↦ λ e. skipped t x ∙ sym (ap (λ (u : Bool). cond u (words_in Between (t ++ x))
          (cond (eqb b 91) (option_map (onto_first b) (words_in (Bracket false) (t ++ x))) (option_map (onto_first b) (words_in Plain (t ++ x)))))
          (c_is_text b e))
      | false ↦ λ e. refl
    ] refl

none_dropped : (t : List ℕ) → begins_in_blank t ≡ false → without_start_blanks t ≡ t
unfolding without_start_blanks
none_dropped [] h = refl
none_dropped (b ∷ t) h = rw h refl

abbrev in_plain : State → Bool
in_plain Between = false
in_plain Plain = true
in_plain (Bracket e) = false

dropped : (s : State) (t x : List ℕ) → in_plain s ≡ false → (in_bracket s && begins_in_blank t) ≡ false →
    words_in s (without_start_blanks t ++ x) ≡ words_in s (t ++ x)
dropped Between t x p h = skipped t x
dropped Plain t x p h = absurd (cc)
dropped (Bracket e) t x p h = ap (λ (r : List ℕ). words_in (Bracket e) (r ++ x)) (none_dropped t h)

-- after a line that goes on, the reader is in no plain word
not_plain : (s : State) (r : List ℕ) → ends_in_backslash r ≡ true → in_plain (after s (last_is_space r)) ≡ false
unfolding after last_is_space ends_in_backslash
not_plain s [] h = absurd (cc)
not_plain Between (b ∷ []) h = refl
not_plain Plain (b ∷ []) h = refl
not_plain (Bracket e) (b ∷ []) h = refl
not_plain Between (b ∷ c ∷ r) h =
    elim (is_blank b) as (λ (u : Bool). in_plain (cond u (after Between (last_is_space (c ∷ r)))
    (cond (eqb b 91) (after (Bracket false) (last_is_space (c ∷ r))) (after Plain (last_is_space (c ∷ r))))) ≡ false) [
      | true ↦ not_plain Between (c ∷ r) h
      | false ↦ elim (eqb b 91) as (λ (u : Bool). in_plain (cond u (after (Bracket false) (last_is_space (c ∷ r))) (after Plain (last_is_space (c ∷ r)))) ≡
          false) [
            | true ↦ not_plain (Bracket false) (c ∷ r) h
            | false ↦ not_plain Plain (c ∷ r) h
          ]
    ]
not_plain Plain (b ∷ c ∷ r) h =
    elim (is_blank b) as (λ (u : Bool). in_plain (cond u (after Between (last_is_space (c ∷ r))) (after Plain (last_is_space (c ∷ r)))) ≡ false) [
      | true ↦ not_plain Between (c ∷ r) h
      | false ↦ not_plain Plain (c ∷ r) h
    ]
not_plain (Bracket e) (b ∷ c ∷ r) h =
    elim (eqb b 93 && not e) as
    (λ (u : Bool). in_plain (cond u (after Between (last_is_space (c ∷ r))) (after (Bracket (eqb b 92)) (last_is_space (c ∷ r)))) ≡ false) [
      | true ↦ not_plain Between (c ∷ r) h
      | false ↦ not_plain (Bracket (eqb b 92)) (c ∷ r) h
    ]

-- WITHOUT CARRIAGE RETURNS

abbrev is_nothing : List ℕ → Bool
is_nothing [] = true
is_nothing (b ∷ bs) = false

dropped_clean : (t : List ℕ) → list_any (λ b. eqb b 13) t ≡ false → list_any (λ b. eqb b 13) (without_start_blanks t) ≡ false
unfolding without_start_blanks
dropped_clean [] h = refl
dropped_clean (b ∷ t) h =
    elim (is_space_or_tab b) as (λ (u : Bool). list_any (λ c. eqb c 13) (cond u (without_start_blanks t) (b ∷ t)) ≡ false) [
      | true ↦ dropped_clean t (or_parts (eqb b 13) (list_any (λ c. eqb c 13) t) h).1
      | false ↦ h
    ]

pub space_clean : (t : List ℕ) → list_any (λ b. eqb b 13) t ≡ false → list_any (λ b. eqb b 13) (last_is_space t) ≡ false
unfolding last_is_space
space_clean [] h = refl
space_clean (b ∷ []) h = refl
space_clean (b ∷ c ∷ t) h =
    let parts = or_parts (eqb b 13) (list_any (λ d. eqb d 13) (c ∷ t)) h in
    rw parts.0 (space_clean (c ∷ t) parts.1)

pub both_clean : (x y : List ℕ) → list_any (λ b. eqb b 13) x ≡ false → list_any (λ b. eqb b 13) y ≡ false → list_any (λ b. eqb b 13) (x ++ y) ≡ false
both_clean [] y h k = k
both_clean (b ∷ x) y h k = let parts = or_parts (eqb b 13) (list_any (λ d. eqb d 13) x) h in rw parts.0 (both_clean x y parts.1 k)

nothing_left : (t : List ℕ) → list_any (λ b. eqb b 13) t ≡ false → is_nothing (without_start_blanks t) ≡ list_all is_text_blank t
unfolding without_start_blanks
nothing_left [] h = refl
nothing_left (b ∷ t) h =
    let parts = or_parts (eqb b 13) (list_any (λ d. eqb d 13) t) h in
    elim (is_space_or_tab b) as (λ (u : Bool). u ≡ is_text_blank b →
    is_nothing (cond u (without_start_blanks t) (b ∷ t)) ≡ (is_text_blank b && list_all is_text_blank t)) [
      | true ↦ λ e. nothing_left t parts.1 ∙ ap (λ (v : Bool). v && list_all is_text_blank t) e
      | false ↦ λ e. ap (λ (v : Bool). v && list_all is_text_blank t) e
    ] (text_blank b parts.0)

nothing_both : (x y : List ℕ) → is_nothing (x ++ y) ≡ (is_nothing x && is_nothing y)
nothing_both [] y = refl
nothing_both (b ∷ x) y = refl

-- LINES ALIKE

-- a line of 1.7.0 and one of the manual pages, read from this state
pub record Alike (s : State) (x y : List ℕ) : Type 0 where
  pub words : words_in s x ≡ words_in s y
  pub blank : is_nothing x ≡ list_all is_text_blank y
  pub clean : list_any (λ b. eqb b 13) x ≡ false

pub data Same : List (List ℕ) → List (List ℕ) → Type 0 where
  ends : (e : List (List ℕ)) → IsEnd e → Same [] e
  line : (x y : List ℕ) (xs ys : List (List ℕ)) → Alike Between x y → Same xs ys → Same (x ∷ xs) (y ∷ ys)

with_front : (s : State) (t x y : List ℕ) → in_plain s ≡ false → (in_bracket s && begins_in_blank t) ≡ false → list_any (λ b. eqb b 13) t ≡ false →
    Alike (after s t) x y → Alike s (without_start_blanks t ++ x) (t ++ y)
with_front s t x y p h c a = record {
  words = dropped s t x p h ∙ words_after s t x y a.words;
  blank = nothing_both (without_start_blanks t) x
      ∙ ap (λ (u : Bool). u && is_nothing x) (nothing_left t c)
      ∙ ap (λ (u : Bool). list_all is_text_blank t && u) a.blank
      ∙ sym (list_all-append is_text_blank t y);
  clean = both_clean (without_start_blanks t) x (dropped_clean t c) a.clean;
}

by_itself : (s : State) (t : List ℕ) → in_plain s ≡ false → (in_bracket s && begins_in_blank t) ≡ false → list_any (λ b. eqb b 13) t ≡ false →
    Alike s (without_start_blanks t) t
by_itself s t p h c = record {
  words = ap (words_in s) (sym (append-nil (without_start_blanks t))) ∙ dropped s t [] p h ∙ ap (words_in s) (append-nil t);
  blank = nothing_left t c;
  clean = dropped_clean t c;
}

-- the lines of both, from a first physical line on
pub record Both (s : State) (m : List ℕ) (ls e : List (List ℕ)) : Type 0 where
  pub x : List ℕ
  pub xs : List (List ℕ)
  pub y : List ℕ
  pub ys : List (List ℕ)
  pub released : lines_170 false (m ∷ ls) ≡ Some (x ∷ xs)
  pub manual : continued (before_hash m ∷ map before_hash ls ++ e) ≡ y ∷ ys
  pub first : Alike s x y
  pub others : Same xs ys

stops : (i : Bool) (m : List ℕ) (ls : List (List ℕ)) → goes_on m ≡ false →
    lines_170 i (m ∷ ls) ≡ option_map (λ more. without_start_blanks (before_hash m) ∷ more) (lines_170 false ls)
unfolding lines_170
stops i m ls g = rw g refl

goes : (i : Bool) (m : List ℕ) (ls : List (List ℕ)) → goes_on m ≡ true →
    lines_170 i (m ∷ ls) ≡ option_map (onto_line (without_start_blanks (front_part m))) (lines_170 true ls)
unfolding lines_170
goes i m ls g = rw g refl

either_way : (m : List ℕ) (ls : List (List ℕ)) → lines_170 true (m ∷ ls) ≡ lines_170 false (m ∷ ls)
unfolding lines_170
either_way m ls = refl

no_lines : lines_170 false [] ≡ Some []
unfolding lines_170
no_lines = refl

end_alike : (e : List (List ℕ)) → IsEnd e → Same [] (continued e)
unfolding continued
end_alike e nothing = ends [] nothing
end_alike e empty = ends ([] ∷ []) empty

-- the parts of the test of dropped blanks
here : (s : State) (m : List ℕ) (ls : List (List ℕ)) → has_dropped_blank s (m ∷ ls) ≡ false →
    ((in_bracket s && begins_in_blank (part m)) ≡ false) × (has_dropped_blank (cond (goes_on m) (after s (part m)) Between) ls ≡ false)
unfolding has_dropped_blank
here s m ls h = or_parts (in_bracket s && begins_in_blank (part m)) (has_dropped_blank (cond (goes_on m) (after s (part m)) Between) ls) h

both : (s : State) (m : List ℕ) (ls e : List (List ℕ)) → IsEnd e → in_plain s ≡ false → is_line_read_otherwise (m ∷ ls) ≡ false →
    has_dropped_blank s (m ∷ ls) ≡ false → Both s m ls e
both s m [] e is p q d =
    let (a, g) = alone m q in
    let h = here s m [] d in
    let whole : part m ≡ before_hash m = ap (λ (u : Bool). cond u (front_part m) (before_hash m)) g in
    record {
      x = without_start_blanks (before_hash m);
      xs = [];
      y = before_hash m;
      ys = continued e;
      released = stops false m [] g ∙ ap (option_map (λ more. without_start_blanks (before_hash m) ∷ more)) no_lines;
      manual = no_more (before_hash m) e (sym a.goes ∙ g);
      first = by_itself s (before_hash m) p (ap (λ (r : List ℕ). in_bracket s && begins_in_blank r) (sym whole) ∙ h.0) a.clean;
      others = end_alike e is;
    }
both s m (k ∷ ls) e is p q d =
    let (a, over, rest) = followed m k ls q in
    let h = here s m (k ∷ ls) d in
    elim (goes_on m) as (λ (u : Bool). goes_on m ≡ u → Both s m (k ∷ ls) e) [
      | true ↦ λ g.
          let t : part m ≡ last_is_space (before_hash m) = ap (λ (u : Bool). cond u (front_part m) (before_hash m)) g ∙ a.front g in
          let next : has_dropped_blank (after s (last_is_space (before_hash m))) (k ∷ ls) ≡ false =
          ap (λ (r : List ℕ). has_dropped_blank (after s r) (k ∷ ls)) (sym t)
          ∙ ap (λ (u : Bool). has_dropped_blank (cond u (after s (part m)) Between) (k ∷ ls)) (sym g) ∙ h.1 in
          let o = both (after s (last_is_space (before_hash m))) k ls e is (not_plain s (before_hash m) (sym a.goes ∙ g)) rest next in
          record {
            x = without_start_blanks (last_is_space (before_hash m)) ++ o.x;
            xs = o.xs;
            y = last_is_space (before_hash m) ++ o.y;
            ys = o.ys;
            released = goes false m (k ∷ ls) g
                ∙ ap (option_map (onto_line (without_start_blanks (front_part m)))) (either_way k ls ∙ o.released)
                ∙ ap (λ (r : List ℕ). Some (onto_line (without_start_blanks r) (o.x ∷ o.xs))) (a.front g);
            manual = and_more (before_hash m) (before_hash k) (map before_hash ls ++ e) (sym a.goes ∙ g)
                ∙ ap (onto_line (last_is_space (before_hash m))) o.manual;
            first = with_front s (last_is_space (before_hash m)) o.x o.y p (ap (λ (r : List ℕ). in_bracket s && begins_in_blank r) (sym t) ∙ h.0)
                (space_clean (before_hash m) a.clean) o.first;
            others = o.others;
          }
      | false ↦ λ g.
          let whole : part m ≡ before_hash m = ap (λ (u : Bool). cond u (front_part m) (before_hash m)) g in
          let next : has_dropped_blank Between (k ∷ ls) ≡ false = ap (λ (u : Bool). has_dropped_blank (cond u (after s (part m)) Between) (k ∷ ls)) (sym g)
          ∙ h.1 in
          let o = both Between k ls e is refl rest next in
          record {
            x = without_start_blanks (before_hash m);
            xs = o.x ∷ o.xs;
            y = before_hash m;
            ys = o.y ∷ o.ys;
            released = stops false m (k ∷ ls) g ∙ ap (option_map (λ more. without_start_blanks (before_hash m) ∷ more)) o.released;
            manual = no_more (before_hash m) (before_hash k ∷ map before_hash ls ++ e) (sym a.goes ∙ g)
                ∙ ap (λ (r : List (List ℕ)). before_hash m ∷ r) o.manual;
            first = by_itself s (before_hash m) p (ap (λ (r : List ℕ). in_bracket s && begins_in_blank r) (sym whole) ∙ h.0) a.clean;
            others = line o.x o.y o.xs o.ys o.first o.others;
          }
    ] refl

-- THE WORDS OF THE LINES

pub words_same : {xs ys : List (List ℕ)} → Same xs ys → map words_of (not_empty xs) ≡ map words_of (filled ys)
unfolding not_empty filled
words_same (ends e nothing) = refl
words_same (ends e empty) = refl
words_same (line [] y xs ys a more) = rw (sym a.blank) (words_same more)
words_same (line (b ∷ x) y xs ys a more) =
    rw (sym a.blank) (ap (λ (r : Option (List (List ℕ))). r ∷ map words_of (not_empty xs)) a.words
    ∙ ap (λ (r : List (Option (List (List ℕ)))). words_of y ∷ r) (words_same more))

whole : (ls e : List (List ℕ)) → IsEnd e → is_line_read_otherwise ls ≡ false → has_dropped_blank Between ls ≡ false →
    (xs : List (List ℕ)) × (lines_170 false ls ≡ Some xs) × Same xs (continued (map before_hash ls ++ e))
whole [] e is q d = ([], no_lines, end_alike e is)
whole (m ∷ ls) e is q d =
    let o = both Between m ls e is refl q d in
    (o.x ∷ o.xs, o.released, rw o.manual (line o.x o.y o.xs o.ys o.first o.others))

pub lines_same : (bs : List ℕ) → is_line_read_otherwise (physical_lines bs) ≡ false → has_dropped_blank Between (physical_lines bs) ≡ false →
    (xs : List (List ℕ)) × (lines_170 false (physical_lines bs) ≡ Some xs) × Same xs (manual_lines_of bs)
lines_same bs q d =
    let (e, is, same) = manual_by_lines bs in
    let (xs, released, alike) = whole (physical_lines bs) e is q d in
    (xs, released, rw same alike)

pub words_of_lines : (bs : List ℕ) → is_line_read_otherwise (physical_lines bs) ≡ false → has_dropped_blank Between (physical_lines bs) ≡ false →
    option_map (λ lines. map words_of (not_empty lines)) (lines_170 false (physical_lines bs)) ≡ Some (map words_of (filled (manual_lines_of bs)))
words_of_lines bs q d =
    let (xs, released, alike) = lines_same bs q d in
    ap (option_map (λ lines. map words_of (not_empty lines))) released ∙ ap (λ (r : List (Option (List (List ℕ)))). Some r) (words_same alike)
