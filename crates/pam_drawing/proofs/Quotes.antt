-- How a label is read: character by character.
use Rattle.std.proofs.Common.{◌≡◌, ◌∙◌, ℕ, ◌<◌, ◌/◌, ◌%◌, ◌||◌, ◌&&◌, Bool, true, false, List, [], ◌∷◌, ◌++◌}
use Rattle.std.proofs.Common.{Option, None, Some, All, ap, append_assoc}
use Rattle.std.proofs.Common.{arith, codes, cond, decimal, eqb, nat_le, refl, rules, sym}
use Rattle.std.proofs.lemmas.Bool.{eqb-true, false≢true}
use Rattle.std.proofs.lemmas.Fmt.{digits_decimal}
use Rattle.std.proofs.lemmas.List.{append-nil}
use Rattle.std.proofs.lemmas.List.Elements.{All-cons, All-head, All-nil, All-tail}
use Rattle.std.proofs.lemmas.List.Folds.{list_all-append}
use Rattle.std.proofs.lemmas.Str.Parse.{IsNumeralModel, numerals_by_value}
use Rattle.std.specs.Char.{is_ascii_digit}
use Rattle.std.specs.List.{flat_map, list_all}
use Rattle.std.specs.Str.Parse.{digits_value}
use Rattle.pam_drawing.specs.Labels.{ascii_byte, hex_digit, is_plain, label, named, quoted, quoted_byte}
use Rattle.pam_drawing.specs.Laws.{DotReadsLabels, MermaidLabelsArePlain, dot_text, is_of_label, shown, with_front}
use Rattle.pam_drawing.specs.declared.format.Format.TheVariants.{Dot, Mermaid}

-- ---- DOT

with_front-nothing : (read : Option (List ℕ × List ℕ)) → read ≡ with_front [] read
with_front-nothing None = refl
with_front-nothing (Some p) = refl

with_front-more : (a b : List ℕ) (read : Option (List ℕ × List ℕ)) → with_front a (with_front b read) ≡ with_front (a ++ b) read
with_front-more a b None = refl
with_front-more a b (Some p) = ap (λ (l : List ℕ). Some (l, p.1)) (sym (append_assoc a b p.0))

ampersand : (read : Option (List ℕ × List ℕ)) →
    with_front (38 ∷ []) (with_front (97 ∷ []) (with_front (109 ∷ []) (with_front (112 ∷ []) (with_front (59 ∷ []) read))))
    ≡ with_front (codes "&amp;") read
ampersand None = refl
ampersand (Some p) = refl

-- one character
dot-one : (c : ℕ) (rest : List ℕ) → dot_text false (quoted Dot c ++ rest) ≡ with_front (named c) (dot_text false rest)
unfolding dot_text quoted
dot-one c rest =
    elim (eqb c 92) as (λ (t : Bool). eqb c 92 ≡ t →
    dot_text false (cond (t || eqb c 34) (92 ∷ c ∷ []) (named c) ++ rest) ≡ with_front (named c) (dot_text false rest)) [
      | true ↦ λ e. rw (eqb-true c 92 e) refl
      | false ↦ λ e. elim (eqb c 34) as (λ (t : Bool). eqb c 34 ≡ t →
          dot_text false (cond t (92 ∷ c ∷ []) (named c) ++ rest) ≡ with_front (named c) (dot_text false rest)) [
            | true ↦ λ h. rw (eqb-true c 34 h) refl
            | false ↦ λ h. elim (eqb c 38) as (λ (t : Bool). eqb c 38 ≡ t →
                dot_text false (cond t (codes "&amp;") (c ∷ []) ++ rest) ≡ with_front (cond t (codes "&amp;") (c ∷ [])) (dot_text false rest)) [
                  | true ↦ λ k. ampersand (dot_text false rest)
                  | false ↦ λ k. rw (h, e) refl
                ] refl
          ] refl
    ] refl

dot-many : (cs rest : List ℕ) → dot_text false (flat_map (quoted Dot) cs ++ rest) ≡ with_front (flat_map named cs) (dot_text false rest)
dot-many [] rest = with_front-nothing (dot_text false rest)
dot-many (c ∷ cs) rest =
    ap (dot_text false) (append_assoc (quoted Dot c) (flat_map (quoted Dot) cs) rest) ∙ dot-one c (flat_map (quoted Dot) cs ++ rest)
    ∙ ap (with_front (named c)) (dot-many cs rest) ∙ with_front-more (named c) (flat_map named cs) (dot_text false rest)

dot-label : (text rest : List ℕ) → dot_text false (label Dot text ++ rest) ≡ with_front (shown text) (dot_text false rest)
dot-label [] rest = with_front-nothing (dot_text false rest)
dot-label (b ∷ bs) rest =
    let first = flat_map named (ascii_byte b) in
    ap (dot_text false) (append_assoc (quoted_byte Dot b) (label Dot bs) rest) ∙ dot-many (ascii_byte b) (label Dot bs ++ rest)
    ∙ ap (with_front first) (dot-label bs rest) ∙ with_front-more first (shown bs) (dot_text false rest)

pub dot-reads : DotReadsLabels
unfolding dot_text
dot-reads text rest =
    dot-label text (34 ∷ rest) ∙ ap {A = List ℕ} {B = Option (List ℕ × List ℕ)} (λ l. Some (l, rest)) (append-nil (shown text))

-- ---- Mermaid

own : IsNumeralModel (λ ds. list_all is_ascii_digit ds ≡ true) (digits_value 10)
own = numerals_by_value _ (search rules)

digits-are : (ds : List ℕ) → list_all is_ascii_digit ds ≡ true → list_all is_of_label ds ≡ true
digits-are [] h = refl
digits-are (d ∷ ds) h =
    elim (is_ascii_digit d) as (λ (t : Bool).
    is_ascii_digit d ≡ t → (t && list_all is_ascii_digit ds) ≡ true → (is_of_label d && list_all is_of_label ds) ≡ true) [
      | true ↦ λ e k. rw e (digits-are ds k)
      | false ↦ λ e k. absurd (false≢true k)
    ] refl h

mermaid-one : (c : ℕ) → c < 256 → list_all is_of_label (quoted Mermaid c) ≡ true
unfolding quoted
mermaid-one c low =
    elim (is_plain c) as (λ (t : Bool). is_plain c ≡ t → list_all is_of_label (cond t (c ∷ []) (codes "#" ++ decimal c ++ codes ";")) ≡ true) [
      | true ↦ λ e. rw e refl
      | false ↦ λ e.
          list_all-append is_of_label (decimal c) (codes ";")
          ∙ ap (λ t. t && true) (digits-are (decimal c) (digits_decimal own c (omega arith)))
    ] refl

abbrev byte : ℕ → Type 0
byte c = c < 256

mermaid-many : (cs : List ℕ) → All (λ c. c < 256) cs → list_all is_of_label (flat_map (quoted Mermaid) cs) ≡ true
mermaid-many [] low = refl
mermaid-many (c ∷ cs) low =
    list_all-append is_of_label (quoted Mermaid c) (flat_map (quoted Mermaid) cs)
    ∙ ap (λ t. t && list_all is_of_label (flat_map (quoted Mermaid) cs)) (mermaid-one c (All-head byte c cs low))
    ∙ mermaid-many cs (All-tail byte c cs low)

hex-below : (n : ℕ) → n < 16 → hex_digit n < 256
hex-below n h = grind arith

ascii-below : (b : ℕ) → b < 256 → All (λ c. c < 256) (ascii_byte b)
unfolding ascii_byte
ascii-below b h =
    elim (eqb b 92) as (λ (t : Bool). All (λ c. c < 256)
    (cond t (92 ∷ 92 ∷ []) (cond (nat_le 32 b && nat_le b 126) (b ∷ []) (92 ∷ 120 ∷ hex_digit (b / 16) ∷ hex_digit (b % 16) ∷ [])))) [
      | true ↦ All-cons byte 92 (92 ∷ []) (omega arith) (All-cons byte 92 [] (omega arith) (All-nil byte))
      | false ↦ elim (nat_le 32 b && nat_le b 126) as (λ (t : Bool). All (λ c. c < 256)
          (cond t (b ∷ []) (92 ∷ 120 ∷ hex_digit (b / 16) ∷ hex_digit (b % 16) ∷ []))) [
            | true ↦ All-cons byte b [] h (All-nil byte)
            | false ↦
                let last = All-cons byte (hex_digit (b % 16)) [] (hex-below (b % 16) (omega arith)) (All-nil byte) in
                let digits = All-cons byte (hex_digit (b / 16)) (hex_digit (b % 16) ∷ []) (hex-below (b / 16) (omega arith)) last in
                let marked = All-cons byte 120 (hex_digit (b / 16) ∷ hex_digit (b % 16) ∷ []) (omega arith) digits in
                All-cons byte 92 (120 ∷ hex_digit (b / 16) ∷ hex_digit (b % 16) ∷ []) (omega arith) marked
          ]
    ]

pub mermaid-plain : MermaidLabelsArePlain
mermaid-plain [] low = refl
mermaid-plain (b ∷ bs) low =
    list_all-append is_of_label (quoted_byte Mermaid b) (label Mermaid bs)
    ∙ ap (λ t. t && list_all is_of_label (label Mermaid bs)) (mermaid-many (ascii_byte b) (ascii-below b (All-head byte b bs low)))
    ∙ mermaid-plain bs (All-tail byte b bs low)
