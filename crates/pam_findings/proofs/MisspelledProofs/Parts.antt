-- The pieces that findings are about as parts of their line.
use Rattle.std.proofs.Common.{◌≡◌, ◌≤◌, ◌+◌, ◌-◌, ◌∙◌, ℕ, zero, suc, false, List, [], ◌∷◌, Option, None, Some, length, drop, take, min, ap, sym, refl, arith, subst}
use Rattle.std.proofs.lemmas.List.{drop-drop, drop-take, length-drop, length-take, take-take, take_min}
use Rattle.std.proofs.lemmas.Option.{option_and_then_some}
use Rattle.std.specs.Option.{option_and_then, option_map, option_map_or}
use Rattle.pam_codes.proofs.TokensOf.{tokens_of-empty}
use Rattle.pam_codes.specs.Control.{closing_at}
use Rattle.pam_codes.specs.Tokens.{tokens_of}
use Rattle.pam_codes.specs.declared.error.ControlError.{ControlError}
use Rattle.pam_codes.specs.declared.error.ControlError.TheVariants.{BadControl}
use Rattle.pam_conf.specs.Remaining.{words_left}
use Rattle.pam_conf.specs.declared.error.FaultKind.{FaultKind}
use Rattle.pam_conf.specs.declared.error.FaultKind.TheVariants.{BadKind, Control}
use Rattle.pam_conf.specs.declared.rule.Form.{Form}
use Rattle.pam_findings.specs.misspelled.About.{kind_at, of_fault, piece_of, target_at, target_of, word_of}
use Rattle.pam_findings.specs.misspelled.Pairs.{between, in_brackets, place_in_pair, wrong_from, wrong_number, wrong_piece}
use Rattle.pam_findings.specs.misspelled.Pieces.{first_start, piece_at}
use Rattle.pam_findings.specs.declared.misspelled.word.Wrong.{Wrong}
use Rattle.pam_findings.specs.declared.misspelled.word.Wrong.TheVariants.{Argument, Fault, NoModule, Path, Target}
use Rattle.pam_findings.proofs.MisspelledProofs.Pieces.{IsCut, later_piece, no_piece, shifted, this_piece, token_cut, word_cut}

-- PARTS

-- a piece that stands at its place in a text
pub record IsPart (text : List ℕ) (piece : ℕ × List ℕ) : Type 0 where
  pub within : piece.0 + length piece.1 ≤ length text
  pub there : take (length piece.1) (drop piece.0 text) ≡ piece.1

-- a part of what is left after some bytes
part_later : (text : List ℕ) (end : ℕ) (piece : ℕ × List ℕ) → end ≤ length text → IsPart (drop end text) piece → IsPart text (end + piece.0, piece.1)
part_later text end piece fits part = record {
  within = omega (arith, part.within, length-drop end text);
  there = ap (take (length piece.1)) (sym (drop-drop piece.0 end text)) ∙ part.there;
}

-- a part of a part
part_of_part : (text whole : List ℕ) (start : ℕ) (piece : ℕ × List ℕ) → IsPart text (start, whole) → IsPart whole piece
    → IsPart text (start + piece.0, piece.1)
part_of_part text whole start piece outer inner =
    let more = length whole - piece.0 in
    let sum : length whole ≡ piece.0 + more = omega (arith, inner.within) in
    let fits : length piece.1 ≤ more = omega (arith, inner.within) in
    let cut : drop piece.0 whole ≡ take more (drop piece.0 (drop start text)) =
    ap (drop piece.0) (sym outer.there ∙ ap (λ (n : ℕ). take n (drop start text)) sum) ∙ drop-take piece.0 more (drop start text) in
    record {
      within = omega (arith, outer.within, inner.within);
      there =
          ap (take (length piece.1)) (sym (drop-drop piece.0 start text))
          ∙ sym (take-take (length piece.1) more (drop piece.0 (drop start text)) fits)
          ∙ ap (take (length piece.1)) (sym cut)
          ∙ inner.there;
    }

-- WORDS AND TOKENS

pub map_some : {A B P : Type 0} (f : A → B) (o : Option A) (y : B) → option_map f o ≡ Some y → ((x : A) → o ≡ Some x → f x ≡ y → P) → P
map_some f None y h k = absurd (cc)
map_some f (Some x) y h k = k x refl (cc)

module _ (pieces : List ℕ → List (List ℕ))
    (cuts : (text piece : List ℕ) (others : List (List ℕ)) → pieces text ≡ piece ∷ others → IsCut pieces text piece others) where
  part_among : (number : ℕ) (text : List ℕ) (piece : ℕ × List ℕ) (all : List (List ℕ)) → pieces text ≡ all → piece_at pieces number text ≡ Some piece
      → IsPart text piece
  part_among number text piece [] e h = let none = no_piece pieces text e number in absurd (cc)
  part_among zero text piece (first ∷ others) e h =
      let cut = cuts text first others e in
      let found : Some (first_start pieces text, first) ≡ Some piece = sym (this_piece pieces text first others e 0 (first_start pieces text) refl refl) ∙ h in
      let is : (first_start pieces text, first) ≡ piece = cc in
      subst (IsPart text) is (record { within = cut.within; there = cut.there })
  part_among (suc number) text piece (first ∷ others) e h =
      let cut = cuts text first others e in
      let end = first_start pieces text + length first in
      let rest = drop end text in
      let later = later_piece pieces text first others e (suc number) number end rest refl refl refl cut.after in
      map_some (shifted end) (piece_at pieces number rest) piece (sym later ∙ h)
      (λ found at is. subst (IsPart text) is (part_later text end found cut.within (part_among number rest found (pieces rest) refl at)))

pub word_part : (line : List ℕ) (number : ℕ) (piece : ℕ × List ℕ) → word_of line number ≡ Some piece → IsPart line piece
word_part line number piece h = part_among words_left word_cut number line piece (words_left line) refl h

token_part : (text : List ℕ) (number : ℕ) (piece : ℕ × List ℕ) → piece_at tokens_of number text ≡ Some piece → IsPart text piece
token_part text number piece h = part_among tokens_of token_cut number text piece (tokens_of text) refl h

-- BETWEEN BRACKETS

inside : (b : ℕ) (bs : List ℕ) (n : ℕ) → IsPart (b ∷ bs) (1, take n bs)
inside b bs n =
    let size : length (take n bs) ≡ min n (length bs) = length-take n bs in
    record {
      within = omega (arith, size);
      there = ap (λ (m : ℕ). take m bs) size ∙ take_min n bs;
    }

nothing_inside : (b : ℕ) (bs : List ℕ) → IsPart (b ∷ bs) (1, [])
nothing_inside b bs = record { within = omega arith; there = refl }

between_part : (b : ℕ) (bs : List ℕ) (closing : Option ℕ) → IsPart (b ∷ bs) (1, option_map_or (λ n. take n bs) closing [])
between_part b bs None = nothing_inside b bs
between_part b bs (Some n) = inside b bs n

token_between : (control : List ℕ) (number : ℕ) (token : ℕ × List ℕ) → piece_at tokens_of number (between control) ≡ Some token
    → IsPart control (1 + token.0, token.1)
token_between [] number token h = let none = no_piece tokens_of [] (tokens_of-empty [] refl) number in absurd (cc)
token_between (b ∷ bs) number token h =
    part_of_part (b ∷ bs) (between (b ∷ bs)) 1 token (between_part b bs (closing_at false bs)) (token_part (between (b ∷ bs)) number token h)

bracket_part : (error : ControlError) (line : List ℕ) (control piece : ℕ × List ℕ) → IsPart line control → in_brackets error control ≡ Some piece
    → IsPart line piece
bracket_part error line control piece part h =
    map_some (λ (token : ℕ × List ℕ). (control.0 + 1 + token.0, token.1)) (wrong_from error (place_in_pair error) (between control.1)) piece h
    (λ token found is.
    option_and_then_some (λ number. piece_at tokens_of number (between control.1))
    (wrong_number error (place_in_pair error) (tokens_of (between control.1))) token found
    (λ number counted at.
    let sum : control.0 + (1 + token.0) ≡ control.0 + 1 + token.0 = omega arith in
    subst (IsPart line) (ap (λ (n : ℕ). (n, token.1)) sum ∙ is)
    (part_of_part line control.1 control.0 (1 + token.0, token.1) part (token_between control.1 number token at))))

pub control_part : (error : ControlError) (line : List ℕ) (control piece : ℕ × List ℕ) → IsPart line control → wrong_piece error control ≡ Some piece
    → IsPart line piece
control_part BadControl line control piece part h = let is : control ≡ piece = cc in subst (IsPart line) is part
control_part error line control piece part h = bracket_part error line control piece part h
