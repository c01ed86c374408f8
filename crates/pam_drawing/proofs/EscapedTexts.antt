-- An escaped text, byte by byte: each of the 256 bytes is looked at.
use Rattle.std.proofs.Common.{◌≡◌, ◌∙◌, ℕ, ◌+◌, ◌<◌, ◌&&◌, Bool, true, false, [], ◌∷◌, ap, arith, refl, sym}
use Rattle.std.proofs.lemmas.Bool.{false≢true}
use Rattle.std.proofs.lemmas.List.Elements.{All-head, All-tail}
use Rattle.std.proofs.lemmas.List.Folds.{list_all-append, list_all_at}
use Rattle.std.proofs.lemmas.List.FromFn.{get_or-range_with_len, length-range_with_len}
use Rattle.std.specs.List.{list_all, range_with_len}
use Rattle.pam_drawing.specs.Labels.{ascii_byte}
use Rattle.pam_drawing.specs.Escaped.{escaped, escaped_byte, named}
use Rattle.pam_drawing.specs.Laws.{TextsArePlain, is_of_text}

abbrev byte-is : ℕ → Bool
byte-is b = list_all is_of_text (escaped_byte b)

all-bytes : list_all byte-is (range_with_len 0 256) ≡ true
unfolding ascii_byte named
all-bytes = refl

byte-plain : (b : ℕ) → b < 256 → byte-is b ≡ true
byte-plain b h =
    elim (byte-is b) as (λ (t : Bool). byte-is b ≡ t → t ≡ true) [
      | true ↦ λ e. refl
      | false ↦ λ e.
          let long = length-range_with_len 0 256 in
          let at : 0 + b ≡ b = omega arith in
          let unlike = list_all_at byte-is (range_with_len 0 256) b 0 (omega (arith, long, h)) (ap byte-is (get_or-range_with_len 0 256 b 0 h ∙ at) ∙ e) in
          absurd (false≢true (sym unlike ∙ all-bytes))
    ] refl

abbrev byte : ℕ → Type 0
byte c = c < 256

pub texts-plain : TextsArePlain
texts-plain [] low = refl
texts-plain (b ∷ bs) low =
    list_all-append is_of_text (escaped_byte b) (escaped bs) ∙ ap (λ t. t && list_all is_of_text (escaped bs)) (byte-plain b (All-head byte b bs low))
    ∙ texts-plain bs (All-tail byte b bs low)
