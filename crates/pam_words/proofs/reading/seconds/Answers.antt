use Rattle.std.proofs.Common.{◌≡◌, ℕ, ℤ, ◌<◌, ◌≤◌, ◌^◌, List, Result, Ok, Err, Some, true, refl, sym, ◌∙◌, length, arith, rules, ap, w64, pos}
use Rattle.std.specs.Char.{is_ascii_digit}
use Rattle.std.specs.List.{list_all}
use Rattle.std.specs.Result.{result_ok}
use Rattle.std.specs.Str.Parse.{ParsesSigned, digits_value}
use Rattle.std.proofs.lemmas.Str.Parse.{IsNumeralModel, numerals_by_value, parse_signed_digits, digits_value_short}
use Rattle.pam_words.specs.Values.{seconds_of}
use Rattle.pam_words.proofs.reading.seconds.Goals as goal

own : IsNumeralModel (λ ds. list_all is_ascii_digit ds ≡ true) (digits_value 10)
own = numerals_by_value _ (search rules)

small : (n : ℕ) → n < 10 ^ 12 → n < 2 ^ 63
small n h = omega arith

-- up to 12 digits are always read
reads : {E : Type 0} (text : List ℕ) (r : Result ℤ E) → ParsesSigned w64 10 text r → list_all is_ascii_digit text ≡ true → 0 < length text → length text ≤ 12
    → r ≡ Ok (pos (digits_value 10 text))
reads {E} text (Ok n) h digits some few = ap {A = ℤ} {B = Result ℤ E} (λ z. Ok z) (parse_signed_digits own {E = E} w64 text (Ok n) h digits).1
reads {E} text (Err e) h digits some few =
    absurd (parse_signed_digits own {E = E} w64 text (Err e) h digits (some, small _ (digits_value_short own text 12 digits few)))

seconds_is : (text : List ℕ) → list_all is_ascii_digit text ≡ true → 0 < length text → length text ≤ 12 → seconds_of text ≡ Some (pos (digits_value 10 text))
seconds_is text digits some few = rw digits (grind arith)

ok-same : {E : Type 0} (r : Result ℤ E) (z : ℤ) → r ≡ Ok z → result_ok r ≡ Some z
ok-same r z e = rw e refl

pub returns : goal.returns
returns c =
    let digits : list_all is_ascii_digit c.args.text.now ≡ true = cc in
    let some : 0 < length c.args.text.now = grind arith in
    let few : length c.args.text.now ≤ 12 = grind arith in
    c.ok.ensures.value
    ∙ ok-same c.parse.result _ (reads c.args.text.now c.parse.result c.parse.ensures.value.0 digits some few)
    ∙ sym (seconds_is c.args.text.now digits some few)
