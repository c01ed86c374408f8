-- The limits of names and labels.
use Rattle.std.proofs.Common.{◌≡◌, ℕ, ◌+◌, ◌<◌, ◌≤◌, suc, Bool, true, false, cond, filter, nat_le, nat_lt, List, [], ◌∷◌, ap, append-nil, arith, length, refl}
use Rattle.pam_codes.specs.Code.{all_codes}
use Rattle.pam_codes.specs.Set.{is_in}
use Rattle.pam_drawing.specs.picture.Labels.{label_text}
use Rattle.pam_drawing.specs.picture.Laws.{AllCodesHaveNoLabel, AtMostOneIsElse, FewCodesAreNamed, LongNamesAreCut}
use Rattle.pam_drawing.specs.picture.Laws.{MoreCodesHaveNote, MostCodesAreElse, ShortNamesAreWhole}

pub short-names : ShortNamesAreWhole
short-names name h = let whole : nat_lt 24 (length name) ≡ false = grind (arith, h) in rw whole (append-nil name)

pub long-names : LongNamesAreCut
long-names name h = let cut : nat_lt 24 (length name) ≡ true = grind (arith, h) in rw cut refl

pub few-codes : FewCodesAreNamed
unfolding label_text
few-codes forked class note h =
    let small : nat_le 16 (length class) ≡ false = grind (arith, h) in
    let named : nat_le (length class) 2 ≡ true = grind (arith, h) in
    let none : nat_lt 2 (length class) ≡ false = grind (arith, h) in
    (rw small (rw named refl), rw none refl)

pub more-codes : MoreCodesHaveNote
unfolding label_text
more-codes forked class note least most =
    let small : nat_le 16 (length class) ≡ false = grind (arith, most) in
    let unnamed : nat_le (length class) 2 ≡ false = grind (arith, least) in
    let some : nat_lt 2 (length class) ≡ true = grind (arith, least) in
    let few : nat_lt (length class) 16 ≡ true = grind (arith, most) in
    (rw small (rw unnamed (rw some (rw few refl))), rw some (rw few refl))

pub most-codes : MostCodesAreElse
unfolding label_text
most-codes class note least most =
    let large : nat_le 16 (length class) ≡ true = grind (arith, least) in
    let partial : nat_lt (length class) 31 ≡ true = grind (arith, most) in
    rw large (rw partial refl)

pub all-codes-plain : AllCodesHaveNoLabel
unfolding label_text
all-codes-plain forked class note least =
    let whole : nat_lt (length class) 31 ≡ false = grind (arith, least) in
    let large : nat_le 16 (length class) ≡ true = grind (arith, least) in
    let unnamed : nat_le (length class) 2 ≡ false = grind (arith, least) in
    let many : nat_lt (length class) 16 ≡ false = grind (arith, least) in
    let some : nat_lt 2 (length class) ≡ true = grind (arith, least) in
    rw large (rw whole (rw unnamed (rw some (rw many refl))))

counted : (p q : ℕ → Bool) (xs : List ℕ) → ((x : ℕ) → p x ≡ true → q x ≡ false) → length (filter p xs) + length (filter q xs) ≤ length xs
counted p q [] apart = omega arith
counted p q (x ∷ xs) apart =
    let rest = counted p q xs apart in
    elim (p x) as (λ (t : Bool). p x ≡ t → length (cond t (x ∷ filter p xs) (filter p xs)) + length (filter q (x ∷ xs)) ≤ suc (length xs)) [
      | true ↦ λ e. rw (apart x e) (omega arith)
      | false ↦ λ e. elim (q x) as (λ (t : Bool). length (filter p xs) + length (cond t (x ∷ filter q xs) (filter q xs)) ≤ suc (length xs)) [
        | true ↦ omega arith
        | false ↦ omega arith
      ]
    ] refl

count-all : length all_codes ≡ 31
unfolding all_codes
count-all = refl

pub one-else : AtMostOneIsElse
one-else class other is its apart large =
    let all = counted (λ (code : ℕ). is_in code class) (λ (code : ℕ). is_in code other) all_codes apart in
    let own : length class ≡ length (filter (λ (code : ℕ). is_in code class) all_codes) = ap length is in
    let others : length other ≡ length (filter (λ (code : ℕ). is_in code other) all_codes) = ap length its in
    omega (arith, all, own, others, count-all, large)
