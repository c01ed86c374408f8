-- What names and actions say to released Linux-PAM, which goes by their first letters.
use Rattle.std.proofs.Common.{◌≡◌, one-add, ◌≤◌, ◌<◌, ◌+◌, ◌&&◌, ◌++◌, ◌∙◌, ℕ, suc, Bool, true, false, not, List, [], ◌∷◌, map, take, drop}
use Rattle.std.proofs.Common.{length, get_or, cond, eqb, ap, sym, refl, subst, Option, Some, None, Result, Ok, Err, All, arith, codes}
use Rattle.std.specs.Prelude.{if◌then◌else◌, ◌==◌, ◌||◌, ◌*◌, ◌%◌, ◌-◌, fold, nat_le, nat_lt, find}
use Rattle.std.specs.List.{list_all, prefix_len, take_while, position}
use Rattle.std.specs.Option.{option_map, option_map_or}
use Rattle.std.specs.Char.{to_ascii_lowercase, is_ascii_digit}
use Rattle.std.specs.Str.{bytes_eq}
use Rattle.std.proofs.lemmas.Bool.{agree_below, agree_below_at, and_parts, eqb-true, eq-eqb, leb-true, le-leb, le-ltb, true≢false}
use lib.Dec.{leb}
use Rattle.std.proofs.lemmas.Slice.Eq.{bytes_eq-Decides}
use Rattle.pam_codes.specs.Action.{action_named, decimal_value, is_jump_text}
use Rattle.pam_codes.specs.Code.{all_codes, code_names, same_name}
use Rattle.pam_codes.specs.Subject.{subject_of, other_subject}
use Rattle.pam_codes.specs.Tokens.{begins_word, is_word_byte}
use Rattle.pam_codes.specs.declared.action.Action.{Action}
use Rattle.pam_codes.specs.declared.action.Action.TheVariants.{Ignore, Ok as Accept, Done, Bad, Die, Reset, Jump}
use Rattle.pam_codes.specs.declared.error.ControlError.{ControlError}
use Rattle.pam_codes.specs.declared.error.ControlError.TheVariants.{BadAction, BadValue, ZeroJump}
use Rattle.pam_codes.specs.declared.subject.Subject.{Subject}
use Rattle.pam_codes.specs.declared.subject.Subject.TheVariants.{Named, Incomplete, Default}
use Rattle.pam_codes.proofs.CodeNames.{first_code, has_name}
use Rattle.pam_codes.proofs.CodeSets.{all_codes-within}
use Rattle.pam_codes.proofs.Jumps.{jump_len}
use Rattle.pam_released.specs.Control.{action_at, action_of_bits, action_of_int, action_of_number, begins, is_space, jump_at, jump_over, name_of}
use Rattle.pam_released.specs.Control.{subject_at}
use Rattle.pam_released.specs.declared.release.Release.{Release}
use Rattle.pam_released.specs.declared.release.Release.TheVariants.{Older, Newer}

-- NAMES

pub comparable : List ℕ → List ℕ → Bool
comparable [] b = true
comparable (x ∷ a) [] = true
comparable (x ∷ a) (y ∷ b) = eqb x y && comparable a b

pub begins_comparable : (n w u : List ℕ) → begins n (w ++ u) ≡ true → comparable n w ≡ true
unfolding comparable
begins_comparable [] w u h = refl
begins_comparable (x ∷ n) [] u h = refl
begins_comparable (x ∷ n) (y ∷ w) u h = let parts = and_parts (eqb x y) (begins n (w ++ u)) h in rw parts.0 (begins_comparable n w u parts.1)

pub begins_itself : (w u : List ℕ) → begins w (w ++ u) ≡ true
begins_itself [] u = refl
begins_itself (x ∷ w) u = rw (eq-eqb x x refl) (begins_itself w u)

pub after_itself : (w u : List ℕ) → drop (length w) (w ++ u) ≡ u
after_itself [] u = refl
after_itself (x ∷ w) u = after_itself w u

-- no name of a code begins with another
pub no_two : agree_below (λ c. agree_below (λ k. comparable (name_of c) (name_of k)) (λ k. eqb c k) 31) (λ c. true) 31 ≡ true
unfolding comparable code_names
no_two = refl

pub apart : (c k : ℕ) → c < 31 → k < 31 → comparable (name_of c) (name_of k) ≡ eqb c k
apart c k hc hk =
    agree_below_at (λ j. comparable (name_of c) (name_of j)) (λ j. eqb c j) 31 k
    (agree_below_at (λ d. agree_below (λ j. comparable (name_of d) (name_of j)) (λ j. eqb d j) 31) (λ d. true) 31 c no_two hc) hk

-- no name of a code has a capital
pub no_capitals : agree_below (λ c. bytes_eq (map to_ascii_lowercase (name_of c)) (name_of c)) (λ c. true) 31 ≡ true
unfolding code_names
no_capitals = refl

-- the first of some codes that pass a test
pub head_within : (x : ℕ) (xs : List ℕ) → All (λ c. c < 31) (x ∷ xs) → x < 31
head_within x xs a = a 0 0 (omega arith)

pub tail_within : (x : ℕ) (xs : List ℕ) → All (λ c. c < 31) (x ∷ xs) → All (λ c. c < 31) xs
tail_within x xs a = λ k d h. a (suc k) d (omega (arith, h))

pub found : (p : ℕ → Bool) (xs : List ℕ) (k : ℕ) → All (λ c. c < 31) xs → find p xs ≡ Some k → (p k ≡ true) × (k < 31)
found p [] k a h = absurd (cc)
found p (x ∷ xs) k a h =
    elim (p x) as (λ (t : Bool). p x ≡ t → cond t (Some x) (find p xs) ≡ Some k → (p k ≡ true) × (k < 31)) [
      | true ↦ λ e f. let is : x ≡ k = cc in (ap p (sym is) ∙ e, subst (λ (c : ℕ). c < 31) is (head_within x xs a))
      | false ↦ λ e f. found p xs k (tail_within x xs a) f
    ] refl h

pub find_alike : (p q : ℕ → Bool) (xs : List ℕ) → All (λ c. c < 31) xs → ((c : ℕ) → c < 31 → p c ≡ q c) → find p xs ≡ find q xs
find_alike p q [] a h = refl
find_alike p q (x ∷ xs) a h = ap (λ (t : Bool). cond t (Some x) (find p xs)) (h x (head_within x xs a))
    ∙ ap (λ (o : Option ℕ). cond (q x) (Some x) o) (find_alike p q xs (tail_within x xs a) h)

pub is_named : (n w : List ℕ) → map to_ascii_lowercase w ≡ w → same_name n w ≡ true → map to_ascii_lowercase n ≡ w
is_named n w low h = (bytes_eq-Decides (map to_ascii_lowercase n) (map to_ascii_lowercase w)).0 h ∙ low

pub two_ways : (t u : Bool) → (t ≡ true → u ≡ true) → (u ≡ true → t ≡ true) → t ≡ u
two_ways true true f g = refl
two_ways true false f g = sym (f refl)
two_ways false true f g = g refl
two_ways false false f g = refl

pub lower_name : (c : ℕ) → c < 31 → map to_ascii_lowercase (name_of c) ≡ name_of c
lower_name c h = (bytes_eq-Decides (map to_ascii_lowercase (name_of c)) (name_of c)).0
    (agree_below_at (λ d. bytes_eq (map to_ascii_lowercase (name_of d)) (name_of d)) (λ d. true) 31 c no_capitals h)

pub itself : (w : List ℕ) → comparable w w ≡ true
unfolding comparable
itself [] = refl
itself (x ∷ w) = rw (eq-eqb x x refl) (itself w)

pub no_space_first : agree_below (λ c. is_space (get_or (name_of c) 0 0)) (λ c. false) 31 ≡ true
unfolding code_names
no_space_first = refl

-- what a name says
unfoldable pub Says : List ℕ → Subject → Type 0
Says w s = ((u : List ℕ) → subject_at (w ++ u) ≡ Some (s, u)) × (is_space (get_or w 0 0) ≡ false)

pub code_said : (w : List ℕ) (k : ℕ) → map to_ascii_lowercase w ≡ w → find (has_name w) all_codes ≡ Some k → Says w (Named k)
unfolding Says subject_at
code_said w k low h =
    let at = found (has_name w) all_codes k all_codes-within h in
    let is : name_of k ≡ w = sym (lower_name k at.1) ∙ is_named (name_of k) w low at.0 in
    let alike : (u : List ℕ) (c : ℕ) → c < 31 → has_name w c ≡ begins (name_of c) (w ++ u) = λ u c hc. two_ways (has_name w c) (begins (name_of c) (w ++ u))
    (λ e. let same : name_of c ≡ w = sym (lower_name c hc) ∙ is_named (name_of c) w low e in ap (λ (n : List ℕ). begins n (w ++ u)) same ∙ begins_itself w u)
    (λ e.
    let near : comparable (name_of c) (name_of k) ≡ true = ap (comparable (name_of c)) is ∙ begins_comparable (name_of c) w u e in
    let same : c ≡ k = eqb-true c k (sym (apart c k hc at.1) ∙ near) in ap (has_name w) same ∙ at.0) in (
      λ u.
          let first : find (λ c. begins (name_of c) (w ++ u)) all_codes ≡ Some k =
          sym (find_alike (has_name w) (λ c. begins (name_of c) (w ++ u)) all_codes all_codes-within (alike u)) ∙ h in
          rw first (ap (λ (r : List ℕ). Some (Named k, r)) (ap (λ (n : List ℕ). drop (length n) (w ++ u)) is ∙ after_itself w u)),
      ap (λ (n : List ℕ). is_space (get_or n 0 0)) (sym is) ∙ agree_below_at (λ c. is_space (get_or (name_of c) 0 0)) (λ c. false) 31 k no_space_first at.1,
    )

pub incomplete_said : Says (codes "incomplete") Incomplete
unfolding Says subject_at all_codes code_names
incomplete_said = (λ u. refl, refl)

pub default_said : Says (codes "default") Default
unfolding Says subject_at all_codes code_names
default_said = (λ u. refl, refl)

pub lower_is : (n w : List ℕ) → map to_ascii_lowercase w ≡ w → map to_ascii_lowercase n ≡ n → same_name n w ≡ true → n ≡ w
lower_is n w low ln h = sym ln ∙ is_named n w low h

pub subject_said : (w : List ℕ) (s : Subject) → map to_ascii_lowercase w ≡ w → subject_of w ≡ Ok s → Says w s
unfolding subject_of
subject_said w s low h =
    elim (position (λ n. same_name n w) code_names) as (λ (o : Option ℕ). position (λ n. same_name n w) code_names ≡ o →
    option_map_or (λ n. Ok (Named n)) o (other_subject w) ≡ Ok s → Says w s) [
      | None ↦ λ e f. elim (same_name (codes "incomplete") w) as (λ (t : Bool). same_name (codes "incomplete") w ≡ t →
          cond t (Ok Incomplete) (cond (same_name (codes "default") w) (Ok Default) (Err BadValue)) ≡ Ok s → Says w s) [
            | true ↦ λ i g. let is : codes "incomplete" ≡ w = lower_is (codes "incomplete") w low refl i in let which : Incomplete ≡ s = cc in
                subst (λ (r : List ℕ). Says r s) is (subst (λ (r : Subject). Says (codes "incomplete") r) which incomplete_said)
            | false ↦ λ i g. elim (same_name (codes "default") w) as (λ (t : Bool). same_name (codes "default") w ≡ t →
                cond t (Ok Default) (Err BadValue) ≡ Ok s → Says w s) [
                  | true ↦ λ j k. let is : codes "default" ≡ w = lower_is (codes "default") w low refl j in let which : Default ≡ s = cc in
                      subst (λ (r : List ℕ). Says r s) is (subst (λ (r : Subject). Says (codes "default") r) which default_said)
                  | false ↦ λ j k. absurd (cc)
                ] refl g
          ] refl f
      | Some n ↦ λ e f. let which : Named n ≡ s = cc in subst (λ (r : Subject). Says w r) which (code_said w n low (first_code w ∙ e))
    ] refl h

-- ACTIONS

unfoldable pub Acts : Release → List ℕ → Action → Type 0
Acts release w x = ((u : List ℕ) → begins_word u ≡ false → action_at release (w ++ u) ≡ Some (x, u)) × (is_space (get_or w 0 0) ≡ false)
    × (begins_word w ≡ true)

-- the names of the actions that are no jumps
pub names_act : (release : Release) → Acts release (codes "ignore") Ignore × Acts release (codes "bad") Bad × Acts release (codes "die") Die
    × Acts release (codes "ok") Accept × Acts release (codes "done") Done × Acts release (codes "reset") Reset
unfolding Acts action_at
names_act release = (
  (λ u n. refl, refl, refl),
  (λ u n. refl, refl, refl),
  (λ u n. refl, refl, refl),
  (λ u n. refl, refl, refl),
  (λ u n. refl, refl, refl),
  (λ u n. refl, refl, refl),
)

-- one name of an action: it is that, or it is read on
pub acts_or : (release : Release) (n w : List ℕ) (y x : Action) (more : Result Action ControlError) → map to_ascii_lowercase w ≡ w →
    map to_ascii_lowercase n ≡ n → Acts release n y →
    cond (same_name n w) (Ok y) more ≡ Ok x → (more ≡ Ok x → Acts release w x) → Acts release w x
acts_or release n w y x more low ln acts h other =
    elim (same_name n w) as (λ (t : Bool). same_name n w ≡ t → cond t (Ok y) more ≡ Ok x → Acts release w x) [
      | true ↦ λ e f. let which : y ≡ x = cc in subst (λ (r : List ℕ). Acts release r x) (lower_is n w low ln e)
          (subst (λ (r : Action). Acts release n r) which acts)
      | false ↦ λ e f. other f
    ] refl h

pub not_letter : (n d : ℕ) → is_ascii_digit n ≡ false → is_ascii_digit d ≡ true → eqb n d ≡ false
not_letter n d h k =
    elim (eqb n d) as (λ (t : Bool). eqb n d ≡ t → t ≡ false) [
      | true ↦ λ e. let is : n ≡ d = eqb-true n d e in absurd (true≢false (sym k ∙ ap is_ascii_digit (sym is) ∙ h))
      | false ↦ λ e. refl
    ] refl

pub not_byte : (n d : ℕ) → is_ascii_digit n ≡ false → is_ascii_digit d ≡ true → eqb d n ≡ false
not_byte n d h k =
    elim (eqb d n) as (λ (t : Bool). eqb d n ≡ t → t ≡ false) [
      | true ↦ λ e. let is : d ≡ n = eqb-true d n e in absurd (true≢false (sym k ∙ ap is_ascii_digit is ∙ h))
      | false ↦ λ e. refl
    ] refl

pub digit_high : (d : ℕ) → is_ascii_digit d ≡ true → 48 ≤ d
digit_high d h = leb-true 48 d (and_parts (leb 48 d) (leb d 57) h).0

pub digit_no_space : (d : ℕ) → is_ascii_digit d ≡ true → is_space d ≡ false
digit_no_space d h =
    let high : 48 ≤ d = digit_high d h in
    rw (not_byte 32 d refl h, le-ltb d 14 (omega (arith, high))) (both_no (nat_lt 8 d))
  where
    both_no : (t : Bool) → (t && false) ≡ false
    both_no true = refl
    both_no false = refl

pub digit_word : (d : ℕ) → is_ascii_digit d ≡ true → is_word_byte d ≡ true
digit_word d h = rw (not_byte 32 d refl h, not_byte 9 d refl h, not_byte 13 d refl h, not_byte 61 d refl h) refl

pub no_digit : (b : ℕ) → is_word_byte b ≡ false → is_ascii_digit b ≡ false
no_digit b h =
    elim (is_ascii_digit b) as (λ (t : Bool). is_ascii_digit b ≡ t → t ≡ false) [
      | true ↦ λ e. absurd (true≢false (sym (digit_word b e) ∙ h))
      | false ↦ λ e. refl
    ] refl

pub digits_end : (w u : List ℕ) → list_all is_ascii_digit w ≡ true → begins_word u ≡ false → prefix_len is_ascii_digit (w ++ u) ≡ length w
digits_end [] [] h k = refl
digits_end [] (b ∷ u) h k = rw (no_digit b k) refl
digits_end (d ∷ w) u h k =
    let parts = and_parts (is_ascii_digit d) (list_all is_ascii_digit w) h in
    ap (λ (t : Bool). cond t (1 + prefix_len is_ascii_digit (w ++ u)) 0) parts.0 ∙ one-add (prefix_len is_ascii_digit (w ++ u))
    ∙ ap suc (digits_end w u parts.1 k)

pub take_whole : (bs rest : List ℕ) → take (length bs) (bs ++ rest) ≡ bs
take_whole [] rest = refl
take_whole (c ∷ bs) rest = ap (λ (r : List ℕ). c ∷ r) (take_whole bs rest)

pub no_action_name : (release : Release) (d : ℕ) (t : List ℕ) → is_ascii_digit d ≡ true → action_at release (d ∷ t) ≡ jump_at release (d ∷ t)
unfolding action_at
no_action_name release d t h =
    rw (not_letter 105 d refl h, not_letter 111 d refl h, not_letter 100 d refl h, not_letter 98 d refl h, not_letter 114 d refl h) refl

-- DIGITS

grows : (w : List ℕ) (n m : ℕ) → n ≤ m → list_all is_ascii_digit w ≡ true → fold (λ k d. 10 * k + (d - 48)) n w ≤ fold (λ k d. 10 * k + 9) m w
grows [] n m h k = h
grows (d ∷ w) n m h k =
    let parts = and_parts (is_ascii_digit d) (list_all is_ascii_digit w) k in
    let high : d ≤ 57 = leb-true d 57 (and_parts (leb 48 d) (leb d 57) parts.0).1 in
    grows w (10 * n + (d - 48)) (10 * m + 9) (omega (arith, h, high)) parts.1

nines : (w : List ℕ) → length w < 10 → fold (λ k d. 10 * k + 9) 0 w ≤ 999999999
nines [] h = omega arith
nines (a ∷ []) h = omega arith
nines (a ∷ b ∷ []) h = omega arith
nines (a ∷ b ∷ c ∷ []) h = omega arith
nines (a ∷ b ∷ c ∷ d ∷ []) h = omega arith
nines (a ∷ b ∷ c ∷ d ∷ e ∷ []) h = omega arith
nines (a ∷ b ∷ c ∷ d ∷ e ∷ f ∷ []) h = omega arith
nines (a ∷ b ∷ c ∷ d ∷ e ∷ f ∷ g ∷ []) h = omega arith
nines (a ∷ b ∷ c ∷ d ∷ e ∷ f ∷ g ∷ i ∷ []) h = omega arith
nines (a ∷ b ∷ c ∷ d ∷ e ∷ f ∷ g ∷ i ∷ j ∷ []) h = omega arith
nines (a ∷ b ∷ c ∷ d ∷ e ∷ f ∷ g ∷ i ∷ j ∷ k ∷ w) h = absurd (omega (arith, h))

-- the number of a jump that the manual pages read is that of either release
small_bits : (n : ℕ) → n ≤ 999999999 → n % 4294967296 ≡ n
small_bits n low = omega (arith, low)

jump_so : (n : ℕ) → n ≤ 999999999 → jump_over n ≡ Jump n
jump_so n low = ap (λ (t : Bool). Jump (cond t 999999999 n)) (le-ltb 999999999 n low)

by_bits : (n : ℕ) → n ≤ 999999999 → eqb n 0 ≡ false → action_of_bits n ≡ Some (Jump n)
by_bits n low some =
    ap (λ (t : Bool). cond t None (cond (nat_le n 2147483647) (Some (jump_over n)) (past_int n))) some
    ∙ ap (λ (t : Bool). cond t (Some (jump_over n)) (past_int n)) (le-leb n 2147483647 (omega (arith, low)))
    ∙ ap (λ (a : Action). Some a) (jump_so n low)
  where
    past_int : ℕ → Option Action
    past_int bits =
        cond (eqb bits 4294967295) (Some Accept) (cond (eqb bits 4294967294) (Some Done)
        (cond (eqb bits 4294967292) (Some Die) (cond (eqb bits 4294967291) (Some Reset) (Some Bad))))

by_int : (n : ℕ) → n ≤ 999999999 → eqb n 0 ≡ false → action_of_int n ≡ Some (Jump n)
by_int n low some =
    ap (λ (t : Bool). cond (t || nat_lt 2147483647 n) None (Some (jump_over n))) some
    ∙ ap (λ (t : Bool). cond t None (Some (jump_over n))) (le-ltb 2147483647 n (omega (arith, low)))
    ∙ ap (λ (a : Action). Some a) (jump_so n low)

by_number : (release : Release) (n : ℕ) → n ≤ 999999999 → eqb n 0 ≡ false → action_of_number release n ≡ Some (Jump n)
by_number Older n low some = ap action_of_bits (small_bits n low) ∙ by_bits n low some
by_number Newer n low some = by_int n low some

most_digits : (w : List ℕ) → is_jump_text w ≡ true → decimal_value w ≤ 999999999
most_digits w h =
    let digits = (and_parts (nat_lt 0 (length w) && nat_lt (length w) 10) (list_all is_ascii_digit w) h).1 in
    let under = grows w 0 0 (omega arith) digits in let top = nines w (jump_len w h) in omega (arith, under, top)

pub jump_there : (release : Release) (d : ℕ) (w u : List ℕ) → list_all is_ascii_digit (d ∷ w) ≡ true → begins_word u ≡ false →
    eqb (decimal_value (d ∷ w)) 0 ≡ false → decimal_value (d ∷ w) ≤ 999999999 →
    jump_at release (d ∷ w ++ u) ≡ Some (Jump (decimal_value (d ∷ w)), u)
jump_there release d w u h k z low =
    let n : prefix_len is_ascii_digit (d ∷ w ++ u) ≡ length (d ∷ w) = digits_end (d ∷ w) u h k in
    let front : take_while is_ascii_digit (d ∷ w ++ u) ≡ d ∷ w = ap (λ (m : ℕ). take m (d ∷ w ++ u)) n ∙ take_whole (d ∷ w) u in
    let back : drop (prefix_len is_ascii_digit (d ∷ w ++ u)) (d ∷ w ++ u) ≡ u = ap (λ (m : ℕ). drop m (d ∷ w ++ u)) n ∙ after_itself (d ∷ w) u in
    ap (λ (o : Option Action). option_map {U = Action × List ℕ} (λ a. (a, drop (prefix_len is_ascii_digit (d ∷ w ++ u)) (d ∷ w ++ u))) o)
    (ap (λ (v : List ℕ). action_of_number release (decimal_value v)) front ∙ by_number release (decimal_value (d ∷ w)) low z)
    ∙ ap (λ (r : List ℕ). Some (Jump (decimal_value (d ∷ w)), r)) back

pub digits_act : (release : Release) (w : List ℕ) → is_jump_text w ≡ true → eqb (decimal_value w) 0 ≡ false → Acts release w (Jump (decimal_value w))
unfolding Acts
digits_act release [] h z = absurd (true≢false (sym h))
digits_act release (d ∷ w) h z =
    let two = and_parts (nat_lt 0 (length (d ∷ w)) && nat_lt (length (d ∷ w)) 10) (list_all is_ascii_digit (d ∷ w)) h in
    let first = and_parts (is_ascii_digit d) (list_all is_ascii_digit w) two.1 in (
      λ u n. no_action_name release d (w ++ u) first.0 ∙ jump_there release d w u two.1 n z (most_digits (d ∷ w) h),
      digit_no_space d first.0,
      digit_word d first.0,
    )

pub jump_acts : (release : Release) (w : List ℕ) (x : Action) →
    (if not (is_jump_text w) then Err BadAction else if decimal_value w == 0 then Err ZeroJump else Ok (Jump (decimal_value w))) ≡ Ok x → Acts release w x
jump_acts release w x h =
    elim (is_jump_text w) as (λ (t : Bool). is_jump_text w ≡ t →
    cond (not t) (Err BadAction) (cond (eqb (decimal_value w) 0) (Err ZeroJump) (Ok (Jump (decimal_value w)))) ≡ Ok x → Acts release w x) [
      | false ↦ λ e f. absurd (cc)
      | true ↦ λ e f. elim (eqb (decimal_value w) 0) as (λ (t : Bool). eqb (decimal_value w) 0 ≡ t →
          cond t (Err ZeroJump) (Ok (Jump (decimal_value w))) ≡ Ok x → Acts release w x) [
            | true ↦ λ g k. absurd (cc)
            | false ↦ λ g k. let which : Jump (decimal_value w) ≡ x = cc in subst (λ (r : Action). Acts release w r) which (digits_act release w e g)
          ] refl f
    ] refl h

pub action_acts : (release : Release) (w : List ℕ) (x : Action) → map to_ascii_lowercase w ≡ w → action_named w ≡ Ok x → Acts release w x
unfolding action_named
action_acts release w x low h =
    acts_or release (codes "ignore") w Ignore x _ low refl (names_act release).0 h (λ h1.
    acts_or release (codes "bad") w Bad x _ low refl (names_act release).1 h1 (λ h2.
    acts_or release (codes "die") w Die x _ low refl (names_act release).2 h2 (λ h3.
    acts_or release (codes "ok") w Accept x _ low refl (names_act release).3 h3 (λ h4.
    acts_or release (codes "done") w Done x _ low refl (names_act release).4 h4 (λ h5.
    acts_or release (codes "reset") w Reset x _ low refl (names_act release).5 h5 (λ h6. jump_acts release w x h6))))))
