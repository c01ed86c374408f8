-- Days that are covered twice, and pairs of letters.
use Rattle.std.proofs.Common.{◌≡◌, ◌∙◌, ◌+◌, ◌<◌, ◌≤◌, ◌&&◌, ℕ, get_or, Bool, true, false, not, List, [], ◌∷◌, length, take, drop, map, cond}
use Rattle.std.proofs.Common.{Option, Some, None, refl, sym, ap, arith, count_by}
use Rattle.std.proofs.lemmas.List.Sums.{sum_by-cons}
use Rattle.std.specs.Char.{eq_ignore_ascii_case}
use Rattle.std.specs.Option.{option_map}
use Rattle.pam_codes.specs.Code.{same_name}
use Rattle.pam_tables.specs.times.Entry.{weekdays, covers, named_days, onto, mentions, is_odd, day_set, differ}
use Rattle.pam_tables.specs.times.inner.Entry.{toggled}
use Rattle.pam_tables.specs.declared.times.entry.DayRun.{DayRun}

-- ---- days

abbrev pub flips : List Bool → List DayRun → List Bool
flips days [] = days
flips days (r ∷ rs) = flips (toggled days r) rs

abbrev no_days : List Bool
no_days = false ∷ false ∷ false ∷ false ∷ false ∷ false ∷ false ∷ []

map_same : (f g : ℕ → Bool) (xs : List ℕ) → ((x : ℕ) → f x ≡ g x) → map f xs ≡ map g xs
map_same f g [] h = refl
map_same f g (x ∷ xs) h = ap (λ (b : Bool). b ∷ map f xs) (h x) ∙ ap (λ (bs : List Bool). g x ∷ bs) (map_same f g xs h)

differ_false : (b : Bool) → b ≡ differ b false
differ_false true = refl
differ_false false = refl

false_differ : (b : Bool) → differ false b ≡ b
false_differ true = refl
false_differ false = refl

abbrev count_of : List DayRun → ℕ → ℕ
count_of rs day = count_by (λ r. covers r day) rs

odd_next : (n : ℕ) → is_odd (1 + n) ≡ not (is_odd n)
odd_next n = grind arith

flip_flip : (x o : Bool) → differ (differ x true) o ≡ differ x (not o)
flip_flip true true = refl
flip_flip true false = refl
flip_flip false true = refl
flip_flip false false = refl

one_more : (x c : Bool) (n : ℕ) → differ (differ x c) (is_odd n) ≡ differ x (is_odd (cond c 1 0 + n))
one_more x true n = flip_flip x (is_odd n) ∙ ap (differ x) (sym (odd_next n))
one_more x false n = ap (λ b. differ b (is_odd n)) (sym (differ_false x)) ∙ ap (λ (m : ℕ). differ x (is_odd m)) (let e : n ≡ 0 + n = omega arith in e)

flips_counted : (f : ℕ → Bool) (rs : List DayRun) → flips (map f weekdays) rs ≡ map (λ day. differ (f day) (is_odd (count_of rs day))) weekdays
flips_counted f [] = map_same f _ weekdays (λ day. differ_false (f day))
flips_counted f (r ∷ rs) =
    flips_counted (λ day. differ (f day) (covers r day)) rs ∙ map_same _ (λ day. differ (f day) (is_odd (count_of (r ∷ rs) day))) weekdays
    (λ day. one_more (f day) (covers r day) (count_of rs day) ∙ ap (λ (n : ℕ). differ (f day) (is_odd n))
    (sym (sum_by-cons (λ s. cond (covers s day) 1 0) r rs)))

flips_all : (rs : List DayRun) → flips no_days rs ≡ day_set rs
flips_all rs = flips_counted (λ day. false) rs ∙ map_same _ _ weekdays (λ day. false_differ (is_odd (count_of rs day)))

pub from_none : (o : Option (List DayRun)) → option_map (flips no_days) o ≡ option_map day_set o
from_none None = refl
from_none (Some rs) = ap Some (flips_all rs)

-- ---- pairs of letters

pub no_letters : (days : List Bool) (rest : List ℕ) → length rest ≡ 0 → option_map (flips days) (mentions rest) ≡ Some days
no_letters days [] h = refl
no_letters days (b ∷ bs) h = absurd (omega arith)

pub one_letter : (days : List Bool) (rest : List ℕ) → (length rest ≡ 0 → ⊥) → length rest < 2 → option_map (flips days) (mentions rest) ≡ None
one_letter days [] n h = absurd (n refl)
one_letter days (a ∷ []) n h = refl
one_letter days (a ∷ b ∷ rest) n h = absurd (omega arith)

two_letters : (rest name after : List ℕ) → 2 ≤ length rest → name ≡ take 2 rest → after ≡ drop 2 rest →
    mentions rest ≡ onto (named_days name) (mentions after)
two_letters [] name after h e f = absurd (omega arith)
two_letters (a ∷ []) name after h e f = absurd (omega arith)
two_letters (a ∷ b ∷ rest) name after h e f = rw (e, f) refl

next_run : (days : List Bool) (r : DayRun) (o : Option (List DayRun)) → option_map (flips days) (onto (Some r) o) ≡ option_map (flips (toggled days r)) o
next_run days r None = refl
next_run days r (Some rs) = refl

pub named : (days more : List Bool) (rest name after : List ℕ) (r : DayRun) → 2 ≤ length rest → name ≡ take 2 rest → after ≡ drop 2 rest →
    Some r ≡ named_days name → more ≡ toggled days r → option_map (flips more) (mentions after) ≡ option_map (flips days) (mentions rest)
named days more rest name after r h e f g i =
    sym (ap (λ (o : Option (List DayRun)). option_map (flips days) o) (two_letters rest name after h e f)
    ∙ ap (λ (o : Option DayRun). option_map (flips days) (onto o (mentions after))) (sym g) ∙ next_run days r (mentions after)
    ∙ ap (λ (ds : List Bool). option_map (flips ds) (mentions after)) (sym i))

pub unnamed : (days : List Bool) (rest name after : List ℕ) → 2 ≤ length rest → name ≡ take 2 rest → after ≡ drop 2 rest → None ≡ named_days name →
    option_map (flips days) (mentions rest) ≡ None
unnamed days rest name after h e f g =
    ap (λ (o : Option (List DayRun)). option_map (flips days) o) (two_letters rest name after h e f)
    ∙ ap (λ (o : Option DayRun). option_map (flips days) (onto o (mentions after))) (sym g)

and_true : (b : Bool) → (b && true) ≡ b
and_true true = refl
and_true false = refl

-- two names of two letters, letter by letter
pub day_letters : (name day : List ℕ) → length name ≡ 2 → length day ≡ 2 →
    same_name name day ≡ (eq_ignore_ascii_case (get_or name 0 0) (get_or day 0 0) && eq_ignore_ascii_case (get_or name 1 0) (get_or day 1 0))
day_letters [] day h k = absurd (omega arith)
day_letters (a ∷ []) day h k = absurd (omega arith)
day_letters (a ∷ b ∷ c ∷ name) day h k = absurd (omega arith)
day_letters (a ∷ b ∷ []) [] h k = absurd (omega arith)
day_letters (a ∷ b ∷ []) (x ∷ []) h k = absurd (omega arith)
day_letters (a ∷ b ∷ []) (x ∷ y ∷ z ∷ day) h k = absurd (omega arith)
day_letters (a ∷ b ∷ []) (x ∷ y ∷ []) h k = ap (λ (t : Bool). eq_ignore_ascii_case a x && t) (and_true (eq_ignore_ascii_case b y))
