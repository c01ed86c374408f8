-- The places of which a rule speaks, one after another.
use Rattle.std.proofs.Common.{◌≡◌, ◌∙◌, ℕ, ◌+◌, ◌<◌, Bool, true, false, List, [], ◌∷◌, ◌++◌, ap, append-nil, arith, cond, drop, filter, fold, get_or}
use Rattle.std.proofs.Common.{length, map, refl, suc, sym, zero}
use Rattle.std.proofs.lemmas.List.{drop_more}
use Rattle.std.proofs.lemmas.List.Elements.{filter-append}
use Rattle.std.proofs.lemmas.Option.{slice_get-get_or, slice_get-map}
use Rattle.std.specs.List.{range_with_len}
use Rattle.std.specs.Option.{option_map, option_map_or}
use Rattle.std.specs.Prelude.{if◌then◌else◌, Option}
use Rattle.pam_policy.specs.declared.host.place.Place.{Place}
use Rattle.pam_policy.specs.host.Places.{PlaceText, place_view, speaks_at, speaks_of, with_class}
use Rattle.pam_policy.specs.text.Rules.{RuleText}

range-push : (a n : ℕ) → range_with_len a (suc n) ≡ range_with_len a n ++ (a + n) ∷ []
range-push a zero = let same : a ≡ a + 0 = omega arith in ap (λ (x : ℕ). x ∷ []) same
range-push a (suc n) =
    let same : (a + 1) + n ≡ a + suc n = omega arith in
    ap (λ (xs : List ℕ). a ∷ xs) (range-push (a + 1) n) ∙ ap (λ (x : ℕ). a ∷ (range_with_len (a + 1) n ++ x ∷ [])) same

-- one more number, if it passes
number-more : (test : ℕ → Bool) (n : ℕ) → filter test (range_with_len 0 (n + 1)) ≡ filter test (range_with_len 0 n) ++ filter test (n ∷ [])
number-more test n =
    let next : n + 1 ≡ suc n = omega arith in
    let last : 0 + n ≡ n = omega arith in
    ap (λ (k : ℕ). filter test (range_with_len 0 k)) next
    ∙ ap (filter test) (range-push 0 n)
    ∙ ap (λ (k : ℕ). filter test (range_with_len 0 n ++ k ∷ [])) last
    ∙ filter-append test (range_with_len 0 n) (n ∷ [])

added : (b : Bool) (old : List ℕ) (n : ℕ) → old ++ cond b (n ∷ []) [] ≡ (if b then old ++ n ∷ [] else old)
added true old n = refl
added false old n = append-nil old

number-next : (test : ℕ → Bool) (n : ℕ) (b : Bool) (old new : List ℕ) → test n ≡ b → old ≡ filter test (range_with_len 0 n) →
    new ≡ (if b then old ++ n ∷ [] else old) → new ≡ filter test (range_with_len 0 (n + 1))
number-next test n b old new is so_far step =
    step ∙ sym (added b old n) ∙ ap (λ (t : Bool). old ++ cond t (n ∷ []) []) (sym is) ∙ ap (λ (xs : List ℕ). xs ++ filter test (n ∷ [])) so_far
    ∙ sym (number-more test n)

-- whether a rule speaks of the place at a position
speaks-there : (rule : RuleText) (places : List Place) (i : ℕ) (default : Place) → i < length places →
    speaks_at rule (map place_view places) i ≡ speaks_of rule (place_view (get_or places i default))
speaks-there rule places i default within =
    ap (λ (found : Option PlaceText). option_map_or (speaks_of rule) found false)
    (slice_get-map place_view places i ∙ ap (option_map place_view) (slice_get-get_or places i default within))

-- THE POSITIONS so far

pub positions-next : (rule : RuleText) (places : List Place) (i : ℕ) (default : Place) (old new : List ℕ) → i < length places →
    old ≡ filter (speaks_at rule (map place_view places)) (range_with_len 0 i) →
    new ≡ (if speaks_of rule (place_view (get_or places i default)) then old ++ i ∷ [] else old) →
    new ≡ filter (speaks_at rule (map place_view places)) (range_with_len 0 (i + 1))
positions-next rule places i default old new within so_far step =
    number-next (speaks_at rule (map place_view places)) i (speaks_of rule (place_view (get_or places i default))) old new
    (speaks-there rule places i default within) so_far step

-- THE CLASSES so far, and those of the places that are left

abbrev pub classes_left : RuleText → List ℕ → List Place → List ℕ
classes_left rule classes places = fold with_class classes (map (λ place. place.class) (filter (speaks_of rule) (map place_view places)))

class-step : (b : Bool) (old : List ℕ) (place : PlaceText) (rest : List PlaceText) →
    fold with_class old (map (λ p. p.class) (cond b (place ∷ rest) rest))
    ≡ fold with_class (if b then with_class old place.class else old) (map (λ p. p.class) rest)
class-step true old place rest = refl
class-step false old place rest = refl

pub classes-next : (rule : RuleText) (places : List Place) (i : ℕ) (default : Place) (old new all : List ℕ) → i < length places →
    classes_left rule old (drop i places) ≡ all →
    new ≡ (if speaks_of rule (place_view (get_or places i default)) then with_class old (get_or places i default).class else old) →
    classes_left rule new (drop (i + 1) places) ≡ all
classes-next rule places i default old new all within so_far step =
    let place = get_or places i default in
    ap (λ (classes : List ℕ). classes_left rule classes (drop (i + 1) places)) step
    ∙ sym (class-step (speaks_of rule (place_view place)) old (place_view place) (filter (speaks_of rule) (map place_view (drop (i + 1) places))))
    ∙ ap (classes_left rule old) (sym (drop_more places i default within))
    ∙ so_far
