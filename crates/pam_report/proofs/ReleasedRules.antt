-- The rules that a release reads: the file in which they stand, and those that are kept.
use Rattle.std.proofs.Common.{◌≡◌, ℕ, ◌+◌, ◌<◌, ◌≤◌, ◌||◌, Bool, true, false, not, List, [], ◌∷◌, ap, cond, filter, length, map, refl, suc, sym, zero, ◌∙◌}
use Rattle.std.proofs.Common.{Option, Some, None, arith, slice_get, subst}
use Rattle.std.proofs.lemmas.Bool.{le-ltb, lt-ltb}
use Rattle.std.specs.Char.{to_ascii_lowercase}
use Rattle.std.specs.List.{list_any, position_or_len}
use Rattle.std.specs.Option.{option_map}
use Rattle.std.specs.Str.{bytes_eq}
use Rattle.pam_conf.specs.Files.{Named, position_of}
use Rattle.pam_conf.specs.declared.rule.Kind.{Kind}
use Rattle.pam_released.specs.Readings.{NumberedRule, numbered_view, reading_view}
use Rattle.pam_released.specs.declared.reading.NumberedReading.{NumberedReading}
use Rattle.pam_report.specs.Released.{chosen, concerns, refuses}

-- ---- the position of a file

-- the number of files before the first one of a name
abbrev pub files_before : List ℕ → List Named → ℕ
files_before name entries = position_or_len (λ f. bytes_eq name f.0) entries

-- the name of the file at a position
abbrev pub name_there : List Named → ℕ → Option (List ℕ)
name_there entries n = option_map (λ f. f.0) (slice_get entries n)

-- the number of files before one of this name is one more, or none
abbrev from_here : Bool → ℕ → ℕ
from_here same later = cond (not same) (1 + later) 0

passed-over : (same : Bool) (later n : ℕ) → suc n ≤ from_here same later → (same ≡ false) × (n ≤ later)
passed-over true later n h = absurd (omega arith)
passed-over false later n h = (refl, omega arith)

-- a file of another name is passed over
pub later : (name known : List ℕ) (entries : List Named) (n : ℕ) → name_there entries n ≡ Some known → bytes_eq name known ≡ false
    → n ≤ files_before name entries → n + 1 ≤ files_before name entries
later name known [] n there other h = absurd cc
later name known (e ∷ entries) zero there other h =
    let is : e.0 ≡ known = cc in
    subst (λ (b : Bool). 1 ≤ from_here b (files_before name entries)) (sym (ap (bytes_eq name) is ∙ other)) (omega arith)
later name known (e ∷ entries) (suc n) there other h =
    let front = passed-over (bytes_eq name e.0) (files_before name entries) n h in
    let rest : n + 1 ≤ files_before name entries = later name known entries n there other front.1 in
    subst (λ (b : Bool). suc n + 1 ≤ from_here b (files_before name entries)) (sym front.0) (omega arith)

-- a file of the name is the first one
first-is : (name known : List ℕ) (entries : List Named) (n : ℕ) → name_there entries n ≡ Some known → bytes_eq name known ≡ true
    → n ≤ files_before name entries → (files_before name entries ≡ n) × (n < length entries)
first-is name known [] n there same h = absurd cc
first-is name known (e ∷ entries) zero there same h =
    let is : e.0 ≡ known = cc in
    (ap (λ (b : Bool). from_here b (files_before name entries)) (ap (bytes_eq name) is ∙ same), omega arith)
first-is name known (e ∷ entries) (suc n) there same h =
    let front = passed-over (bytes_eq name e.0) (files_before name entries) n h in
    let rest = first-is name known entries n there same front.1 in
    let short : n < length entries = rest.1 in
    let one : 1 + files_before name entries ≡ suc n = omega (arith, rest.0) in
    (ap (λ (b : Bool). from_here b (files_before name entries)) front.0 ∙ one, omega arith)

pub here : (name known : List ℕ) (entries : List Named) (n : ℕ) → name_there entries n ≡ Some known → bytes_eq name known ≡ true
    → n ≤ files_before name entries → position_of name entries ≡ Some n
here name known entries n there same h =
    let first = first-is name known entries n there same h in
    let short : files_before name entries < length entries = subst (λ (m : ℕ). m < length entries) (sym first.0) first.1 in
    ap (λ (b : Bool). cond b (Some (files_before name entries)) None) (lt-ltb (files_before name entries) (length entries) short) ∙ ap Some first.0

pub nowhere : (name : List ℕ) (entries : List Named) → length entries ≤ files_before name entries → position_of name entries ≡ None
nowhere name entries h = ap (λ (b : Bool). cond b (Some (files_before name entries)) None) (le-ltb (files_before name entries) (length entries) h)

-- ---- the rules that are kept

-- a test of what an element means, and what the elements that pass it mean
pub filter-viewed : {A B : Type 0} (view : A → B) (test : B → Bool) (xs : List A)
    → map view (filter (λ x. test (view x)) xs) ≡ filter test (map view xs)
filter-viewed view test [] = refl
filter-viewed view test (x ∷ xs) =
    let rest = filter-viewed view test xs in
    elim (test (view x)) as (λ (t : Bool). map view (cond t (x ∷ filter (λ y. test (view y)) xs) (filter (λ y. test (view y)) xs))
    ≡ cond t (view x ∷ filter test (map view xs)) (filter test (map view xs))) [
      | true ↦ ap (λ ys. view x ∷ ys) rest
      | false ↦ rest
    ]

-- the same where one is sought
any-viewed : {A B : Type 0} (view : A → B) (test : B → Bool) (xs : List A) → list_any (λ x. test (view x)) xs ≡ list_any test (map view xs)
any-viewed view test [] = refl
any-viewed view test (x ∷ xs) = ap (λ (b : Bool). test (view x) || b) (any-viewed view test xs)

-- the rules, by whether one of them is refused
abbrev unless : Bool → List NumberedRule → Option (List NumberedRule)
unless refused kept = cond refused None (Some kept)

some-refuses : (service : List ℕ) (rules : List NumberedReading) →
    list_any (λ rule. refuses service (reading_view rule.reading)) rules ≡ list_any (λ rule. refuses service rule.1) (map numbered_view rules)
some-refuses service rules = any-viewed numbered_view (λ rule. refuses service rule.1) rules

pub none_chosen : (service lower : List ℕ) (kind : Kind) (rules : List NumberedReading) → lower ≡ map to_ascii_lowercase service →
    list_any (λ rule. refuses lower (reading_view rule.reading)) rules ≡ true → None ≡ chosen service kind (map numbered_view rules)
none_chosen service lower kind rules is refused =
    let found = sym (some-refuses lower rules) ∙ refused in
    ap (λ (b : Bool). unless b (filter (λ rule. concerns lower kind rule.1) (map numbered_view rules))) (sym found)
    ∙ ap (λ (l : List ℕ). unless (list_any (λ rule. refuses l rule.1) (map numbered_view rules))
    (filter (λ rule. concerns l kind rule.1) (map numbered_view rules))) is

pub those_chosen : (service lower : List ℕ) (kind : Kind) (rules : List NumberedReading) (kept : List NumberedRule) →
    lower ≡ map to_ascii_lowercase service → list_any (λ rule. refuses lower (reading_view rule.reading)) rules ≡ false →
    kept ≡ filter (λ rule. concerns lower kind rule.1) (map numbered_view rules) → Some kept ≡ chosen service kind (map numbered_view rules)
those_chosen service lower kind rules kept is none those =
    let found = sym (some-refuses lower rules) ∙ none in
    ap (λ (r : List NumberedRule). Some r) those
    ∙ ap (λ (b : Bool). unless b (filter (λ rule. concerns lower kind rule.1) (map numbered_view rules))) (sym found)
    ∙ ap (λ (l : List ℕ). unless (list_any (λ rule. refuses l rule.1) (map numbered_view rules))
    (filter (λ rule. concerns l kind rule.1) (map numbered_view rules))) is
