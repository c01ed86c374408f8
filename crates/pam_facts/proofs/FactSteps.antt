-- The arguments of a row, and the last row that fits.
use Rattle.std.proofs.Common.{◌≡◌, ◌∙◌, ◌&&◌, ◌||◌, ◌++◌, ℕ, Bool, true, false, List, [], ◌∷◌, Option, Some, None, if◌then◌else◌, length, refl, ap}
use Rattle.std.proofs.Common.{Bor, ◌==◌, arith, slice_get}
use Rattle.std.proofs.lemmas.Bool.{ne_eqb}
use Rattle.std.specs.List.{list_all, list_any}
use Rattle.std.specs.Option.{option_map_or}
use Rattle.pam_facts.specs.Facts.{is_unknown_alone, unknown}
use Rattle.pam_facts.specs.Fitting.{fits, last_fact}
use Rattle.pam_facts.specs.Laws.{NoRowIsUnknown}
use Rattle.pam_facts.specs.Options.{arguments_read}
use Rattle.pam_facts.specs.Paths.{module_name}
use Rattle.pam_facts.specs.Rows.{Row}
use Rattle.pam_facts.specs.Views.{texts_of}
use Rattle.pam_facts.specs.declared.row.Fact.{Fact}

and_assoc : (a b c : Bool) → ((a && b) && c) ≡ (a && (b && c))
and_assoc true b c = refl
and_assoc false b c = refl

-- all of the two arguments pass
pub both_pass : (test : List ℕ → Bool) (first second : Option (Bor (List ℕ))) →
    (list_all test (texts_of first) && list_all test (texts_of second)) ≡ list_all test (texts_of first ++ texts_of second)
both_pass test None second = refl
both_pass test (Some text) second = and_assoc (test text.now) true (list_all test (texts_of second))

-- the last row decides if it fits, and else changes nothing
pub last_row : (fits : Row → Bool) (fact : Fact) (rows : List Row) (row : Row) →
    last_fact fits fact (rows ++ row ∷ []) ≡ (if fits row then row.fact else last_fact fits fact rows)
last_row fits fact [] row = refl
last_row fits fact (first ∷ rows) row = last_row fits (if fits first then first.fact else fact) rows row

-- a set that has module_unknown alone, by its least code and its length
pub one_code_alone : (codes : List ℕ) (code : ℕ) → Some code ≡ slice_get codes 0 → (length codes == 1 && code == 28) ≡ is_unknown_alone codes
one_code_alone [] code h = absurd (cc)
one_code_alone (c ∷ []) code h = let same : code ≡ c = cc in ap (λ (n : ℕ). n == 28) same
one_code_alone (c ∷ d ∷ codes) code h = ap (λ (t : Bool). t && code == 28) (ne_eqb (length (c ∷ d ∷ codes)) 1 (omega arith))

pub no_code_alone : (codes : List ℕ) → None ≡ slice_get codes 0 → false ≡ is_unknown_alone codes
no_code_alone [] h = refl
no_code_alone (c ∷ codes) h = absurd (cc)

-- rows one after the other
joined : (fits : Row → Bool) (fact : Fact) (rows more : List Row) → last_fact fits fact (rows ++ more) ≡ last_fact fits (last_fact fits fact rows) more
joined fits fact [] more = refl
joined fits fact (row ∷ rows) more = joined fits (if fits row then row.fact else fact) rows more

-- after one row that fits, it does not matter what was known before
again : (fits : Row → Bool) (fact : Fact) (rows : List Row) → last_fact fits (last_fact fits fact rows) rows ≡ last_fact fits fact rows
again fits fact [] = refl
again fits fact (row ∷ rows) =
    elim (fits row) as (λ (t : Bool). last_fact fits (if t then row.fact else last_fact fits (if t then row.fact else fact) rows) rows
    ≡ last_fact fits (if t then row.fact else fact) rows) [ true ↦ refl | false ↦ again fits fact rows ]

pub twice : (fits : Row → Bool) (fact : Fact) (rows : List Row) → last_fact fits fact (rows ++ rows) ≡ last_fact fits fact rows
twice fits fact rows = joined fits fact rows rows ∙ again fits fact rows

-- where no row fits, no row's fact counts
none_fits : (fits_module : Row → Bool) (fact : Fact) (rows : List Row) → list_any fits_module rows ≡ false → last_fact fits_module fact rows ≡ fact
none_fits fits_module fact [] h = refl
none_fits fits_module fact (row ∷ rows) h =
    elim (fits_module row) as (λ (t : Bool). (t || list_any fits_module rows) ≡ false
    → last_fact fits_module (if t then row.fact else fact) rows ≡ fact) [ true ↦ λ e. absurd (cc) | false ↦ λ e. none_fits fits_module fact rows e ] h

pub no_row_is_unknown : NoRowIsUnknown
no_row_is_unknown rows path arguments h = go (module_name path) h
  where
    go : (name : Option (List ℕ)) → option_map_or (λ n. list_any (fits n (arguments_read n arguments)) rows) name false ≡ false →
        option_map_or (λ n. last_fact (fits n (arguments_read n arguments)) unknown rows) name unknown ≡ unknown
    go None none = refl
    go (Some n) none = none_fits (fits n (arguments_read n arguments)) unknown rows none
