-- The findings of a table are in order.
use Rattle.std.proofs.Common.{◌≡◌, inl, inr, ◌≤◌, ◌<◌, ◌+◌, ◌&&◌, ◌++◌, ◌⊎◌, ℕ, Bool, true, false, List, [], ◌∷◌, sym, refl, subst, arith}
use Rattle.std.specs.Prelude.{nat_lt}
use Rattle.std.specs.List.{All, AllPairs, slice_split}
use Rattle.std.proofs.lemmas.Bool.{and_parts, ltb-true}
use Rattle.std.proofs.lemmas.List.Elements.{All-cons}
use Rattle.std.proofs.lemmas.List.Kept.{AllPairs-cons}
use Rattle.pam_text.specs.Text.{text_lines, text_of}
use Rattle.pam_tables.specs.Lines.{is_among, lines_from, numbered}
use Rattle.pam_tables.specs.Options.{Options}
use Rattle.pam_released.specs.FindingLaws.{Member}
use Rattle.pam_released.proofs.LineNumbers.{LinesRise, text_rises}
use Rattle.pam_released.proofs.RowLemmas.{in_either}
use Rattle.pam_released.specs.tables.Access.{access_findings, access_tests, last_line}
use Rattle.pam_released.specs.tables.Findings.{found_at, found_if, found_in}
use Rattle.pam_released.specs.tables.Laws.{IsBefore, place_of}
use Rattle.pam_released.specs.tables.Times.{time_findings, time_tests, unfinished_line}
use Rattle.pam_released.specs.declared.tables.difference.TableDifference.{TableDifference}
use Rattle.pam_released.specs.declared.tables.finding.TableFinding.{TableFinding}
use Rattle.pam_released.proofs.TablesProofs.FindingSteps.{next_line, no_line}
use Rattle.pam_released.proofs.TablesProofs.RowLemmas.{from_at, located}

each : (P : TableFinding → Type 0) (fs : List TableFinding) → ((f : TableFinding) → Member f fs → P f) → All P fs
each P [] p = λ k d l. absurd (omega (arith, l))
each P (f ∷ fs) p = All-cons P f fs (p f (inl refl)) (each P fs (λ g m. p g (inr m)))

none_before : AllPairs IsBefore []
none_before i j d l k = absurd (omega (arith, k))

-- AT ONE LINE

-- the places of the differences rise, from more than this one
unfoldable pub rises : ℕ → List (Bool × TableDifference) → Bool
rises k [] = true
rises k (p ∷ ps) = nat_lt k (place_of p.1) && rises (place_of p.1) ps

more_than : (k : ℕ) (ts : List (Bool × TableDifference)) (d : TableDifference) → rises k ts ≡ true → Member (true, d) ts → k < place_of d
unfolding rises
more_than k [] d h m = absurd m
more_than k ((t, e) ∷ ts) d h (inl s) =
    let two = and_parts (nat_lt k (place_of e)) (rises (place_of e) ts) h in
    subst (λ (p : Bool × TableDifference). k < place_of p.1) s (ltb-true k (place_of e) two.0)
more_than k ((t, e) ∷ ts) d h (inr m) =
    let two = and_parts (nat_lt k (place_of e)) (rises (place_of e) ts) h in
    let low : k < place_of e = ltb-true k (place_of e) two.0 in
    let high : place_of e < place_of d = more_than (place_of e) ts d two.1 m in omega (arith, low, high)

-- the findings at a line come before those of later lines
line_in_order : (n k : ℕ) (ts : List (Bool × TableDifference)) (rest : List TableFinding) → rises k ts ≡ true →
    ((f : TableFinding) → Member f rest → n < f.line) → AllPairs IsBefore rest → AllPairs IsBefore (found_at n ts ++ rest)
unfolding rises
line_in_order n k [] rest h later ordered = ordered
line_in_order n k ((t, d) ∷ ts) rest h later ordered =
    let two = and_parts (nat_lt k (place_of d)) (rises (place_of d) ts) h in
    by t two.1 (line_in_order n (place_of d) ts rest two.1 later ordered)
  where
    behind : rises (place_of d) ts ≡ true → (f : TableFinding) → Member f (found_at n ts) ⊎ Member f rest → IsBefore (located n d) f
    behind up f (inl m) = let two = from_at f n ts m in inr (two.0, more_than (place_of d) ts f.difference up two.1)
    behind up f (inr m) = inl (later f m)

    by : (u : Bool) → rises (place_of d) ts ≡ true → AllPairs IsBefore (found_at n ts ++ rest) →
        AllPairs IsBefore ((found_if n u d ++ found_at n ts) ++ rest)
    by true up more =
        AllPairs-cons IsBefore (located n d) (found_at n ts ++ rest)
        (each (IsBefore (located n d)) (found_at n ts ++ rest) (λ f m. behind up f (in_either f (found_at n ts) rest m))) more
    by false up more = more

-- AT ALL LINES

not_below : (tests : ℕ → List ℕ → List (Bool × TableDifference)) (k : ℕ) (lines : List (ℕ × List ℕ)) (f : TableFinding) → LinesRise k lines →
    Member f (found_in tests lines) → k ≤ f.line
not_below tests k [] f up m = absurd (subst (Member f) (no_line tests) m)
not_below tests k (line ∷ lines) f up m =
    parts (λ i. not_below tests (line.0 + 1) lines f up.1 i)
    (in_either f (found_at line.0 (tests line.0 line.1)) (found_in tests lines) (subst (Member f) (next_line tests line lines) m))
  where
    parts : (Member f (found_in tests lines) → line.0 + 1 ≤ f.line) →
        Member f (found_at line.0 (tests line.0 line.1)) ⊎ Member f (found_in tests lines) → k ≤ f.line
    parts more (inl i) = let two = from_at f line.0 (tests line.0 line.1) i in omega (arith, up.0, two.0)
    parts more (inr i) = let high : line.0 + 1 ≤ f.line = more i in omega (arith, up.0, high)

lines_in_order : (tests : ℕ → List ℕ → List (Bool × TableDifference)) → ((n : ℕ) (text : List ℕ) → rises 0 (tests n text) ≡ true) →
    (k : ℕ) (lines : List (ℕ × List ℕ)) → LinesRise k lines → AllPairs IsBefore (found_in tests lines)
lines_in_order tests all k [] up = subst (AllPairs IsBefore) (sym (no_line tests)) none_before
lines_in_order tests all k (line ∷ lines) up =
    subst (AllPairs IsBefore) (sym (next_line tests line lines)) (line_in_order line.0 0 (tests line.0 line.1) (found_in tests lines)
    (all line.0 line.1) (λ f m. let high : line.0 + 1 ≤ f.line = not_below tests (line.0 + 1) lines f up.1 m in omega (arith, high))
    (lines_in_order tests all (line.0 + 1) lines up.1))

-- THE TWO TABLES

numbers_rise : (n : ℕ) (lines : List (List ℕ)) → LinesRise n (numbered n lines)
numbers_rise n [] = tt
numbers_rise n (line ∷ lines) = (omega arith, numbers_rise (n + 1) lines)

access_lines_rise : (bytes : List ℕ) → LinesRise 1 (lines_from 1 bytes)
unfolding lines_from
access_lines_rise bytes = numbers_rise 1 (slice_split (is_among (10 ∷ [])) bytes)

access_rises : (options : Options) (last n : ℕ) (text : List ℕ) → rises 0 (access_tests options last n text) ≡ true
unfolding rises place_of
access_rises options last n text = refl

time_rises : (unfinished n : ℕ) (text : List ℕ) → rises 0 (time_tests unfinished n text) ≡ true
unfolding rises place_of
time_rises unfinished n text = refl

pub access_in_order : (options : Options) (bytes : List ℕ) → AllPairs IsBefore (access_findings options bytes)
unfolding access_findings
access_in_order options bytes =
    lines_in_order (access_tests options (last_line bytes)) (access_rises options (last_line bytes)) 1 (lines_from 1 bytes) (access_lines_rise bytes)

pub time_in_order : (bytes : List ℕ) → AllPairs IsBefore (time_findings bytes)
unfolding time_findings
time_in_order bytes =
    lines_in_order (time_tests (unfinished_line bytes)) (time_rises (unfinished_line bytes)) 1 (text_lines (text_of 1 bytes)) (text_rises bytes)
