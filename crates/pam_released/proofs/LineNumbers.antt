-- The numbers of the lines of a text rise.
use Rattle.std.proofs.Common.{◌≤◌, ◌+◌, ◌&&◌, ℕ, Bool, true, false, List, [], ◌∷◌, cond, eqb, arith}
use Rattle.pam_text.specs.Text.{FileByte, file_bytes, joined, onto_line, text_lines, text_of, uncommented}

-- the least number of the byte after one
abbrev next_number : FileByte → ℕ
next_number m = cond (eqb m.1 10) (m.0 + 1) m.0

abbrev BytesRise : ℕ → List FileByte → Type 0
BytesRise k [] = Unit {0}
BytesRise k (m ∷ ms) = (k ≤ m.0) × BytesRise (next_number m) ms

abbrev pub LinesRise : ℕ → List (ℕ × List ℕ) → Type 0
LinesRise k [] = Unit {0}
LinesRise k (line ∷ lines) = (k ≤ line.0) × LinesRise (line.0 + 1) lines

lower : (j k : ℕ) (ms : List FileByte) → j ≤ k → BytesRise k ms → BytesRise j ms
lower j k [] l b = tt
lower j k (m ∷ ms) l b = (omega (arith, b.0, l), b.1)

lower_lines : (j k : ℕ) (ls : List (ℕ × List ℕ)) → j ≤ k → LinesRise k ls → LinesRise j ls
lower_lines j k [] l b = tt
lower_lines j k (m ∷ ls) l b = (omega (arith, b.0, l), b.1)

next_is_more : (m : FileByte) → m.0 ≤ next_number m
next_is_more m = elim (eqb m.1 10) as (λ (t : Bool). m.0 ≤ cond t (m.0 + 1) m.0) [ true ↦ omega arith | false ↦ omega arith ]

file_rises : (l : ℕ) (bs : List ℕ) → BytesRise l (file_bytes l bs)
unfolding file_bytes
file_rises l [] = tt
file_rises l (b ∷ bs) = (omega arith, file_rises (cond (eqb b 10) (l + 1) l) bs)

uncommented_rises : (i : Bool) (k : ℕ) (ms : List FileByte) → BytesRise k ms → BytesRise k (uncommented i ms)
unfolding uncommented
uncommented_rises true k [] b = tt
uncommented_rises false k [] b = tt
uncommented_rises true k (m ∷ ms) b =
    elim (eqb m.1 10) as (λ (t : Bool). BytesRise k (cond t (m ∷ uncommented false ms) (uncommented true ms))) [
      | true ↦ (b.0, uncommented_rises false (next_number m) ms b.1)
      | false ↦ lower k (next_number m) (uncommented true ms) (further k m b.0) (uncommented_rises true (next_number m) ms b.1)
    ]
  where
    further : (j : ℕ) (n : FileByte) → j ≤ n.0 → j ≤ next_number n
    further j n l = omega (arith, l, next_is_more n)
uncommented_rises false k (m ∷ ms) b =
    elim (eqb m.1 35) as (λ (t : Bool). BytesRise k (cond t (uncommented true ms) (m ∷ uncommented false ms))) [
      | true ↦ lower k (next_number m) (uncommented true ms) (further k m b.0) (uncommented_rises true (next_number m) ms b.1)
      | false ↦ (b.0, uncommented_rises false (next_number m) ms b.1)
    ]
  where
    further : (j : ℕ) (n : FileByte) → j ≤ n.0 → j ≤ next_number n
    further j n l = omega (arith, l, next_is_more n)

joined_rises : (k : ℕ) (ms : List FileByte) → BytesRise k ms → BytesRise k (joined ms)
unfolding joined
joined_rises k [] b = tt
joined_rises k (m ∷ []) b = b
joined_rises k (m ∷ n ∷ ms) b =
    elim (eqb m.1 92 && eqb n.1 10) as (λ (t : Bool). BytesRise k (cond t ((m.0, 32) ∷ joined ms) (m ∷ joined (n ∷ ms)))) [
      | true ↦ (b.0, lower m.0 (next_number n) (joined ms) (omega (arith, next_is_more m, b.1.0, next_is_more n)) (joined_rises (next_number n) ms b.1.1))
      | false ↦ (b.0, joined_rises (next_number m) (n ∷ ms) b.1)
    ]

onto_rises : (m : FileByte) (ls : List (ℕ × List ℕ)) → LinesRise m.0 ls → LinesRise m.0 (onto_line m ls)
onto_rises m [] r = (omega arith, tt)
onto_rises m (l ∷ ls) r = (omega arith, lower_lines (m.0 + 1) (l.0 + 1) ls (omega (arith, r.0)) r.1)

lines_rise : (k : ℕ) (ms : List FileByte) → BytesRise k ms → LinesRise k (text_lines ms)
unfolding text_lines
lines_rise k [] b = tt
lines_rise k (m ∷ ms) b =
    elim (eqb m.1 10) as (λ (t : Bool). BytesRise (cond t (m.0 + 1) m.0) ms →
    LinesRise k (cond t ((m.0, []) ∷ text_lines ms) (onto_line m (text_lines ms)))) [
      | true ↦ λ r. (b.0, lines_rise (m.0 + 1) ms r)
      | false ↦ λ r. lower_lines k m.0 (onto_line m (text_lines ms)) b.0 (onto_rises m (text_lines ms) (lines_rise m.0 ms r))
    ] b.1

pub text_rises : (bytes : List ℕ) → LinesRise 1 (text_lines (text_of 1 bytes))
text_rises bytes =
    lines_rise 1 (text_of 1 bytes) (joined_rises 1 (uncommented false (file_bytes 1 bytes))
    (uncommented_rises false 1 (file_bytes 1 bytes) (file_rises 1 bytes)))
