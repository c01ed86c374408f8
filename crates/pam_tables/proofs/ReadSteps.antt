-- Numbered lines, read one after another.
use Rattle.std.proofs.Common.{◌≡◌, ◌∙◌, ◌++◌, ℕ, List, [], ◌∷◌, Option, Some, None, Result, Ok, Err, refl, sym, ap}
use Rattle.std.specs.Option.{option_map_or}
use Rattle.pam_tables.specs.declared.error.TableFault.{TableFault}
use Rattle.pam_tables.specs.declared.error.TableFault.TheVariants.{Memory}
use Rattle.pam_tables.specs.Error.{FailsAt, line_of_fault, read_lines, onto_lines, verdict}
use Rattle.pam_tables.specs.inner.Error.{FailsIn}
use Rattle.pam_tables.specs.Lines.{checked, fault_of_bytes}
use Rattle.pam_tables.specs.inner.Lines.{sound}

-- a fault of one reading is that of another
pub fails_on : {A B : Type 0} (fault : TableFault) (line : ℕ) (r : Result A (TableFault × ℕ)) (s : Result B (TableFault × ℕ)) →
    (r ≡ Err (fault, line) → s ≡ Err (fault, line)) → FailsAt fault line r → FailsAt fault line s
fails_on Memory line r s f h = h
fails_on fault line r s f h = f h

-- a fault of a part of a line is one of the table
pub fails_there : {A B : Type 0} (fault : TableFault) (line : ℕ) (r : Result A TableFault) (s : Result B (TableFault × ℕ)) →
    (r ≡ Err fault → s ≡ Err (fault, line)) → FailsIn fault r → FailsAt fault (line_of_fault fault line) s
fails_there Memory line r s f h = refl
fails_there fault line r s f h = f h

pub fails_part : {A B : Type 0} (fault : TableFault) (r : Result A TableFault) (s : Result B TableFault) → (r ≡ Err fault → s ≡ Err fault) → FailsIn fault r →
    FailsIn fault s
fails_part Memory r s f h = h
fails_part fault r s f h = f h

pub fails_in : {A : Type 0} (fault : TableFault) (r : Result A TableFault) → r ≡ Err fault → FailsIn fault r
fails_in Memory r h = tt
fails_in fault r h = h

err_of : (x e : TableFault × ℕ) → ◌≡◌ {A = Result (Unit {0}) (TableFault × ℕ)} (Err x) (Err e) → x ≡ e
err_of x e f = cc

pub checked_fails : {A : Type 0} (bytes : List ℕ) (read : Result A (TableFault × ℕ)) (e : TableFault × ℕ) → sound bytes ≡ Err e → checked bytes read ≡ Err e
checked_fails bytes read e h =
    elim (fault_of_bytes bytes) as (λ (o : Option (TableFault × ℕ)). ◌≡◌ {A = Result (Unit {0}) (TableFault × ℕ)} (option_map_or Err o (Ok tt)) (Err e) →
    option_map_or Err o read ≡ Err e) [
      | None ↦ λ f. absurd (cc)
      | Some x ↦ λ f. ap Err (err_of x e f)
    ] h

pub checked_passes : {A : Type 0} (bytes : List ℕ) (read : Result A (TableFault × ℕ)) (u : Unit {0}) → sound bytes ≡ Ok u → checked bytes read ≡ read
checked_passes bytes read u h =
    elim (fault_of_bytes bytes) as (λ (o : Option (TableFault × ℕ)). ◌≡◌ {A = Result (Unit {0}) (TableFault × ℕ)} (option_map_or Err o (Ok tt)) (Ok u) →
    option_map_or Err o read ≡ read) [
      | None ↦ λ f. refl
      | Some x ↦ λ f. absurd (cc)
    ] h

-- ---- what was read before comes first

abbrev pub in_front : {A E : Type 0} → List A → Result (List A) E → Result (List A) E
in_front front (Ok xs) = Ok (front ++ xs)
in_front front (Err e) = Err e

pub nothing_in_front : {A E : Type 0} (r : Result (List A) E) → in_front [] r ≡ r
nothing_in_front (Ok xs) = refl
nothing_in_front (Err e) = refl

-- ---- lines that are checked alone

-- a line without a fault changes nothing for the others
passes : {A : Type 0} (n : ℕ) (r : Result (Option A) TableFault) (others : Result (List A) (TableFault × ℕ)) → Ok tt ≡ verdict r →
    verdict others ≡ verdict (onto_lines n r others)
passes n (Ok None) others h = refl
passes n (Ok (Some x)) (Ok xs) h = refl
passes n (Ok (Some x)) (Err e) h = refl
passes n (Err fault) others h = absurd (cc)

module _ {A : Type 0} (read : ℕ → List ℕ → Result (Option A) TableFault) (n : ℕ) (line : List ℕ) (all lines : List (ℕ × List ℕ))
    (first : all ≡ (n, line) ∷ lines) where
  pub line_passes : Ok tt ≡ verdict (read n line) → verdict (read_lines read lines) ≡ verdict (read_lines read all)
  unfolding read_lines
  line_passes h = passes n (read n line) (read_lines read lines) h ∙ sym (ap (λ (ls : List (ℕ × List ℕ)). verdict (read_lines read ls)) first)

  fails : (fault : TableFault) (r : Result (Option A) TableFault) (others : Result (List A) (TableFault × ℕ)) → Err fault ≡ verdict r →
      verdict (onto_lines n r others) ≡ Err (fault, n)
  fails fault (Ok x) others h = absurd (cc)
  fails fault (Err f) others h = let same : fault ≡ f = cc in ap (λ (x : TableFault). Err (x, n)) (sym same)

  pub line_fails : (fault : TableFault) → Err fault ≡ verdict (read n line) → verdict (read_lines read all) ≡ Err (fault, n)
  unfolding read_lines
  line_fails fault h =
      ap (λ (ls : List (ℕ × List ℕ)). verdict (read_lines read ls)) first ∙ fails fault (read n line) (read_lines read lines) h

pub lines_done : {A : Type 0} (read : ℕ → List ℕ → Result (Option A) TableFault) (all : List (ℕ × List ℕ)) → all ≡ [] →
    verdict (read_lines read all) ≡ Ok tt
unfolding read_lines
lines_done read all e = ap (λ (ls : List (ℕ × List ℕ)). verdict (read_lines read ls)) e
