-- All faults of a table, line after line, and the first of them.
use Rattle.std.proofs.Common.{◌≡◌, ◌∙◌, ◌++◌, ℕ, Bool, true, false, List, [], ◌∷◌, codes, Option, Some, None, Result, Ok, Err}
use Rattle.std.proofs.Common.{append-nil, append_assoc, ap, refl, sym}
use Rattle.std.specs.List.{slice_split}
use Rattle.std.specs.Option.{option_map_or}
use Rattle.pam_tables.specs.Access.{LineText, access_line, lines_of, table_of, table_with}
use Rattle.pam_tables.specs.Error.{onto_lines, read_lines, verdict}
use Rattle.pam_tables.specs.FaultLaws.{first_fault}
use Rattle.pam_tables.specs.Faults.{access_faults, group_faults, group_line, line_fault, line_faults, or_faults}
use Rattle.pam_tables.specs.Groups.{Group, group_at, group_of_fields, groups_of, some_group}
use Rattle.pam_tables.specs.Lines.{checked, fault_of_bytes, is_among, is_blank_line, lines_from}
use Rattle.pam_tables.specs.Named.{first_of_each_read}
use Rattle.pam_tables.specs.Options.{Options}
use Rattle.pam_tables.specs.declared.error.Table.{Table}
use Rattle.pam_tables.specs.declared.error.Table.TheVariants as tables
use Rattle.pam_tables.specs.declared.error.TableError.{TableError}
use Rattle.pam_tables.specs.declared.error.TableFault.{TableFault}
use Rattle.pam_tables.specs.declared.error.TableFault.TheVariants.{BadGroup}

-- LINE AFTER LINE

of_verdict : {X : Type 0} (table : Table) (line : ℕ) (read : Result X TableFault) → line_fault table line (verdict read) ≡ line_fault table line read
of_verdict table line (Ok x) = refl
of_verdict table line (Err fault) = refl

module _ {A : Type 0} (table : Table) (read : ℕ → List ℕ → Result (Option A) TableFault) where
  next : (line : ℕ × List ℕ) (lines : List (ℕ × List ℕ)) →
      line_faults table read (line ∷ lines) ≡ line_fault table line.0 (read line.0 line.1) ++ line_faults table read lines
  unfolding line_faults
  next line lines = refl

  none : line_faults table read [] ≡ []
  unfolding line_faults
  none = refl

  pub fault_step : (n : ℕ) (text : List ℕ) (lines rest : List (ℕ × List ℕ)) (faults pushed whole : List TableError) (found : Result (Unit {0}) TableFault) →
      lines ≡ (n, text) ∷ rest → found ≡ verdict (read n text) → pushed ≡ faults ++ line_fault table n found →
      faults ++ line_faults table read lines ≡ whole → pushed ++ line_faults table read rest ≡ whole
  fault_step n text lines rest faults pushed whole found split is push h =
      ap (λ (r : List TableError). r ++ line_faults table read rest)
      (push ∙ ap (λ (r : List TableError). faults ++ r) (ap (line_fault table n) is ∙ of_verdict table n (read n text)))
      ∙ append_assoc faults (line_fault table n (read n text)) (line_faults table read rest)
      ∙ ap (λ (r : List TableError). faults ++ r) (sym (next (n, text) rest))
      ∙ ap (λ (r : List (ℕ × List ℕ)). faults ++ line_faults table read r) (sym split) ∙ h

  pub fault_end : (lines : List (ℕ × List ℕ)) (faults whole : List TableError) → lines ≡ [] → faults ++ line_faults table read lines ≡ whole → faults ≡ whole
  fault_end lines faults whole is h =
      sym (append-nil faults) ∙ ap (λ (r : List TableError). faults ++ r) (sym none)
      ∙ ap (λ (r : List (ℕ × List ℕ)). faults ++ line_faults table read r) (sym is) ∙ h

  -- THE FIRST

  first_of_two : (n : ℕ) (r : Result (Option A) TableFault) (others : Result (List A) (TableFault × ℕ)) (faults : List TableError) →
      verdict others ≡ first_fault faults → verdict (onto_lines n r others) ≡ first_fault (line_fault table n r ++ faults)
  first_of_two n (Ok None) others faults h = h
  first_of_two n (Ok (Some x)) (Ok xs) faults h = h
  first_of_two n (Ok (Some x)) (Err e) faults h = h
  first_of_two n (Err fault) others faults h = refl

  pub first_of_lines : (lines : List (ℕ × List ℕ)) → verdict (read_lines read lines) ≡ first_fault (line_faults table read lines)
  unfolding read_lines line_faults
  first_of_lines [] = refl
  first_of_lines (line ∷ lines) = first_of_two line.0 (read line.0 line.1) (read_lines read lines) (line_faults table read lines) (first_of_lines lines)

first_of_whole : {A : Type 0} (table : Table) (bytes : List ℕ) (read : Result A (TableFault × ℕ)) (faults : List TableError) →
    verdict read ≡ first_fault faults → verdict (checked bytes read) ≡ first_fault (or_faults table (fault_of_bytes bytes) faults)
first_of_whole table bytes read faults h =
    elim (fault_of_bytes bytes) as (λ (o : Option (TableFault × ℕ)). verdict (option_map_or Err o read) ≡ first_fault (or_faults table o faults)) [
      | None ↦ h
      | Some e ↦ refl
    ]

with_names : (b : Bool) (r : Result (List LineText) (TableFault × ℕ)) → verdict (table_with b r) ≡ verdict r
with_names b (Ok lines) = refl
with_names b (Err e) = refl

pub first_access_fault : (options : Options) (bytes : List ℕ) → verdict (table_of options bytes) ≡ first_fault (access_faults options bytes)
unfolding table_of access_faults
first_access_fault options bytes =
    let read = access_line options.field_separators options.list_separators in
    first_of_whole tables.Access bytes (table_with options.group_names (lines_of options.field_separators options.list_separators bytes))
    (line_faults tables.Access read (lines_from 1 bytes))
    (with_names options.group_names (lines_of options.field_separators options.list_separators bytes) ∙ first_of_lines tables.Access read (lines_from 1 bytes))

each_once : {V : Type 0} (r : Result (List (List ℕ × V)) (TableFault × ℕ)) → verdict (first_of_each_read r) ≡ verdict r
each_once (Ok entries) = refl
each_once (Err e) = refl

pub first_group_fault : (bytes : List ℕ) → verdict (groups_of bytes) ≡ first_fault (group_faults bytes)
unfolding groups_of group_faults
first_group_fault bytes =
    first_of_whole tables.Group bytes (first_of_each_read (read_lines group_line (lines_from 1 bytes)))
    (line_faults tables.Group group_line (lines_from 1 bytes))
    (each_once (read_lines group_line (lines_from 1 bytes)) ∙ first_of_lines tables.Group group_line (lines_from 1 bytes))

-- A LINE OF A GROUP FILE

pub blank_group : (line : List ℕ) → is_blank_line line ≡ true → Ok tt ≡ verdict (group_at line)
unfolding group_at
blank_group line h = rw h refl

pub some_group_line : (line name : List ℕ) (members : List (List ℕ)) → is_blank_line line ≡ false →
    group_of_fields (slice_split (is_among (codes ":")) line) ≡ Ok (name, members) → Ok tt ≡ verdict (group_at line)
unfolding group_at
some_group_line line name members h f = rw h (ap (λ (r : Result Group TableFault). verdict (some_group r)) (sym f))

pub bad_group_line : (line : List ℕ) → is_blank_line line ≡ false → group_of_fields (slice_split (is_among (codes ":")) line) ≡ Err BadGroup →
    ◌≡◌ {A = Result (Unit {0}) TableFault} (Err BadGroup) (verdict (group_at line))
unfolding group_at
bad_group_line line h f = rw h (ap (λ (r : Result Group TableFault). verdict (some_group r)) (sym f))
