-- The lines of 1.5.2 are those of the manual pages that have a byte other than blanks.
use Rattle.std.proofs.Common.{◌≡◌, ◌&&◌, ◌||◌, ◌++◌, ◌∙◌, ℕ, Bool, true, false, List, [], ◌∷◌, map, cond, eqb, ap, sym, refl, Some}
use Rattle.std.specs.List.{list_all, onto_first}
use Rattle.std.specs.Option.{option_map}
use Rattle.std.proofs.lemmas.Bool.{and_parts, or_parts, eqb-true}
use Rattle.std.proofs.lemmas.List.Folds.{list_all-append}
use Rattle.pam_text.specs.Blanks.{is_text_blank}
use Rattle.pam_released.specs.Lines.{before_hash, continued, ends_in_backslash, front_part, goes_on, has_hash, is_blank_line, last_is_space, lines_152}
use Rattle.pam_released.specs.Lines.{manual_lines_of, onto_line, physical_lines, pieces, filled}
use Rattle.pam_released.proofs.LineTests.{is_line_read_otherwise}
use Rattle.pam_released.specs.Findings.{goes_on_over, has_backslash_blank, has_backslash_comment, has_return}
use Rattle.pam_released.proofs.LineFacts.{Agrees, agrees}
use Rattle.pam_released.proofs.Manual.{manual_are}

-- what may stand after the last line feed, and is no line
pub data IsEnd : List (List ℕ) → Type 0 where
  nothing : IsEnd []
  empty : IsEnd ([] ∷ [])

pub ended : (bs : List ℕ) → (e : List (List ℕ)) × IsEnd e × (pieces bs ≡ physical_lines bs ++ e)
unfolding physical_lines
ended [] = ([] ∷ [], empty, refl)
ended (b ∷ bs) =
    let (e, is, same) = ended bs in
    elim (eqb b 10) as (λ (t : Bool). (e : List (List ℕ)) × IsEnd e ×
    (cond t ([] ∷ pieces bs) (onto_first b (pieces bs)) ≡ cond t ([] ∷ physical_lines bs) (onto_first b (physical_lines bs)) ++ e)) [
      | true ↦ (e, is, ap (λ (r : List (List ℕ)). [] ∷ r) same)
      | false ↦ rw same (onto_end (physical_lines bs) e is)
    ]
  where
    onto_end : (ls e : List (List ℕ)) → IsEnd e → (f : List (List ℕ)) × IsEnd f × (onto_first b (ls ++ e) ≡ onto_first b ls ++ f)
    onto_end [] e nothing = ([], nothing, refl)
    onto_end [] e empty = ([], nothing, refl)
    onto_end (l ∷ ls) e is = (e, is, refl)

-- the parts of the test of lines
pub alone : (line : List ℕ) → is_line_read_otherwise (line ∷ []) ≡ false → Agrees line × (goes_on line ≡ false)
unfolding is_line_read_otherwise
alone line q =
    let a = or_parts (has_return line || has_backslash_blank line || has_backslash_comment line) (goes_on line) q in
    let b = or_parts (has_return line || has_backslash_blank line) (has_backslash_comment line) a.0 in
    let c = or_parts (has_return line) (has_backslash_blank line) b.0 in
    (agrees line c.0 c.1 b.1, a.1)

pub followed : (line next : List ℕ) (lines : List (List ℕ)) → is_line_read_otherwise (line ∷ next ∷ lines) ≡ false →
    Agrees line × (goes_on_over line next ≡ false) × (is_line_read_otherwise (next ∷ lines) ≡ false)
unfolding is_line_read_otherwise
followed line next lines q =
    let z = or_parts (has_return line || has_backslash_blank line || has_backslash_comment line || goes_on_over line next)
    (is_line_read_otherwise (next ∷ lines)) q in
    let a = or_parts (has_return line || has_backslash_blank line || has_backslash_comment line) (goes_on_over line next) z.0 in
    let b = or_parts (has_return line || has_backslash_blank line) (has_backslash_comment line) a.0 in
    let c = or_parts (has_return line) (has_backslash_blank line) b.0 in
    (agrees line c.0 c.1 b.1, a.1, z.1)

-- CONTINUED LINES

pub no_more : (line : List ℕ) (rest : List (List ℕ)) → ends_in_backslash line ≡ false → continued (line ∷ rest) ≡ line ∷ continued rest
unfolding continued
no_more line [] h = refl
no_more line (next ∷ rest) h = rw h refl

pub and_more : (line next : List ℕ) (rest : List (List ℕ)) → ends_in_backslash line ≡ true →
    continued (line ∷ next ∷ rest) ≡ onto_line (last_is_space line) (continued (next ∷ rest))
unfolding continued
and_more line next rest h = rw h refl

blank_has_no_backslash : (bs : List ℕ) → list_all is_text_blank bs ≡ true → ends_in_backslash bs ≡ false
unfolding ends_in_backslash
blank_has_no_backslash [] h = refl
blank_has_no_backslash (b ∷ []) h =
    elim (eqb b 92) as (λ (t : Bool). eqb b 92 ≡ t → t ≡ false) [
      | true ↦ λ e. let is : b ≡ 92 = eqb-true b 92 e in sym (rw is at h)
      | false ↦ λ e. refl
    ] refl
blank_has_no_backslash (b ∷ c ∷ bs) h = blank_has_no_backslash (c ∷ bs) (and_parts (is_text_blank b) (list_all is_text_blank (c ∷ bs)) h).1

-- FILLED LINES

filled_yes : (line : List ℕ) (lines : List (List ℕ)) → list_all is_text_blank line ≡ false → filled (line ∷ lines) ≡ line ∷ filled lines
unfolding filled
filled_yes line lines h = rw h refl

filled_no : (line : List ℕ) (lines : List (List ℕ)) → list_all is_text_blank line ≡ true → filled (line ∷ lines) ≡ filled lines
unfolding filled
filled_no line lines h = rw h refl

end_is_empty : (e : List (List ℕ)) → IsEnd e → filled (continued e) ≡ []
unfolding filled continued
end_is_empty e nothing = refl
end_is_empty e empty = refl

both_false : (t u : Bool) → u ≡ false → (t && u) ≡ false
both_false true u h = h
both_false false u h = refl

longer_is_filled : (x y : List ℕ) → list_all is_text_blank y ≡ false → list_all is_text_blank (x ++ y) ≡ false
longer_is_filled x y h = list_all-append is_text_blank x y ∙ both_false (list_all is_text_blank x) (list_all is_text_blank y) h

-- a line that is not blank begins a logical line that is not
Begins : List (List ℕ) → Type 0
Begins lines = (y : List ℕ) × (ys : List (List ℕ)) × (lines ≡ y ∷ ys) × (list_all is_text_blank y ≡ false)

next_filled : (m k : List ℕ) → has_hash m ≡ false → ends_in_backslash m ≡ true → goes_on_over m k ≡ false → is_blank_line k ≡ false
next_filled m k h b over = rw (h, b) at over

begins_filled : (m : List ℕ) (ls e : List (List ℕ)) → is_line_read_otherwise (m ∷ ls) ≡ false → is_blank_line m ≡ false →
    Begins (continued (before_hash m ∷ map before_hash ls ++ e))
unfolding Begins
begins_filled m [] e q h =
    let (a, g) = alone m q in
    (before_hash m, continued e, no_more (before_hash m) e (sym a.goes ∙ g), sym a.empty ∙ h)
begins_filled m (k ∷ ls) e q h =
    let (a, over, rest) = followed m k ls q in
    elim (goes_on m) as (λ (t : Bool). goes_on m ≡ t → Begins (continued (before_hash m ∷ before_hash k ∷ map before_hash ls ++ e))) [
      | true ↦ λ g.
          let w = a.whole g in
          let filled_next : is_blank_line k ≡ false = next_filled m k w.0 w.1 over in
          let (y, ys, is, not_blank) = begins_filled k ls e rest filled_next in (
            last_is_space (before_hash m) ++ y,
            ys,
            and_more (before_hash m) (before_hash k) (map before_hash ls ++ e) (sym a.goes ∙ g) ∙ ap (onto_line (last_is_space (before_hash m))) is,
            longer_is_filled (last_is_space (before_hash m)) y not_blank,
          )
      | false ↦ λ g. (
        before_hash m,
        continued (before_hash k ∷ map before_hash ls ++ e),
        no_more (before_hash m) (before_hash k ∷ map before_hash ls ++ e) (sym a.goes ∙ g),
        sym a.empty ∙ h,
      )
    ] refl

onto_filled : (x : List ℕ) (lines : List (List ℕ)) → Begins lines → onto_line x (filled lines) ≡ filled (onto_line x lines)
unfolding Begins
onto_filled x lines (y, ys, is, not_blank) =
    ap (λ (ls : List (List ℕ)). onto_line x (filled ls)) is
    ∙ ap (onto_line x) (filled_yes y ys not_blank)
    ∙ sym (filled_yes (x ++ y) ys (longer_is_filled x y not_blank))
    ∙ sym (ap (λ (ls : List (List ℕ)). filled (onto_line x ls)) is)

-- THE LINES

step_empty : (i : Bool) (m : List ℕ) (ls : List (List ℕ)) → is_blank_line m ≡ true → lines_152 i (m ∷ ls) ≡ lines_152 i ls
unfolding lines_152
step_empty i m ls h = rw h refl

step_goes : (i : Bool) (m : List ℕ) (ls : List (List ℕ)) → is_blank_line m ≡ false → goes_on m ≡ true →
    lines_152 i (m ∷ ls) ≡ option_map (onto_line (front_part m)) (lines_152 true ls)
unfolding lines_152
step_goes i m ls h g = rw h (rw g refl)

step_ends : (i : Bool) (m : List ℕ) (ls : List (List ℕ)) → is_blank_line m ≡ false → goes_on m ≡ false →
    lines_152 i (m ∷ ls) ≡ option_map (λ more. before_hash m ∷ more) (lines_152 false ls)
unfolding lines_152
step_ends i m ls h g = rw h (rw g refl)

either_way : (m : List ℕ) (ls : List (List ℕ)) → is_blank_line m ≡ false → lines_152 true (m ∷ ls) ≡ lines_152 false (m ∷ ls)
unfolding lines_152
either_way m ls h = rw h refl

no_lines : lines_152 false [] ≡ Some []
unfolding lines_152
no_lines = refl

alike : (ls e : List (List ℕ)) → IsEnd e → is_line_read_otherwise ls ≡ false → lines_152 false ls ≡ Some (filled (continued (map before_hash ls ++ e)))
alike [] e is q = no_lines ∙ ap (λ (r : List (List ℕ)). Some r) (sym (end_is_empty e is))
alike (m ∷ []) e is q =
    let (a, g) = alone m q in
    let one : continued (before_hash m ∷ e) ≡ before_hash m ∷ continued e = no_more (before_hash m) e (sym a.goes ∙ g) in
    elim (is_blank_line m) as (λ (t : Bool). is_blank_line m ≡ t → lines_152 false (m ∷ []) ≡ Some (filled (continued (before_hash m ∷ e)))) [
      | true ↦ λ h. step_empty false m [] h ∙ no_lines ∙ sym (ap (λ (r : List (List ℕ)). Some r)
          (ap filled one ∙ filled_no (before_hash m) (continued e) (sym a.empty ∙ h) ∙ end_is_empty e is))
      | false ↦ λ h. step_ends false m [] h g ∙ ap (option_map (λ more. before_hash m ∷ more)) no_lines ∙ sym (ap (λ (r : List (List ℕ)). Some r)
          (ap filled one ∙ filled_yes (before_hash m) (continued e) (sym a.empty ∙ h) ∙ ap (λ (r : List (List ℕ)). before_hash m ∷ r) (end_is_empty e is)))
    ] refl
alike (m ∷ k ∷ ls) e is q =
    let (a, over, rest) = followed m k ls q in
    let more : lines_152 false (k ∷ ls) ≡ Some (filled (continued (before_hash k ∷ map before_hash ls ++ e))) = alike (k ∷ ls) e is rest in
    let after : List (List ℕ) = before_hash k ∷ map before_hash ls ++ e in
    elim (is_blank_line m) as (λ (t : Bool). is_blank_line m ≡ t →
    lines_152 false (m ∷ k ∷ ls) ≡ Some (filled (continued (before_hash m ∷ before_hash k ∷ map before_hash ls ++ e)))) [
      | true ↦ λ h. step_empty false m (k ∷ ls) h ∙ more ∙ sym (ap (λ (r : List (List ℕ)). Some r)
          (ap filled (no_more (before_hash m) (before_hash k ∷ map before_hash ls ++ e) (blank_has_no_backslash (before_hash m) (sym a.empty ∙ h)))
          ∙ filled_no (before_hash m) (continued (before_hash k ∷ map before_hash ls ++ e)) (sym a.empty ∙ h)))
      | false ↦ λ h. elim (goes_on m) as (λ (t : Bool). goes_on m ≡ t →
          lines_152 false (m ∷ k ∷ ls) ≡ Some (filled (continued (before_hash m ∷ before_hash k ∷ map before_hash ls ++ e)))) [
            | true ↦ λ g.
                let w = a.whole g in
                let fills : is_blank_line k ≡ false = next_filled m k w.0 w.1 over in
                step_goes false m (k ∷ ls) h g
                ∙ ap (option_map (onto_line (front_part m))) (either_way k ls fills ∙ more)
                ∙ ap (λ (x : List ℕ). Some (onto_line x (filled (continued (before_hash k ∷ map before_hash ls ++ e))))) (a.front g)
                ∙ ap (λ (r : List (List ℕ)). Some r) (onto_filled (last_is_space (before_hash m)) (continued (before_hash k ∷ map before_hash ls ++ e))
                (begins_filled k ls e rest fills)
                ∙ sym (ap filled (and_more (before_hash m) (before_hash k) (map before_hash ls ++ e) (sym a.goes ∙ g))))
            | false ↦ λ g. step_ends false m (k ∷ ls) h g ∙ ap (option_map (λ more. before_hash m ∷ more)) more ∙ sym (ap (λ (r : List (List ℕ)). Some r)
                (ap filled (no_more (before_hash m) (before_hash k ∷ map before_hash ls ++ e) (sym a.goes ∙ g))
                ∙ filled_yes (before_hash m) (continued (before_hash k ∷ map before_hash ls ++ e)) (sym a.empty ∙ h)))
          ] refl
    ] refl

map_end : (ls e : List (List ℕ)) → IsEnd e → map before_hash (ls ++ e) ≡ map before_hash ls ++ e
unfolding before_hash
map_end [] e nothing = refl
map_end [] e empty = refl
map_end (l ∷ ls) e is = ap (λ (r : List (List ℕ)). before_hash l ∷ r) (map_end ls e is)

pub manual_by_lines : (bs : List ℕ) → (e : List (List ℕ)) × IsEnd e × (manual_lines_of bs ≡ continued (map before_hash (physical_lines bs) ++ e))
manual_by_lines bs =
    let (e, is, same) = ended bs in
    (e, is, manual_are bs ∙ ap (λ (r : List (List ℕ)). continued (map before_hash r)) same ∙ ap continued (map_end (physical_lines bs) e is))

pub lines_alike : (bs : List ℕ) → is_line_read_otherwise (physical_lines bs) ≡ false →
    lines_152 false (physical_lines bs) ≡ Some (filled (manual_lines_of bs))
lines_alike bs q =
    let (e, is, same) = manual_by_lines bs in
    alike (physical_lines bs) e is q ∙ ap (λ (r : List (List ℕ)). Some (filled r)) (sym same)
