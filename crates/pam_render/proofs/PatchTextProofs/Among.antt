-- Lines that are among others, and mendings that are certain.
use Rattle.std.proofs.Common.{◌≡◌, ◌∙◌, ◌+◌, ℕ, Bool, true, false, List, [], ◌∷◌, ◌&&◌}
use Rattle.std.proofs.Common.{◌||◌, add-one, ap, arith, cond, drop, eqb, fold, if◌then◌else◌, refl, subst, sym}
use Rattle.std.proofs.lemmas.Bool.{eqb-true, false≢true}
use Rattle.pam_conf.specs.declared.rule.Form.{Form}
use Rattle.pam_render.specs.patch_text.Check.{kept_diff}
use Rattle.pam_render.specs.patch_text.Laws.{AreMended, has}
use Rattle.pam_render.specs.patch_text.Mended.{Mending, is_certain, is_empty, lines_of, mended, past, reading_of, run_len}

-- lines without those at the front that are another one have a line as before
kept_past : (line other : ℕ) (lines : List ℕ) → eqb other line ≡ false → has line lines ≡ true → has line (past lines other) ≡ true
kept_past line other [] e h = h
kept_past line other (l ∷ lines) e h =
    let Kept = λ (b : Bool). has line (drop (cond b (1 + run_len lines other) 0) (l ∷ lines)) ≡ true in
    elim (eqb l other) as (λ (t : Bool). eqb l other ≡ t → Kept t) [
      | true ↦ λ same.
          let apart : eqb l line ≡ false = ap (λ (n : ℕ). eqb n line) (eqb-true l other same) ∙ e in
          let flip : 1 + run_len lines other ≡ run_len lines other + 1 = omega arith in
          let rest = kept_past line other lines e (sym (ap (λ (b : Bool). b || has line lines) apart) ∙ h) in
          subst (λ (n : ℕ). has line (drop n (l ∷ lines)) ≡ true) (sym (flip ∙ add-one (run_len lines other))) rest
      | false ↦ λ differ. h
    ] refl

-- each line is among the others, if nothing is left of them
among : (lines others : List ℕ) (line : ℕ) → is_empty (fold past lines others) ≡ true → has line lines ≡ true → has line others ≡ true
among [] [] line h k = k
among (l ∷ lines) [] line h k = absurd (false≢true h)
among lines (o ∷ others) line h k = elim (eqb o line) as (λ (t : Bool). eqb o line ≡ t → has line (o ∷ others) ≡ true) [
  | true ↦ λ e. ap (λ (b : Bool). b || has line others) e
  | false ↦ λ e. ap (λ (b : Bool). b || has line others) e ∙ among (past lines o) others line h (kept_past line o lines e k)
] refl

both : (a b : Bool) → (a && b) ≡ true → (a ≡ true) × (b ≡ true)
both true b h = (refl, h)
both false b h = absurd (false≢true h)

certain_is_mended : (form : Form) (mendings : List Mending) (old new : List ℕ) → is_certain mendings (reading_of form old) (reading_of form new) ≡ true
    → AreMended form mendings old new
certain_is_mended form mendings old new h =
    let lines = both _ _ h in
    let rest = both _ _ lines.1 in
    record {
      rules = λ line k. among (lines_of mendings) (reading_of form new).modules line lines.0 k;
      faults = λ line k. among (reading_of form new).faults (reading_of form old).faults line rest.0 k;
      count = eqb-true _ _ rest.1;
    }

none_if : (b : Bool) (text : List ℕ) → b ≡ false → (if b then text else []) ≡ []
none_if true text e = absurd (false≢true (sym e))
none_if false text e = refl

-- each file with a diff is mended
pub files_are_mended : (form : Form) (path old : List ℕ) (mendings : List Mending) → (kept_diff form path old mendings ≡ [] → ⊥)
    → AreMended form mendings old (mended mendings old)
files_are_mended form path old [] h = absurd (h refl)
files_are_mended form path old (m ∷ mendings) h =
    let new = mended (m ∷ mendings) old in
    let certain = is_certain (m ∷ mendings) (reading_of form old) (reading_of form new) in
    elim certain as (λ (t : Bool). certain ≡ t → AreMended form (m ∷ mendings) old new) [
      | true ↦ λ e. certain_is_mended form (m ∷ mendings) old new e
      | false ↦ λ e. absurd (h (none_if certain _ e))
    ] refl
