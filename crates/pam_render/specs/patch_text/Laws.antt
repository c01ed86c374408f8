-- Laws of the definitions.
use Rattle.std.specs.Prelude.{◌≡◌, ℕ, ◌==◌, Bool, true, List, []}
use Rattle.std.specs.List.{list_any}
use Rattle.pam_conf.specs.declared.rule.Form.{Form}
use Rattle.pam_render.specs.patch_text.Check.{kept_diff}
use Rattle.pam_render.specs.patch_text.Mended.{Mending, lines_of, mended, reading_of}

-- whether a line is one of several
abbrev pub has : ℕ → List ℕ → Bool
has line lines = list_any (λ l. l == line) lines

-- each line with a mending is read as a rule of a module, no line has a fault that had none, and there are as many rules and faults
pub record AreMended (form : Form) (mendings : List Mending) (old new : List ℕ) : Type 0 where
  pub rules : (line : ℕ) → has line (lines_of mendings) ≡ true → has line (reading_of form new).modules ≡ true
  pub faults : (line : ℕ) → has line (reading_of form new).faults ≡ true → has line (reading_of form old).faults ≡ true
  pub count : (reading_of form new).count ≡ (reading_of form old).count

-- EACH FILE WITH A DIFF IS MENDED: this is so of its bytes once the diff is applied
abbrev pub FilesAreMended : Type 0
FilesAreMended = (form : Form) (path old : List ℕ) (mendings : List Mending) → (kept_diff form path old mendings ≡ [] → ⊥)
    → AreMended form mendings old (mended mendings old)
