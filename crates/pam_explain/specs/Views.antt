-- An explanation, as contracts see it.
use Rattle.std.specs.Borrow.{Bor}
use Rattle.std.specs.Prelude.{ℕ, List}
use Rattle.pam_explain.specs.Explanation as spec
use Rattle.pam_explain.specs.declared.explanation.Explanation.{Explanation}

-- with what its texts are
abbrev pub view_by : {Text : Type 0} → (Text → List ℕ) → Explanation Text → spec.Explanation
view_by text e = record {
  number = text e.number;
  name = text e.name;
  level = e.level;
  meaning = text e.meaning;
  example = text e.example;
  linux_pam = text e.linux_pam;
  mending = text e.mending;
}

abbrev pub explanation_view : Explanation (Bor (List ℕ)) → spec.Explanation
explanation_view = view_by (λ text. text.now)

-- a row of a constant
abbrev pub row_view : Explanation record { now : List ℕ } → spec.Explanation
row_view = view_by (λ text. text.now)
