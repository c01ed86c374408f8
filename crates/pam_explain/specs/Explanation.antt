-- What is said of a fault or a finding.
use Rattle.std.specs.Prelude.{ℕ, List}
use Rattle.pam_explain.specs.declared.explanation.Level.{Level}

pub record Explanation : Type 0 where
  pub number : List ℕ
  pub name : List ℕ
  pub level : Level
  -- what is wrong, and why it matters
  pub meaning : List ℕ
  -- the lines of an example, with line feeds between them
  pub example : List ℕ
  -- what releases of Linux-PAM do
  pub linux_pam : List ℕ
  -- what to do
  pub mending : List ℕ
