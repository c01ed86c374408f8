-- Whose success counts: pam.conf(5), DESCRIPTION, the actions of a control.
use Rattle.std.specs.Prelude.{◌≡◌, ℕ}
use Rattle.pam_conf.specs.Stack.{Items}
use Rattle.pam_dispatch.specs.State.{success}
use Rattle.pam_dispatch.specs.Tree.{decided}
use Rattle.pam_paths.specs.Listing.{Allowance}
use Rattle.pam_findings.specs.stack.Asked.{AsksWith}

-- allowed answers of a run that asks the module with this number, which answers success; and the stack decides success
pub record Counts (allows : Allowance) (items : Items) (number : ℕ) : Type 0 where
  pub succeeds : AsksWith allows items number success
  pub decides : decided items succeeds.asks.answers ≡ success

-- S26: the module with this number may be asked and answer success, and in no run in which it does the stack decides success
pub record NeverCounts (allows : Allowance) (items : Items) (number : ℕ) : Type 0 where
  pub succeeds : AsksWith allows items number success
  pub never : Counts allows items number → ⊥
