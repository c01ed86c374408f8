-- Which module is asked after which: pam.conf(5), DESCRIPTION, the actions of a control.
use Rattle.std.specs.Prelude.{◌≡◌, ℕ, ◌<◌, true, List}
use Rattle.pam_codes.specs.Set.{is_in}
use Rattle.pam_conf.specs.Stack.{Items}
use Rattle.pam_dispatch.specs.Runs.{Ask}
use Rattle.pam_dispatch.specs.State.{start_state}
use Rattle.pam_dispatch.specs.Tree.{asked}
use Rattle.pam_text.specs.Members.{Member}
use Rattle.pam_paths.specs.Listing.{Allowance}
use Rattle.pam_findings.specs.stack.Asked.{Asks}

-- allowed answers of a run that asks the module with the first number, which gives one of these codes, and then the module with the other
-- number; a run asks modules in the order of their numbers
pub record Leads (allows : Allowance) (items : Items) (codes : List ℕ) (first later : ℕ) : Type 0 where
  pub asks : Asks allows items first
  pub answer : is_in (asks.answers first) codes ≡ true
  pub ask : Ask
  pub is_asked : Member ask (asked items start_state start_state asks.answers)
  pub numbered : ask.module_number ≡ later
  pub order : first < later
