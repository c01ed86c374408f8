-- Which modules are asked, and what they do to the run of their list: pam.conf(5), DESCRIPTION, the actions of a control.
use Rattle.std.specs.Prelude.{◌≡◌, ◌↔◌, ℕ, ◌<◌, ◌≤◌, IsTrue, List, [], ◌∷◌}
use Rattle.pam_conf.specs.Stack.{Items, module_count}
use Rattle.pam_dispatch.specs.Runs.{Ask, Assignment}
use Rattle.pam_dispatch.specs.State.{action_of, start_state}
use Rattle.pam_dispatch.specs.Tree.{asked}
use Rattle.pam_graph.specs.PastEnds.{is_past_end}
use Rattle.pam_text.specs.Members.{Member}
use Rattle.pam_paths.specs.Listing.{Allowance, IsAllowed}

-- allowed answers of a run that asks the module with this number
pub record Asks (allows : Allowance) (items : Items) (number : ℕ) : Type 0 where
  pub answers : Assignment
  pub allowed : IsAllowed allows (module_count items) answers
  pub ask : Ask
  pub is_asked : Member ask (asked items start_state start_state answers)
  pub numbered : ask.module_number ≡ number

-- such answers, of which the module's own is this code
pub record AsksWith (allows : Allowance) (items : Items) (number code : ℕ) : Type 0 where
  pub asks : Asks allows items number
  pub answer : asks.answers number ≡ code

-- S3: the stack has a module with this number, and no allowed answers make it asked
pub record IsNeverAsked (allows : Allowance) (items : Items) (number : ℕ) : Type 0 where
  pub first : 1 ≤ number
  pub last : number ≤ module_count items
  pub never : Asks allows items number → ⊥

-- S4: allowed answers of a run that asks the module with this number; its own answer jumps past the end of its list
pub record JumpsPastEnd (allows : Allowance) (items : Items) (number : ℕ) : Type 0 where
  pub asks : Asks allows items number
  pub past : IsTrue (is_past_end asks.ask.after (action_of asks.ask.control (asks.answers number)))

-- EXACTLY THE NUMBERS of which something holds: they rise strictly, and each of which it holds is one of them
unfoldable pub RiseAbove : ℕ → List ℕ → Type 0
RiseAbove low [] = Unit {0}
RiseAbove low (number ∷ numbers) = (low < number) × RiseAbove number numbers

pub record AreExactly (Holds : ℕ → Type 0) (numbers : List ℕ) : Type 0 where
  pub rising : RiseAbove 0 numbers
  pub members : (number : ℕ) → Member number numbers ↔ Holds number
