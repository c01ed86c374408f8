-- The answer with a filter.
use Rattle.std.proofs.Common.{◌≡◌, ◌≤◌, ℕ, Bool, Result, nat_lt, subst, sym}
use Rattle.std.proofs.lemmas.Bool.{le-ltb}
use Rattle.pam_conf.specs.Stack.{Items, module_count}
use Rattle.pam_graph.specs.declared.goal.Goal.TheVariants as goals
use Rattle.pam_paths.specs.Listing.{Allowance}
use Rattle.pam_words.specs.declared.wanted.PathFilter.{PathFilter}
use Rattle.pam_report.specs.Finds.{Finds}
use Rattle.pam_report.specs.Paths.{IsAskingPage, IsFilteredPage, IsMeetingPage, PageRequest}
use Rattle.pam_report.specs.declared.fault.Fault.{Fault}
use Rattle.pam_report.specs.declared.report.replies.Reply.{Reply}

module _ (result : Result Reply Fault) (request : PageRequest) (items : Items) (allows : Allowance) where
  -- the filter is this one
  pub filter-is : (one other : PathFilter) → other ≡ one → Finds result (IsFilteredPage one request items allows)
      → Finds result (IsFilteredPage other request items allows)
  filter-is one other same h = subst (λ (filter : PathFilter). Finds result (IsFilteredPage filter request items allows)) (sym same) h

  -- the stack has the module that is to be asked
  pub asking : (number : ℕ) → number ≤ module_count items → Finds result (IsMeetingPage (goals.Asks number) request items allows)
      → Finds result (IsAskingPage (nat_lt (module_count items) number) number request items allows)
  asking number within h =
      subst (λ (past : Bool). Finds result (IsAskingPage past number request items allows)) (sym (le-ltb (module_count items) number within)) h
