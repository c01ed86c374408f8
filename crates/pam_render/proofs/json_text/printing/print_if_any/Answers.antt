use Rattle.std.proofs.Common.{◌≡◌, ℕ, List, Ok, Option, Some, Result, ap, map, refl, subst, sym, true}
use Rattle.std.specs.Option.{option_copied}
use Rattle.pam_codes.specs.Out.{Out}
use Rattle.pam_render.proofs.PartsProofs.Printed.{printed-as, text-printed}
use Rattle.pam_render.specs.parts.Findings.{IsCheckBy}
use Rattle.pam_render.specs.parts.Policy.{IsPolicyBy}
use Rattle.pam_render.specs.parts.Prints.{PrintsBy}
use Rattle.pam_report.specs.Reply as spec
use Rattle.pam_report.specs.ReplyViews.{check_view, compare_view, needs_view, outcomes_view, policy_view, reply_view, run_view, stack_view}
use Rattle.pam_report.specs.declared.fault.Fault.{Fault}
use Rattle.pam_report.specs.declared.report.replies.Reply as declared
use Rattle.pam_report.specs.declared.report.replies.Reply.TheVariants as replies
use Rattle.pam_report.specs.declared.report.show.StackReply.{StackReply}
use Rattle.pam_render.specs.json_text.Check.{line_json}
use Rattle.pam_render.specs.json_text.Policy.{line_json as policy_line}
use Rattle.pam_render.specs.json_text.Show.{stacks_json}
use Rattle.pam_render.specs.json_text.Text.{IsJson, PrintsIfAny, has_json}
use Rattle.pam_render.proofs.json_text.printing.print_if_any.Goals as goal

-- it is this reply whose JSON is written
written : {W : Type 0} (contents : W → Option (List ℕ)) (old new : Out W) (result : Result (Unit {0}) Fault) (one other : declared.Reply) → other ≡ one
    → has_json (reply_view one) ≡ true → PrintsBy contents IsJson old new result (reply_view one)
    → PrintsIfAny contents old new (Some result) (reply_view other)
written contents old new result one other same has h =
    subst (λ (reply : declared.Reply). PrintsIfAny contents old new (Some result) (reply_view reply)) (sym same) (has, h)

pub returns-in-Stacks : goal.returns-in-Stacks
returns-in-Stacks g c =
    let stacks = c.in-Stacks.stacks in
    written g.W.Write.contents _ _ _ (replies.Stacks stacks) _ c.in-Stacks.is refl
    (text-printed g.W.Write.contents IsJson _ _ (spec.Stacks (map stack_view stacks.items)) _ _ _
    (ap (λ (those : List StackReply). Ok (stacks_json (map stack_view those))) c.deref.ensures.value) c.with_write_fault.ensures c.write_stacks.ensures)

pub returns-in-Run : goal.returns-in-Run
returns-in-Run g c =
    written g.W.Write.contents _ _ _ (replies.Run c.in-Run.run') _ c.in-Run.is refl
    (text-printed g.W.Write.contents IsJson _ _ (spec.Run (run_view c.in-Run.run')) _ _ _ refl c.with_write_fault-in-Run.ensures c.write_run.ensures)

pub returns-in-Access : goal.returns-in-Access
returns-in-Access g c =
    written g.W.Write.contents _ _ _ (replies.Access c.in-Access.access) _ c.in-Access.is refl
    (text-printed g.W.Write.contents IsJson _ _ (spec.Access c.in-Access.access.answer (option_copied c.in-Access.access.table)) _ _ _ refl
    c.with_write_fault-in-Access.ensures c.write_access.ensures)

pub returns-in-Time : goal.returns-in-Time
returns-in-Time g c =
    written g.W.Write.contents _ _ _ (replies.Time c.in-Time.answer) _ c.in-Time.is refl
    (text-printed g.W.Write.contents IsJson _ _ (spec.Time c.in-Time.answer) _ _ _ refl c.with_write_fault-in-Time.ensures c.write_time.ensures)

pub returns-in-Outcomes : goal.returns-in-Outcomes
returns-in-Outcomes g c =
    written g.W.Write.contents _ _ _ (replies.Outcomes c.in-Outcomes.outcomes) _ c.in-Outcomes.is refl
    (text-printed g.W.Write.contents IsJson _ _ (spec.Outcomes (outcomes_view c.in-Outcomes.outcomes)) _ _ _ refl c.with_write_fault-in-Outcomes.ensures
    c.write_outcomes.ensures)

pub returns-in-Paths : goal.returns-in-Paths
returns-in-Paths g c =
    written g.W.Write.contents _ _ _ (replies.Paths c.in-Paths.page) _ c.in-Paths.is refl c.write.ensures

pub returns-in-Check : goal.returns-in-Check
returns-in-Check g c =
    written g.W.Write.contents _ _ _ (replies.Check c.in-Check.check) _ c.in-Check.is refl
    (printed-as g.W.Write.contents (IsCheckBy line_json) IsJson _ _ (spec.Check (check_view c.in-Check.check)) (λ text h. h) _ c.write_check.ensures)

pub returns-in-Compared : goal.returns-in-Compared
returns-in-Compared g c =
    written g.W.Write.contents _ _ _ (replies.Compared c.in-Compared.compared) _ c.in-Compared.is refl
    (text-printed g.W.Write.contents IsJson _ _ (spec.Compared (compare_view c.in-Compared.compared)) _ _ _ refl c.with_write_fault-in-Compared.ensures
    c.write_compared.ensures)

pub returns-in-Policy : goal.returns-in-Policy
returns-in-Policy g c =
    written g.W.Write.contents _ _ _ (replies.Policy c.in-Policy.policies) _ c.in-Policy.is refl
    (printed-as g.W.Write.contents (IsPolicyBy policy_line) IsJson _ _ (spec.Policy (policy_view c.in-Policy.policies)) (λ text h. h) _
    c.write_policy.ensures)

pub returns-in-Needs : goal.returns-in-Needs
returns-in-Needs g c =
    written g.W.Write.contents _ _ _ (replies.Needs c.in-Needs.found) _ c.in-Needs.is refl
    (text-printed g.W.Write.contents IsJson _ _ (spec.Needs (needs_view c.in-Needs.found)) _ _ _ refl c.with_write_fault-in-Needs.ensures
    c.write_needs.ensures)
