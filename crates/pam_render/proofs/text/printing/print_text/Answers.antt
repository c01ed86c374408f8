use Rattle.std.proofs.Common.{List, Ok, ap, map, refl}
use Rattle.std.specs.Option.{option_copied}
use Rattle.pam_render.proofs.PartsProofs.Printed.{printed-as, reply-is, text-printed}
use Rattle.pam_render.specs.parts.Findings.{IsCheckBy}
use Rattle.pam_render.specs.parts.Policy.{IsPolicyBy}
use Rattle.pam_report.specs.Reply as spec
use Rattle.pam_report.specs.ReplyViews.{check_view, needs_view, outcomes_view, policy_view, run_view, stack_view}
use Rattle.pam_report.specs.declared.report.replies.Reply.TheVariants as replies
use Rattle.pam_report.specs.declared.report.show.StackReply.{StackReply}
use Rattle.pam_render.specs.text.Check.{line_text}
use Rattle.pam_render.specs.text.Policy.{line_text as policy_line}
use Rattle.pam_render.specs.text.Show.{stacks_text}
use Rattle.pam_render.specs.text.Text.{IsText}
use Rattle.pam_render.proofs.text.printing.print_text.Goals as goal

pub returns-in-Stacks : goal.returns-in-Stacks
returns-in-Stacks g c =
    let stacks = c.in-Stacks.stacks in
    reply-is g.W.Write.contents IsText _ _ _ (replies.Stacks stacks) _ c.in-Stacks.is
    (text-printed g.W.Write.contents IsText _ _ (spec.Stacks (map stack_view stacks.items)) _ _ _
    (ap (λ (those : List StackReply). Ok (stacks_text (map stack_view those))) c.deref.ensures.value) c.with_write_fault.ensures c.write_stacks.ensures)

pub returns-in-Run : goal.returns-in-Run
returns-in-Run g c =
    reply-is g.W.Write.contents IsText _ _ _ (replies.Run c.in-Run.run') _ c.in-Run.is
    (text-printed g.W.Write.contents IsText _ _ (spec.Run (run_view c.in-Run.run')) _ _ _ refl c.with_write_fault-in-Run.ensures c.write_run.ensures)

pub returns-in-Access : goal.returns-in-Access
returns-in-Access g c =
    reply-is g.W.Write.contents IsText _ _ _ (replies.Access c.in-Access.access) _ c.in-Access.is
    (text-printed g.W.Write.contents IsText _ _ (spec.Access c.in-Access.access.answer (option_copied c.in-Access.access.table)) _ _ _ refl
    c.with_write_fault-in-Access.ensures c.write_access.ensures)

pub returns-in-Time : goal.returns-in-Time
returns-in-Time g c =
    reply-is g.W.Write.contents IsText _ _ _ (replies.Time c.in-Time.answer) _ c.in-Time.is
    (text-printed g.W.Write.contents IsText _ _ (spec.Time c.in-Time.answer) _ _ _ refl c.with_write_fault-in-Time.ensures c.write_time.ensures)

pub returns-in-Outcomes : goal.returns-in-Outcomes
returns-in-Outcomes g c =
    reply-is g.W.Write.contents IsText _ _ _ (replies.Outcomes c.in-Outcomes.outcomes) _ c.in-Outcomes.is
    (text-printed g.W.Write.contents IsText _ _ (spec.Outcomes (outcomes_view c.in-Outcomes.outcomes)) _ _ _ refl c.with_write_fault-in-Outcomes.ensures
    c.write_outcomes.ensures)

pub returns-in-Paths : goal.returns-in-Paths
returns-in-Paths g c = reply-is g.W.Write.contents IsText _ _ _ (replies.Paths c.in-Paths.page) _ c.in-Paths.is c.write.ensures

pub returns-in-Graph : goal.returns-in-Graph
returns-in-Graph g c = reply-is g.W.Write.contents IsText _ _ _ (replies.Graph c.in-Graph.drawing) _ c.in-Graph.is c.write_drawing.ensures

pub returns-in-Check : goal.returns-in-Check
returns-in-Check g c = reply-is g.W.Write.contents IsText _ _ _ (replies.Check c.in-Check.check) _ c.in-Check.is
    (printed-as g.W.Write.contents (IsCheckBy line_text) IsText _ _ (spec.Check (check_view c.in-Check.check)) (λ text h. h) _ c.write_check.ensures)

pub returns-in-Policy : goal.returns-in-Policy
returns-in-Policy g c =
    reply-is g.W.Write.contents IsText _ _ _ (replies.Policy c.in-Policy.policies) _ c.in-Policy.is
    (printed-as g.W.Write.contents (IsPolicyBy policy_line) IsText _ _ (spec.Policy (policy_view c.in-Policy.policies)) (λ text h. h) _
    c.write_policy.ensures)

pub returns-in-Needs : goal.returns-in-Needs
returns-in-Needs g c =
    reply-is g.W.Write.contents IsText _ _ _ (replies.Needs c.in-Needs.found) _ c.in-Needs.is
    (text-printed g.W.Write.contents IsText _ _ (spec.Needs (needs_view c.in-Needs.found)) _ _ _ refl c.with_write_fault-in-Needs.ensures
    c.write_needs.ensures)
