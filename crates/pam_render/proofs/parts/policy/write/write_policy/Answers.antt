use Rattle.std.proofs.Common.{List, Ok, ℕ, map, refl}
use Rattle.pam_report.specs.Reply.{Policy, PolicyValue}
use Rattle.pam_report.specs.ReplyViews.{policy_view}
use Rattle.pam_render.proofs.PartsProofs.Printed.{text-printed}
use Rattle.pam_render.specs.parts.Policy.{IsPolicyBy, Line, lines_of}
use Rattle.pam_render.specs.parts.PolicyView.{host_view, rule_view, told_view}
use Rattle.pam_render.specs.parts.inner.Told.{IsToldOf}
use Rattle.pam_render.specs.declared.parts.policy.told.Told.{Told}
use Rattle.pam_render.proofs.parts.policy.write.write_policy.Goals as goal

-- the lines of what is told of a value are its text
text-is : (line : Line → List ℕ) (value : PolicyValue) (told : Told) → IsToldOf value told
    → IsPolicyBy line (Policy value)
    (Ok (lines_of line (host_view told.host) (map rule_view told.rules.items) (map told_view told.found.items) told.stacks))
text-is line value told h = rw (h.host, h.rules, h.found, h.stacks) refl

pub returns-in-Ok : goal.returns-in-Ok
returns-in-Ok g c =
    let value = policy_view c.args.reply.now in
    let line = g.L.PolicyLines.line in
    text-printed g.W.Write.contents (IsPolicyBy line) _ _ (Policy value) _ _ _ (text-is line value c.in-Ok.told c.in-Ok.ensures) c.with_write_fault.ensures
    c.write_told.ensures
