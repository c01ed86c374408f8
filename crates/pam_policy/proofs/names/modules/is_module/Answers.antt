use Rattle.std.proofs.Common.{◌∙◌, ◌||◌, Bool, ap, sym}
use Rattle.pam_policy.specs.names.Host.{CallText, call_view, host_view}
use Rattle.pam_policy.specs.names.Misnamed.{is_known}
use Rattle.pam_policy.specs.names.Placed.{placed_view, speaks_of}
use Rattle.pam_policy.proofs.NamesProofs.Rests.{any_seen}
use Rattle.pam_policy.proofs.names.modules.is_module.Goals as goal

pub returns-then-is_called : goal.returns-then-is_called
returns-then-is_called c =
    let placed = placed_view c.args.placed.now in
    let called = c.is_called.ensures ∙ any_seen (λ (call : CallText). speaks_of placed call.path) call_view c.args.host.now.calls.now in
    c.if-is_called.true ∙ ap (λ (b : Bool). b || is_known (host_view c.args.host.now) placed) (sym c.if-is_called.true ∙ called)

pub returns-else-is_called : goal.returns-else-is_called
returns-else-is_called c =
    let placed = placed_view c.args.placed.now in
    let called = c.is_called.ensures ∙ any_seen (λ (call : CallText). speaks_of placed call.path) call_view c.args.host.now.calls.now in
    c.is_known.ensures ∙ ap (λ (b : Bool). b || is_known (host_view c.args.host.now) placed) (sym c.if-is_called.false ∙ called)
