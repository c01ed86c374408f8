use Rattle.std.proofs.Common.{IfSome, None, Option, Some, slice_index_or, subst, ◌≡◌}
use Rattle.pam_findings.specs.declared.host.alone.Alone.{Alone}
use Rattle.pam_findings.proofs.host.alone.find_alone.Goals as goal

pub returns-in-Some-clause-is : goal.returns-in-Some-clause-is
returns-in-Some-clause-is c =
    let Is : Option Alone → Type 0 = λ o. IfSome o (λ a. slice_index_or c.args.table.now.items c.slot_of-slot.result None ≡ Some a) in
    c.requires.known c.slot_of-slot.result c.in-Some.known (subst Is c.in-Some.is c.known_in.ensures.is)

pub returns-clause-known : goal.returns-clause-known
returns-clause-known c =
    c.note.ensures c.args.checker.now.rules.now c.args.checker.now.modules.now c.in_ok-found.ensures.is c.requires.known
