use Rattle.pam_dispatch.proofs.ModuleParts.{AreCompleted}
use Rattle.pam_dispatch.proofs.program.module_parts.Given as goal

abbrev pub invariant-loop-flat_item : goal.invariant-loop-flat_item
invariant-loop-flat_item l = AreCompleted l.flat_items l.parts.items l.flat_item-index
