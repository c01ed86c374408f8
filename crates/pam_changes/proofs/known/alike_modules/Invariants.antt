use Rattle.std.proofs.Common.{◌≡◌, ◌∷◌, None, map}
use Rattle.std.specs.List.{range_with_len}
use Rattle.pam_changes.specs.Known.{alike_partner}
use Rattle.pam_changes.specs.Sides.{sides_view}
use Rattle.pam_changes.proofs.known.alike_modules.Given as goal

abbrev pub invariant-loop-index : goal.invariant-loop-index
invariant-loop-index l =
    l.partners.items
    ≡ None ∷ map (alike_partner (sides_view l.sides) l.stacks.kind l.stacks.old.now l.stacks.new.now l.matching) (range_with_len 1 l.index)
