use Rattle.std.proofs.Common.{map}
use Rattle.pam_changes.specs.Changes.{stacks_asked}
use Rattle.pam_changes.specs.inner.Finding.{IsFound}
use Rattle.pam_changes.specs.Services.{service_text}
use Rattle.pam_changes.specs.Sides.{sides_view}
use Rattle.pam_changes.proofs.stacks.Comparer.found.Given as goal

-- what is found of the services so far
abbrev pub invariant-loop-position : goal.invariant-loop-position
invariant-loop-position l =
    IsFound (sides_view l.self.sides.now) (map (λ s. (service_text s).name) l.services) (stacks_asked 0 l.position l.kind) l.found
