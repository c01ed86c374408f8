use Rattle.std.proofs.Common.{List, length, map, refl, subst}
use Rattle.pam_changes.specs.Changes.{stacks_asked}
use Rattle.pam_changes.specs.inner.Finding.{IsFound}
use Rattle.pam_changes.specs.Services.{service_text}
use Rattle.pam_changes.specs.Sides.{sides_view}
use Rattle.pam_changes.specs.declared.services.ComparedService.{ComparedService}
use Rattle.pam_changes.proofs.Stacked.{are-changes}
use Rattle.pam_changes.proofs.stacks.Comparer.changes.Goals as goal

pub returns : goal.returns
returns c =
    are-changes (sides_view c.args.self.now.sides.now) c.args.named.now c.args.kind c.in_ok-services.services.items c.in_ok-found.found _
    c.in_ok-services.ensures
    (subst (λ (l : List ComparedService). IsFound (sides_view c.args.self.now.sides.now) (map (λ s. (service_text s).name) l)
    (stacks_asked 0 (length l) c.args.kind) c.in_ok-found.found) c.deref.ensures.value c.in_ok-found.ensures)
    refl refl refl
