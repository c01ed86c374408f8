use Rattle.std.proofs.Common.{◌≡◌, ◌∙◌, List, Some, ap, arith, length, map, subst, sym, ℕ}
use Rattle.std.specs.Option.{option_map}
use Rattle.std.proofs.lemmas.Option.{slice_get-map}
use Rattle.pam_conf.specs.declared.rule.Kind.{Kind}
use Rattle.pam_changes.specs.Changes.{stacks_asked}
use Rattle.pam_changes.specs.inner.Finding.{IsFound}
use Rattle.pam_changes.specs.Services.{service_text}
use Rattle.pam_changes.specs.Sides.{sides_view}
use Rattle.pam_changes.specs.declared.services.ComparedService.{ComparedService}
use Rattle.pam_changes.proofs.Stacked.{found-none, stacks-more}
use Rattle.pam_changes.proofs.stacks.Comparer.found.Goals as goal

pub loop-position-init : goal.loop-position-init
loop-position-init c =
    found-none (sides_view c.args.self.now.sides.now) (map (λ s. (service_text s).name) c.args.services.now) c.args.kind c.nothing-found.result
    c.nothing-found.ensures.stacks c.nothing-found.ensures.pairs

pub loop-position-preserved : goal.loop-position-preserved
loop-position-preserved c =
    let services = c.args.services.now in
    let name : ComparedService → List ℕ = λ s. (service_text s).name in
    let position = c.loop-position.position in
    let there = slice_get-map name services position ∙ ap (option_map name) c.service_at-service.ensures
    ∙ ap (λ (n : List ℕ). Some n) (sym c.deref.ensures.value) in
    subst (λ (l : List (ℕ × Kind)). IsFound (sides_view c.args.self.now.sides.now) (map name services) l c.add_service.new.found)
    (stacks-more c.args.kind position)
    (c.in_ok-add_service.ensures (map name services) (stacks_asked 0 position c.args.kind) there c.loop-position.invariant)

pub returns : goal.returns
returns c =
    let services = c.args.services.now in
    let all : c.loop-position.position ≡ length services = omega (arith, c.loop-position-test.false, c.loop-position.auto.position-end) in
    subst (λ (n : ℕ). IsFound (sides_view c.args.self.now.sides.now) (map (λ s. (service_text s).name) services)
    (stacks_asked 0 n c.args.kind) c.loop-position.found)
    all c.loop-position.invariant
