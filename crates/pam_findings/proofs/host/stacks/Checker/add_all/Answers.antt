use Rattle.std.proofs.Common.{◌≡◌, ◌∙◌, ◌++◌, ◌≤◌, ◌∷◌, [], List, Option, arith, drop, length, subst, sym, ℕ}
use Rattle.pam_findings.specs.host.inner.Besides.{beside_text}
use Rattle.pam_findings.specs.host.inner.Checking.{AddsService}
use Rattle.pam_findings.specs.host.inner.SoFar.{SoFar, host_with}
use Rattle.pam_findings.specs.declared.host.way_in.WayIn.{WayIn}
use Rattle.pam_findings.proofs.HostProofs.OneService.{next-left, none-left, take-service}
use Rattle.pam_findings.proofs.host.stacks.Checker.add_all.Goals as goal

pub loop-name-preserved : goal.loop-name-preserved
loop-name-preserved c =
    let services = c.args.services.now in
    let files = c.args.self.now.files.now in
    let modules = c.args.self.now.modules.now in
    let host = host_with files c.args.self.now.vendor_start services modules in
    let ways = c.loop-name.ways_in.items in
    let n = length ways in
    let name = c.in-Some.name.now in
    let old = c.loop-name.found in
    let new = c.add_service.new.found in
    let way = c.in_ok-way.way in
    let next = next-left services n name c.next.new.self (c.loop-name.invariant.left ∙ c.in-Some.ensures.steps) in
    let number = c.len.ensures ∙ c.loop-name.ways_in.ok.0 in
    let other = beside_text c.args.self.now.beside.now in
    let adds = subst (λ (l : List ℕ). AddsService files modules other n l old new way) (sym next.0)
    (subst (λ (m : ℕ). AddsService files modules other m name old new way) number c.in_ok-way.ensures.adds) in
    let taken = take-service host n old new ways way c.loop-name.invariant.taken other c.requires.beside adds in
    let pushed = c.in_ok-push.ensures.items in
    let counted = subst (λ (m : ℕ). SoFar host m new (ways ++ way ∷ [])) (sym taken.count) taken in
    record {
      taken = subst (λ (l : List (Option WayIn)). SoFar host (length l) new l) (sym pushed) counted;
      within = subst (λ (l : List (Option WayIn)). length l ≤ length services) (sym pushed) (omega (arith, next.2, taken.count));
      known = c.in_ok-way.ensures.known;
      left = subst (λ (l : List (Option WayIn)). drop (length l) services ≡ c.next.new.self) (sym pushed)
          (subst (λ (m : ℕ). drop m services ≡ c.next.new.self) (sym taken.count) next.1);
    }

pub returns : goal.returns
returns c =
    let services = c.args.services.now in
    let n = length c.loop-name.ways_in.items in
    let low = none-left services n (c.loop-name.invariant.left ∙ c.in-None.ensures.steps.0) in
    let same : n ≡ length services = omega (arith, low, c.loop-name.invariant.within) in
    let host = host_with c.args.self.now.files.now c.args.self.now.vendor_start services c.args.self.now.modules.now in
    subst (λ (m : ℕ). SoFar host m c.loop-name.found c.loop-name.ways_in.items) same c.loop-name.invariant.taken
