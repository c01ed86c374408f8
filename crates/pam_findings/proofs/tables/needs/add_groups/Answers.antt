use Rattle.std.proofs.Common.{List, map, refl, subst}
use Rattle.pam_text.specs.Members.{Member}
use Rattle.pam_findings.specs.tables.Needs.{OfGroups}
use Rattle.pam_findings.specs.tables.inner.Passes.{need_view}
use Rattle.pam_findings.specs.declared.tables.needs.Needed.{Needed}
use Rattle.pam_findings.proofs.TablesProofs.Adding.{adds-known, adds-pushed}
use Rattle.pam_findings.proofs.tables.needs.add_groups.Goals as goal

pub returns-then-has_groups : goal.returns-then-has_groups
returns-then-has_groups c =
    adds-known OfGroups (map need_view c.args.needs.now.items)
    (subst (λ (l : List Needed). Member OfGroups (map need_view l)) c.deref.ensures.value (c.has_groups.ensures c.if-has_groups.true))

pub returns : goal.returns
returns c = adds-pushed _ OfGroups c.args.needs.now.items c.push.new.self.items c.in_ok-push.ensures.items refl
