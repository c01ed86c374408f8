use Rattle.std.proofs.Common.{List, ap, map, subst, ℕ}
use Rattle.pam_text.specs.Members.{Member}
use Rattle.pam_tables.specs.Options.{Options, options_of}
use Rattle.pam_findings.specs.tables.Needs.{OfAccess}
use Rattle.pam_findings.specs.tables.inner.Passes.{need_view}
use Rattle.pam_findings.specs.declared.tables.needs.Needed.{Needed}
use Rattle.pam_findings.proofs.TablesProofs.Adding.{adds-known, adds-pushed}
use Rattle.pam_findings.proofs.tables.needs.add_access.Goals as goal

pub returns-then-has_access : goal.returns-then-has_access
returns-then-has_access c =
    let known : Member (OfAccess c.of.result) (map need_view c.args.needs.now.items) =
    subst (λ (l : List Needed). Member (OfAccess c.of.result) (map need_view l)) c.deref.ensures.value (c.has_access.ensures c.if-has_access.true) in
    adds-known (OfAccess (options_of c.args.arguments.now)) (map need_view c.args.needs.now.items)
    (subst (λ (o : Options). Member (OfAccess o) (map need_view c.args.needs.now.items)) c.of.ensures known)

pub returns : goal.returns
returns c =
    adds-pushed _ (OfAccess (options_of c.args.arguments.now)) c.args.needs.now.items c.push.new.self.items c.in_ok-push.ensures.items
    (ap (λ (l : List (List ℕ)). OfAccess (options_of l)) c.in_ok-copy.ensures)
