use Rattle.std.proofs.Common.{◌≡◌, ℕ, None, arith, length, subst}
use Rattle.pam_findings.specs.host.inner.Linked.{IsFirstLink}
use Rattle.pam_findings.specs.host.inner.Table.{Puts, with_met}
use Rattle.pam_findings.proofs.HostProofs.Linked.{links-all, links-more, links-start}
use Rattle.pam_findings.proofs.host.links.put_links.Goals as goal

pub loop-position-init : goal.loop-position-init
loop-position-init c = links-start c.args.outside.now c.args.table.now

pub loop-position-preserved : goal.loop-position-preserved
loop-position-preserved c =
    links-more c.args.outside.now c.loop-position.position c.args.table.now c.loop-position.table c.put_link.new.table
    c.loop-position.invariant c.in_ok-put_link.ensures

pub returns : goal.returns
returns c =
    let all : c.loop-position.position ≡ length c.args.outside.now = omega (arith, c.loop-position-test.false, c.loop-position.auto.position-end) in
    links-all c.args.outside.now c.args.table.now c.loop-position.table
    (subst (λ (n : ℕ). Puts (IsFirstLink c.args.outside.now n) (with_met None) c.args.table.now c.loop-position.table) all c.loop-position.invariant)
