use Rattle.std.proofs.Common.{◌≡◌, ◌≤◌, arith, length, sym}
use Rattle.pam_conf.proofs.ServiceSteps.{seen-of}
use Rattle.pam_report.proofs.ReleasedRules.{files_before, here, later, nowhere}
use Rattle.pam_report.proofs.report.released.position.Goals as goal

pub returns-then-eq : goal.returns-then-eq
returns-then-eq c =
    sym (here c.args.name.now c.unwrap-known.result.now c.args.files.now.entries c.loop-position.position
    (seen-of _ c.name.result c.unwrap-known.result _ c.name.ensures c.unwrap-known.ensures) (sym c.if-eq.ensures) c.loop-position.invariant)

pub loop-position-preserved : goal.loop-position-preserved
loop-position-preserved c =
    later c.args.name.now c.unwrap-known.result.now c.args.files.now.entries c.loop-position.position
    (seen-of _ c.name.result c.unwrap-known.result _ c.name.ensures c.unwrap-known.ensures) (sym c.if-eq.ensures) c.loop-position.invariant

pub returns : goal.returns
returns c =
    let entries = c.args.files.now.entries in
    let passed : c.loop-position.position ≤ files_before c.args.name.now entries = c.loop-position.invariant in
    let all : length entries ≡ c.len-position-end.result = sym c.len-position-end.ensures in
    let none : length entries ≤ files_before c.args.name.now entries = omega (arith, passed, all, c.loop-position-test.false) in
    sym (nowhere c.args.name.now entries none)
