use Rattle.std.proofs.Common.{ap, arith, List}
use Rattle.pam_dispatch.specs.declared.flat_item.FlatItem.{FlatItem}
use Rattle.pam_dispatch.specs.Flat.{modules_of}
use Rattle.pam_dispatch.proofs.Controls.{length-positions}
use Rattle.pam_dispatch.proofs.Numbering.{AsksRise-runs_of}
use Rattle.pam_dispatch.proofs.program.Program.modules.Goals as goal

pub returns-clause-count : goal.returns-clause-count
returns-clause-count c =
    let all = length-positions _ _ _ c.self.invariant c.self.view_is in
    omega (arith, c.len.ensures, c.self.inside.positions.ok, all)

pub returns-clause-most : goal.returns-clause-most
returns-clause-most c =
    let all = length-positions _ _ _ c.self.invariant c.self.view_is in
    let same = ap (λ (ts : List FlatItem). modules_of ts) c.self.view_is in
    omega (arith, c.len.ensures, c.self.inside.positions.ok, all, same, c.self.invariant.few)

pub returns-clause-rise : goal.returns-clause-rise
returns-clause-rise c = rw (← c.self.view_is) (AsksRise-runs_of _ c.self.invariant.numbered)
