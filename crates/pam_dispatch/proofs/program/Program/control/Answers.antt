use Rattle.std.proofs.Common.{arith}
use Rattle.pam_dispatch.proofs.Controls.{number_within, position_within, found_no_substack, found_control, found_asked}
use Rattle.pam_dispatch.proofs.program.Program.control.Goals as goal

pub index-requires : goal.index-requires
index-requires c =
    let h = number_within _ _ _ c.self.invariant c.self.view_is c.args.number c.requires.first c.requires.last in
    omega (arith, h, c.self.inside.positions.ok)

pub index-requires-2 : goal.index-requires-2
index-requires-2 c =
    let h = position_within _ _ _ c.self.invariant c.self.view_is c.args.number c.requires.first c.requires.last _ c.index.ensures in
    omega (arith, h, c.self.inside.flat_items.ok)

pub unreachable-requires : goal.unreachable-requires
unreachable-requires c =
    found_no_substack _ _ _ c.self.invariant c.self.view_is c.args.number c.requires.first c.requires.last _ c.index.ensures
    _ c.index-2.ensures _ c.in-Substack.is

pub returns-clause-value : goal.returns-clause-value
returns-clause-value c =
    found_control _ _ _ c.self.invariant c.self.view_is c.args.number c.requires.first c.requires.last _ c.index.ensures
    _ c.index-2.ensures _ _ _ _ c.in-Module.is

pub returns-clause-asked : goal.returns-clause-asked
returns-clause-asked c =
    found_asked _ _ _ c.self.invariant c.self.view_is c.args.number c.requires.first c.requires.last _ c.index.ensures
    _ c.index-2.ensures _ _ _ _ c.in-Module.is
