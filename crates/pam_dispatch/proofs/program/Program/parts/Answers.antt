use Rattle.std.proofs.Common.{arith, List, subst, sym}
use Rattle.pam_codes.specs.declared.parts.Part.{Part}
use Rattle.pam_codes.specs.Parts.{IsParts}
use Rattle.pam_dispatch.specs.Flat.{control_at, rest_of}
use Rattle.pam_dispatch.specs.Runs.{next_ask}
use Rattle.pam_dispatch.proofs.Controls.{control_asked, parts_within, parts_at, parts_asked}
use Rattle.pam_dispatch.proofs.program.Program.parts.Goals as goal

pub index-requires : goal.index-requires
index-requires c =
    let h = parts_within _ _ _ c.self.invariant c.self.view_is c.args.number c.requires.first c.requires.last in
    omega (arith, h, c.self.inside.parts.ok)

pub returns-clause-value : goal.returns-clause-value
returns-clause-value c =
    subst (λ (parts : List Part). IsParts (control_at c.args.self.now c.args.number) parts) (sym c.index.ensures)
    (parts_at _ _ _ c.self.invariant c.self.view_is c.args.number c.requires.first c.requires.last c.index.result.now)

pub returns-clause-asked : goal.returns-clause-asked
returns-clause-asked c = λ place valid asked.
    subst (λ (parts : List Part). IsParts (next_ask (rest_of c.args.self.now place)).control parts) (sym c.index.ensures)
    (parts_asked _ _ _ c.self.invariant c.self.view_is c.args.number c.requires.first c.requires.last c.index.result.now place valid asked)

pub returns-clause-control : goal.returns-clause-control
returns-clause-control c = control_asked _ _ _ c.self.invariant c.self.view_is c.args.number c.requires.first c.requires.last
