use Rattle.std.proofs.Common.{arith, sym}
use Rattle.pam_dispatch.specs.Flat.{modules_of, rest_of}
use Rattle.pam_paths.specs.declared.direction.Direction.TheVariants.{Forward}
use Rattle.pam_paths.proofs.FrameLists.{listing-ahead, rise_after}
use Rattle.pam_paths.proofs.fork.Fork.at.Goals as goal

pub at-classes-requires-clause-first : goal.at-classes-requires-clause-first
at-classes-requires-clause-first g c =
    let k = rise_after 0 (modules_of c.args.program.now) c.args.module_number 0 _ c.requires.rise c.requires.asking in omega (arith, k.0)

pub at-classes-requires-clause-last : goal.at-classes-requires-clause-last
at-classes-requires-clause-last g c =
    (rise_after 0 (modules_of c.args.program.now) c.args.module_number 0 _ c.requires.rise c.requires.asking).1

pub returns-clause-fork : goal.returns-clause-fork
returns-clause-fork g c = record {
  place = c.requires.place;
  asking = c.requires.asking;
  rise = c.requires.rise;
  offered = c.at-classes.ensures.offered;
  classes = c.at-classes.ensures.classes;
}

pub returns-clause-paths : goal.returns-clause-paths
returns-clause-paths g c =
    let allows = g.K.Knowledge.allows c.args.knowledge.now in
    sym (listing-ahead Forward allows (rest_of c.args.program.now c.args.place.now) c.args.module_number c.requires.asking)
