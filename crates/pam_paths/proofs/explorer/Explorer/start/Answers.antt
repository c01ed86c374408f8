use Rattle.std.proofs.Common.{◌≤◌, arith, subst, sym}
use Rattle.pam_dispatch.specs.Flat.{modules_of, runs_of}
use Rattle.pam_paths.specs.Frames.{coming}
use Rattle.pam_paths.specs.inner.Frames.{AreFrames}
use Rattle.pam_paths.proofs.Listings.{listing-is, some_assignment}
use Rattle.pam_paths.proofs.Tails.{no-steps}
use Rattle.pam_paths.proofs.Trees.{listing-tree}
use Rattle.pam_paths.proofs.explorer.Explorer.start.Goals as goal

pub invariant_of-result : goal.invariant_of-result
unfolding AreFrames
invariant_of-result g c =
    let program = c.args.program.now in
    let allows = g.K.Knowledge.allows c.args.knowledge.now in (
      record {
        few = omega (arith, c.modules-modules.ensures.count, c.modules-modules.ensures.most);
        valid = subst (λ x. AreFrames allows program 0 x) (sym c.new.ensures) tt;
        start = λ at_start. c.new.ensures;
      },
      no-steps c.empty.result.steps c.new.result.items c.empty.ensures,
      c.new-2.ensures allows program,
      omega arith,
    )

pub returns-clause-listing : goal.returns-clause-listing
unfolding coming
returns-clause-listing g c =
    let allows = g.K.Knowledge.allows c.args.knowledge.now in
    let n = modules_of c.args.program.now in
    let few : n ≤ 256 = omega (arith, c.modules-modules.ensures.count, c.modules-modules.ensures.most) in
    let a = some_assignment allows n (λ m first last. g.met.K.Knowledge.lawful c.args.knowledge.now m first (omega (arith, last, few))) in
    listing-is allows n (runs_of c.args.program.now) c.modules-modules.ensures.rise a.0 a.1

pub returns-clause-stack : goal.returns-clause-stack
returns-clause-stack g c items is = listing-tree _ _ _ items is _ (returns-clause-listing g c)
