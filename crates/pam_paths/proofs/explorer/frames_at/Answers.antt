use Rattle.std.proofs.Common.{arith}
use Rattle.pam_dispatch.specs.Flat.{modules_of, runs_of}
use Rattle.pam_paths.specs.Frames.{ahead, coming}
use Rattle.pam_paths.proofs.Ends.{exploring_on, from_on, verdict_on}
use Rattle.pam_paths.proofs.Trees.{verdict-tree}
use Rattle.pam_paths.proofs.explorer.frames_at.Goals as goal

pub returns-clause-verdict : goal.returns-clause-verdict
returns-clause-verdict g c =
    verdict_on (modules_of c.args.scope.now.program.now) (runs_of c.args.scope.now.program.now) c.codes.result.now c.args.cursor.now c.codes.ensures.value
    c.retrace.ensures.rise c.retrace.result c.codes.ensures.codes c.retrace.ensures.verdict

pub returns-clause-tree : goal.returns-clause-tree
returns-clause-tree g c items is = verdict-tree _ _ items is c.args.cursor.now c.retrace.result (returns-clause-verdict g c)

pub returns-clause-exploring : goal.returns-clause-exploring
returns-clause-exploring g c = exploring_on c.retrace.result _ _ _ c.retrace.ensures.few c.retrace.ensures.frames

pub returns-clause-listing : goal.returns-clause-listing
unfolding coming
returns-clause-listing g c direction =
    let allows = g.K.Knowledge.allows c.args.scope.now.knowledge.now in
    from_on (modules_of c.args.scope.now.program.now) (runs_of c.args.scope.now.program.now) c.codes.result.now c.args.cursor.now c.codes.ensures.value
    c.retrace.ensures.rise allows (λ d. ahead d allows c.args.scope.now.program.now c.retrace.new.frames.items)
    (λ m first last. g.met.K.Knowledge.lawful c.args.scope.now.knowledge.now m first (omega (arith, last, c.retrace.ensures.few)))
    c.retrace.result c.retrace.ensures.verdict c.retrace.ensures.paths direction
