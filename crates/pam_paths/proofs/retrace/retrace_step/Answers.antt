use Rattle.std.proofs.Common.{◌∙◌, ℕ, List, ap, arith, subst, sym}
use Rattle.pam_codes.specs.Set.{IsCodeSet}
use Rattle.pam_dispatch.specs.declared.place.Place.{Place}
use Rattle.pam_dispatch.specs.Flat.{rest_of}
use Rattle.pam_dispatch.specs.Runs.{next_ask}
use Rattle.pam_paths.specs.declared.classes.Classes.{Classes}
use Rattle.pam_paths.specs.Classes.{class_of}
use Rattle.pam_paths.specs.Frames.{AreClasses}
use Rattle.pam_paths.specs.Paths.{StepValue}
use Rattle.pam_paths.proofs.Branches.{offered_is, ask_number}
use Rattle.pam_paths.proofs.Sets.{where-is_set}
use Rattle.pam_paths.proofs.retrace.retrace_step.Goals as goal

abbrev step_at : ℕ → List ℕ → StepValue
step_at m class = record { module_number = m; class = class }

pub returns-clause-step : goal.returns-clause-step
returns-clause-step g c =
    let program = c.args.scope.now.program.now in
    let ask = next_ask (rest_of program c.args.place) in
    let f = c.following.ensures in
    ap (λ (x : ℕ). step_at x c.following.result.class)
    (f.number ∙ c.at-frame.ensures.number ∙ ask_number (rest_of program c.args.place) c.args.module_number c.requires.asking)
    ∙ ap (step_at ask.module_number)
    (f.class ∙ c.branch-branch.ensures.class ∙ ap (λ (x : Place). class_of (next_ask (rest_of program x)) c.args.code) c.at-frame.ensures.place)

pub returns-clause-offered : goal.returns-clause-offered
returns-clause-offered g c =
    c.contains.ensures
    ∙ offered_is (g.K.Knowledge.allows c.args.scope.now.knowledge.now) (rest_of c.args.scope.now.program.now c.args.place)
    c.at-frame.result.classes.offered c.args.code
    (ap (λ (k : Classes). k.offered) c.at-frame.ensures.classes
    ∙ c.at-classes.ensures.offered (g.K.Knowledge.allows c.args.scope.now.knowledge.now) c.allowed-allowed.ensures) (omega (arith, c.number.ensures))

pub branch-branch-requires-clause-classes : goal.branch-branch-requires-clause-classes
branch-branch-requires-clause-classes g c =
    subst (λ (x : Place). AreClasses (next_ask (rest_of c.args.scope.now.program.now x)) c.at-frame.result.classes) (sym c.at-frame.ensures.place)
    (subst (λ (k : Classes). AreClasses (next_ask (rest_of c.args.scope.now.program.now c.args.place)) k) (sym c.at-frame.ensures.classes)
    c.at-classes.ensures.classes)

pub at-classes-requires-clause-allowed : goal.at-classes-requires-clause-allowed
at-classes-requires-clause-allowed g c =
    subst IsCodeSet (sym c.allowed-allowed.ensures) (where-is_set (g.K.Knowledge.allows c.args.scope.now.knowledge.now c.args.module_number))
