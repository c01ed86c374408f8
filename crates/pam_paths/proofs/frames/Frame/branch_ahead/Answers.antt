use Rattle.std.proofs.Common.{◌≡◌, ◌∙◌, ℕ, sym, ap, subst, arith}
use Rattle.pam_codes.specs.Set.{is_in}
use Rattle.pam_dispatch.specs.Flat.{rest_of}
use Rattle.pam_dispatch.specs.Runs.{after_answer, next_ask}
use Rattle.pam_paths.specs.Classes.{class_of}
use Rattle.pam_paths.specs.inner.Directions.{IsAhead, IsNearer}
use Rattle.pam_paths.proofs.Branches.{branch-ahead, nothing-ahead, offered_is}
use Rattle.pam_paths.proofs.frames.Frame.branch_ahead.Goals as goal

pub returns-in-Some-clause-paths : goal.returns-in-Some-clause-paths
returns-in-Some-clause-paths c allows is =
    let r = rest_of c.args.program.now c.args.self.now.place in
    let d = c.args.direction in
    let offered = c.args.self.now.classes.offered in
    let b = c.branch-self.ensures in
    let found = c.in-Some.ensures.found in
    let e : c.branch-self.result.code ≡ c.in-Some.code = b.code in
    branch-ahead d allows r (rest_of c.args.program.now c.branch-self.new.place) c.args.self.now.module_number c.args.bound c.branch-self.result.code
    c.branch-self.result.class
    c.requires.asking
    (subst (IsAhead d c.args.bound) (sym e) found.0)
    (omega (arith, found.1, e))
    (sym (offered_is allows r offered c.branch-self.result.code is (omega (arith, found.1, e))) ∙ ap (λ (x : ℕ). is_in x offered) e ∙ found.2)
    (λ k low near nearer. sym (offered_is allows r offered k is low) ∙ c.in-Some.ensures.nearest k near (subst (IsNearer d k) e nearer))
    c.requires.bound
    (b.class ∙ ap (class_of (next_ask r)) (sym e))
    (b.rest ∙ ap (after_answer r) (sym e))

pub returns-in-None-clause-none : goal.returns-in-None-clause-none
returns-in-None-clause-none c allows is =
    let r = rest_of c.args.program.now c.args.self.now.place in
    nothing-ahead c.args.direction allows r c.args.bound c.requires.bound
    (λ k low near. sym (offered_is allows r c.args.self.now.classes.offered k is low) ∙ c.in-None.ensures.none k low near)
