use Rattle.std.proofs.Common.{◌≡◌, ◌+◌, ◌++◌, ◌∙◌, ℕ, ap, arith, map, subst, sym}
use Rattle.pam_dispatch.specs.Flat.{modules_of, rest_of}
use Rattle.pam_dispatch.specs.Runs.{AsksRise, next_ask}
use Rattle.pam_paths.specs.declared.direction.Direction.TheVariants.{Forward}
use Rattle.pam_paths.specs.Classes.{least}
use Rattle.pam_paths.specs.Computed.{after_step, listing}
use Rattle.pam_paths.specs.Frames.{ahead_of}
use Rattle.pam_paths.proofs.Branches.{branch-ahead, nothing-ahead, offered_is}
use Rattle.pam_paths.proofs.Choices.{allowed-answer, chosen-least}
use Rattle.pam_paths.proofs.FrameLists.{rise_after}
use Rattle.pam_paths.proofs.fork.Fork.choice.Goals as goal

pub returns-in-Some-clause-paths : goal.returns-in-Some-clause-paths
returns-in-Some-clause-paths c allows is =
    let r = rest_of c.args.program.now c.args.self.now.place in
    let offered = c.args.self.now.classes.offered in
    let code = c.in-Some.code in
    let found = c.in-Some.ensures.found in
    branch-ahead Forward allows r (rest_of c.args.program.now c.step_on.new.place) c.args.self.now.module_number c.args.bound code
    c.class_of.result
    is.asking found.0 found.1
    (sym (offered_is allows r offered code is.offered found.1) ∙ found.2)
    (λ k low near nearer. sym (offered_is allows r offered k is.offered low) ∙ c.in-Some.ensures.before k near nearer)
    c.requires.bound
    c.class_of.ensures
    c.step_on.ensures.rest
    ∙ ap (λ (n : ℕ). map (after_step (record { module_number = c.args.self.now.module_number; class = c.class_of.result }))
    (listing allows (rest_of c.args.program.now c.step_on.new.place)) ++ ahead_of Forward allows r (n + 1)) (sym c.number.ensures.value)

pub class_of-requires-clause-first : goal.class_of-requires-clause-first
class_of-requires-clause-first c =
    let is = c.requires.fork.1 in
    omega (arith, (rise_after 0 (modules_of c.args.program.now) c.args.self.now.module_number 0 _ is.rise is.asking).0)

pub class_of-requires-clause-last : goal.class_of-requires-clause-last
class_of-requires-clause-last c =
    let is = c.requires.fork.1 in
    (rise_after 0 (modules_of c.args.program.now) c.args.self.now.module_number 0 _ is.rise is.asking).1

pub returns-in-None-clause-none : goal.returns-in-None-clause-none
returns-in-None-clause-none c allows is =
    let r = rest_of c.args.program.now c.args.self.now.place in
    nothing-ahead Forward allows r c.args.bound c.requires.bound
    (λ k low near. sym (offered_is allows r c.args.self.now.classes.offered k is.offered low) ∙ c.in-None.ensures.none k near)

pub returns-in-Some-clause-choice : goal.returns-in-Some-clause-choice
returns-in-Some-clause-choice c allows is =
    let r = rest_of c.args.program.now c.args.self.now.place in
    let m = c.args.self.now.module_number in
    let code = c.in-Some.code in
    let found = c.in-Some.ensures.found in
    let offered = sym (offered_is allows r c.args.self.now.classes.offered code is.offered found.1) ∙ found.2 in
    let answer = allowed-answer allows r (rest_of c.args.program.now c.step_on.new.place) m code is.asking offered c.step_on.ensures.rest in
    let k = rise_after 0 (modules_of c.args.program.now) m code _ is.rise is.asking in
    record {
      place = c.step_on.ensures.place;
      rise = subst (AsksRise m (modules_of c.args.program.now)) (sym c.step_on.ensures.rest) k.2;
      code = answer.0;
      is_code = answer.1;
      allowed = answer.2;
      rest = answer.3;
      class = c.class_of.ensures ∙ answer.4;
    }

pub returns-in-Some-clause-least : goal.returns-in-Some-clause-least
returns-in-Some-clause-least c =
    let r = rest_of c.args.program.now c.args.self.now.place in
    let is = c.requires.fork.1 in
    let code = c.in-Some.code in
    let found = c.in-Some.ensures.found in
    let offered = sym (offered_is c.requires.fork.0 r c.args.self.now.classes.offered code is.offered found.1) ∙ found.2 in
    let first : least c.class_of.result ≡ code = ap least c.class_of.ensures ∙ chosen-least c.requires.fork.0 (next_ask r) code offered in
    (omega (arith, first, found.0), omega (arith, first, c.number.ensures.value), omega (arith, found.1, c.number.ensures.value))
