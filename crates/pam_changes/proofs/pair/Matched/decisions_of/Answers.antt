use Rattle.std.proofs.Common.{List, Option, ℕ, subst}
use Rattle.std.proofs.lemmas.Result.{IfOk-weaker}
use Rattle.pam_paths.specs.Known.{may_answer}
use Rattle.pam_changes.specs.Pairs.{AreDecisions, IsCompared}
use Rattle.pam_changes.specs.Sides.{sides_view}
use Rattle.pam_changes.proofs.pair.Matched.decisions_of.Goals as goal

pub returns-in-Ok : goal.returns-in-Ok
returns-in-Ok c =
    let self = c.args.self.now in
    let old = c.known_answers-old_known.result in
    let new = c.known_answers-new_known.result in
    let program = c.args.old.now in
    let changed = c.args.new.now in
    IfOk-weaker c.decisions.result (AreDecisions (may_answer old) (may_answer new) program changed c.in_ok-matching.matching)
    (IsCompared (sides_view c.args.sides.now) self.kind self.old.now self.new.now self.matching.now)
    (λ told are. record {
      old_known = old;
      new_known = new;
      old_allows = c.known_answers-old_known.ensures;
      new_allows = c.known_answers-new_known.ensures;
      old_program = program;
      new_program = changed;
      of_old = c.requires.old;
      of_new = c.requires.new;
      decisions = subst (λ (partners : List (Option ℕ)). AreDecisions (may_answer old) (may_answer new) program changed partners told)
          c.in_ok-matching.ensures are;
    })
    (c.decisions.ensures (may_answer old) (may_answer new) c.in-Ok.ensures)
