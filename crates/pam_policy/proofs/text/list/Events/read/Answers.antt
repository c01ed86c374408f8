use Rattle.std.proofs.Common.{◌∙◌, Ok, ap, map, refl, sym}
use Rattle.std.proofs.lemmas.Result.{err_from_is_err_and}
use Rattle.pam_policy.specs.declared.text.place.Joint.{Joint}
use Rattle.pam_policy.specs.text.Events.{event_view}
use Rattle.pam_policy.specs.text.Lists.{events_of, with_joint}
use Rattle.pam_policy.proofs.TextProofs.FaultSteps.{fails_as, next_fails, told}
use Rattle.pam_policy.proofs.TextProofs.ListSteps.{ends_here, fails_here, first_fails, goes_further, list_fails, list_read, one_event, shorter}
use Rattle.pam_policy.proofs.text.list.Events.read.Goals as goal

pub returns-in_err-word : goal.returns-in_err-word
unfolding events_of
returns-in_err-word c =
    let error = err_from_is_err_and c.from_residual.result c.from_residual.ensures.1 in
    rw (error.1, error.2) (told _ _ (next_fails (events_of c.args.place) _ _ refl c.in_err-word.ensures))

pub returns-in_err-first : goal.returns-in_err-first
returns-in_err-first c =
    let error = err_from_is_err_and c.from_residual-in_err-first.result c.from_residual-in_err-first.ensures.1 in
    rw (error.1, error.2)
    (fails_as _ _ _ c.in_err-first.ensures (λ is. first_fails c.args.place _ _ _ _ _ c.in_ok-word.ensures c.bare_codes.ensures is))

pub returns-in_err-read_joined : goal.returns-in_err-read_joined
returns-in_err-read_joined c =
    let error = err_from_is_err_and c.from_residual-in_err-read_joined.result c.from_residual-in_err-read_joined.ensures.1 in
    rw (error.1, error.2)
    (fails_as _ _ _ c.in_err-read_joined.ensures (λ is.
    list_fails c.args.place c.list_joint-joint.result c.args.words.now c.next.new.self c.in_ok-word.word.now c.bare_codes.result
    (event_view c.in_ok-first.first) (map event_view c.push.new.self.items) c.in_ok-word.ensures c.bare_codes.ensures c.in_ok-first.ensures
    c.list_joint-joint.ensures (one_event _ _ _ c.in_ok-push.ensures.items c.new-events.ensures.items)
    _ (sym c.joined.invariant ∙ fails_here c.args.place c.list_joint-joint.result (map event_view c.joined.events.items) c.joined.words _ is)))

pub joined-smaller : goal.joined-smaller
joined-smaller c =
    shorter c.args.place c.list_joint-joint.result (map event_view c.joined.events.items) (map event_view c.read_joined.new.events.items) c.joined.words
    c.read_joined.new.words (rw c.if-branch.true at c.in_ok-read_joined.ensures)

pub joined-preserved : goal.joined-preserved
joined-preserved c =
    goes_further c.args.place c.list_joint-joint.result (map event_view c.joined.events.items) (map event_view c.read_joined.new.events.items)
    c.joined.words c.read_joined.new.words (rw c.if-branch.true at c.in_ok-read_joined.ensures)
    ∙ c.joined.invariant

pub returns-in-Or : goal.returns-in-Or
returns-in-Or c =
    list_read c.args.place c.list_joint-joint.result c.args.words.now c.next.new.self c.in_ok-word.word.now c.bare_codes.result
    (event_view c.in_ok-first.first) (map event_view c.push.new.self.items) c.in_ok-word.ensures c.bare_codes.ensures c.in_ok-first.ensures
    c.list_joint-joint.ensures (one_event _ _ _ c.in_ok-push.ensures.items c.new-events.ensures.items)
    (map event_view c.read_joined.new.events.items) c.read_joined.new.words
    (sym c.joined.invariant ∙ ends_here c.args.place c.list_joint-joint.result (map event_view c.joined.events.items)
    (map event_view c.read_joined.new.events.items) c.joined.words c.read_joined.new.words (rw c.if-branch.false at c.in_ok-read_joined.ensures))
    ∙ ap (λ (j : Joint). Ok (with_joint j (map event_view c.read_joined.new.events.items), c.read_joined.new.words)) c.in-Or.is

pub returns-in-And : goal.returns-in-And
returns-in-And c =
    list_read c.args.place c.list_joint-joint.result c.args.words.now c.next.new.self c.in_ok-word.word.now c.bare_codes.result
    (event_view c.in_ok-first.first) (map event_view c.push.new.self.items) c.in_ok-word.ensures c.bare_codes.ensures c.in_ok-first.ensures
    c.list_joint-joint.ensures (one_event _ _ _ c.in_ok-push.ensures.items c.new-events.ensures.items)
    (map event_view c.read_joined.new.events.items) c.read_joined.new.words
    (sym c.joined.invariant ∙ ends_here c.args.place c.list_joint-joint.result (map event_view c.joined.events.items)
    (map event_view c.read_joined.new.events.items) c.joined.words c.read_joined.new.words (rw c.if-branch.false at c.in_ok-read_joined.ensures))
    ∙ ap (λ (j : Joint). Ok (with_joint j (map event_view c.read_joined.new.events.items), c.read_joined.new.words)) c.in-And.is
