use Rattle.std.proofs.Common.{◌≡◌, ◌∙◌, List, None, ap, arith, length, suc, sym, ℕ}
use Rattle.std.proofs.lemmas.Result.{err_from_is_err_and}
use Rattle.std.specs.Option.{unwrap_or}
use Rattle.pam_facts.proofs.KnownProofs.AccessSteps.{decide_after, decide_all, decide_done, decide_fails, decide_next, ok_of}
use Rattle.pam_facts.specs.declared.known.access.AccessDecision.{AccessDecision}
use Rattle.pam_tables.specs.Login.{login_view}
use Rattle.pam_facts.proofs.known.access.decide_access.Goals as goal

pub loop-index-init : goal.loop-index-init
loop-index-init c =
    let login = login_view c.args.login.now in
    let same : length c.iter-bytes-items.result ≡ length c.args.tables.now = ap length c.iter-bytes-items.ensures in (
      tt,
      tt,
      omega (arith, same, c.len-count.ensures),
      ap (λ (left : List (List ℕ)). decide_after login c.args.groups.now c.args.options.now 0 None left) c.iter-bytes-items.ensures
          ∙ decide_all login c.args.groups.now c.args.options.now c.args.tables.now,
    )

pub loop-index-preserved : goal.loop-index-preserved
loop-index-preserved c =
    let so_far = c.loop-index.invariant in
    let steps = c.in-Some.ensures.steps in
    let fewer : length c.loop-index.bytes-iterator ≡ suc (length c.next.new.self) = ap length steps in (
      tt,
      tt,
      omega (arith, so_far.2, fewer),
      decide_next (login_view c.args.login.now) c.args.groups.now c.args.options.now c.loop-index.index c.loop-index.decided
          c.decided_after-decided.result c.in-Some.bytes.now c.loop-index.bytes-iterator c.next.new.self c.in_ok-answer.answer _ steps
          c.in_ok-answer.ensures.answer c.decided_after-decided.ensures so_far.3,
    )

pub returns-in_err-answer-clause-decision : goal.returns-in_err-answer-clause-decision
returns-in_err-answer-clause-decision c =
    let p = err_from_is_err_and c.from_residual.result c.from_residual.ensures.1 in
    rw (p.1, p.2) (decide_fails (login_view c.args.login.now) c.args.groups.now c.args.options.now c.loop-index.index c.loop-index.decided
    c.in-Some.bytes.now c.loop-index.bytes-iterator c.next.new.self c.in_err-answer.field-0.0 _ c.in-Some.ensures.steps c.in_err-answer.ensures.answer
    c.loop-index.invariant.3)

pub returns-clause-decision : goal.returns-clause-decision
returns-clause-decision c =
    decide_done (login_view c.args.login.now) c.args.groups.now c.args.options.now c.loop-index.index c.loop-index.decided c.loop-index.bytes-iterator _
    c.in-None.ensures.steps.0 c.loop-index.invariant.3
    ∙ sym (ap (λ (d : AccessDecision). ok_of d) (c.unwrap_or.ensures ∙ ap (unwrap_or c.loop-index.decided) c.no_line.ensures))
