use Rattle.std.proofs.Common.{◌≡◌, ◌∙◌, ap, arith, length, suc}
use Rattle.pam_facts.specs.Knowing.{meaning_of}
use Rattle.pam_facts.specs.arguments.Views.{module_view}
use Rattle.pam_conf.specs.ItemsOf.{module_text}
use Rattle.pam_findings.specs.host.Arguments.{wrong_by}
use Rattle.pam_findings.proofs.HostProofs.WrongArguments.{arguments-all, arguments-known, arguments-more, past-last, word-there}
use Rattle.pam_findings.proofs.host.arguments.push_known.Goals as goal

pub loop-position-preserved : goal.loop-position-preserved
loop-position-preserved c =
    let rule = module_text c.args.module.now in
    let so_far = c.loop-position.invariant in
    let n = c.loop-position.position in
    let steps = c.in-Some.ensures.steps in
    let there = word-there rule.arguments n c.in-Some.word.now c.next.new.self (so_far.3 ∙ steps) in
    let fewer : length c.loop-position.word-iterator ≡ suc (length c.next.new.self) = ap length steps in (
      tt,
      tt,
      omega (arith, so_far.2, fewer),
      there.1,
      arguments-more (λ word. wrong_by (meaning_of c.args.facts.now c.args.kind rule (module_view c.args.known.now) word)) rule n c.in-Some.word.now c.wrong_by-wrong.result
          c.args.spots.now.items c.loop-position.spots.items c.push_argument.new.spots.items there.0
          (c.wrong_by-wrong.ensures ∙ ap wrong_by c.judge.ensures) so_far.4 c.in_ok-push_argument.ensures,
    )

pub returns : goal.returns
returns c =
    let rule = module_text c.args.module.now in
    let so_far = c.loop-position.invariant in
    let n = c.loop-position.position in
    let known = module_view c.args.known.now in
    arguments-known c.args.facts.now known c.args.kind rule c.args.spots.now.items c.loop-position.spots.items
    (arguments-all (λ word. wrong_by (meaning_of c.args.facts.now c.args.kind rule known word)) rule n c.args.spots.now.items c.loop-position.spots.items
    (past-last rule.arguments n (so_far.3 ∙ c.in-None.ensures.steps.0)) so_far.4)
