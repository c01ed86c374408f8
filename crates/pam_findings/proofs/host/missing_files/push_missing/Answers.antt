use Rattle.std.proofs.Common.{◌≡◌, ◌∙◌, ap, arith, length, suc}
use Rattle.std.specs.Option.{option_map}
use Rattle.pam_conf.specs.ItemsOf.{module_text}
use Rattle.pam_findings.specs.host.MissingFiles.{missing_by}
use Rattle.pam_findings.proofs.HostProofs.WrongArguments.{arguments-all, arguments-more, past-last, word-there}
use Rattle.pam_findings.proofs.host.missing_files.push_missing.Goals as goal

pub loop-position-preserved : goal.loop-position-preserved
loop-position-preserved c =
    let rule = module_text c.args.module.now in
    let so_far = c.loop-position.invariant in
    let n = c.loop-position.position in
    let steps = c.in-Some.ensures.steps in
    let there = word-there rule.arguments n c.in-Some.word.now c.next.new.self (so_far.3 ∙ steps) in
    let fewer : length c.loop-position.word-iterator ≡ suc (length c.next.new.self) = ap length steps in (
      tt,
      tt,
      omega (arith, so_far.2, fewer),
      there.1,
      arguments-more (missing_by (option_map (λ t. t.now) c.args.files) c.args.kind rule) rule n c.in-Some.word.now c.missing_by-wrong.result
          c.args.spots.now.items c.loop-position.spots.items c.push_argument.new.spots.items there.0
          c.missing_by-wrong.ensures so_far.4 c.in_ok-push_argument.ensures,
    )

pub returns : goal.returns
returns c =
    let rule = module_text c.args.module.now in
    let so_far = c.loop-position.invariant in
    let n = c.loop-position.position in
    arguments-all (missing_by (option_map (λ t. t.now) c.args.files) c.args.kind rule) rule n c.args.spots.now.items c.loop-position.spots.items
    (past-last rule.arguments n (so_far.3 ∙ c.in-None.ensures.steps.0)) so_far.4
