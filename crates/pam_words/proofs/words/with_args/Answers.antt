use Rattle.std.proofs.Common.{◌∙◌, refl}
use Rattle.pam_words.proofs.Subcommands.{add-arg, add-rule, add-rule-local, no-arg}
use Rattle.pam_words.proofs.words.with_args.Goals as goal

pub loop-argument-init : goal.loop-argument-init
loop-argument-init c = record { local = c.requires; app = refl }

pub loop-argument-preserved : goal.loop-argument-preserved
loop-argument-preserved c =
    let before = c.loop-argument.invariant in
    let with-one = add-rule _ _ _ _ _ c.in_ok-command.ensures c.arg.ensures.local refl (c.arg.ensures.rule ∙ c.row.ensures) in
    record {
      local = add-rule-local _ _ _ c.in_ok-command.ensures c.arg.ensures.local before.local;
      app = add-arg c.args.arguments.now c.loop-argument.argument-index _ _ _ c.loop-argument-test.true with-one before.app;
    }

pub returns : goal.returns
returns c =
    let before = c.loop-argument.invariant in
    (no-arg c.args.arguments.now c.loop-argument.argument-index _ c.loop-argument-test.false before.app, before.local)
