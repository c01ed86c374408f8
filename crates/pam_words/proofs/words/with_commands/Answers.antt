use Rattle.std.proofs.Common.{ap, refl}
use Rattle.clap.specs.Words.{App}
use Rattle.pam_words.proofs.Subcommands.{add-app, add-command, add-local, no-row}
use Rattle.pam_words.specs.inner.Building.{with_commands}
use Rattle.pam_words.proofs.words.with_commands.Goals as goal

pub loop-row-init : goal.loop-row-init
loop-row-init c = record {
  local = c.requires;
  app = λ all same. ap (λ (a : App). with_commands a c.args.rows.now) same;
}

pub loop-row-preserved : goal.loop-row-preserved
loop-row-preserved c =
    let before = c.loop-row.invariant in
    let added = c.in_ok-command_of.ensures in
    let with-one = add-app _ _ _ _ _ c.in_ok-command.ensures added.1 refl added.0 in
    record {
      local = add-local _ _ _ c.in_ok-command.ensures before.local added.1;
      app = λ all same. add-command c.args.rows.now c.loop-row.row-index _ _ _ c.loop-row-test.true with-one (before.app all same);
    }

pub returns : goal.returns
returns c app same =
    let before = c.loop-row.invariant in
    (no-row c.args.rows.now c.loop-row.row-index _ c.loop-row-test.false (before.app app same), before.local)
