-- a command with the first commands is to get the others
use Rattle.std.proofs.Common.{◌≡◌, false, drop}
use Rattle.clap.specs.Words.{App, app_of}
use Rattle.clap.specs.declared.builder.Command.TheViews.{out-Command}
use Rattle.pam_words.specs.inner.Building.{with_commands}
use Rattle.pam_words.proofs.words.with_commands.Given as goal

abbrev pub invariant-loop-row : goal.invariant-loop-row
invariant-loop-row l = record {
  local : (out-Command l.command).has_globals ≡ false;
  app : (all : App) → app_of l.fn.command ≡ all → with_commands (app_of l.command) (drop l.row-index l.rows) ≡ with_commands all l.rows;
}
