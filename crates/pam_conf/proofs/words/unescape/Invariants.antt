use Rattle.std.proofs.Common.{◌≡◌, ◌≤◌, ◌-◌, ◌++◌, take, drop, length}
use Rattle.pam_conf.specs.Words.{unescaped}
use Rattle.pam_conf.proofs.words.unescape.Given as goal

abbrev pub invariant-loop-read : goal.invariant-loop-read
invariant-loop-read l = record {
  shorter : l.kept ≤ l.read;
  within : l.read ≤ length l.word.items;
  same : take l.kept l.word.items ++ unescaped (drop l.read l.word.items) ≡ unescaped l.initial.word.items;
}

abbrev pub decreases-loop-read : goal.decreases-loop-read
decreases-loop-read l = length l.word.items - l.read
