use Rattle.std.proofs.Common.{◌≡◌, length}
use Rattle.pam_conf.proofs.TableLemmas.{IsUnread}
use Rattle.pam_conf.proofs.progress.Progress.new.Given as goal

abbrev pub invariant-loop : goal.invariant-loop
invariant-loop l = record {
  full : length l.table.items ≡ l.counter;
  unread : IsUnread l.table.items;
}
