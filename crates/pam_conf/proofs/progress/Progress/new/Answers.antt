use Rattle.std.proofs.Common.{arith}
use Rattle.pam_conf.proofs.TableLemmas.{table_unread}
use Rattle.pam_conf.proofs.progress.Progress.new.Goals as goal

pub returns-clause-table : goal.returns-clause-table
returns-clause-table c = table_unread c.args.files.now c.args.kind c.loop.table.items (omega
    (arith, c.loop.invariant.full, c.len-end.ensures)) c.loop.invariant.unread
