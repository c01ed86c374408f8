use Rattle.std.proofs.Common.{[], unwrap_or}
use Rattle.pam_conf.specs.Stack.{module_count}
use Rattle.pam_facts.specs.known.Tables.{tables_view}
use Rattle.pam_policy.proofs.HostProofs.Answered.{by-lines}
use Rattle.pam_policy.proofs.host.checkers.set_checked.Goals as goal

pub returns-in_ok-lines-in-Auth-clause-known : goal.returns-in_ok-lines-in-Auth-clause-known
returns-in_ok-lines-in-Auth-clause-known c base allows =
    by-lines (module_count c.args.stack.now) c.args.kind (tables_view c.args.tables.now) (unwrap_or c.in_ok-lines-in-Auth.lines []) c.args.stack.now
    c.set_by_lines.new.known base c.in-Auth.is c.in_ok-lines-in-Auth.ensures.lines (c.set_by_lines.ensures base allows)
