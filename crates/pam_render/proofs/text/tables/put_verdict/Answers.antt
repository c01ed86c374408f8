use Rattle.std.specs.Option.{option_copied}
use Rattle.pam_codes.proofs.Writing.{err-front, front-longer, writes-then}
use Rattle.pam_render.specs.text.Tables.{of_table}
use Rattle.pam_render.proofs.text.tables.put_verdict.Goals as goal

pub returns-in_err-put_line : goal.returns-in_err-put_line
returns-in_err-put_line g c =
    err-front _ c.from_residual.ensures.0 (front-longer (of_table (option_copied c.args.table)) c.in_err-put_line.ensures)

pub returns : goal.returns
returns g c = writes-then _ _ _ c.in_ok-put_line.ensures c.put_table.ensures
