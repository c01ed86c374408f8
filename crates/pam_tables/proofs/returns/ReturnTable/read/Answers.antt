use Rattle.std.proofs.lemmas.Result.{err_from_is_err_and}
use Rattle.pam_tables.specs.Returns.{returns_of}
use Rattle.pam_tables.proofs.returns.ReturnTable.read.Goals as goal

pub returns-in_err-read_entries : goal.returns-in_err-read_entries
unfolding returns_of
returns-in_err-read_entries c =
    let p = err_from_is_err_and c.from_residual.result c.from_residual.ensures.1 in
    rw (p.1, p.2) c.in_err-read_entries.ensures

pub returns : goal.returns
unfolding returns_of
returns c = c.in_ok-read_entries.ensures
