use Rattle.std.proofs.Common.{[]}
use Rattle.std.proofs.lemmas.Result.{err_from_is_err_and}
use Rattle.pam_conf.proofs.FileLemmas.{position_none, put_named}
use Rattle.pam_conf.proofs.files.Files.put.Goals as goal

pub returns-in_err-insert-clause-only_new : goal.returns-in_err-insert-clause-only_new
returns-in_err-insert-clause-only_new c =
    let p = err_from_is_err_and c.from_residual.result c.from_residual.ensures.1 in
    rw (p.1, ← c.self.view_is) (position_none c.args.name.items c.self.inside.entries.entries c.in_err-insert.ensures.absent)

pub returns-clause-ok : goal.returns-clause-ok
returns-clause-ok c =
    put_named (record { form = c.self.inside.form; entries = [] }) c.args.self.now c.self.inside.entries.entries c.insert.new.self.entries c.args.name
    c.args.bytes c.self.view_is c.in_ok-insert.ensures.entries
