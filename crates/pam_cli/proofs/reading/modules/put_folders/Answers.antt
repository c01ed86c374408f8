use Rattle.std.proofs.Common.{◌∙◌, map, sym}
use Rattle.std.proofs.lemmas.Result.{err_from_is_err_and}
use Rattle.pam_cli.proofs.Folders.{known-all, known-next, member-at, unread-one}
use Rattle.pam_cli.proofs.reading.modules.put_folders.Goals as goal

pub loop-folder-preserved : goal.loop-folder-preserved
loop-folder-preserved g c =
    let known = known-next c.args.found.now.is_known c.args.folders.now c.loop-folder.folder-index c.loop-folder-test.true in
    c.in_ok-put_folder.ensures.ok ∙ sym known

pub returns-in_err-put_folder-clause-error : goal.returns-in_err-put_folder-clause-error
returns-in_err-put_folder-clause-error g c =
    let folders = c.args.folders.now in
    let named = member-at (λ f. f.now) folders c.loop-folder.folder-index _ c.loop-folder-test.true in
    let given = err_from_is_err_and c.from_residual.result c.from_residual.ensures.1 in
    rw (given.1, given.2) (unread-one (map (λ f. f.now) folders) _ c.in_err-put_folder.field-0.0 named c.in_err-put_folder.ensures.error)

pub returns-clause-ok : goal.returns-clause-ok
returns-clause-ok g c =
    c.loop-folder.invariant ∙ known-all c.args.found.now.is_known c.args.folders.now c.loop-folder.folder-index c.loop-folder-test.false
