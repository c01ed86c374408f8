use Rattle.std.proofs.Common.{List, ◌++◌, ◌∙◌, ap, arith, length, sym, ℕ}
use Rattle.pam_drawing.proofs.Indices.{range-all, range-push}
use Rattle.pam_render.specs.parts.CheckNames.{names_view}
use Rattle.pam_render.specs.patch_text.Check.{file_diff}
use Rattle.pam_render.specs.patch_text.inner.Views.{mendings_view}
use Rattle.pam_render.proofs.patch_text.document.diffs.Goals as goal

pub loop-file-preserved : goal.loop-file-preserved
loop-file-preserved c =
    let files = c.args.files.now in
    let f = file_diff files (names_view c.args.names.now).paths (mendings_view c.args.mendings.now) in
    let file = c.loop-file.file in
    c.in_ok-push_file.ensures ∙ ap (λ (l : List ℕ). l ++ f file) c.loop-file.invariant
    ∙ sym (range-push f 0 (length files.entries) file file (omega (arith, c.loop-file-test.true, c.len-file-end.ensures)) (omega arith))

pub returns : goal.returns
returns c =
    let files = c.args.files.now in
    let f = file_diff files (names_view c.args.names.now).paths (mendings_view c.args.mendings.now) in
    c.loop-file.invariant ∙ range-all f 0 (length files.entries) c.loop-file.file (omega (arith, c.loop-file-test.false, c.len-file-end.ensures))
