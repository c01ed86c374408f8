use Rattle.std.proofs.Common.{◌∙◌, ◌++◌, List, ℕ, ap, arith, map, string_bytes, subst}
use Rattle.clap.specs.Words.{Text}
use Rattle.serde_json.specs.View.{view}
use Rattle.pam_lsp.specs.Checks.{IsAnswer}
use Rattle.pam_lsp.specs.Findings.{values_of}
use Rattle.pam_lsp.proofs.Lines.{lines-at}
use Rattle.pam_lsp.proofs.checking.lines_of.Goals as goal

pub loop-folder-preserved : goal.loop-folder-preserved
loop-folder-preserved g c =
    let told = g.S.System.told c.args.system.now in
    let answer = c.in_ok-answer.answer.items in
    let values = map view c.loop-folder.values.items in
    let name = c.as_str.ensures.value ∙ ap string_bytes c.folder-item.is in
    lines-at told c.args.folders.now c.loop-folder.folder-index c.folder-item.result values (map view c.push_values.new.values.items) answer
    (omega (arith, c.loop-folder-test.true)) c.loop-folder.invariant (subst (λ (f : Text). IsAnswer told f answer) name c.in_ok-answer.ensures)
    (c.in_ok-push_values.ensures ∙ ap (λ (a : List ℕ). values ++ values_of a) c.deref.ensures.value)
