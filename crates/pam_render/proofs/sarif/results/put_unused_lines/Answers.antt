use Rattle.std.proofs.Common.{◌≡◌, ◌∙◌, ◌==◌, ◌||◌, ℕ, Bool, List, [], ◌∷◌, ap, ap₂, length, map, not, refl}
use Rattle.pam_findings.specs.declared.host.problem.Place.{Place}
use Rattle.pam_findings.specs.declared.host.report.Finding.{Finding}
use Rattle.pam_findings.specs.declared.tables.problem.TableFinding.{TableFinding}
use Rattle.pam_text.proofs.Writing.{writes-is}
use Rattle.pam_render.specs.json_lines.Line.{separated}
use Rattle.pam_render.specs.sarif.Results.{unused_result}
use Rattle.pam_report.specs.Unused.{unused_view}
use Rattle.pam_report.specs.declared.report.unused.UnusedLine.{UnusedLine}
use Rattle.serde_json.specs.Data.{Data}
use Rattle.pam_render.proofs.sarif.results.put_unused_lines.Goals as goal

-- the results of lines, by the names of both files
abbrev results : List ℕ → List ℕ → List UnusedLine → List Data
results accept facts lines = map (λ line. unused_result accept facts (unused_view line)) lines

results-are : (accept facts : List ℕ) (lines : List UnusedLine)
    → results accept facts lines ≡ map (unused_result accept facts) (map unused_view lines)
results-are accept facts [] = refl
results-are accept facts (line ∷ lines) =
    ap (λ (l : List Data). unused_result accept facts (unused_view line) ∷ l) (results-are accept facts lines)

pub returns : goal.returns
returns g c =
    let accept = c.args.reply.now.accept.now in
    let facts = c.args.reply.now.facts.now in
    let unused = c.args.reply.now.unused.items in
    let later = not (length c.args.reply.now.found.items == 0) || not (length c.args.reply.now.tables.items == 0) in
    let before =
    c.are_before.ensures
    ∙ ap₂ {A = List (Place × Finding)} {B = List TableFinding} {C = Bool} (λ found tables. not (length found == 0) || not (length tables == 0))
    c.as_slice.ensures.value c.as_slice-2.ensures.value in
    writes-is _ _ _ _ _ _ c.put_more.ensures
    (ap₂ {A = List ℕ} {B = List ℕ} {C = List ℕ} (λ a f. separated c.are_before.result (results a f c.deref.result.now)) c.as_bytes.ensures.value
    c.as_bytes-2.ensures.value
    ∙ ap₂ {A = Bool} {B = List UnusedLine} {C = List ℕ} (λ later lines. separated later (results accept facts lines)) before c.deref.ensures.value
    ∙ ap (λ (l : List Data). separated later l) (results-are accept facts unused))
