use Rattle.std.proofs.Common.{◌+◌, drop, map, sym}
use Rattle.std.specs.List.{enumerate_from, flat_map}
use Rattle.std.specs.Option.{option_map}
use Rattle.pam_text.proofs.Writing.{all-is, all-then, err-front, front-is, front-longer, front-then}
use Rattle.pam_drawing.proofs.Indices.{indexed-all, indexed-at, indexed-push}
use Rattle.pam_findings.specs.misspelled.MisspelledView.{misspelled_view}
use Rattle.pam_render.specs.parts.CheckNames.{names_view}
use Rattle.pam_render.specs.sarif.inner.Written.{numbered_text}
use Rattle.pam_render.proofs.sarif.results.put_findings.Goals as goal

pub returns-in_err-put_numbered : goal.returns-in_err-put_numbered
returns-in_err-put_numbered g c =
    let found = c.args.found.now in
    let line = numbered_text (names_view c.args.names.now) (map (option_map misspelled_view) c.args.words.now) in
    let position = c.loop-position.position in
    err-front _ c.from_residual.ensures.0
    (front-is
    (front-longer (flat_map line (drop (position + 1) (enumerate_from 0 found)))
    (front-then c.loop-position.invariant c.in_err-put_numbered.ensures)) (indexed-at line found position _ c.loop-position-test.true))

pub loop-position-preserved : goal.loop-position-preserved
loop-position-preserved g c =
    let line = numbered_text (names_view c.args.names.now) (map (option_map misspelled_view) c.args.words.now) in
    all-is (all-then c.loop-position.invariant c.in_ok-put_numbered.ensures)
    (sym (indexed-push line c.args.found.now c.loop-position.position _ c.loop-position-test.true))

pub returns : goal.returns
returns g c =
    let line = numbered_text (names_view c.args.names.now) (map (option_map misspelled_view) c.args.words.now) in
    all-is c.loop-position.invariant (indexed-all line c.args.found.now c.loop-position.position c.loop-position-test.false)
