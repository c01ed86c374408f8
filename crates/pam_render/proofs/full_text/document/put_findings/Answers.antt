use Rattle.std.proofs.Common.{◌∙◌, ◌+◌, Bor, ap, drop, map, sym}
use Rattle.std.specs.List.{enumerate_from, flat_map}
use Rattle.std.specs.Option.{option_map}
use Rattle.pam_text.proofs.Writing.{all-is, all-then, err-front, front-is, front-longer, front-then}
use Rattle.pam_conf.specs.Files.{Folder}
use Rattle.pam_drawing.proofs.Indices.{indexed-all, indexed-at, indexed-push}
use Rattle.pam_findings.specs.misspelled.MisspelledView.{misspelled_view}
use Rattle.pam_render.proofs.FullTextProofs.Findings.{numbered-is}
use Rattle.pam_render.specs.full_text.Check.{numbered_full}
use Rattle.pam_render.specs.parts.CheckNames.{names_view, word_of}
use Rattle.pam_render.proofs.full_text.document.put_findings.Goals as goal

pub returns-in_err-put_full : goal.returns-in_err-put_full
returns-in_err-put_full g c =
    let found = c.args.found.now in
    let names = names_view c.args.names.now in
    let words = map (option_map misspelled_view) c.args.words.now in
    let line = numbered_full names c.args.files.now c.args.outside.now words in
    let so_far = c.loop-position.invariant in
    let position = c.loop-position.position in
    err-front _ c.from_residual.ensures.0
    (front-is
    (front-longer (flat_map line (drop (position + 1) (enumerate_from 0 found)))
    (front-then so_far.took
    (front-is c.in_err-put_full.ensures.text
    (numbered-is names c.args.files.now c.loop-position.cursor.files.now c.args.outside.now words position _ (word_of c.word_at-word.result) so_far.still
    c.word_at-word.ensures))))
    (indexed-at line found position _ c.loop-position-test.true))

pub loop-position-preserved : goal.loop-position-preserved
loop-position-preserved g c =
    let names = names_view c.args.names.now in
    let words = map (option_map misspelled_view) c.args.words.now in
    let line = numbered_full names c.args.files.now c.args.outside.now words in
    let so_far = c.loop-position.invariant in
    let position = c.loop-position.position in
    record {
      at = c.in_ok-put_full.ensures.at;
      still = ap (λ (f : Bor Folder). f.now) c.in_ok-put_full.ensures.same ∙ so_far.still;
      took = all-is
          (all-then so_far.took
          (all-is c.in_ok-put_full.ensures.text
          (numbered-is names c.args.files.now c.loop-position.cursor.files.now c.args.outside.now words position _ (word_of c.word_at-word.result)
          so_far.still c.word_at-word.ensures)))
          (sym (indexed-push line c.args.found.now position _ c.loop-position-test.true));
    }

pub returns : goal.returns
returns g c =
    let line =
    numbered_full (names_view c.args.names.now) c.args.files.now c.args.outside.now (map (option_map misspelled_view) c.args.words.now) in
    all-is c.loop-position.invariant.took (indexed-all line c.args.found.now c.loop-position.position c.loop-position-test.false)
