use Rattle.std.proofs.Common.{◌++◌, refl}
use Rattle.pam_text.proofs.Writing.{err-front, front-is, front-longer, front-then, writes-is, writes-then}
use Rattle.pam_render.proofs.FullTextProofs.Findings.{finding-is}
use Rattle.pam_render.specs.full_text.Excerpt.{excerpt}
use Rattle.pam_render.specs.full_text.Witness.{witness}
use Rattle.pam_render.specs.parts.CheckNames.{names_view, word_of}
use Rattle.pam_render.proofs.full_text.document.put_full.Goals as goal

pub returns-in_err-put_line-clause-text : goal.returns-in_err-put_line-clause-text
returns-in_err-put_line-clause-text g c =
    let spot = c.spot_of-spot.result in
    let names = names_view c.args.names.now in
    let entry = c.args.entry.now in
    err-front _ c.from_residual.ensures.0
    (front-is
    (front-longer (excerpt _ c.bytes_there-bytes.result.now spot ++ witness names entry.1.met entry.1.problem) c.in_err-put_line.ensures)
    (finding-is names c.args.cursor.now.files.now c.args.outside.now entry (word_of c.args.word) spot _
    c.bytes_there-bytes.result.now c.spot_of-spot.ensures refl c.bytes_there-bytes.ensures.bytes))

pub returns-in_err-put_excerpt-clause-text : goal.returns-in_err-put_excerpt-clause-text
returns-in_err-put_excerpt-clause-text g c =
    let names = names_view c.args.names.now in
    let entry = c.args.entry.now in
    err-front _ c.from_residual-in_err-put_excerpt.ensures.0
    (front-is
    (front-then c.in_ok-put_line.ensures (front-longer (witness names entry.1.met entry.1.problem) c.in_err-put_excerpt.ensures))
    (finding-is names c.args.cursor.now.files.now c.args.outside.now entry (word_of c.args.word) c.spot_of-spot.result _
    c.bytes_there-bytes.result.now c.spot_of-spot.ensures c.told_line.ensures c.bytes_there-bytes.ensures.bytes))

pub returns-clause-text : goal.returns-clause-text
returns-clause-text g c =
    writes-is _ _ _ _ _ _ (writes-then _ _ _ c.in_ok-put_line.ensures (writes-then _ _ _ c.in_ok-put_excerpt.ensures c.put_witness.ensures))
    (finding-is (names_view c.args.names.now) c.args.cursor.now.files.now c.args.outside.now c.args.entry.now (word_of c.args.word) c.spot_of-spot.result _
    c.bytes_there-bytes.result.now c.spot_of-spot.ensures c.told_line.ensures c.bytes_there-bytes.ensures.bytes)
