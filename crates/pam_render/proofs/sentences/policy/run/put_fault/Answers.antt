use Rattle.std.proofs.Common.{◌∙◌, refl}
use Rattle.std.specs.List.{flat_map}
use Rattle.pam_codes.proofs.Writing.{err-front, front-is, front-longer, writes-is, writes-then}
use Rattle.pam_report.specs.Fault.{file_at}
use Rattle.pam_report.specs.ReplyViews.{side_files}
use Rattle.pam_render.specs.sentences.Policy.{place_phrases}
use Rattle.pam_render.proofs.SentencesProofs.PolicySentences.{fault-is}
use Rattle.pam_render.proofs.sentences.policy.run.put_fault.Goals as goal

pub returns-in_err-put_phrases : goal.returns-in_err-put_phrases
returns-in_err-put_phrases g c =
    let fault = c.args.fault.now in
    let place = place_phrases (file_at (side_files c.args.files) fault.at) fault.line in
    err-front _ c.from_residual.ensures.0
    (front-is (front-longer (flat_map g.F.Phrases.text place) c.in_err-put_phrases.ensures)
    (fault-is g.F.Phrases.text (side_files c.args.files) fault _ _ _ (c.as_bytes.ensures.value ∙ c.number.ensures)
    (c.as_bytes-2.ensures.value ∙ c.name.ensures) refl))

pub returns : goal.returns
returns g c =
    writes-is _ _ _ _ _ _ (writes-then _ _ _ c.in_ok-put_phrases.ensures c.put_place.ensures)
    (fault-is g.F.Phrases.text (side_files c.args.files) c.args.fault.now _ _ _ (c.as_bytes.ensures.value ∙ c.number.ensures)
    (c.as_bytes-2.ensures.value ∙ c.name.ensures) c.file_of.ensures)
