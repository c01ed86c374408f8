use Rattle.std.specs.List.{flat_map}
use Rattle.pam_codes.proofs.Writing.{err-front, front-is, front-longer, writes-is, writes-then}
use Rattle.pam_report.specs.ReplyViews.{side_files}
use Rattle.pam_render.specs.sentences.Policy.{reason_phrases}
use Rattle.pam_render.proofs.SentencesProofs.PolicySentences.{not_known-is}
use Rattle.pam_render.proofs.sentences.policy.run.put_not_known_at.Goals as goal

pub returns-in_err-put_phrases : goal.returns-in_err-put_phrases
returns-in_err-put_phrases g c =
    err-front _ c.from_residual.ensures.0
    (front-is (front-longer (flat_map g.F.Phrases.text (reason_phrases (side_files c.args.files) c.args.class.now.stack)) c.in_err-put_phrases.ensures)
    (not_known-is g.F.Phrases.text (side_files c.args.files) c.args.rule.now c.args.class.now))

pub returns : goal.returns
returns g c =
    writes-is _ _ _ _ _ _ (writes-then _ _ _ c.in_ok-put_phrases.ensures c.put_reason.ensures)
    (not_known-is g.F.Phrases.text (side_files c.args.files) c.args.rule.now c.args.class.now)
