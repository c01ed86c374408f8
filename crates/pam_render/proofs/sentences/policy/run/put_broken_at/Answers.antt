use Rattle.std.proofs.Common.{◌∙◌, refl}
use Rattle.std.specs.List.{flat_map}
use Rattle.pam_codes.proofs.Writing.{err-front, front-is, front-longer, writes-is, writes-then}
use Rattle.pam_policy.specs.search.Runs.{run_value}
use Rattle.pam_render.specs.sentences.Policy.{asked_phrases}
use Rattle.pam_render.proofs.SentencesProofs.PolicySentences.{broken-is}
use Rattle.pam_render.proofs.sentences.policy.run.put_broken_at.Goals as goal

pub returns-in_err-put_phrases : goal.returns-in_err-put_phrases
returns-in_err-put_phrases g c =
    err-front _ c.from_residual.ensures.0
    (front-is (front-longer (flat_map g.F.Phrases.text (asked_phrases c.args.class.now.stack (run_value c.args.run.now).steps)) c.in_err-put_phrases.ensures)
    (broken-is g.F.Phrases.text c.args.rule.now (run_value c.args.run.now) c.args.class.now _ _ _ (c.as_bytes.ensures.value ∙ c.kind_name.ensures)
    c.name_of.ensures refl))

pub returns : goal.returns
returns g c =
    writes-is _ _ _ _ _ _ (writes-then _ _ _ c.in_ok-put_phrases.ensures c.put_asked.ensures)
    (broken-is g.F.Phrases.text c.args.rule.now (run_value c.args.run.now) c.args.class.now _ _ _ (c.as_bytes.ensures.value ∙ c.kind_name.ensures)
    c.name_of.ensures c.deref.ensures.value)
