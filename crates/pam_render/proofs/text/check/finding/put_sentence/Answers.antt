use Rattle.std.proofs.Common.{◌++◌, ℕ, Option, ap}
use Rattle.pam_codes.proofs.Writing.{all-then, err-front, front-is, front-longer, front-then, writes-is, writes-then}
use Rattle.pam_conf.specs.declared.rule.Kind.{Kind}
use Rattle.pam_render.specs.text.Check.{rest_text, sentence, subject_text}
use Rattle.pam_render.specs.parts.CheckNames.{names_view, word_of}
use Rattle.pam_render.specs.sentences.Sentences.{said}
use Rattle.pam_render.proofs.text.check.finding.put_sentence.Goals as goal

pub returns-in_err-put_said : goal.returns-in_err-put_said
unfolding sentence
returns-in_err-put_said g c =
    let names = names_view c.args.names.now in
    let text = said c.args.place.now.line c.args.finding.problem (word_of c.args.word) in
    let rest = rest_text names c.args.place.now.file c.args.finding.met c.args.finding.problem in
    err-front _ c.from_residual-in_err-put_said.ensures.0
    (front-is (front-longer rest (front-then c.in_ok-put_subject.ensures c.in_err-put_said.ensures))
    (ap (λ (stack : Option (Option ℕ × Kind)). (subject_text names stack ++ text) ++ rest) c.stack_of.ensures))

pub returns : goal.returns
unfolding sentence
returns g c =
    let names = names_view c.args.names.now in
    let text = said c.args.place.now.line c.args.finding.problem (word_of c.args.word) in
    let rest = rest_text names c.args.place.now.file c.args.finding.met c.args.finding.problem in
    writes-is _ _ _ ((subject_text names c.stack_of.result ++ text) ++ rest) _ c.put_rest.result
    (writes-then _ _ _ (all-then c.in_ok-put_subject.ensures c.in_ok-put_said.ensures) c.put_rest.ensures)
    (ap (λ (stack : Option (Option ℕ × Kind)). (subject_text names stack ++ text) ++ rest) c.stack_of.ensures)
