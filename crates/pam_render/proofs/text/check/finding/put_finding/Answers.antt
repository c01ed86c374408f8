use Rattle.std.proofs.Common.{codes}
use Rattle.pam_codes.proofs.Writing.{all-then, err-front, front-is, front-longer, front-then, writes-is, writes-then}
use Rattle.pam_render.proofs.TextProofs.CheckFindings.{finding_line-is}
use Rattle.pam_render.specs.text.Check.{sentence}
use Rattle.pam_render.specs.parts.CheckNames.{names_view, word_of}
use Rattle.pam_render.proofs.text.check.finding.put_finding.Goals as goal

pub returns-in_err-put_problem_heading : goal.returns-in_err-put_problem_heading
returns-in_err-put_problem_heading g c =
    let names = names_view c.args.found.names.now in
    let place = c.args.found.entry.now.0 in
    let finding = c.args.found.entry.now.1 in
    let word = word_of c.args.found.word in
    err-front _ c.from_residual-in_err-put_problem_heading.ensures.0
    (front-is
    (front-longer (codes "\n")
    (front-longer (sentence names place finding.met finding.problem word) (front-then c.in_ok-put_place.ensures c.in_err-put_problem_heading.ensures)))
    (finding_line-is names place finding word c.spot_of.result c.spot_of.ensures))

pub returns-in_err-put_sentence : goal.returns-in_err-put_sentence
returns-in_err-put_sentence g c =
    let names = names_view c.args.found.names.now in
    let word = word_of c.args.found.word in
    let before = all-then c.in_ok-put_place.ensures c.in_ok-put_problem_heading.ensures in
    err-front _ c.from_residual-in_err-put_sentence.ensures.0
    (front-is (front-longer (codes "\n") (front-then before c.in_err-put_sentence.ensures))
    (finding_line-is names c.args.found.entry.now.0 c.args.found.entry.now.1 word c.spot_of.result c.spot_of.ensures))

pub returns : goal.returns
returns g c =
    let names = names_view c.args.found.names.now in
    let word = word_of c.args.found.word in
    let before = all-then c.in_ok-put_place.ensures c.in_ok-put_problem_heading.ensures in
    writes-is _ _ _ _ _ _ (writes-then _ _ _ (all-then before c.in_ok-put_sentence.ensures) c.put.ensures)
    (finding_line-is names c.args.found.entry.now.0 c.args.found.entry.now.1 word c.spot_of.result c.spot_of.ensures)
