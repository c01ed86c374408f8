use Rattle.std.proofs.Common.{◌∙◌, sym}
use Rattle.std.proofs.lemmas.Result.{IfOk-weaker}
use Rattle.pam_words.specs.Wanted.{candidate_view}
use Rattle.pam_cli.proofs.Candidates.{none_given}
use Rattle.pam_cli.proofs.reading.sources.single_file.Goals as goal

pub returns-then-is_empty : goal.returns-then-is_empty
returns-then-is_empty g c =
    let none = none_given candidate_view c.args.candidates.now (sym c.is_empty.ensures ∙ c.if-is_empty.true) in
    IfOk-weaker c.root_file.result _ _ (λ found h. (none, h)) c.root_file.ensures
