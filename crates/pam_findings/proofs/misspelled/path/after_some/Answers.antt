use Rattle.std.proofs.Common.{◌∙◌, List, ap, arith, ℕ}
use Rattle.pam_conf.specs.Remaining.{words_to_come}
use Rattle.pam_findings.specs.misspelled.Paths.{after_first}
use Rattle.pam_findings.proofs.MisspelledProofs.LaterWords.{one-later}
use Rattle.pam_findings.proofs.misspelled.path.after_some.Goals as goal

pub loop-preserved : goal.loop-preserved
loop-preserved c = (
  omega (arith, c.loop-test.true),
  c.after_first-rest.ensures ∙ ap (λ (words : List (List ℕ)). after_first words) c.loop.invariant.1
      ∙ one-later (words_to_come c.args.words) c.loop.counter,
)
