use Rattle.pam_findings.proofs.MisspelledProofs.CertainWords.{certain_is_nearer}
use Rattle.pam_findings.proofs.misspelled.laws.certain.Goals as goal

pub returns : goal.returns
returns c = λ words word found h. certain_is_nearer words word found h
