use Rattle.pam_findings.proofs.MisspelledProofs.AtSpots.{words_stand}
use Rattle.pam_findings.proofs.misspelled.laws.spots.Goals as goal

pub returns : goal.returns
returns c = λ files right outside entry m spot h spotted. words_stand files right outside entry m spot h spotted
