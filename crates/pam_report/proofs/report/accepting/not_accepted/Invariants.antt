-- what no line accepts of what is found so far
use Rattle.std.proofs.Common.{◌≡◌, not, take}
use Rattle.std.specs.Prelude.{filter}
use Rattle.pam_report.specs.Accepting.{accepts}
use Rattle.pam_report.proofs.report.accepting.not_accepted.Given as goal

abbrev pub invariant-loop-one : goal.invariant-loop-one
invariant-loop-one g l = l.kept.items ≡ filter (λ one. not (accepts l.accept (g.K.Keys.key_of l.by one))) (take l.one-index l.found)
