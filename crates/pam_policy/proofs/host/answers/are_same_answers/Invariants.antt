use Rattle.pam_facts.specs.known.Knowledge.{Agree}
use Rattle.pam_paths.specs.Known.{may_answer}
use Rattle.pam_policy.proofs.host.answers.are_same_answers.Given as goal

-- the modules so far may answer the same
abbrev pub invariant-loop-index : goal.invariant-loop-index
invariant-loop-index l = Agree l.index (may_answer l.one) (may_answer l.other)
