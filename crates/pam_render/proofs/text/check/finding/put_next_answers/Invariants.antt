-- the answers so far are written
use Rattle.std.proofs.Common.{take}
use Rattle.std.specs.List.{flat_map}
use Rattle.pam_codes.specs.Out.{TookAll}
use Rattle.pam_render.specs.text.Check.{next_answer}
use Rattle.pam_render.proofs.text.check.finding.put_next_answers.Given as goal

abbrev pub invariant-loop-answer : goal.invariant-loop-answer
invariant-loop-answer g l = TookAll g.W.Write.contents l.initial.out l.out (flat_map (next_answer l.stack) (take l.answer-index l.answers))
