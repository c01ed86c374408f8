-- the names of the codes that do not remain are written
use Rattle.std.proofs.Common.{◌≡◌, ◌++◌, ℕ, List, false, length}
use Rattle.pam_codes.specs.Out.{TookAll}
use Rattle.pam_render.proofs.JsonLinesProofs.Arrays.{rest_text}
use Rattle.pam_render.specs.json_text.Steps.{code_string}
use Rattle.pam_render.proofs.json_text.steps.put_codes.Given as goal

abbrev pub decreases-loop-code : goal.decreases-loop-code
decreases-loop-code g l = length l.remaining

abbrev pub invariant-loop-code : goal.invariant-loop-code
invariant-loop-code g l = record {
  front : List ℕ;
  parts : front ++ rest_text code_string l.later l.remaining ≡ rest_text code_string false l.fn.set;
  took : TookAll g.W.Write.contents l.initial.out l.out front;
}
