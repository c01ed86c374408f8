-- the texts that are not left are written
use Rattle.std.proofs.Common.{◌≡◌, ◌++◌, ℕ, List, false}
use Rattle.pam_text.specs.Out.{TookAll}
use Rattle.pam_render.proofs.JsonLinesProofs.Arrays.{rest_text}
use Rattle.pam_render.specs.json_lines.Line.{readable}
use Rattle.pam_render.proofs.json_lines.array.put_all_strings.Given as goal

abbrev pub invariant-loop-text : goal.invariant-loop-text
invariant-loop-text g l = record {
  front : List ℕ;
  parts : front ++ rest_text readable l.later l.text-iterator ≡ rest_text readable false l.texts;
  took : TookAll g.W.Write.contents l.initial.out l.out front;
}
