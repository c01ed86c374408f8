-- the members that are not left are written
use Rattle.std.proofs.Common.{◌≡◌, ◌++◌, ℕ, List, drop, false}
use Rattle.pam_text.specs.Out.{TookAll}
use Rattle.pam_render.proofs.JsonLinesProofs.Lines.{rest_text}
use Rattle.pam_render.proofs.json_lines.value.put_members.Given as goal

abbrev pub invariant-loop-member : goal.invariant-loop-member
invariant-loop-member g l = record {
  front : List ℕ;
  parts : front ++ rest_text g.V.Written.value l.later (drop l.member-index l.members) ≡ rest_text g.V.Written.value false l.members;
  took : TookAll g.W.Write.contents l.initial.out l.out front;
}
