-- the elements for the items that are not left are written
use Rattle.std.proofs.Common.{◌≡◌, ◌++◌, ℕ, List, drop}
use Rattle.pam_text.specs.Out.{TookAll}
use Rattle.pam_render.proofs.JsonLinesProofs.Arrays.{left_text}
use Rattle.pam_render.proofs.json_lines.array.put_more.Given as goal

abbrev pub invariant-loop-item : goal.invariant-loop-item
invariant-loop-item g l = record {
  front : List ℕ;
  parts : front ++ left_text (g.E.Elements.element l.elements) l.later (drop l.item-index l.items)
      ≡ left_text (g.E.Elements.element l.elements) l.initial.later l.items;
  took : TookAll g.W.Write.contents l.initial.out l.out front;
}
