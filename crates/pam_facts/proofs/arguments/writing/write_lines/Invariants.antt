-- the modules of the lines that are not left are written
use Rattle.std.proofs.Common.{◌≡◌, ◌++◌, ℕ, List, Bor}
use Rattle.std.specs.Option.{option_map}
use Rattle.pam_text.specs.Out.{TookAll}
use Rattle.pam_facts.specs.arguments.Table.{lines_of}
use Rattle.pam_facts.specs.arguments.Texts.{lines_text}
use Rattle.pam_facts.specs.arguments.inner.Cuts.{parts_left}
use Rattle.pam_facts.proofs.ArgumentProofs.TableSteps.{named_lines}
use Rattle.pam_facts.proofs.arguments.writing.write_lines.Given as goal

abbrev pub invariant-loop-line : goal.invariant-loop-line
invariant-loop-line g l = record {
  can : (goal.iterator-loop-line g).can_next l.line-iterator;
  finite : (goal.iterator-loop-line g).is_finite l.line-iterator;
  front : List ℕ;
  parts : front ++ lines_text (named_lines (parts_left l.line-iterator.separator (option_map (λ (t : Bor (List ℕ)). t.now) l.line-iterator.rest)))
      ≡ lines_text (lines_of l.text);
  took : TookAll g.W.Write.contents l.initial.out l.out front;
}
