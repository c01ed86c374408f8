-- the rows that are not left are written
use Rattle.std.proofs.Common.{◌≡◌, ◌++◌, ℕ, List, Bor, map}
use Rattle.std.specs.Option.{option_map}
use Rattle.pam_text.specs.Out.{TookAll}
use Rattle.pam_facts.specs.arguments.Rows.{row_of}
use Rattle.pam_facts.specs.arguments.Texts.{module_text, rows_text}
use Rattle.pam_facts.specs.arguments.Views.{module_view}
use Rattle.pam_facts.specs.arguments.inner.Cuts.{parts_left}
use Rattle.pam_facts.proofs.arguments.writing.write_module.Given as goal

abbrev pub invariant-loop-part : goal.invariant-loop-part
invariant-loop-part g l = record {
  can : (goal.iterator-loop-part g).can_next l.part-iterator;
  finite : (goal.iterator-loop-part g).is_finite l.part-iterator;
  front : List ℕ;
  parts : front ++ rows_text l.name l.known.kinds.now
      (map row_of (parts_left l.part-iterator.separator (option_map (λ (t : Bor (List ℕ)). t.now) l.part-iterator.rest)))
      ≡ module_text l.name (module_view l.known);
  took : TookAll g.W.Write.contents l.initial.out l.out front;
}
