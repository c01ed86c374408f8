-- the arguments so far, and those of the rows that are left
use Rattle.std.proofs.Common.{◌≡◌, ◌++◌, ℕ, List, Bor, map}
use Rattle.std.specs.Option.{option_map}
use Rattle.pam_facts.specs.arguments.Modules.{arguments_of}
use Rattle.pam_facts.specs.arguments.Rows.{row_of}
use Rattle.pam_facts.specs.arguments.Views.{module_view}
use Rattle.pam_facts.specs.arguments.inner.Cuts.{parts_left}
use Rattle.pam_facts.proofs.arguments.modules.Module.arguments.Given as goal

abbrev pub invariant-loop-part : goal.invariant-loop-part
invariant-loop-part l = record {
  can : (goal.iterator-loop-part).can_next l.part-iterator;
  finite : (goal.iterator-loop-part).is_finite l.part-iterator;
  same : map (λ word. word.now) l.words.items
      ++ map (λ row. row.argument)
      (map row_of (parts_left l.part-iterator.separator (option_map (λ (t : Bor (List ℕ)). t.now) l.part-iterator.rest)))
      ≡ arguments_of (module_view l.self);
}
