-- one of the rows that are left fits if one of all does
use Rattle.std.proofs.Common.{◌≡◌, ◌||◌, ℕ, List, Bor, map}
use Rattle.std.specs.List.{list_any}
use Rattle.std.specs.Option.{option_map}
use Rattle.pam_facts.specs.arguments.Rows.{is_longer, is_whole, row_of}
use Rattle.pam_facts.specs.arguments.Views.{module_view}
use Rattle.pam_facts.specs.arguments.inner.Cuts.{parts_left}
use Rattle.pam_facts.proofs.arguments.modules.Module.has_row.Given as goal

abbrev pub invariant-loop-part : goal.invariant-loop-part
invariant-loop-part l = record {
  can : (goal.iterator-loop-part).can_next l.part-iterator;
  finite : (goal.iterator-loop-part).is_finite l.part-iterator;
  same : list_any (λ row. is_whole row l.word || is_longer row l.word)
      (map row_of (parts_left l.part-iterator.separator (option_map (λ (t : Bor (List ℕ)). t.now) l.part-iterator.rest)))
      ≡ list_any (λ row. is_whole row l.word || is_longer row l.word) (module_view l.self).rows;
}
