-- the rows that are left find the same one
use Rattle.std.proofs.Common.{◌≡◌, ◌&&◌, ℕ, List, Bor, map}
use Rattle.std.specs.Prelude.{find}
use Rattle.std.specs.Option.{option_map}
use Rattle.pam_facts.specs.arguments.Rows.{is_longer, row_of}
use Rattle.pam_facts.specs.arguments.Verdicts.{is_read}
use Rattle.pam_facts.specs.arguments.Views.{module_view}
use Rattle.pam_facts.specs.arguments.inner.Cuts.{parts_left}
use Rattle.pam_facts.proofs.arguments.modules.Module.longer.Given as goal

abbrev pub invariant-loop-part : goal.invariant-loop-part
invariant-loop-part l = record {
  can : (goal.iterator-loop-part).can_next l.part-iterator;
  finite : (goal.iterator-loop-part).is_finite l.part-iterator;
  same : find (λ row. is_longer row l.word && is_read (module_view l.self).kinds l.kind row)
      (map row_of (parts_left l.part-iterator.separator (option_map (λ (t : Bor (List ℕ)). t.now) l.part-iterator.rest)))
      ≡ find (λ row. is_longer row l.word && is_read (module_view l.self).kinds l.kind row) (module_view l.self).rows;
}
