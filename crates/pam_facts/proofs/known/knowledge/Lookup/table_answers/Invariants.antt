use Rattle.std.proofs.Common.{◌≡◌, ◌+◌, ◌-◌}
use Rattle.std.specs.List.{range_with_len}
use Rattle.pam_conf.specs.Stack.{module_count}
use Rattle.pam_paths.specs.Known.{set_for}
use Rattle.pam_facts.specs.known.Knowledge.{first_fault, numbers}
use Rattle.pam_facts.specs.known.inner.Sets.{AreDone, IsKept, IsSaidSet, IsTableSet, said_of, told_of_number}
use Rattle.pam_facts.proofs.known.knowledge.Lookup.table_answers.Given as goal

abbrev pub invariant-loop-index : goal.invariant-loop-index
invariant-loop-index l = record {
  faults : first_fault (told_of_number l.self l.stack) (range_with_len (l.index + 1) (module_count l.stack - l.index))
      ≡ first_fault (told_of_number l.self l.stack) (numbers l.stack);
  sets : AreDone (module_count l.stack) (IsSaidSet (said_of l.self l.stack)) (IsTableSet (told_of_number l.self l.stack) (said_of l.self l.stack))
      (set_for l.known) l.index;
  kept : IsKept l.self l.kept;
}
