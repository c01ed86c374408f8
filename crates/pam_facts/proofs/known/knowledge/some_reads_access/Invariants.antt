use Rattle.std.proofs.Common.{◌≡◌, ◌+◌, ◌-◌}
use Rattle.std.specs.List.{list_any, range_with_len}
use Rattle.pam_conf.specs.Stack.{module_count}
use Rattle.pam_facts.specs.known.Knowledge.{numbers, reads_access}
use Rattle.pam_facts.specs.known.Tables.{tables_view}
use Rattle.pam_facts.proofs.known.knowledge.some_reads_access.Given as goal

abbrev pub invariant-loop-index : goal.invariant-loop-index
invariant-loop-index l =
    list_any (reads_access (tables_view l.tables) l.stack) (range_with_len (l.index + 1) (module_count l.stack - l.index))
    ≡ list_any (reads_access (tables_view l.tables) l.stack) (numbers l.stack)
