use Rattle.std.proofs.Common.{◌≡◌, ◌++◌, drop, map}
use Rattle.pam_facts.specs.Views.{row_view}
use Rattle.pam_facts.proofs.names.names_of.Given as goal

-- the names so far, and those of the rows that are left
abbrev pub invariant-loop-row : goal.invariant-loop-row
invariant-loop-row l = l.names ++ map (λ row. row.name) (map row_view (drop l.row-index l.rows)) ≡ map (λ row. row.name) (map row_view l.rows)
