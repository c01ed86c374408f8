use Rattle.std.proofs.Common.{◌≡◌, ◌+◌, ◌≤◌, List, ℕ, length}
use Rattle.pam_facts.specs.Paths.{module_below, parts_of}
use Rattle.pam_facts.specs.inner.Paths.{Is}
use Rattle.pam_facts.proofs.paths.module_below.Given as goal

-- from the folder so far, the rest of the path leads to the same module; and each part has at least its slash
abbrev pub invariant-loop-name : goal.invariant-loop-name
invariant-loop-name l =
    record {
      leads : (names : List (List ℕ)) → Is l.fn.folder names
          → (far : List (List ℕ)) × Is l.folder far × (module_below far (parts_of l.rest) ≡ module_below names (parts_of l.fn.path));
      depth : l.folder.depth + length l.rest ≤ 3 + length l.fn.path;
    }

abbrev pub decreases-loop-name : goal.decreases-loop-name
decreases-loop-name l = length l.rest
