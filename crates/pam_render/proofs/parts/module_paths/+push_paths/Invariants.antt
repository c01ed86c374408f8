-- the paths so far, and then those of the items left; and there is room for these
use Rattle.std.proofs.Common.{◌≡◌, ◌+◌, ◌++◌, ◌≤◌, drop, length, map}
use Rattle.pam_conf.specs.ItemsOf.{items_of}
use Rattle.pam_conf.specs.Stack.{module_count}
use Rattle.pam_conf.specs.declared.stack.TheConstants.{MAX_MODULES}
use Rattle.pam_render.specs.parts.inner.ModulePaths.{paths_of}
use Rattle.pam_render.proofs.parts.module_paths.+push_paths.Given as goal

abbrev pub decreases-push_paths : goal.decreases-push_paths
decreases-push_paths l = goal.size-push_paths l

abbrev pub invariant-loop-item : goal.invariant-loop-item
invariant-loop-item l =
    (map (λ path. path.now) l.paths.items ++ paths_of (items_of (drop l.item-index l.items))
    ≡ map (λ path. path.now) l.initial.paths.items ++ paths_of (items_of l.items))
    × (length l.paths.items + module_count (items_of (drop l.item-index l.items)) ≤ MAX_MODULES)
