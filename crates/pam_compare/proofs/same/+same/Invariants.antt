use Rattle.std.proofs.Common.{◌≡◌, drop}
use Rattle.pam_conf.specs.ItemsOf.{items_of}
use Rattle.pam_compare.specs.Same.{same_items}
use Rattle.pam_compare.proofs.same.+same.Given as goal

-- the items that are left
abbrev pub invariant-are_same_lists-loop-index : goal.invariant-are_same_lists-loop-index
invariant-are_same_lists-loop-index l =
    same_items (items_of (drop l.index l.one)) (items_of (drop l.index l.other)) ≡ same_items (items_of l.one) (items_of l.other)
