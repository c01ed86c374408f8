-- For private contracts and proofs alone: each substack of a list has fewer substacks than the list: pam.conf(5).
use Rattle.std.specs.Prelude.{◌+◌, ◌≤◌, List, [], ◌∷◌}
use Rattle.std.proofs.Common.{arith}
use denote.Param.Weighed.{most}
use Rattle.pam_conf.specs.declared.stack.Item.{Item}
use Rattle.pam_conf.specs.declared.stack.Item.TheVariants.{Module as ModuleItem, Sub as SubItem}
use Rattle.pam_conf.specs.declared.stack.Sub.TheDeep.{deep-Item}
use Rattle.pam_conf.specs.ItemsOf.{items_of}
use Rattle.pam_conf.specs.inner.ItemsOf.{sub_count}

pub most_le-sub_count : (items : List Item) → most (λ i. deep-Item i) items ≤ sub_count (items_of items) + 1
most_le-sub_count [] = omega arith
most_le-sub_count (ModuleItem m ∷ rest) = omega (arith, most_le-sub_count rest)
most_le-sub_count (SubItem s ∷ rest) = omega (arith, most_le-sub_count rest)
