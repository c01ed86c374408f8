-- the items so far are written, and no more than 16 lists are open
use Rattle.std.proofs.Common.{◌+◌, ◌-◌, ◌≤◌, drop}
use Rattle.pam_conf.specs.ItemsOf.{items_of}
use Rattle.pam_conf.specs.Stack.{depth}
use Rattle.pam_render.proofs.PartsProofs.ItemLines.{ItemsBefore}
use Rattle.pam_render.proofs.parts.items.+put_items.Given as goal

abbrev pub decreases-put_items : goal.decreases-put_items
decreases-put_items g l = 16 - l.level

abbrev pub invariant-loop-item : goal.invariant-loop-item
invariant-loop-item g l = record {
  written :
      ItemsBefore g.L.StackLines.line l.files g.W.Write.contents l.initial.out l.out l.level l.items l.item-index;
  shallow : l.level + depth (items_of (drop l.item-index l.items)) ≤ 16;
}
