use Rattle.std.proofs.Common.{List, ap, arith, length, subst, sym}
use Rattle.pam_dispatch.specs.Keys.{KeyValue}
use Rattle.pam_graph.specs.Reached.{AreReachedKeys}
use Rattle.pam_graph.proofs.Growing.{built-empty}
use Rattle.pam_graph.proofs.Leading.{no-edges}
use Rattle.pam_graph.proofs.building.Draft.new.Goals as goal

pub returns : goal.returns
unfolding AreReachedKeys
returns c limit allows program = record {
  built = built-empty _ program _ _ c.new.ensures.items c.new-2.ensures;
  cached = c.in_ok-new_caches.ensures allows program;
  keys = subst (AreReachedKeys allows program) (sym c.new-2.ensures) tt;
  fits = omega (arith, ap (λ (x : List KeyValue). length x) c.new-2.ensures);
  edges = no-edges allows program _ _ c.new-2.ensures c.new.ensures.items;
}
