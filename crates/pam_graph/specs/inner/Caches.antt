-- For private contracts and proofs alone: the classes that are kept while a graph is built.
use Rattle.std.specs.Prelude.{◌≡◌, All, List, length}
use Rattle.pam_dispatch.specs.declared.flat_item.FlatItem.{FlatItem}
use Rattle.pam_graph.specs.declared.caches.TheConstants.{CACHES}
use Rattle.pam_paths.specs.declared.class_cache.ClassCache.{ClassCache}
use Rattle.pam_paths.specs.Cached.{IsCacheFor}
use Rattle.pam_paths.specs.Listing.{Allowance}

-- each of the caches has nothing but classes of this program under this knowledge
pub record AreCachesFor (allows : Allowance) (program : List FlatItem) (caches : List ClassCache) : Type 0 where
  pub count : length caches ≡ CACHES
  pub each : All (IsCacheFor allows program) caches
