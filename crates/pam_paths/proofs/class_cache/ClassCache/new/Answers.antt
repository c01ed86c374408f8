use Rattle.std.proofs.Common.{◌-◌, None, arith, ap}
use Rattle.std.proofs.lemmas.List.{get_or-replicate}
use Rattle.pam_paths.specs.declared.class_cache.CachedClasses.{CachedClasses}
use Rattle.pam_paths.specs.Cached.{AreCached, IsCachedFor}
use Rattle.pam_paths.proofs.class_cache.ClassCache.new.Goals as goal

pub returns : goal.returns
unfolding AreCached IsCachedFor
returns c allows program number first last past place valid asked is =
    let none = ap (λ (kept : CachedClasses). kept.situation) (get_or-replicate 256 (number - 1) (record { situation = None; classes = c.default.result }) past
    (omega (arith, first, last))) in
    cc
