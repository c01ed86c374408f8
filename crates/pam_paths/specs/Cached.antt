-- The classes that are cached of the modules.
use Rattle.std.specs.Prelude.{◌≡◌, ℕ, ◌-◌, ◌≤◌, Bool, List, Option, Some, slice_index_or}
use Rattle.std.specs.List.{list_any}
use Rattle.pam_conf.specs.declared.stack.TheConstants.{MAX_MODULES}
use Rattle.pam_dispatch.specs.declared.asked.Situation.{Situation}
use Rattle.pam_dispatch.specs.declared.flat_item.FlatItem.{FlatItem}
use Rattle.pam_dispatch.specs.declared.place.Place.{Place}
use Rattle.pam_dispatch.specs.Flat.{IsPlaceOf, rest_of}
use Rattle.pam_dispatch.specs.Representatives.{is_reset}
use Rattle.pam_dispatch.specs.Runs.{Ask, asked_module, next_ask, situation_of}
use Rattle.pam_dispatch.specs.Situations.{representative}
use Rattle.pam_paths.specs.declared.class_cache.CachedClasses.{CachedClasses}
use Rattle.pam_paths.specs.declared.class_cache.ClassCache.{ClassCache}
use Rattle.pam_paths.specs.Frames.{AreClasses, offered_at}
use Rattle.pam_paths.specs.Listing.{Allowance}

-- whether the control of a module has the action reset for some code
abbrev pub has_reset : Ask → Bool
has_reset ask = list_any is_reset ask.control

-- a situation that is cached stands for the one in which a module is asked: they have one representative
abbrev pub StandsFor : Option Situation → Ask → Type 0
StandsFor cached ask =
    (last : Situation) × (cached ≡ Some last) × (representative (has_reset ask) last ≡ representative (has_reset ask) (situation_of ask))

-- classes are those of a module wherever it is asked in a situation for which the one that is cached with them stands
unfoldable pub IsCachedFor : Allowance → List FlatItem → ℕ → CachedClasses → Type 0
IsCachedFor allows program number cached =
    (place : Place) → IsPlaceOf program place → asked_module (rest_of program place) ≡ Some number
    → StandsFor cached.situation (next_ask (rest_of program place))
    → (cached.classes.offered ≡ offered_at allows (rest_of program place)) × AreClasses (next_ask (rest_of program place)) cached.classes

-- this holds of the classes cached of each module
unfoldable pub AreCached : Allowance → List FlatItem → List CachedClasses → Type 0
AreCached allows program modules =
    (number : ℕ) → 1 ≤ number → number ≤ MAX_MODULES → (past : CachedClasses) → IsCachedFor allows program number (slice_index_or modules (number - 1) past)

-- a cache has nothing but classes of this program under this knowledge
abbrev pub IsCacheFor : Allowance → List FlatItem → ClassCache → Type 0
IsCacheFor allows program cache = AreCached allows program cache.modules
