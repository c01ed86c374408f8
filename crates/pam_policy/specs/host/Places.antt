-- The places of a host, of which rules speak.
use Rattle.std.specs.Prelude.{ℕ, ◌&&◌, Bool, false, List, [], ◌∷◌, ◌++◌, filter, fold, length, map, nat_eq, slice_get, if◌then◌else◌}
use Rattle.std.specs.List.{list_any, range_with_len}
use Rattle.std.specs.Option.{option_map_or}
use Rattle.pam_conf.specs.declared.rule.Kind.{Kind}
use Rattle.pam_facts.specs.Kinds.{has_kind}
use Rattle.pam_policy.specs.declared.host.place.Place.{Place}
use Rattle.pam_policy.specs.text.Rules.{RuleText}
use Rattle.pam_policy.specs.text.Services.{fits}

-- A PLACE: the stack of a service for a kind. Stacks of a kind with the same items and the same answers have one class
pub record PlaceText : Type 0 where
  pub service : List ℕ
  pub kind : Kind
  pub class : ℕ

abbrev pub place_view : Place → PlaceText
place_view place = record { service = place.service.now; kind = place.kind; class = place.class }

-- A RULE SPEAKS OF A PLACE: it fits its service, and names its kind
abbrev pub speaks_of : RuleText → PlaceText → Bool
speaks_of rule place = fits rule.services place.service && has_kind place.kind rule.kinds

abbrev pub speaks_at : RuleText → List PlaceText → ℕ → Bool
speaks_at rule places position = option_map_or (speaks_of rule) (slice_get places position) false

-- THE POSITIONS of the places of which a rule speaks, in their order
unfoldable pub spoken_positions : RuleText → List PlaceText → List ℕ
spoken_positions rule places = filter (speaks_at rule places) (range_with_len 0 (length places))

-- classes, each once, and one more
abbrev pub with_class : List ℕ → ℕ → List ℕ
with_class classes class = if list_any (nat_eq class) classes then classes else classes ++ class ∷ []

-- THE CLASSES of these places, each once, in the order of their first places
unfoldable pub spoken_classes : RuleText → List PlaceText → List ℕ
spoken_classes rule places = fold with_class [] (map (λ place. place.class) (filter (speaks_of rule) places))
