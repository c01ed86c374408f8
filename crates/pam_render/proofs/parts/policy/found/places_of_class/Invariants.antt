-- the places so far that are of the class
use Rattle.std.proofs.Common.{◌≡◌, take}
use Rattle.std.specs.List.{filter}
use Rattle.pam_render.specs.parts.Policy.{is_of_class}
use Rattle.pam_render.specs.parts.PolicyView.{host_view}
use Rattle.pam_render.proofs.parts.policy.found.places_of_class.Given as goal

abbrev pub invariant-loop-position : goal.invariant-loop-position
invariant-loop-position l = l.places.items ≡ filter (is_of_class (host_view l.host) l.class) (take l.position-index l.spoken)
