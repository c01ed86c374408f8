use Rattle.std.proofs.Common.{◌≡◌, ◌++◌, drop, map}
use Rattle.pam_policy.specs.host.Places.{place_view}
use Rattle.pam_policy.specs.host.Told.{told_place}
use Rattle.pam_policy.proofs.host.told.places_of.Given as goal

-- the places so far, and those that are left
abbrev pub invariant-loop-place : goal.invariant-loop-place
invariant-loop-place l =
    map place_view l.told.items ++ map (told_place (map (λ name. name.now) l.names)) (drop l.place-index l.places)
    ≡ map (told_place (map (λ name. name.now) l.names)) l.places
