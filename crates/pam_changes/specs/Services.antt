-- The services that are compared: pam.conf(5), on /etc/pam.d/ and /etc/pam.conf.
use Rattle.std.specs.Prelude.{ℕ, Bool, List, [], ◌∷◌, fold, map}
use Rattle.std.specs.Char.{to_ascii_lowercase}
use Rattle.std.specs.List.{list_any}
use Rattle.std.specs.Str.{bytes_eq}
use Rattle.pam_conf.specs.Services.{each_once, or_other, services_in, with_name}
use Rattle.pam_changes.specs.Sides.{SideText, SidesText}
use Rattle.pam_changes.specs.declared.services.ComparedService.{ComparedService}

-- the services of a configuration
abbrev pub services_of : SideText → List (List ℕ)
services_of side = services_in side.folder.form side.folder.entries

-- THE NAMES, of the services of two configurations: those that are named, in lowercase, each once; or else the services of the old
-- configuration, and then those that only the new one has, or `other` if there is none
unfoldable pub names_among : List (List ℕ) → List (List ℕ) → List (List ℕ) → List (List ℕ)
names_among olds news [] = or_other (fold with_name olds news)
names_among olds news (name ∷ names) = each_once (map (λ n. map to_ascii_lowercase n) (name ∷ names))

abbrev pub compared_names : SidesText → List (List ℕ) → List (List ℕ)
compared_names sides named = names_among (services_of sides.old) (services_of sides.new) named

abbrev pub is_among : List (List ℕ) → List ℕ → Bool
is_among names name = list_any (bytes_eq name) names

-- a service, and which configurations have it
pub record ServiceText : Type 0 where
  pub name : List ℕ
  pub in_old : Bool
  pub in_new : Bool

abbrev pub service_text : ComparedService → ServiceText
service_text s = record { name = s.name.items; in_old = s.in_old; in_new = s.in_new }

abbrev pub presence_in : List (List ℕ) → List (List ℕ) → List ℕ → ServiceText
presence_in olds news name = record { name = name; in_old = is_among olds name; in_new = is_among news name }

-- THE SERVICES that are compared
abbrev pub compared_services : SidesText → List (List ℕ) → List ServiceText
compared_services sides named = map (presence_in (services_of sides.old) (services_of sides.new)) (compared_names sides named)
