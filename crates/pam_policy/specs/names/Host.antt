-- What a host has, of which the words of a policy speak.
use Rattle.std.specs.Prelude.{ℕ, List, map, Option}
use Rattle.std.specs.Option.{option_map}
use Rattle.pam_policy.specs.declared.names.host.Call.{Call}
use Rattle.pam_policy.specs.declared.names.host.Host.{Host}

-- THE CALL of a module by a rule: the path and the arguments that the rule has
pub record CallText : Type 0 where
  pub path : List ℕ
  pub arguments : List (List ℕ)

abbrev pub call_view : Call → CallText
call_view call = record { path = call.path.items; arguments = call.arguments }

-- A HOST: its services, the calls of its rules, the names of the modules of which the facts have a row, and the paths at which a module
-- is there, if these are known
pub record HostText : Type 0 where
  pub services : List (List ℕ)
  pub calls : List CallText
  pub known : List (List ℕ)
  pub there : Option (List (List ℕ))

abbrev pub host_view : Host → HostText
host_view host = record {
  services = host.services.now;
  calls = map call_view host.calls.now;
  known = host.known.now;
  there = option_map (λ paths. paths.now) host.there;
}
