-- For private contracts and proofs alone: the stacks that meet a problem, one after another.
use Rattle.std.specs.Prelude.{◌≡◌, ◌⊎◌, ℕ, ◌+◌, ◌==◌, if◌then◌else◌, Option, Some, None, unwrap_or}
use Rattle.pam_conf.specs.declared.rule.Kind.{Kind}
use Rattle.pam_facts.specs.Kinds.{no_kinds, with_kind}
use Rattle.pam_findings.specs.host.Met.{AreMet, IsMetByNone}
use Rattle.pam_findings.specs.declared.host.met.Met.{Met}

-- those that are known, and one more stack of the last service
abbrev pub met_again : Kind → Met → Met
met_again kind met = record met { kinds = with_kind kind met.kinds }

-- those that are known, and a stack of a service after the last one
abbrev pub met_anew : ℕ → Kind → Met → Met
met_anew service kind met = record {
  kinds = with_kind kind met.kinds;
  first = met.first;
  second = Some (unwrap_or met.second service);
  last = service;
  services = met.services + 1;
}

-- those that are known, and the stack of a service that is none of the earlier ones
abbrev pub also_met : ℕ → Kind → Option Met → Met
also_met service kind None = record { kinds = with_kind kind no_kinds; first = service; second = None; last = service; services = 1 }
also_met service kind (Some met) = if met.last == service then met_again kind met else met_anew service kind met

-- what is known of the stacks that meet it
abbrev pub MetSoFar : (ℕ → Kind → Type 0) → Option Met → Type 0
MetSoFar Meets None = IsMetByNone Meets
MetSoFar Meets (Some met) = AreMet Meets met

-- a value becomes another one exactly if something holds, and else stays
abbrev pub Changes : {X : Type 0} → Type 0 → X → Option X → Option X → Type 0
Changes Holds value old new = (Holds × (new ≡ Some value)) ⊎ ((Holds → ⊥) × (new ≡ old))
