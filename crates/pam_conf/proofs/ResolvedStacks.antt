-- The bounds of a resolved stack.
use Rattle.std.proofs.Common.{◌≡◌, ◌-◌, ℕ, List, [], ◌∷◌, Option, Some, None, Result, Ok, Err, codes, map, refl, arith, subst}
use Rattle.std.specs.Char.{to_ascii_lowercase}
use Rattle.std.specs.Option.{option_map_or}
use Rattle.pam_conf.specs.Files.{Folder}
use Rattle.pam_conf.specs.Laws.{IsStack, ResolvedIsStack}
use Rattle.pam_conf.specs.Resolution.{StartText, from_starts, resolved, stack_from, start_of, unless_empty}
use Rattle.pam_conf.specs.Stack.{Items, End, ThenModule, ThenSub}
use Rattle.pam_conf.specs.Walk.{numbered, refusal, rules_at, walk}
use Rattle.pam_conf.specs.declared.conf_error.ConfError.{ConfError}
use Rattle.pam_conf.specs.declared.rule.Kind.{Kind}
use Rattle.pam_conf.specs.declared.trail.TheConstants.{MAX_OPEN_FILES}
use Rattle.pam_conf.proofs.CountLemmas.{walk-few}
use Rattle.pam_conf.proofs.DepthLemmas.{depth-numbered, depth-walk, numbered-from}
use Rattle.pam_conf.proofs.WalkLemmas.{module_count-numbered}

abbrev IsStackIfAny : Result Items ConfError → Type 0
IsStackIfAny (Ok items) = IsStack items
IsStackIfAny (Err fault) = Unit {0}

module _ (folder : Folder) (kind : Kind) where
  walk-stack : (service : Option (List ℕ)) (file : ℕ) →
      let w = walk folder (rules_at folder) kind service (MAX_OPEN_FILES - 1) (file ∷ []) file in
      refusal 0 0 w.events ≡ None → IsStack (numbered 1 w.items)
  walk-stack service file none =
      let w = walk folder (rules_at folder) kind service (MAX_OPEN_FILES - 1) (file ∷ []) file in (
        numbered-from 1 w.items,
        omega (arith, module_count-numbered 1 w.items, walk-few folder (rules_at folder) kind service (MAX_OPEN_FILES - 1) (file ∷ []) file none),
        omega (arith, depth-numbered 1 w.items, depth-walk folder (rules_at folder) kind service (MAX_OPEN_FILES - 1) (file ∷ []) file),
      )

  start-stack : (start : StartText) → IsStackIfAny (stack_from folder kind start)
  unfolding stack_from
  start-stack start =
      let w = walk folder (rules_at folder) kind start.service (MAX_OPEN_FILES - 1) (start.file ∷ []) start.file in
      elim (refusal 0 0 w.events) as (λ (o : Option ConfError).
      refusal 0 0 w.events ≡ o → IsStackIfAny (option_map_or Err o (Ok (numbered 1 w.items)))) [
        | None ↦ walk-stack start.service start.file
        | Some fault ↦ λ _. tt
      ] refl

  unless-stack : (other : Option StartText) (own : Result Items ConfError) → IsStackIfAny own → IsStackIfAny (unless_empty folder kind other own)
  unless-stack None (Err fault) h = tt
  unless-stack (Some other) (Err fault) h = tt
  unless-stack None (Ok items) h = h
  unless-stack (Some other) (Ok End) h = start-stack other
  unless-stack (Some other) (Ok (ThenModule m rest)) h = h
  unless-stack (Some other) (Ok (ThenSub s inner rest)) h = h

  starts-stack : (own other : Option StartText) → IsStackIfAny (from_starts folder kind own other)
  starts-stack None None = tt
  starts-stack None (Some other) = start-stack other
  starts-stack (Some own) other = unless-stack other (stack_from folder kind own) (start-stack own)

pub resolved_stack : ResolvedIsStack
unfolding resolved
resolved_stack folder service kind items is =
    subst IsStackIfAny is (starts-stack folder kind (start_of folder (rules_at folder) (map to_ascii_lowercase service)) (start_of folder
    (rules_at folder) (codes "other")))
