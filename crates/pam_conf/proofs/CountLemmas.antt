-- The number of modules that a walk meets.
use Rattle.std.proofs.Common.{◌≡◌, ◌≤◌, ◌+◌, ℕ, zero, suc, Bool, true, false, cond, eqb, List, [], ◌∷◌, ◌++◌, Option, Some, None, Result, Ok, Err}
use Rattle.std.proofs.Common.{refl, arith}
use Rattle.std.proofs.lemmas.Bool.{cond_both, eqb-false}
use Rattle.std.specs.List.{list_any}
use Rattle.pam_conf.specs.Files.{Folder, position_of}
use Rattle.pam_conf.specs.Laws.{modules_met as met}
use Rattle.pam_conf.specs.Rule.{RuleText, RuleBody, Module, Include, Sub}
use Rattle.pam_conf.specs.Stack.{module_count}
use Rattle.pam_conf.specs.Walk.{Reads, Walk, Event, Met, Followed, Failed, Deeper, walk, refusal, target_walk, include_walk, sub_walk, body_walk, rules_walk}
use Rattle.pam_conf.specs.Walk.{read_walk, counts, fault_at, ◌then◌, nothing}
use Rattle.pam_conf.specs.declared.conf_error.ConfError.{ConfError}
use Rattle.pam_conf.specs.declared.error.FaultKind.{FaultKind}
use Rattle.pam_conf.specs.declared.error.FaultKind.TheVariants.{Cycle, TooDeep, TooManyFollowed, TooManyModules}
use Rattle.pam_conf.specs.declared.error.RuleFault.{RuleFault}
use Rattle.pam_conf.specs.declared.rule.Kind.{Kind}
use Rattle.pam_conf.specs.declared.stack.TheConstants.{MAX_MODULES}
use Rattle.pam_conf.specs.declared.walk.TheConstants.{MAX_FOLLOWS}
use Rattle.pam_conf.proofs.StackTree.{module_count-joined}

met-append : (xs ys : List Event) → met (xs ++ ys) ≡ met xs + met ys
met-append [] ys = omega arith
met-append (Met file line ∷ xs) ys = omega (arith, met-append xs ys)
met-append (Followed file line target ∷ xs) ys = met-append xs ys
met-append (Failed fault ∷ xs) ys = met-append xs ys

-- events without a refusal have few modules
refusal-few : (modules follows : ℕ) (events : List Event) → modules ≤ MAX_MODULES → refusal modules follows events ≡ None →
    modules + met events ≤ MAX_MODULES
unfolding refusal
refusal-few modules follows [] few none = omega (arith, few)
refusal-few modules follows (Met file line ∷ events) few none =
    cond_both (eqb modules MAX_MODULES) (Some (fault_at file line TooManyModules)) (refusal (modules + 1) follows events)
    (λ (o : Option ConfError). o ≡ None → modules + (met events + 1) ≤ MAX_MODULES)
    (λ full refused. absurd (cc))
    (λ room passed.
    let other = eqb-false modules MAX_MODULES room in
    omega (arith, refusal-few (modules + 1) follows events (omega (arith, few, other)) passed)) none
refusal-few modules follows (Followed file line target ∷ events) few none =
    cond_both (eqb follows MAX_FOLLOWS) (Some (fault_at file line TooManyFollowed)) (refusal modules (follows + 1) events)
    (λ (o : Option ConfError). o ≡ None → modules + met events ≤ MAX_MODULES)
    (λ full refused. absurd (cc))
    (λ room passed. refusal-few modules (follows + 1) events few passed) none
refusal-few modules follows (Failed fault ∷ events) few none = absurd (cc)

-- THE MODULES OF A WALK ARE THOSE THAT IT MEETS

abbrev IsCounted : Walk → Type 0
IsCounted w = met w.events ≡ module_count w.items

abbrev AreCounted : Deeper → Type 0
AreCounted None = Unit {0}
AreCounted (Some w) = (trail : List ℕ) (file : ℕ) → IsCounted (w trail file)

abbrev IsCountedTarget : Result (ℕ × Walk) FaultKind → Type 0
IsCountedTarget (Err kind) = Unit {0}
IsCountedTarget (Ok target) = IsCounted target.1

then-counted : (first second : Walk) → IsCounted first → IsCounted second → IsCounted (first then second)
then-counted first second f s = omega (arith, met-append first.events second.events, module_count-joined first.items second.items, f, s)

target-counted : (d : Deeper) (trail : List ℕ) (o : Option ℕ) → AreCounted d → IsCountedTarget (target_walk d trail o)
target-counted d trail None h = tt
target-counted None trail (Some p) h =
    elim (list_any (λ q. eqb q p) trail) as (λ (t : Bool). IsCountedTarget (cond t (Err Cycle) (Err TooDeep))) [ true ↦ tt | false ↦ tt ]
target-counted (Some w) trail (Some p) h =
    elim (list_any (λ q. eqb q p) trail) as (λ (t : Bool). IsCountedTarget (cond t (Err Cycle) (Ok (p, w (trail ++ p ∷ []) p))))
    [ true ↦ tt | false ↦ h (trail ++ p ∷ []) p ]

include-counted : (file line : ℕ) (found : Result (ℕ × Walk) FaultKind) → IsCountedTarget found → IsCounted (include_walk file line found)
include-counted file line (Err kind) h = refl
include-counted file line (Ok target) h = h

sub-counted : (file line : ℕ) (found : Result (ℕ × Walk) FaultKind) → IsCountedTarget found → IsCounted (sub_walk file line found)
sub-counted file line (Err kind) h = refl
sub-counted file line (Ok target) h = omega (arith, h)

module _ (folder : Folder) (reads : Reads) (kind : Kind) (service : Option (List ℕ)) where
  body-counted : (d : Deeper) (trail : List ℕ) (file : ℕ) (r : RuleText) (b : RuleBody) → AreCounted d →
      IsCounted (body_walk folder reads kind service d trail file r b)
  body-counted d trail file r (Module control path arguments) h = refl
  body-counted d trail file r (Include target) h =
      include-counted file r.line (target_walk d trail (position_of target folder.entries)) (target-counted d trail (position_of target folder.entries) h)
  body-counted d trail file r (Sub target) h =
      sub-counted file r.line (target_walk d trail (position_of target folder.entries)) (target-counted d trail (position_of target folder.entries) h)

  rules-counted : (d : Deeper) (trail : List ℕ) (file : ℕ) (rules : List RuleText) → AreCounted d →
      IsCounted (rules_walk folder reads kind service d trail file rules)
  rules-counted d trail file [] h = refl
  rules-counted d trail file (r ∷ rules) h =
      elim (counts kind service r) as (λ (t : Bool). IsCounted (cond t (body_walk folder reads kind service d trail file r r.body) nothing
      then rules_walk folder reads kind service d trail file rules)) [
        | true ↦ then-counted (body_walk folder reads kind service d trail file r r.body) (rules_walk folder reads kind service d trail file rules)
            (body-counted d trail file r r.body h) (rules-counted d trail file rules h)
        | false ↦ rules-counted d trail file rules h
      ]

  read-counted : (d : Deeper) (trail : List ℕ) (file : ℕ) (r : Result (List RuleText) RuleFault) → AreCounted d →
      IsCounted (read_walk folder reads kind service d trail file r)
  read-counted d trail file (Err fault) h = refl
  read-counted d trail file (Ok rules) h = rules-counted d trail file rules h

  walk-counted : (room : ℕ) (trail : List ℕ) (file : ℕ) → IsCounted (walk folder reads kind service room trail file)
  unfolding walk
  walk-counted zero trail file = read-counted None trail file (reads file) tt
  walk-counted (suc room) trail file = read-counted (Some (walk folder reads kind service room)) trail file (reads file) (walk-counted room)

  -- a walk that is not refused has few modules
  pub walk-few : (room : ℕ) (trail : List ℕ) (file : ℕ) → refusal 0 0 (walk folder reads kind service room trail file).events ≡ None →
      module_count (walk folder reads kind service room trail file).items ≤ MAX_MODULES
  walk-few room trail file none =
      omega (arith, walk-counted room trail file, refusal-few 0 0 (walk folder reads kind service room trail file).events (omega arith) none)
