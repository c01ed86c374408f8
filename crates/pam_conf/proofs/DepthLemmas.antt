use Rattle.std.proofs.Common.{◌≡◌, ◌≤◌, ◌+◌, ℕ, zero, suc, Bool, true, false, cond, eqb, List, [], ◌∷◌, ◌++◌, Option, Some, None, Result, Ok, Err, subst, sym}
use Rattle.std.proofs.Common.{refl, arith}
use Rattle.std.specs.List.{list_any}
use Rattle.pam_conf.specs.Files.{Folder, position_of}
use Rattle.pam_conf.specs.Rule.{RuleText, RuleBody, Module, Include, Sub}
use Rattle.pam_conf.specs.Stack.{Items, End, ThenModule, ThenSub, joined, module_count, depth, IsNumberedFrom}
use Rattle.pam_conf.specs.Walk.{Reads, Walk, Deeper, walk, numbered, target_walk, include_walk, sub_walk, body_walk, rules_walk, read_walk, counts}
use Rattle.pam_conf.specs.declared.error.FaultKind.{FaultKind}
use Rattle.pam_conf.specs.declared.error.FaultKind.TheVariants.{Cycle, TooDeep}
use Rattle.pam_conf.specs.declared.error.RuleFault.{RuleFault}
use Rattle.pam_conf.specs.declared.rule.Kind.{Kind}
use Rattle.pam_conf.proofs.StackTree.{depth-joined, numbered-End, numbered-module, numbered-sub}
use Rattle.pam_conf.proofs.WalkLemmas.{module_count-numbered}

-- NUMBERS

pub numbered-from : (n : ℕ) (items : Items) → IsNumberedFrom n (numbered n items)
numbered-from n End = numbered-End n
numbered-from n (ThenModule m rest) = numbered-module n (record m { number = n }) (numbered (n + 1) rest) refl (numbered-from (n + 1) rest)
numbered-from n (ThenSub s inner rest) =
    numbered-sub n s (numbered n inner) (numbered (n + module_count inner) rest) (numbered-from n inner)
    (subst (λ k. IsNumberedFrom (n + k) (numbered (n + module_count inner) rest)) (sym (module_count-numbered n inner))
    (numbered-from (n + module_count inner) rest))

pub depth-numbered : (n : ℕ) (items : Items) → depth (numbered n items) ≡ depth items
depth-numbered n End = refl
depth-numbered n (ThenModule m rest) = depth-numbered (n + 1) rest
depth-numbered n (ThenSub s inner rest) = omega (arith, depth-numbered n inner, depth-numbered (n + module_count inner) rest)

-- THE NUMBER OF LISTS THAT A WALK OPENS

-- the targets open fewer than `n` lists
IsBelow : ℕ → Deeper → Type 0
IsBelow n None = 1 ≤ n
IsBelow n (Some w) = (1 ≤ n) × ((trail : List ℕ) (file : ℕ) → depth (w trail file).items + 1 ≤ n)

below-one : (n : ℕ) (d : Deeper) → IsBelow n d → 1 ≤ n
unfolding IsBelow
below-one n None h = h
below-one n (Some w) h = h.0

IsFlat : ℕ → Result (ℕ × Walk) FaultKind → Type 0
IsFlat n (Err kind) = Unit {0}
IsFlat n (Ok t) = depth t.1.items + 1 ≤ n

target-depth : (n : ℕ) (d : Deeper) (trail : List ℕ) (o : Option ℕ) → IsBelow n d → IsFlat n (target_walk d trail o)
unfolding IsBelow IsFlat
target-depth n d trail None h = tt
target-depth n None trail (Some p) h =
    elim (list_any (λ q. eqb q p) trail) as (λ (t : Bool). IsFlat n (cond t (Err Cycle) (Err TooDeep))) [ true ↦ tt | false ↦ tt ]
target-depth n (Some w) trail (Some p) h =
    elim (list_any (λ q. eqb q p) trail) as (λ (t : Bool). IsFlat n (cond t (Err Cycle) (Ok (p, w (trail ++ p ∷ []) p))))
    [ true ↦ tt | false ↦ h.1 (trail ++ p ∷ []) p ]

include-depth : (n file line : ℕ) (found : Result (ℕ × Walk) FaultKind) → 1 ≤ n → IsFlat n found → depth (include_walk file line found).items ≤ n
unfolding IsFlat
include-depth n file line (Err kind) one h = one
include-depth n file line (Ok t) one h = omega (arith, h)

sub-depth : (n file line : ℕ) (found : Result (ℕ × Walk) FaultKind) → 1 ≤ n → IsFlat n found → depth (sub_walk file line found).items ≤ n
unfolding IsFlat
sub-depth n file line (Err kind) one h = one
sub-depth n file line (Ok t) one h = omega (arith, h)

module _ (folder : Folder) (reads : Reads) (kind : Kind) (service : Option (List ℕ)) where
  body-depth : (n : ℕ) (d : Deeper) (trail : List ℕ) (file : ℕ) (r : RuleText) (b : RuleBody) → IsBelow n d →
      depth (body_walk folder reads kind service d trail file r b).items ≤ n
  body-depth n d trail file r (Module control path arguments) h = below-one n d h
  body-depth n d trail file r (Include target) h =
      include-depth n file r.line (target_walk d trail (position_of target folder.entries)) (below-one n d h)
      (target-depth n d trail (position_of target folder.entries) h)
  body-depth n d trail file r (Sub target) h =
      sub-depth n file r.line (target_walk d trail (position_of target folder.entries)) (below-one n d h)
      (target-depth n d trail (position_of target folder.entries) h)

  rules-depth : (n : ℕ) (d : Deeper) (trail : List ℕ) (file : ℕ) (rules : List RuleText) → IsBelow n d →
      depth (rules_walk folder reads kind service d trail file rules).items ≤ n
  rules-depth n d trail file [] h = below-one n d h
  rules-depth n d trail file (r ∷ rules) h =
      elim (counts kind service r) as (λ (t : Bool). depth (joined (cond t (body_walk folder reads kind service d trail file r r.body)
      (record { events = []; items = End })).items (rules_walk folder reads kind service d trail file rules).items) ≤ n) [
        | true ↦ omega (
          arith,
          depth-joined (body_walk folder reads kind service d trail file r r.body).items (rules_walk folder reads kind service d trail file rules).items,
          body-depth n d trail file r r.body h,
          rules-depth n d trail file rules h,
        )
        | false ↦ rules-depth n d trail file rules h
      ]

  read-depth : (n : ℕ) (d : Deeper) (trail : List ℕ) (file : ℕ) (r : Result (List RuleText) RuleFault) → IsBelow n d →
      depth (read_walk folder reads kind service d trail file r).items ≤ n
  read-depth n d trail file (Err fault) h = below-one n d h
  read-depth n d trail file (Ok rules) h = rules-depth n d trail file rules h

  -- a walk opens at most one list more than the number of files that it may open
  pub depth-walk : (room : ℕ) (trail : List ℕ) (file : ℕ) → depth (walk folder reads kind service room trail file).items ≤ room + 1
  unfolding walk IsBelow
  depth-walk zero trail file = read-depth 1 None trail file (reads file) (omega arith)
  depth-walk (suc room) trail file =
      read-depth (suc room + 1) (Some (walk folder reads kind service room)) trail file (reads file)
      (omega arith, λ t f. omega (arith, depth-walk room t f))
