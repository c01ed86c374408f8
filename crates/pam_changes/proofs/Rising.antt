-- The modules that a run asks rise, and no two modules have the same partner.
use Rattle.std.proofs.Common.{◌≡◌, ◌∙◌, ◌&&◌, ℕ, ◌<◌, ◌≤◌, zero, suc, Bool, true, false, cond, List, map, Option, Some, None}
use Rattle.std.proofs.Common.{arith, inl, inr, sym}
use Rattle.std.proofs.lemmas.Bool.{cases_lt}
use Rattle.std.proofs.lemmas.List.{get_or_past}
use Rattle.std.proofs.lemmas.List.FromFn.{get_or-map-range_with_len, length-map-range_with_len}
use Rattle.std.specs.List.{range_with_len}
use Rattle.pam_compare.specs.Matching.{partner_of}
use Rattle.pam_conf.specs.declared.rule.Kind.{Kind}
use Rattle.pam_conf.specs.Stack.{Items, module_count}
use Rattle.pam_dispatch.specs.Runs.{AsksRise, Assignment, Runs, asked_by, asks, ends, outcome_of}
use Rattle.pam_text.specs.Members.{Member}
use Rattle.pam_changes.specs.Known.{alike_partner, alike_partners, fail_alike, is_alike_at, partner_alike}
use Rattle.pam_changes.specs.Sides.{SidesText}
use Rattle.pam_changes.specs.Steps.{asked_numbers}
use Rattle.pam_changes.proofs.Ordered.{Pairs}

no-number : (i : ℕ) → None ≡ Some i → ⊥
no-number i e = cc

-- numbers that rise, above one number and up to another
pub record RiseWithin (low high : ℕ) (numbers : List ℕ) : Type 0 where
  pub rise : Pairs (λ one other. one < other) numbers
  pub within : (number : ℕ) → Member number numbers → (low < number) × (number ≤ high)

pub numbers-rise : (answers : Assignment) (low high : ℕ) (runs : Runs) → AsksRise low high runs → RiseWithin low high (asked_numbers runs answers)
unfolding AsksRise Member Pairs asked_by
numbers-rise answers low high (ends s) h = record { rise = tt; within = λ n is. absurd is }
numbers-rise answers low high (asks ask next) h =
    let m = ask.module_number in
    let again = numbers-rise answers m high (next (outcome_of ask (answers m))) (h.2 (outcome_of ask (answers m))) in
    record {
      rise = (λ n is. (again.within n is).0, again.rise);
      within = λ n is. elim is [
        | inl e ↦ (omega (arith, e, h.0), omega (arith, e, h.1))
        | inr later ↦ let w = again.within n later in (omega (arith, w.0, h.0), w.1)
      ];
    }

-- a partner of a module that is there alike is its partner
pub alike-partner : (sides : SidesText) (kind : Kind) (old new : Items) (partners : List (Option ℕ)) (j i : ℕ) →
    partner_of (alike_partners sides kind old new partners) j ≡ Some i → partner_of partners j ≡ Some i
unfolding alike_partners
alike-partner sides kind old new partners zero i e = absurd (no-number i e)
alike-partner sides kind old new partners (suc k) i e =
    let n = module_count new in
    let f : ℕ → Option ℕ = alike_partner sides kind old new partners in
    elim (cases_lt k n) [
      | inl low ↦ by-partner (partner_of partners (suc k)) (sym (get_or-map-range_with_len f 1 n k (suc k) None low (omega arith)) ∙ e)
      | inr high ↦
          let past = get_or_past (map f (range_with_len 1 n)) k None (omega (arith, high, length-map-range_with_len f 1 n)) in
          absurd (no-number i (sym past ∙ e))
    ]
  where
    by-test : (t : Bool) (partner : ℕ) → cond t (Some partner) None ≡ Some i → Some partner ≡ Some i
    by-test true partner e = e
    by-test false partner e = absurd (no-number i e)

    by-partner : (o : Option ℕ) → partner_alike sides kind old new o (suc k) ≡ Some i → o ≡ Some i
    by-partner None e = absurd (no-number i e)
    by-partner (Some partner) e = by-test (is_alike_at sides new (suc k) && fail_alike sides kind old new partner (suc k)) partner e
