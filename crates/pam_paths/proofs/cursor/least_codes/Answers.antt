use Rattle.std.proofs.Common.{◌≡◌, ◌+◌, ◌<◌, ◌++◌, ◌∷◌, [], ℕ, length, List, map, take, arith, ap, sym, ◌∙◌, get_or}
use Rattle.std.proofs.lemmas.List.{map-append, take_more}
use Rattle.pam_paths.specs.declared.path.PathStep.{PathStep}
use Rattle.pam_paths.specs.Classes.{least}
use Rattle.pam_paths.specs.Paths.{key_of}
use Rattle.pam_paths.specs.Steps.{step_seen}
use Rattle.pam_paths.proofs.Keys.{key_of-append, All-none, All-code}
use Rattle.pam_paths.proofs.cursor.least_codes.Goals as goal

pub loop-step-init : goal.loop-step-init
unfolding key_of
loop-step-init c = let e = c.new-codes.ensures in record { value = e; codes = All-none (λ code. code < 31) _ e; len = ap (λ (x : List ℕ). length x) e }

more : (xs ys : List ℕ) (ss : List PathStep) (i n : ℕ) (s : PathStep) → i < length ss → s ≡ get_or ss i s →
    ys ≡ xs ++ n ∷ [] → n ≡ least s.class → xs ≡ key_of (map step_seen (take i ss)) → ys ≡ key_of (map step_seen (take (i + 1) ss))
more xs ys ss i n s l is e same h =
    e ∙ ap (λ (x : List ℕ). x ++ n ∷ []) h
    ∙ ap (λ (x : ℕ). key_of (map step_seen (take i ss)) ++ x ∷ []) (same ∙ ap (λ (x : PathStep). least x.class) is)
    ∙ sym (ap (λ (x : List PathStep). key_of (map step_seen x)) (take_more ss i s l) ∙ ap key_of (map-append step_seen (take i ss) (get_or ss i s ∷ []))
    ∙ key_of-append (map step_seen (take i ss)) (step_seen (get_or ss i s)))

pub loop-step-preserved : goal.loop-step-preserved
loop-step-preserved c = record {
  value = more c.loop-step.codes.items _ _ _ _ c.step-item.result c.loop-step-test.true c.step-item.is c.push.ensures.items c.least_number.ensures.value
      c.loop-step.invariant.value;
  codes = All-code (λ code. code < 31) c.loop-step.codes.items _ _ c.push.ensures.items c.loop-step.invariant.codes c.least_number.ensures.code;
  len = omega (arith, c.push.ensures.len, c.loop-step.invariant.len);
}

pub returns-clause-cursor : goal.returns-clause-cursor
returns-clause-cursor c = record { are_codes = c.loop-step.invariant.codes; few = omega (arith, c.loop-step.invariant.len, c.loop-step.auto, c.requires) }
