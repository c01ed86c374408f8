-- Runs that come to a rest.
use Rattle.std.proofs.Common.{◌≡◌, ◌∙◌, ℕ, zero, suc, Some, None, ap, refl, sym}
use Rattle.pam_dispatch.specs.Runs.{Assignment, Runs, ends, asks, after_answer, asked_module, final_state, outcome_of}
use Rattle.pam_compare.specs.Situations.{Comes, after_steps}

some-number : (i j : ℕ) → Some i ≡ Some j → i ≡ j
some-number i j e = cc

none-number : (i : ℕ) → None ≡ Some i → ⊥
none-number i e = cc

one-more : (a : Assignment) (n : ℕ) (runs : Runs) (i : ℕ) → asked_module (after_steps n runs a) ≡ Some i →
    after_steps (suc n) runs a ≡ after_answer (after_steps n runs a) (a i)
unfolding after_steps
one-more a zero (ends s) i e = absurd (none-number i e)
one-more a zero (asks ask next) i e = ap (λ (m : ℕ). next (outcome_of ask (a m))) (some-number ask.module_number i e)
one-more a (suc n) (ends s) i e = absurd (none-number i e)
one-more a (suc n) (asks ask next) i e = one-more a n (next (outcome_of ask (a ask.module_number))) i e

-- a run that comes to a rest comes to what is left after the next answer
pub comes-on : (runs rest : Runs) (a : Assignment) (i code : ℕ) → Comes runs a rest → asked_module rest ≡ Some i → a i ≡ code →
    Comes runs a (after_answer rest code)
comes-on runs rest a i code c e is = (
  suc c.0,
  ap (λ (r : Runs). after_answer r code) c.1 ∙ ap (after_answer (after_steps c.0 runs a)) (sym is)
      ∙ sym (one-more a c.0 runs i (sym (ap asked_module c.1) ∙ e)),
)

same-end : (n : ℕ) (runs : Runs) (a : Assignment) → final_state (after_steps n runs a) a ≡ final_state runs a
unfolding after_steps final_state
same-end zero runs a = refl
same-end (suc n) (ends s) a = refl
same-end (suc n) (asks ask next) a = same-end n (next (outcome_of ask (a ask.module_number))) a

-- and ends as that rest does
pub comes-end : (runs rest : Runs) (a : Assignment) → Comes runs a rest → final_state rest a ≡ final_state runs a
comes-end runs rest a c = ap (λ (r : Runs). final_state r a) c.1 ∙ same-end c.0 runs a
