use Rattle.std.proofs.Common.{ap, List, ℕ, Bor}
use Rattle.std.specs.Option.{option_map}
use Rattle.pam_facts.proofs.ArgumentProofs.CutSteps.{last_part, part_found, shorter}
use Rattle.pam_facts.proofs.arguments.cuts.PartsIterator.next.Goals as goal

pub returns-in-Some-clause-steps : goal.returns-in-Some-clause-steps
returns-in-Some-clause-steps c = part_found _ _ _ _ _ (ap (option_map (λ (t : Bor (List ℕ)). t.now)) c.in_ok-text.was) c.in-Some.ensures.value

pub returns-in-None-clause-steps : goal.returns-in-None-clause-steps
returns-in-None-clause-steps c = last_part _ _ _ (ap (option_map (λ (t : Bor (List ℕ)). t.now)) c.in_ok-text.was) c.in-None.ensures.value

pub returns-in-Some-clause-goes : goal.returns-in-Some-clause-goes
returns-in-Some-clause-goes c =
    record {
      on = λ _.
          (tt, tt, shorter _ _ _ (part_found _ _ _ _ _ (ap (option_map (λ (t : Bor (List ℕ)). t.now)) c.in_ok-text.was) c.in-Some.ensures.value));
      keeps = tt;
      rests = λ _. tt;
    }

pub returns-in-None-clause-goes : goal.returns-in-None-clause-goes
returns-in-None-clause-goes c =
    record {
      on = λ _.
          (tt, tt, shorter _ _ _ (last_part _ _ _ (ap (option_map (λ (t : Bor (List ℕ)). t.now)) c.in_ok-text.was) c.in-None.ensures.value));
      keeps = tt;
      rests = λ _. tt;
    }
