-- The modules that two stacks ask, one after another.
use Rattle.std.proofs.Common.{◌≡◌, ◌∙◌, ℕ, ◌+◌, ◌<◌, ◌≤◌, Bool, List, [], ◌∷◌, ◌++◌, append-nil, append_assoc, cond, drop, get_or, length, map, ap, sym, refl}
use Rattle.std.proofs.Common.{Option, Some, None}
use Rattle.std.proofs.lemmas.Bool.{le-ltb, lt-ltb}
use Rattle.std.proofs.lemmas.List.{drop_all, drop_more}
use Rattle.pam_dispatch.specs.Runs.{Ask, Assignment, Runs, after_answer, asked_module}
use Rattle.pam_dispatch.proofs.Asking.{asked_by-end, asked_by-step, number-next_ask}
use Rattle.pam_changes.specs.declared.steps.AskedModule.{AskedModule}
use Rattle.pam_changes.specs.Steps.{as_old, asked_numbers, before, from, left_after, merged, one_with, step_of}

-- THE NUMBERS THAT A RUN ASKS

pub numbers-end : (answers : Assignment) (runs : Runs) (so_far whole : List ℕ) → asked_module runs ≡ None →
    so_far ++ asked_numbers runs answers ≡ whole → so_far ≡ whole
numbers-end answers runs so_far whole none before =
    sym (append-nil so_far)
    ∙ sym (ap (λ (xs : List Ask). so_far ++ map (λ ask. ask.module_number) xs) (asked_by-end answers runs none))
    ∙ before

pub numbers-more : (answers : Assignment) (runs next : Runs) (number code : ℕ) (so_far more whole : List ℕ) → asked_module runs ≡ Some number →
    answers number ≡ code → next ≡ after_answer runs code → more ≡ so_far ++ number ∷ [] → so_far ++ asked_numbers runs answers ≡ whole →
    more ++ asked_numbers next answers ≡ whole
numbers-more answers runs next number code so_far more whole asks is follows pushed before =
    let rest : Runs → List ℕ = λ r. asked_numbers r answers in
    ap (λ (l : List ℕ). l ++ rest next) pushed
    ∙ append_assoc so_far (number ∷ []) (rest next)
    ∙ ap (λ (r : Runs). so_far ++ number ∷ rest r) (follows ∙ ap (after_answer runs) (sym is))
    ∙ ap (λ (n : ℕ). so_far ++ n ∷ rest (after_answer runs (answers number))) (sym (number-next_ask runs number asks))
    ∙ ap (λ (xs : List Ask). so_far ++ map (λ ask. ask.module_number) xs) (sym (asked_by-step answers runs number asks))
    ∙ before

-- THOSE OF THE OLD STACK BEFORE A NUMBER

module _ (limit : ℕ) (alone : List ℕ) (i : ℕ) (within : i < length alone) where
  left : drop i alone ≡ get_or alone i 0 ∷ drop (i + 1) alone
  left = drop_more alone i 0 within

  pub before-stops : limit ≤ get_or alone i 0 → before limit (drop i alone) ≡ []
  unfolding before
  before-stops h =
      ap (before limit) left
      ∙ ap (λ (b : Bool). cond b (get_or alone i 0 ∷ before limit (drop (i + 1) alone)) []) (le-ltb (get_or alone i 0) limit h)

  pub from-stops : limit ≤ get_or alone i 0 → from limit (drop i alone) ≡ drop i alone
  unfolding from
  from-stops h =
      ap (from limit) left
      ∙ ap (λ (b : Bool). cond b (from limit (drop (i + 1) alone)) (get_or alone i 0 ∷ drop (i + 1) alone)) (le-ltb (get_or alone i 0) limit h)
      ∙ sym left

  pub before-more : get_or alone i 0 < limit → before limit (drop i alone) ≡ get_or alone i 0 ∷ before limit (drop (i + 1) alone)
  unfolding before
  before-more h =
      ap (before limit) left
      ∙ ap (λ (b : Bool). cond b (get_or alone i 0 ∷ before limit (drop (i + 1) alone)) []) (lt-ltb (get_or alone i 0) limit h)

  pub from-more : get_or alone i 0 < limit → from limit (drop i alone) ≡ from limit (drop (i + 1) alone)
  unfolding from
  from-more h =
      ap (from limit) left
      ∙ ap (λ (b : Bool). cond b (from limit (drop (i + 1) alone)) (get_or alone i 0 ∷ drop (i + 1) alone)) (lt-ltb (get_or alone i 0) limit h)

pub before-end : (limit : ℕ) (alone : List ℕ) (i : ℕ) → length alone ≤ i → before limit (drop i alone) ≡ []
unfolding before
before-end limit alone i h = ap (before limit) (drop_all i alone h)

pub from-end : (limit : ℕ) (alone : List ℕ) (i j : ℕ) → length alone ≤ i → length alone ≤ j → drop j alone ≡ from limit (drop i alone)
unfolding from
from-end limit alone i j h k = drop_all j alone k ∙ sym (ap (from limit) (drop_all i alone h))

-- a list with nothing more to come, and one with a module more
pub nothing-more : {X : Type 0} (f : ℕ → X) (xs whole : List X) (rest : List ℕ) → rest ≡ [] → xs ++ map f rest ≡ whole → xs ≡ whole
nothing-more f xs whole rest none before = sym (append-nil xs) ∙ sym (ap (λ (l : List ℕ). xs ++ map f l) none) ∙ before

pub one-more : {X : Type 0} (f : ℕ → X) (xs ys whole : List X) (x : X) (n : ℕ) (rest more : List ℕ) → rest ≡ n ∷ more → ys ≡ xs ++ x ∷ [] → x ≡ f n →
    xs ++ map f rest ≡ whole → ys ++ map f more ≡ whole
one-more {X} f xs ys whole x n rest more is pushed same before =
    ap (λ (l : List X). l ++ map f more) pushed
    ∙ append_assoc xs (x ∷ []) (map f more)
    ∙ ap (λ (y : X). xs ++ y ∷ map f more) same
    ∙ ap (λ (l : List ℕ). xs ++ map f l) (sym is)
    ∙ before

-- THE MODULES OF BOTH

module _ (partners : List (Option ℕ)) (old_answers new_answers : Assignment) where
  merged-step : (alone : List ℕ) (number : ℕ) (news : List ℕ) →
      merged partners old_answers new_answers alone (number ∷ news)
      ≡ step_of old_answers new_answers number (one_with partners old_answers new_answers number) alone
      ++ merged partners old_answers new_answers (left_after (one_with partners old_answers new_answers number) alone) news
  unfolding merged
  merged-step alone number news = refl

  pub merged-more : (alone news : List ℕ) (first place i : ℕ) (one : Option ℕ) (xs ys whole : List AskedModule) → i < length news →
      one ≡ one_with partners old_answers new_answers (get_or news i 0) →
      ys ≡ xs ++ step_of old_answers new_answers (get_or news i 0) one (drop first alone) →
      drop place alone ≡ left_after one (drop first alone) →
      xs ++ merged partners old_answers new_answers (drop first alone) (drop i news) ≡ whole →
      ys ++ merged partners old_answers new_answers (drop place alone) (drop (i + 1) news) ≡ whole
  merged-more alone news first place i one xs ys whole within is pushed after so_far =
      let rest : List ℕ → List ℕ → List AskedModule = merged partners old_answers new_answers in
      let number = get_or news i 0 in
      let step : Option ℕ → List AskedModule = λ o. step_of old_answers new_answers number o (drop first alone) in
      ap (λ (l : List AskedModule). l ++ rest (drop place alone) (drop (i + 1) news)) pushed
      ∙ append_assoc xs (step one) (rest (drop place alone) (drop (i + 1) news))
      ∙ ap (λ (l : List ℕ). xs ++ (step one ++ rest l (drop (i + 1) news))) after
      ∙ ap (λ (o : Option ℕ). xs ++ (step o ++ rest (left_after o (drop first alone)) (drop (i + 1) news))) is
      ∙ ap (λ (l : List AskedModule). xs ++ l) (sym (merged-step (drop first alone) number (drop (i + 1) news)))
      ∙ ap (λ (l : List ℕ). xs ++ rest (drop first alone) l) (sym (drop_more news i 0 within))
      ∙ so_far

  pub merged-end : (alone news : List ℕ) (first i : ℕ) (xs ys whole : List AskedModule) → length news ≤ i →
      ys ≡ xs ++ map (as_old old_answers) (drop first alone) →
      xs ++ merged partners old_answers new_answers (drop first alone) (drop i news) ≡ whole → ys ≡ whole
  unfolding merged
  merged-end alone news first i xs ys whole past pushed before =
      pushed
      ∙ sym (ap (λ (l : List ℕ). xs ++ merged partners old_answers new_answers (drop first alone) l) (drop_all i news past))
      ∙ before
