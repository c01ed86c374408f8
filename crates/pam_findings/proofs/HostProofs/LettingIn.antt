-- The answers on a way in let somebody in.
use Rattle.std.proofs.Common.{◌≡◌, ◌∙◌, ℕ, ◌<◌, ◌&&◌, Bool, true, false, cond, eqb, eq-eqb, List, [], ◌∷◌, map, unwrap_or, slice_get}
use Rattle.std.proofs.Common.{Option, Some, None, MatchOption, Ok, ap, arith, inl, inr, refl, subst, sym}
use Rattle.std.proofs.lemmas.Bool.{and_from, and_parts, eqb-true, false≢true, ne_eqb, or_left}
use Rattle.pam_findings.specs.stack.Soundness.{SaysWayIn}
use Rattle.pam_findings.proofs.StackProofs.WaysIn.{path-decides}
use Rattle.pam_codes.proofs.CodeSets.{codes_where-is_set}
use Rattle.pam_codes.specs.Code.{auth_err}
use Rattle.pam_codes.specs.Set.{codes_where, is_in}
use Rattle.pam_codes.specs.inner.SetBits.{is_in-codes_where}
use Rattle.pam_conf.proofs.ResolvedStacks.{resolved_stack}
use Rattle.pam_conf.specs.Stack.{IsNumbered, Items, module_count}
use Rattle.pam_conf.specs.declared.rule.Kind.TheVariants.{Auth}
use Rattle.pam_dispatch.proofs.Numbering.{AsksRise-stack}
use Rattle.pam_dispatch.specs.Runs.{Ask, AsksRise, Assignment, Runs, asked_by, asks, ends, final_state, outcome_of}
use Rattle.pam_dispatch.specs.State.{start_state}
use Rattle.pam_dispatch.specs.Tree.{asked, runs_of_stack}
use Rattle.pam_paths.proofs.Alike.{in_class}
use Rattle.pam_paths.proofs.LawProofs.{agrees_same}
use Rattle.pam_paths.proofs.Sharing.{Member-is_in, code_low, is_in-Member}
use Rattle.pam_paths.proofs.Trees.{path_of-stack}
use Rattle.pam_text.specs.Members.{Member}
use Rattle.pam_paths.specs.Known.{may_answer}
use Rattle.pam_paths.specs.Listing.{Allowance, IsAllowed}
use Rattle.pam_paths.specs.Paths.{AgreesAlong, PathValue, StepValue, path_of, path_through, step_by}
use Rattle.pam_findings.specs.host.Host.{Host, service_at}
use Rattle.pam_findings.specs.host.Laws.{FirstWayLetsIn, IsTrueWayIn, LetIn, WaysInLetIn}
use Rattle.pam_findings.specs.host.StackProblems.{HasWayIn, IsWayIn}
use Rattle.pam_findings.specs.host.Verdicts.{IsFailing, IsJudgement, IsVerdict, Judged, Judgement, Refused, TooLarge, Verdict, answer_among, answer_on, answers_on}
use Rattle.pam_findings.specs.declared.host.way_in.Answered.{Answered}
use Rattle.pam_findings.specs.declared.host.way_in.WayIn.{WayIn}

-- one of some codes is among them
among : (codes : List ℕ) (c : ℕ) → is_in c codes ≡ true → is_in (answer_among codes) codes ≡ true
among codes c h = by-test (is_in auth_err codes) refl
  where
    first : (all : List ℕ) → is_in c all ≡ true → is_in (unwrap_or (slice_get all 0) 0) all ≡ true
    first [] none = absurd (false≢true none)
    first (code ∷ rest) some = or_left (eqb code code) _ (eq-eqb code code refl)

    by-test : (t : Bool) → is_in auth_err codes ≡ t → is_in (cond t auth_err (unwrap_or (slice_get codes 0) 0)) codes ≡ true
    by-test true is = is
    by-test false is = first codes h

-- the code of a step
abbrev code_on : Allowance → StepValue → ℕ
code_on allows step = (answer_on allows step).code

-- is one that the module may answer, and of its class
record IsRight (allows : Allowance) (step : StepValue) : Type 0 where
  low : code_on allows step < 31
  allowed : allows step.module_number (code_on allows step) ≡ true
  inside : Member (code_on allows step) step.class

right : (allows : Allowance) (step : StepValue) (c : ℕ) → c < 31 → allows step.module_number c ≡ true → Member c step.class → IsRight allows step
right allows step c low can inside =
    let may : ℕ → Bool = allows step.module_number in
    let test : ℕ → Bool = λ code. is_in code step.class && is_in code (codes_where may) in
    let some : test c ≡ true =
    and_from (is_in c step.class) (is_in c (codes_where may)) (is_in-Member step.class c inside) (is_in-codes_where may c low ∙ can) in
    let k = answer_among (codes_where test) in
    let here : is_in k (codes_where test) ≡ true = among (codes_where test) c (is_in-codes_where test c low ∙ some) in
    let under : k < 31 = code_low (codes_where test) k (codes_where-is_set test) (Member-is_in (codes_where test) k here) in
    let passes = and_parts (is_in k step.class) (is_in k (codes_where may)) (sym (is_in-codes_where test k under) ∙ here) in
    record {
      low = under;
      allowed = sym (is_in-codes_where may k under) ∙ passes.1;
      inside = Member-is_in step.class k passes.0;
    }

-- a step of a path: its module is above a number, and its code is right
record IsStep (allows : Allowance) (low : ℕ) (step : StepValue) : Type 0 where
  above : low < step.module_number
  is_right : IsRight allows step

steps-right : (allows : Allowance) (low n : ℕ) (runs : Runs) (a : Assignment) → AsksRise low n runs → IsAllowed allows n a →
    (step : StepValue) → Member step (path_of runs a).steps → IsStep allows low step
unfolding AsksRise Member asked_by final_state path_of
steps-right allows low n (ends s) a rise ok step is = absurd is
steps-right allows low n (asks ask next) a rise ok step (inl e) =
    let m = ask.module_number in
    let can = ok m (omega (arith, rise.0)) rise.1 in
    subst (IsStep allows low) (sym e) (record {
      above = rise.0;
      is_right = right allows (step_by a ask) (a m) can.0 can.1 (in_class ask (a m) (a m) can.0 refl);
    })
steps-right allows low n (asks ask next) a rise ok step (inr later) =
    let up = rise.2 (outcome_of ask (a ask.module_number)) in
    let again = steps-right allows ask.module_number n (next (outcome_of ask (a ask.module_number))) a up ok step later in
    let more = again.above in
    record { above = omega (arith, more, rise.0); is_right = again.is_right }

-- THE ANSWERS: each module of a path answers the code of its step, and the others as before
abbrev answer_by : Allowance → Assignment → List StepValue → Assignment
answer_by allows base [] number = base number
answer_by allows base (step ∷ steps) number = cond (eqb step.module_number number) (code_on allows step) (answer_by allows base steps number)

answers-code : (allows : Allowance) (low n : ℕ) (runs : Runs) (a base : Assignment) → AsksRise low n runs → IsAllowed allows n a →
    (step : StepValue) → Member step (path_of runs a).steps → answer_by allows base (path_of runs a).steps step.module_number ≡ code_on allows step
unfolding AsksRise Member asked_by final_state path_of
answers-code allows low n (ends s) a base rise ok step is = absurd is
answers-code allows low n (asks ask next) a base rise ok step (inl e) =
    let first : StepValue = step_by a ask in
    let rest : ℕ → ℕ =
    answer_by allows base (path_of (next (outcome_of ask (a ask.module_number))) a).steps in
    subst (λ (s : StepValue). cond (eqb first.module_number s.module_number) (code_on allows first) (rest s.module_number) ≡ code_on allows s) (sym e)
    (ap (λ (t : Bool). cond t (code_on allows first) (rest first.module_number)) (eq-eqb first.module_number first.module_number refl))
answers-code allows low n (asks ask next) a base rise ok step (inr later) =
    let first : StepValue = step_by a ask in
    let after : Runs = next (outcome_of ask (a ask.module_number)) in
    let up = rise.2 (outcome_of ask (a ask.module_number)) in
    let rest : ℕ → ℕ = answer_by allows base (path_of after a).steps in
    let more = (steps-right allows ask.module_number n after a up ok step later).above in
    let apart : first.module_number ≡ step.module_number → ⊥ = λ e. omega (arith, e, more) in
    ap (λ (t : Bool). cond t (code_on allows first) (rest step.module_number)) (ne_eqb first.module_number step.module_number apart)
    ∙ answers-code allows ask.module_number n (next (outcome_of ask (a ask.module_number))) a base up ok step later

-- they are allowed
allowed-by : (allows : Allowance) (a : Assignment) (n : ℕ) (steps : List StepValue) → ((step : StepValue) → Member step steps → IsRight allows step) →
    IsAllowed allows n a → IsAllowed allows n (answer_by allows a steps)
unfolding Member
allowed-by allows a n [] are ok = ok
allowed-by allows a n (step ∷ steps) are ok = λ m first last.
    by-test m (eqb step.module_number m) refl (allowed-by allows a n steps (λ s k. are s (inr k)) ok m first last)
  where
    by-test : (m : ℕ) (t : Bool) → eqb step.module_number m ≡ t →
        (answer_by allows a steps m < 31) × (allows m (answer_by allows a steps m) ≡ true) →
        (cond t (code_on allows step) (answer_by allows a steps m) < 31)
        × (allows m (cond t (code_on allows step) (answer_by allows a steps m)) ≡ true)
    by-test m true e again =
        let it = are step (inl refl) in
        (it.low, subst (λ k. allows k (code_on allows step) ≡ true) (eqb-true step.module_number m e) it.allowed)
    by-test m false e again = again

-- they agree with the path
agree-along : (allows : Allowance) (b : Assignment) (steps : List StepValue) → ((step : StepValue) → Member step steps → IsRight allows step) →
    ((step : StepValue) → Member step steps → b step.module_number ≡ code_on allows step) → AgreesAlong b steps
unfolding AgreesAlong Member
agree-along allows b [] are is = tt
agree-along allows b (step ∷ steps) are is = (
  subst (λ c. Member c step.class) (sym (is step (inl refl))) (are step (inl refl)).inside,
  agree-along allows b steps (λ s k. are s (inr k)) (λ s k. is s (inr k)),
)

-- and are the answers on it
abbrev given : ℕ → ℕ → Answered
given number code = record { number = number; code = code }

given-on : (allows : Allowance) (b : Assignment) (all : List Ask) →
    ((step : StepValue) → Member step (map (step_by b) all) → b step.module_number ≡ code_on allows step) →
    map (λ ask. given ask.module_number (b ask.module_number)) all ≡ map (answer_on allows) (map (step_by b) all)
unfolding Member
given-on allows b [] is = refl
given-on allows b (ask ∷ rest) is =
    ap (λ (c : ℕ). given ask.module_number c ∷ map (λ ask. given ask.module_number (b ask.module_number)) rest) (is (step_by b ask) (inl refl))
    ∙ ap (λ (l : List Answered). answer_on allows (step_by b ask) ∷ l) (given-on allows b rest (λ s k. is s (inr k)))

pub first_way_lets_in : FirstWayLetsIn
unfolding path_through
first_way_lets_in allows items path numbered first =
    let a = first.way.0 in
    let ok = first.way.1 in
    let n = module_count items in
    let runs = runs_of_stack items in
    let rise = AsksRise-stack items numbered in
    let steps : List StepValue = (path_of runs a).steps in
    let b : Assignment = answer_by allows a steps in
    let are : (step : StepValue) → Member step steps → IsRight allows step = λ s k. (steps-right allows 0 n runs a rise ok s k).is_right in
    let is : (step : StepValue) → Member step steps → b step.module_number ≡ code_on allows step = answers-code allows 0 n runs a a rise ok in
    let one : path_of runs a ≡ path_through items b = agrees_same runs b a (agree-along allows b steps are is) ∙ path_of-stack items b in
    let takes : path_through items b ≡ path = sym one ∙ path_of-stack items a ∙ sym first.way.2 in
    let Given : List StepValue → Type 0 = λ l. (step : StepValue) → Member step l → b step.module_number ≡ code_on allows step in
    record {
      answers = b;
      allowed = allowed-by allows a n steps are ok;
      are_given =
          given-on allows b (asked items start_state start_state b) (subst Given (ap (λ (p : PathValue). p.steps) one) is)
          ∙ ap (λ (p : PathValue). answers_on allows p) takes;
      decides = sym (path-decides items b) ∙ ap (λ (p : PathValue). p.decision) takes ∙ first.decides;
    }

-- THE WAYS IN OF A REPORT

module _ (host : Host) (service : ℕ) (way : WayIn) where
  no-way : None ≡ Some way → ⊥
  no-way e = cc

  judged : (j : Judgement) → IsJudgement host.folder host.modules (service_at host service) Auth j → (o : Option PathValue) →
      SaysWayIn (may_answer j.failing) j.items o → MatchOption o (Some way ≡ None) (λ path. IsWayIn j path way) → IsTrueWayIn host service way
  judged j h None says none = absurd (no-way (sym none))
  judged j h (Some path) says is =
      let numbered : IsNumbered j.items = (resolved_stack host.folder (service_at host service) Auth j.items h.stack).0 in
      record {
        stack = h.stack ∙ ap (λ (items : Items). Ok items) (sym is.stack);
        failing = j.failing;
        is_failing = subst (λ items. IsFailing host.modules Auth items j.failing) (sym is.stack) h.failing;
        let_in =
            subst (λ l. LetIn (may_answer j.failing) way.stack l) (sym is.answers)
            (subst (λ items. LetIn (may_answer j.failing) items (answers_on (may_answer j.failing) path)) (sym is.stack)
            (first_way_lets_in (may_answer j.failing) j.items path numbered says));
      }

  by-verdict : (v : Verdict) → IsVerdict host.folder host.modules (service_at host service) Auth v → HasWayIn v (Some way) → IsTrueWayIn host service way
  by-verdict Refused h is = absurd (no-way (sym is))
  by-verdict TooLarge h is = absurd (no-way (sym is))
  by-verdict (Judged j) h is = judged j h j.way h.way is

pub ways_in_let_in : WaysInLetIn
ways_in_let_in host named found ways report service way within is =
    by-verdict host service way (report.verdicts service Auth) (report.are_verdicts service Auth within)
    (subst (HasWayIn (report.verdicts service Auth)) is (report.ways_in.each service within))
