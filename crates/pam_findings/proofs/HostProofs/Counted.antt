-- Whether the success of a module counts: of each module that may succeed, some run in which it does decides success, or none does.
use Rattle.std.proofs.Common.{◌≡◌, ◌⊎◌, ℕ, ◌<◌, ◌≤◌, ◌&&◌, Bool, true, false, List, map, refl, sym, ◌∙◌, ap, subst, inl, inr, arith}
use Rattle.std.proofs.lemmas.Bool.{and_from, and_parts, cases_eq, eq-eqb, eqb-true, false≢true, or_cases}
use Rattle.std.specs.Prelude.{◌==◌}
use Rattle.std.specs.List.{list_any}
use Rattle.pam_codes.specs.Set.{is_in}
use Rattle.pam_conf.specs.Stack.{IsNumbered, Items, module_count}
use Rattle.pam_dispatch.proofs.Numbering.{AsksRise-stack}
use Rattle.pam_dispatch.specs.Runs.{Ask, AsksRise, Assignment, Runs, asked_by, asks, ends, final_state, outcome_of}
use Rattle.pam_dispatch.specs.State.{start_state, success}
use Rattle.pam_dispatch.specs.Tree.{asked, runs_of_stack}
use Rattle.pam_paths.proofs.Alike.{in_class}
use Rattle.pam_paths.proofs.LawProofs.{agrees_same}
use Rattle.pam_paths.proofs.Listings.{Member-map, Member-map_back, listing-is, with_answer, with_answer-at, with_answer-other}
use Rattle.pam_paths.proofs.Sharing.{Member-is_in, is_in-Member}
use Rattle.pam_paths.proofs.Trees.{listing-tree, path_of-stack}
use Rattle.pam_paths.specs.Computed.{listing}
use Rattle.pam_paths.specs.Classes.{class_of}
use Rattle.pam_paths.specs.Listing.{Allowance, IsAllowed, IsListing}
use Rattle.pam_paths.specs.Paths.{Agrees, AgreesAlong, PathValue, StepValue, path_of, path_through, step_by}
use Rattle.pam_text.specs.Members.{Member}
use Rattle.pam_findings.specs.stack.Asked.{Asks, AsksWith}
use Rattle.pam_findings.specs.stack.Counting.{Counts}
use Rattle.pam_findings.proofs.StackProofs.Placed.{asked-placed, placed-range}
use Rattle.pam_findings.proofs.StackProofs.WaysIn.{passing-any, path-decides, some-passing}

-- a step of the module with this number, at which it may answer success
abbrev succeeds_at : ℕ → StepValue → Bool
succeeds_at number step = (step.module_number == number) && is_in success step.class

abbrev counts_on : ℕ → PathValue → Bool
counts_on number path = (path.decision == success) && list_any (succeeds_at number) path.steps

-- the modules that a run asks have numbers above a number
no-later : (low n : ℕ) (runs : Runs) (a : Assignment) (number : ℕ) → AsksRise low n runs → number ≤ low →
    list_any (succeeds_at number) (path_of runs a).steps ≡ true → ⊥
unfolding AsksRise asked_by final_state path_of
no-later low n (ends s) a number rise below some = false≢true some
no-later low n (asks ask next) a number rise below some =
    let m = ask.module_number in
    elim (or_cases (succeeds_at number (step_by a ask)) (list_any (succeeds_at number) (path_of (next (outcome_of ask (a m))) a).steps) some) [
      | inl t ↦
          let same : m ≡ number = eqb-true m number (and_parts (m == number) (is_in success (class_of ask (a m))) t).0 in
          omega (arith, same, rise.0, below)
      | inr k ↦ no-later m n (next (outcome_of ask (a m))) a number (rise.2 (outcome_of ask (a m))) (omega (arith, rise.0, below)) k
    ]

module _ (allows : Allowance) (number : ℕ) where
  -- with the success of the module in place of its answer, allowed answers go the same path, if it may answer success on it
  agrees-above : (low n : ℕ) (runs : Runs) (a : Assignment) → AsksRise low n runs → IsAllowed allows n a → number ≤ low →
      Agrees (with_answer a number success) (path_of runs a)
  unfolding AgreesAlong AsksRise asked_by final_state path_of
  agrees-above low n (ends s) a rise ok below = tt
  agrees-above low n (asks ask next) a rise ok below =
      let m = ask.module_number in (
        subst (λ (c : ℕ). Member c (class_of ask (a m))) (sym (with_answer-other a number success m (λ e. omega (arith, e, rise.0, below))))
            (in_class ask (a m) (a m) (ok m (omega (arith, rise.0)) rise.1).0 refl),
        agrees-above m n (next (outcome_of ask (a m))) a (rise.2 (outcome_of ask (a m))) ok (omega (arith, rise.0, below)),
      )

  agrees-still : (low n : ℕ) (runs : Runs) (a : Assignment) → AsksRise low n runs → IsAllowed allows n a →
      list_any (succeeds_at number) (path_of runs a).steps ≡ true → Agrees (with_answer a number success) (path_of runs a)
  unfolding AgreesAlong AsksRise asked_by final_state path_of
  agrees-still low n (ends s) a rise ok some = tt
  agrees-still low n (asks ask next) a rise ok some =
      let m = ask.module_number in
      let rest = next (outcome_of ask (a m)) in
      let up = rise.2 (outcome_of ask (a m)) in
      let cases = or_cases (succeeds_at number (step_by a ask)) (list_any (succeeds_at number) (path_of rest a).steps) some in
      elim (cases_eq m number) [
        | inl e ↦ (
          subst (λ (c : ℕ). Member c (class_of ask (a m))) (sym (ap (with_answer a number success) e ∙ with_answer-at a number success)) (elim cases [
            | inl t ↦ Member-is_in (class_of ask (a m)) success (and_parts (m == number) (is_in success (class_of ask (a m))) t).1
            | inr k ↦ absurd (no-later m n rest a number up (omega (arith, e)) k)
          ]),
          agrees-above m n rest a up ok (omega (arith, e)),
        )
        | inr ne ↦ (
          subst (λ (c : ℕ). Member c (class_of ask (a m))) (sym (with_answer-other a number success m ne))
              (in_class ask (a m) (a m) (ok m (omega (arith, rise.0)) rise.1).0 refl),
          agrees-still m n (next (outcome_of ask (a m))) a up ok (elim cases [
            | inl t ↦ absurd (ne (eqb-true m number (and_parts (m == number) (is_in success (class_of ask (a m))) t).0))
            | inr k ↦ k
          ]),
        )
      ]

  still-allowed : (n : ℕ) (a : Assignment) → IsAllowed allows n a → allows number success ≡ true → IsAllowed allows n (with_answer a number success)
  still-allowed n a ok may k from to =
      elim (cases_eq k number) [
        | inl e ↦
            subst (λ (c : ℕ). (c < 31) × (allows k c ≡ true)) (sym (ap (with_answer a number success) e ∙ with_answer-at a number success))
            (omega arith, ap (λ (m : ℕ). allows m success) e ∙ may)
        | inr ne ↦ subst (λ (c : ℕ). (c < 31) × (allows k c ≡ true)) (sym (with_answer-other a number success k ne)) (ok k from to)
      ]

-- answers that agree with a path take it
same-path : (items : Items) (a b : Assignment) → Agrees b (path_of (runs_of_stack items) a) → path_through items b ≡ path_through items a
same-path items a b agrees = sym (path_of-stack items b) ∙ sym (agrees_same (runs_of_stack items) b a agrees) ∙ path_of-stack items a

-- a step at which the module may answer success is that of an ask of it
ask-of-step : (number : ℕ) (b : Assignment) (all : List Ask) → list_any (succeeds_at number) (map (step_by b) all) ≡ true →
    (ask : Ask) × Member ask all × (ask.module_number ≡ number)
ask-of-step number b all some =
    let step = some-passing (succeeds_at number) (map (step_by b) all) some in
    let ask = Member-map_back (step_by b) step.0 all step.1 in
    let is : ask.0.module_number ≡ step.0.module_number = ap (λ (s : StepValue). s.module_number) (sym ask.2) in
    (ask.0, ask.1, is ∙ eqb-true step.0.module_number number (and_parts (step.0.module_number == number) (is_in success step.0.class) step.2).0)

-- the module of a number that is asked is one of the stack
pub asked-range : (allows : Allowance) (items : Items) (number : ℕ) → IsNumbered items → Asks allows items number →
    (1 ≤ number) × (number ≤ module_count items)
asked-range allows items number numbered a =
    let p = asked-placed 0 items start_state start_state a.answers a.ask a.is_asked in
    let range = placed-range 1 p.module_text a.ask.after items numbered p.placed in
    let same : p.module_text.number ≡ number = sym p.numbered ∙ a.numbered in
    (omega (arith, same, range.0), omega (arith, same, range.1))

module _ (allows : Allowance) (items : Items) (number : ℕ) (numbered : IsNumbered items) (succeeds : AsksWith allows items number success) where
  may-succeed : allows number success ≡ true
  may-succeed =
      let range = asked-range allows items number numbered succeeds.asks in
      sym (ap (allows number) succeeds.answer) ∙ (succeeds.asks.allowed number range.0 range.1).1

  -- a path on which the success of the module counts
  path-counts : (a : Assignment) → IsAllowed allows (module_count items) a → counts_on number (path_through items a) ≡ true → Counts allows items number
  unfolding path_through
  path-counts a ok t =
      let runs = runs_of_stack items in
      let b = with_answer a number success in
      let parts = and_parts ((path_through items a).decision == success) (list_any (succeeds_at number) (path_through items a).steps) t in
      let same : path_of runs a ≡ path_through items a = path_of-stack items a in
      let Some_at : PathValue → Type 0 = λ p. list_any (succeeds_at number) p.steps ≡ true in
      let agrees = agrees-still allows number 0 (module_count items) runs a (AsksRise-stack items numbered) ok (subst Some_at (sym same) parts.1) in
      let takes : path_through items b ≡ path_through items a = same-path items a b agrees in
      let ask = ask-of-step number b (asked items start_state start_state b) (subst Some_at (sym takes) parts.1) in
      record {
        succeeds = record {
          asks = record {
            answers = b;
            allowed = still-allowed allows number (module_count items) a ok may-succeed;
            ask = ask.0;
            is_asked = ask.1;
            numbered = ask.2;
          };
          answer = with_answer-at a number success;
        };
        decides = sym (path-decides items b) ∙ ap (λ (p : PathValue). p.decision) takes ∙ eqb-true (path_through items a).decision success parts.0;
      }

  counts-path : (c : Counts allows items number) → counts_on number (path_through items c.succeeds.asks.answers) ≡ true
  unfolding path_through
  counts-path c =
      let k = c.succeeds.asks in
      let a = k.answers in
      let step : StepValue = step_by a k.ask in
      let answer : a k.ask.module_number ≡ success = ap a k.numbered ∙ c.succeeds.answer in
      and_from ((path_through items a).decision == success) (list_any (succeeds_at number) (path_through items a).steps)
      (eq-eqb (path_through items a).decision success (path-decides items a ∙ c.decides))
      (passing-any (succeeds_at number) (path_through items a).steps step (Member-map (step_by a) k.ask (asked items start_state start_state a) k.is_asked)
      (and_from (step.module_number == number) (is_in success step.class) (eq-eqb k.ask.module_number number k.numbered)
      (is_in-Member step.class success
      (in_class k.ask (a k.ask.module_number) success (omega arith) (ap (outcome_of k.ask) answer)))))

  abbrev paths : List PathValue
  paths = listing allows (runs_of_stack items)

  listed : IsListing allows (module_count items) (path_through items) paths
  listed =
      listing-tree allows (module_count items) (runs_of_stack items) items refl paths
      (listing-is allows (module_count items) (runs_of_stack items) (AsksRise-stack items numbered) succeeds.asks.answers succeeds.asks.allowed)

  pub counts_or_not : Counts allows items number ⊎ (Counts allows items number → ⊥)
  counts_or_not = either (list_any (counts_on number) paths) refl
    where
      either : (some : Bool) → list_any (counts_on number) paths ≡ some → Counts allows items number ⊎ (Counts allows items number → ⊥)
      either true e =
          let path = some-passing (counts_on number) paths e in
          let way = (listed.members path.0).0 path.1 in
          inl (path-counts way.0 way.1 (sym (ap (counts_on number) way.2) ∙ path.2))
      either false e = inr (λ c.
          let a = c.succeeds.asks.answers in
          let here = (listed.members (path_through items a)).1 (a, c.succeeds.asks.allowed, refl) in
          false≢true (sym e ∙ passing-any (counts_on number) paths (path_through items a) here (counts-path c)))
