-- From the places of a graph's nodes to answers that lead there.
use Rattle.std.proofs.Common.{◌≡◌, ℕ, ◌<◌, true, List, [], ◌∷◌, Some, refl, sym, ◌∙◌, ap, subst, inl, inr, arith, slice_index_or}
use Rattle.std.proofs.lemmas.Bool.{cases_eq, eqb-true, false≢true, or_cases}
use Rattle.std.specs.Prelude.{◌==◌}
use Rattle.pam_codes.specs.Set.{is_in}
use Rattle.pam_conf.specs.Stack.{Items}
use Rattle.pam_dispatch.specs.declared.flat_item.FlatItem.{FlatItem}
use Rattle.pam_dispatch.specs.declared.step.Outcome.{Outcome}
use Rattle.pam_dispatch.specs.Decision.{decision_of}
use Rattle.pam_dispatch.specs.Flat.{modules_of, runs_of}
use Rattle.pam_dispatch.specs.Keys.{KeyValue, rest_at}
use Rattle.pam_dispatch.specs.Representatives.{AreEqualRests}
use Rattle.pam_dispatch.specs.Runs.{Ask, Assignment, AsksRise, Runs, asked_by, asked_module, asks, ends, final_state, outcome_of}
use Rattle.pam_dispatch.proofs.EqualRests.{representative-rests}
use Rattle.pam_dispatch.proofs.OpenRuns.{asked_by-runs_of_stack}
use Rattle.pam_graph.specs.declared.node.Node.{Node}
use Rattle.pam_graph.specs.Places.{AreNodesAt}
use Rattle.pam_graph.specs.Reached.{AreAllowed, IsReachedKey, after_answers, node_key}
use Rattle.pam_graph.proofs.Rests.{asked-equal, rise-equal}
use Rattle.pam_text.specs.Members.{Member}
use Rattle.pam_paths.specs.Classes.{class_of}
use Rattle.pam_paths.specs.Computed.{after_step}
use Rattle.pam_paths.specs.Listing.{Allowance, IsAllowed}
use Rattle.pam_paths.specs.Paths.{PathValue, StepValue, path_of, step_of}
use Rattle.pam_paths.proofs.Alike.{of_class}
use Rattle.pam_paths.proofs.Listings.{path_of-same, path_of-step, with_answer, with_answer-at, with_answer-other}
use Rattle.pam_paths.proofs.Sharing.{Member-is_in}
use Rattle.pam_findings.specs.stack.Asked.{AsksWith}
use Rattle.pam_findings.specs.stack.inner.Marks.{IsProgramOf, has_number}

-- an allowed answer in place of another
pub changed-allowed : (allows : Allowance) (n m code : ℕ) (answers : Assignment) → IsAllowed allows n answers → code < 31 → allows m code ≡ true →
    IsAllowed allows n (with_answer answers m code)
changed-allowed allows n m code answers ok low may k from to =
    elim (cases_eq k m) [
      | inl e ↦ subst (λ x. (x < 31) × (allows k x ≡ true)) (sym (ap (with_answer answers m code) e ∙ with_answer-at answers m code))
          (low, ap (λ x. allows x code) e ∙ may)
      | inr ne ↦ subst (λ x. (x < 31) × (allows k x ≡ true)) (sym (with_answer-other answers m code k ne)) (ok k from to)
    ]

-- a run asks the same under answers that are the same above a number
asked-same : (low n : ℕ) (runs : Runs) (a b : Assignment) → AsksRise low n runs → ((k : ℕ) → low < k → a k ≡ b k) → asked_by runs a ≡ asked_by runs b
unfolding AsksRise asked_by
asked-same low n (ends s) a b h same = refl
asked-same low n (asks ask next) a b h same =
    let m = ask.module_number in
    let e : a m ≡ b m = same m h.0 in
    ap (λ (x : List Ask). ask ∷ x) (asked-same m n (next (outcome_of ask (a m))) a b (h.2 (outcome_of ask (a m))) (λ k l. same k (omega (arith, h.0, l))))
    ∙ ap (λ (c : ℕ). ask ∷ asked_by (next (outcome_of ask c)) b) e

-- what is asked after some answers has a number above
after-above : (low n : ℕ) (runs : Runs) (codes : List ℕ) (number : ℕ) → AsksRise low n runs → asked_module (after_answers runs codes) ≡ Some number →
    low < number
unfolding AsksRise after_answers
after-above low n (ends s) [] number h asked = absurd (let k : ⊥ = cc in k)
after-above low n (asks ask next) [] number h asked = let is : ask.module_number ≡ number = cc in omega (arith, is, h.0)
after-above low n (ends s) (c ∷ codes) number h asked = after-above low n (ends s) codes number h asked
after-above low n (asks ask next) (c ∷ codes) number h asked =
    let deeper = after-above ask.module_number n (next (outcome_of ask c)) codes number (h.2 (outcome_of ask c)) asked in
    omega (arith, h.0, deeper)

-- the rest of a run after some answers asks modules with rising numbers too
after-rise : (low n : ℕ) (runs : Runs) (codes : List ℕ) → AsksRise low n runs → (above : ℕ) × AsksRise above n (after_answers runs codes)
unfolding AsksRise after_answers
after-rise low n runs [] h = (low, h)
after-rise low n (ends s) (c ∷ codes) h = after-rise low n (ends s) codes h
after-rise low n (asks ask next) (c ∷ codes) h = after-rise ask.module_number n (next (outcome_of ask c)) codes (h.2 (outcome_of ask c))

-- equal rests decide the same
same-decision : (one other : Runs) (a : Assignment) → AreEqualRests one other → (path_of one a).decision ≡ (path_of other a).decision
unfolding AreEqualRests path_of asked_by final_state
same-decision (ends s) (ends t) a h = ap decision_of h
same-decision (ends s) (asks ask next) a h = absurd h
same-decision (asks ask next) (ends t) a h = absurd h
same-decision (asks ask next) (asks other later) a h =
    let outcome = outcome_of ask (a ask.module_number) in
    let same : outcome ≡ outcome_of other (a other.module_number) = h.2 (a ask.module_number) ∙ ap (λ (n : ℕ). outcome_of other (a n)) h.0 in
    same-decision (next outcome) (later outcome) a (h.3 outcome) ∙ ap (λ (o : Outcome). (path_of (later o) a).decision) same

-- allowed answers of a run that asks a module, gets this answer from it, and decides this code
pub record Reaches (allows : Allowance) (n : ℕ) (runs : Runs) (number code decision : ℕ) : Type 0 where
  pub answers : Assignment
  pub allowed : IsAllowed allows n answers
  pub ask : Ask
  pub is_asked : Member ask (asked_by runs answers)
  pub numbered : ask.module_number ≡ number
  pub answer : answers number ≡ code
  pub decides : (path_of runs answers).decision ≡ decision

-- a module is asked after allowed answers: so some assignment asks it, and from there on gives the answers of another one
reach : (allows : Allowance) (low n : ℕ) (runs : Runs) (codes : List ℕ) (number code : ℕ) (b : Assignment) → AsksRise low n runs →
    IsAllowed allows n b → b number ≡ code → AreAllowed allows runs codes → asked_module (after_answers runs codes) ≡ Some number →
    Reaches allows n runs number code (path_of (after_answers runs codes) b).decision
unfolding AsksRise AreAllowed after_answers asked_by Member
reach allows low n (ends s) [] number code b h ok gives all asked = absurd (let k : ⊥ = cc in k)
reach allows low n (asks ask next) [] number code b h ok gives all asked = record {
  answers = b;
  allowed = ok;
  ask = ask;
  is_asked = inl refl;
  numbered = let is : ask.module_number ≡ number = cc in is;
  answer = gives;
  decides = refl;
}
reach allows low n (ends s) (c ∷ codes) number code b h ok gives all asked = absurd all
reach allows low n (asks ask next) (c ∷ codes) number code b h ok gives all asked =
    let m = ask.module_number in
    let rest = next (outcome_of ask c) in
    let rise = h.2 (outcome_of ask c) in
    let deeper = reach allows m n rest codes number code b rise ok gives all.2 asked in
    let above = after-above m n rest codes number rise asked in
    let a = with_answer deeper.answers m c in
    let at : a m ≡ c = with_answer-at deeper.answers m c in
    let later : (k : ℕ) → m < k → a k ≡ deeper.answers k = λ k l. with_answer-other deeper.answers m c k (λ e. omega (arith, l, e)) in
    let same : asked_by rest deeper.answers ≡ asked_by rest a = asked-same m n rest deeper.answers a rise (λ k l. sym (later k l)) in
    record {
      answers = a;
      allowed = changed-allowed allows n m c deeper.answers deeper.allowed all.0 all.1;
      ask = deeper.ask;
      is_asked = inr (subst (λ (x : ℕ). Member deeper.ask (asked_by (next (outcome_of ask x)) a)) (sym at) (subst (Member deeper.ask) same deeper.is_asked));
      numbered = deeper.numbered;
      answer = with_answer-other deeper.answers m c number (λ e. omega (arith, above, e)) ∙ deeper.answer;
      decides = ap (λ (p : PathValue). p.decision) (path_of-step ask next a c (ap (outcome_of ask) at) ∙ ap (after_step (step_of ask c))
          (path_of-same m n rest a deeper.answers rise later)) ∙ deeper.decides;
    }

-- an answer in place of another of its class leads along the same path
pub same-path : (low n : ℕ) (runs : Runs) (a : Assignment) (number code : ℕ) (first : StepValue) (rest : PathValue) → AsksRise low n runs →
    asked_module runs ≡ Some number → after_step first rest ≡ path_of runs a → is_in code first.class ≡ true →
    path_of runs (with_answer a number code) ≡ path_of runs a
unfolding AsksRise path_of asked_by final_state
same-path low n (ends s) a number code first rest h asked is among = absurd (let k : ⊥ = cc in k)
same-path low n (asks ask next) a number code first rest h asked is among =
    let m = ask.module_number in
    let numbered : m ≡ number = cc in
    let own : first ≡ step_of ask (a m) = ap (λ (p : PathValue). slice_index_or p.steps 0 first) is in
    let alike = (of_class ask (a m) code (Member-is_in (class_of ask (a m)) code (subst (λ (s : StepValue). is_in code s.class ≡ true) own among))).1 in
    let b = with_answer a m code in
    let outcome = outcome_of ask (a m) in
    let at : outcome_of ask (b m) ≡ outcome = ap (outcome_of ask) (with_answer-at a m code) ∙ sym alike in
    let later = path_of-same m n (next outcome) b a (h.2 outcome) (λ k l. with_answer-other a m code k (λ e. omega (arith, l, e))) in
    subst (λ (k : ℕ). path_of (asks ask next) (with_answer a k code) ≡ path_of (asks ask next) a) numbered
    (path_of-step ask next b (a m) at ∙ ap (after_step (step_of ask (a m))) later)

module _ (allows : Allowance) (program : List FlatItem) (items : Items) (of : IsProgramOf program items)
    (rise : AsksRise 0 (modules_of program) (runs_of program)) where
  -- the run at the key of a node, and the one after the answers that lead there
  module _ (key : KeyValue) (reached : IsReachedKey allows program key) where
    abbrev codes : List ℕ
    codes = reached.reached.0

    equal-rests : AreEqualRests (rest_at program key) (after_answers (runs_of program) codes)
    equal-rests =
        subst (λ (k : KeyValue). AreEqualRests (rest_at program k) (after_answers (runs_of program) codes)) (sym reached.is_key)
        (subst (AreEqualRests (rest_at program (node_key program reached.place))) reached.reached.2 (representative-rests program reached.place))

    pub key-rise : (above : ℕ) × AsksRise above (modules_of program) (rest_at program key)
    key-rise =
        let after = after-rise 0 (modules_of program) (runs_of program) codes rise in
        (after.0, rise-equal after.0 (modules_of program) (rest_at program key) (after_answers (runs_of program) codes) equal-rests after.1)

    pub key-reaches : (number code : ℕ) (b : Assignment) → IsAllowed allows (modules_of program) b → b number ≡ code →
        asked_module (rest_at program key) ≡ Some number →
        Reaches allows (modules_of program) (runs_of program) number code (path_of (rest_at program key) b).decision
    key-reaches number code b ok gives asked =
        let after = after_answers (runs_of program) codes in
        let here : asked_module after ≡ Some number = sym (asked-equal (rest_at program key) after equal-rests) ∙ asked in
        subst (Reaches allows (modules_of program) (runs_of program) number code) (sym (same-decision (rest_at program key) after b equal-rests))
        (reach allows 0 (modules_of program) (runs_of program) codes number code b rise ok gives reached.reached.1 here)

  -- a module that the open run asks is asked by the run of the tree
  abbrev pub on-tree : (number code decision : ℕ) → Reaches allows (modules_of program) (runs_of program) number code decision →
      AsksWith allows items number code
  on-tree number code decision r = record {
    asks = record {
      answers = r.answers;
      allowed = subst (λ (n : ℕ). IsAllowed allows n r.answers) of.modules r.allowed;
      ask = r.ask;
      is_asked = subst (Member r.ask) (ap (λ (x : Runs). asked_by x r.answers) of.runs ∙ asked_by-runs_of_stack items r.answers) r.is_asked;
      numbered = r.numbered;
    };
    answer = r.answer;
  }

  module _ (b : Assignment) (ok : IsAllowed allows (modules_of program) b) where
    -- so is the module of a node at a place that is reached
    key-asked : (key : KeyValue) (number code : ℕ) → IsReachedKey allows program key → asked_module (rest_at program key) ≡ Some number →
        code < 31 → allows number code ≡ true → AsksWith allows items number code
    key-asked key number code reached asked small may =
        let changed = changed-allowed allows (modules_of program) number code b ok small may in
        on-tree number code _ (key-reaches key reached number code (with_answer b number code) changed (with_answer-at b number code) asked)

    pub node-asked : (keys : List KeyValue) (nodes : List Node) (walks : List (List PathValue)) (number code : ℕ) →
        AreNodesAt allows program keys nodes walks → has_number number nodes ≡ true → code < 31 → allows number code ≡ true →
        AsksWith allows items number code
    unfolding AreNodesAt
    node-asked [] [] [] number code at has small may = absurd (false≢true has)
    node-asked [] [] (x ∷ walks) number code at has small may = absurd at
    node-asked [] (node ∷ nodes) walks number code at has small may = absurd at
    node-asked (key ∷ keys) [] walks number code at has small may = absurd at
    node-asked (key ∷ keys) (node ∷ nodes) [] number code at has small may = absurd at
    node-asked (key ∷ keys) (node ∷ nodes) (x ∷ walks) number code at has small may =
        elim (or_cases (number == node.module_number) (has_number number nodes) has) [
          | inl t ↦ key-asked key number code at.0.reached (at.0.asked ∙ ap Some (sym (eqb-true number node.module_number t))) small may
          | inr k ↦ node-asked keys nodes walks number code at.1 k small may
        ]
