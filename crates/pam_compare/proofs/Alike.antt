-- Stacks with the same items decide alike, and have the same modules.
use Rattle.std.proofs.Common.{◌≡◌, ◌∙◌, ℕ, ◌-◌, ◌&&◌, suc, zero, Bool, true, false, List, [], ◌∷◌, Option, Some, None, ap, refl, cond, eqb, subst}
use Rattle.std.proofs.lemmas.Bool.{and_parts, eqb-true, false≢true}
use Rattle.std.proofs.lemmas.Slice.Eq.{bytes_eq-Decides}
use Rattle.std.specs.Option.{option_map_or}
use Rattle.std.specs.Str.{bytes_eq}
use Rattle.pam_codes.proofs.SameActions.{same_action-true}
use Rattle.pam_codes.specs.Action.{same_action}
use Rattle.pam_codes.specs.ControlText.{same_actions}
use Rattle.pam_codes.specs.declared.action.Action.{Action}
use Rattle.pam_compare.proofs.Passing.{texts-equal}
use Rattle.pam_compare.specs.Matching.{same_texts}
use Rattle.pam_compare.specs.Same.{AreSame, same_items, same_module}
use Rattle.pam_conf.specs.Stack.{End, Items, ModuleText, ThenModule, ThenSub, first_there, module_at}
use Rattle.pam_dispatch.specs.Decision.{decision_of}
use Rattle.pam_dispatch.specs.Runs.{Ask, Assignment, outcome_of}
use Rattle.pam_dispatch.specs.State.{start_state}
use Rattle.pam_dispatch.specs.Tree.{ask_of, count, decided, run_after}
use Rattle.pam_dispatch.specs.declared.state.State.{State}
use Rattle.pam_dispatch.specs.declared.step.Outcome.{Outcome}

-- MODULES

actions-equal : (xs ys : List Action) → same_actions xs ys ≡ true → xs ≡ ys
actions-equal [] [] t = refl
actions-equal [] (y ∷ ys) t = absurd (false≢true t)
actions-equal (x ∷ xs) [] t = absurd (false≢true t)
actions-equal (x ∷ xs) (y ∷ ys) t =
    let parts = and_parts (same_action x y) (same_actions xs ys) t in
    ap (λ (z : Action). z ∷ xs) (same_action-true x y parts.0) ∙ ap (λ (zs : List Action). y ∷ zs) (actions-equal xs ys parts.1)

-- what modules that are the same share
pub record Shared (m n : ModuleText) : Type 0 where
  pub number : m.number ≡ n.number
  pub control : m.control ≡ n.control
  pub path : m.path ≡ n.path
  pub arguments : m.arguments ≡ n.arguments

pub shared : (m n : ModuleText) → same_module m n ≡ true → Shared m n
shared m n t =
    let numbers = and_parts (eqb m.number n.number) (same_actions m.control n.control && (bytes_eq m.path n.path && same_texts m.arguments n.arguments)) t in
    let controls = and_parts (same_actions m.control n.control) (bytes_eq m.path n.path && same_texts m.arguments n.arguments) numbers.1 in
    let texts = and_parts (bytes_eq m.path n.path) (same_texts m.arguments n.arguments) controls.1 in
    record {
      number = eqb-true m.number n.number numbers.0;
      control = actions-equal m.control n.control controls.0;
      path = (bytes_eq-Decides m.path n.path).0 texts.0;
      arguments = texts-equal m.arguments n.arguments texts.1;
    }

-- DECISIONS

same-count : (one other : Items) → same_items one other ≡ true → count one ≡ count other
unfolding same_items count
same-count End End t = refl
same-count End (ThenModule n more) t = absurd (false≢true t)
same-count End (ThenSub u others more) t = absurd (false≢true t)
same-count (ThenModule m rest) End t = absurd (false≢true t)
same-count (ThenModule m rest) (ThenModule n more) t =
    ap (λ (k : ℕ). suc k) (same-count rest more (and_parts (same_module m n) (same_items rest more) t).1)
same-count (ThenModule m rest) (ThenSub u others more) t = absurd (false≢true t)
same-count (ThenSub s inner rest) End t = absurd (false≢true t)
same-count (ThenSub s inner rest) (ThenModule n more) t = absurd (false≢true t)
same-count (ThenSub s inner rest) (ThenSub u others more) t =
    ap (λ (k : ℕ). suc k) (same-count rest more (and_parts (same_items inner others) (same_items rest more) t).1)

-- two modules are asked alike
same-ask : (m n : ModuleText) (rest more : Items) (s entry : State) → Shared m n → count rest ≡ count more → ask_of m rest s entry ≡ ask_of n more s entry
same-ask m n rest more s entry is e =
    let ask : ℕ → List Action → ℕ → Ask =
    λ number control after. record { module_number = number; control = control; state = s; entry = entry; after = after } in
    ap (λ (k : ℕ). ask k m.control (count rest)) is.number
    ∙ ap (λ (c : List Action). ask n.number c (count rest)) is.control
    ∙ ap (λ (k : ℕ). ask n.number n.control k) e

run-alike : (skip : ℕ) (one other : Items) (s entry : State) (a : Assignment) → same_items one other ≡ true →
    run_after skip one s entry a ≡ run_after skip other s entry a
unfolding same_items run_after
run-alike skip End End s entry a t = refl
run-alike skip End (ThenModule n more) s entry a t = absurd (false≢true t)
run-alike skip End (ThenSub u others more) s entry a t = absurd (false≢true t)
run-alike skip (ThenModule m rest) End s entry a t = absurd (false≢true t)
run-alike skip (ThenModule m rest) (ThenSub u others more) s entry a t = absurd (false≢true t)
run-alike skip (ThenSub v inner rest) End s entry a t = absurd (false≢true t)
run-alike skip (ThenSub v inner rest) (ThenModule n more) s entry a t = absurd (false≢true t)
run-alike (suc skip) (ThenModule m rest) (ThenModule n more) s entry a t =
    run-alike skip rest more s entry a (and_parts (same_module m n) (same_items rest more) t).1
run-alike (suc skip) (ThenSub v inner rest) (ThenSub u others more) s entry a t =
    run-alike skip rest more s entry a (and_parts (same_items inner others) (same_items rest more) t).1
run-alike zero (ThenModule m rest) (ThenModule n more) s entry a t =
    let parts = and_parts (same_module m n) (same_items rest more) t in
    let is = shared m n parts.0 in
    let counts = same-count rest more parts.1 in
    let outcome : Ask → ℕ → Outcome = outcome_of in
    let here : outcome (ask_of m rest s entry) (a m.number) ≡ outcome (ask_of n more s entry) (a n.number) =
    ap (λ (ask : Ask). outcome ask (a m.number)) (same-ask m n rest more s entry is counts)
    ∙ ap (λ (k : ℕ). outcome (ask_of n more s entry) (a k)) is.number in
    let o = outcome (ask_of n more s entry) (a n.number) in
    ap (λ (p : Outcome). run_after (count rest - p.left) rest p.state entry a) here
    ∙ ap (λ (k : ℕ). run_after (k - o.left) rest o.state entry a) counts
    ∙ run-alike (count more - o.left) rest more o.state entry a parts.1
run-alike zero (ThenSub v inner rest) (ThenSub u others more) s entry a t =
    let parts = and_parts (same_items inner others) (same_items rest more) t in
    ap (λ (r : State). run_after zero rest r entry a) (run-alike zero inner others s s a parts.0)
    ∙ run-alike zero rest more (run_after zero others s s a) entry a parts.1

pub decide-alike : (one other : Items) → AreSame one other → (a : Assignment) → decided one a ≡ decided other a
unfolding decided
decide-alike one other t a = ap decision_of (run-alike zero one other start_state start_state a t)

-- ANSWERS

-- two modules are the same, or there is none
abbrev pub IsSameModule : Option ModuleText → Option ModuleText → Type 0
IsSameModule None None = Unit {0}
IsSameModule (Some m) (Some n) = Shared m n
IsSameModule one other = ⊥

same-first : (a b c d : Option ModuleText) → IsSameModule a b → IsSameModule c d → IsSameModule (first_there a c) (first_there b d)
same-first None None c d h k = k
same-first (Some m) (Some n) c d h k = h
same-first None (Some n) c d h k = absurd h
same-first (Some m) None c d h k = absurd h

pub same-at : (number : ℕ) (one other : Items) → same_items one other ≡ true → IsSameModule (module_at number one) (module_at number other)
unfolding same_items
same-at number End End t = tt
same-at number End (ThenModule n more) t = absurd (false≢true t)
same-at number End (ThenSub u others more) t = absurd (false≢true t)
same-at number (ThenModule m rest) End t = absurd (false≢true t)
same-at number (ThenModule m rest) (ThenSub u others more) t = absurd (false≢true t)
same-at number (ThenSub v inner rest) End t = absurd (false≢true t)
same-at number (ThenSub v inner rest) (ThenModule n more) t = absurd (false≢true t)
same-at number (ThenModule m rest) (ThenModule n more) t =
    let parts = and_parts (same_module m n) (same_items rest more) t in
    let is = shared m n parts.0 in
    subst (λ (k : ℕ).
    IsSameModule (cond (eqb m.number number) (Some m) (module_at number rest)) (cond (eqb k number) (Some n) (module_at number more))) is.number
    (by-test (eqb m.number number) is (same-at number rest more parts.1))
  where
    by-test : (b : Bool) → Shared m n → IsSameModule (module_at number rest) (module_at number more) →
        IsSameModule (cond b (Some m) (module_at number rest)) (cond b (Some n) (module_at number more))
    by-test true is again = is
    by-test false is again = again
same-at number (ThenSub v inner rest) (ThenSub u others more) t =
    let parts = and_parts (same_items inner others) (same_items rest more) t in
    same-first (module_at number inner) (module_at number others) (module_at number rest) (module_at number more)
    (same-at number inner others parts.0) (same-at number rest more parts.1)

-- what is said of modules alike where they are the same
module _ {X : Type 0} (f : ModuleText → X) (none : X) (alike : (m n : ModuleText) → Shared m n → f m ≡ f n) where
  pub same-value : (one other : Option ModuleText) → IsSameModule one other → option_map_or f one none ≡ option_map_or f other none
  same-value None None h = refl
  same-value (Some m) (Some n) h = alike m n h
  same-value None (Some n) h = absurd h
  same-value (Some m) None h = absurd h
