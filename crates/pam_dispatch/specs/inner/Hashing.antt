-- For private contracts and proofs alone: what keys of places feed a hash function, and that equal keys feed it the same.
use Rattle.std.proofs.Common.{◌≡◌, true, eqb, [], ◌∷◌, refl, sym, ◌∙◌, ap}
use Rattle.std.proofs.lemmas.Bool.{and_from, and_parts, eq-eqb, eqb-true, false≢true}
use Rattle.std.specs.Cmp.{IsEquivalence, decided}
use denote.Enum.Bare.{sameb, same_true, true_same}
use lib.Pointwise.{pointwise}
use Rattle.pam_dispatch.specs.contracts.state.Impression.{the_type}
use Rattle.std.specs.Prelude.{ℕ, IsTrue, List}
use Rattle.pam_dispatch.specs.declared.state.Impression.{Impression}
use Rattle.pam_dispatch.specs.declared.state.State.{State}
use Rattle.pam_dispatch.specs.Keys.{KeyValue}
use Rattle.pam_dispatch.specs.Hashing.{state_input, key_input, same_state, same_key}

state_of : (i : Impression) (s : ℕ) → State
state_of i s = record { impression = i; status = s }

pub same_state-true : (a b : State) → same_state a b ≡ true → a ≡ b
unfolding state_of
same_state-true a b t =
    let parts = and_parts (sameb the_type a.impression b.impression) (eqb a.status b.status) t in
    ap (λ (i : Impression). state_of i a.status) (same_true the_type tt a.impression b.impression parts.0)
    ∙ ap (state_of b.impression) (eqb-true a.status b.status parts.1)

-- equal states feed a hash function the same
pub same-state_input : (a b : State) → IsTrue (same_state a b) → state_input a ≡ state_input b
same-state_input a b t = ap state_input (same_state-true a b t)

states-true : (xs ys : List State) → pointwise same_state xs ys ≡ true → xs ≡ ys
states-true [] [] t = refl
states-true [] (y ∷ ys) t = absurd (false≢true t)
states-true (x ∷ xs) [] t = absurd (false≢true t)
states-true (x ∷ xs) (y ∷ ys) t =
    let parts = and_parts (same_state x y) (pointwise same_state xs ys) t in
    ap (λ (z : State). z ∷ xs) (same_state-true x y parts.0) ∙ ap (λ (zs : List State). y ∷ zs) (states-true xs ys parts.1)

key_from : ℕ → ℕ → State → List State → KeyValue
key_from position depth state entered = record { position = position; depth = depth; state = state; entered = entered }

pub same_key-true : (a b : KeyValue) → same_key a b ≡ true → a ≡ b
unfolding key_from
same_key-true a b t =
    let one = and_parts (eqb a.position b.position) _ t in
    let two = and_parts (eqb a.depth b.depth) _ one.1 in
    let three = and_parts (same_state a.state b.state) (pointwise same_state a.entered b.entered) two.1 in
    ap (λ (n : ℕ). key_from n a.depth a.state a.entered) (eqb-true _ _ one.0)
    ∙ ap (λ (n : ℕ). key_from b.position n a.state a.entered) (eqb-true _ _ two.0)
    ∙ ap (λ (s : State). key_from b.position b.depth s a.entered) (same_state-true a.state b.state three.0)
    ∙ ap (λ (s : List State). key_from b.position b.depth b.state s) (states-true a.entered b.entered three.1)

-- so do equal keys
pub same-key_input : (a b : KeyValue) → IsTrue (same_key a b) → key_input a ≡ key_input b
same-key_input a b t = ap key_input (same_key-true a b t)

same_state-self : (a : State) → same_state a a ≡ true
same_state-self a =
    and_from (sameb the_type a.impression a.impression) (eqb a.status a.status) (true_same the_type a.impression a.impression refl)
    (eq-eqb a.status a.status refl)

states-self : (xs : List State) → pointwise same_state xs xs ≡ true
states-self [] = refl
states-self (x ∷ xs) = and_from (same_state x x) (pointwise same_state xs xs) (same_state-self x) (states-self xs)

pub same_key-self : (a : KeyValue) → same_key a a ≡ true
same_key-self a =
    and_from (eqb a.position a.position) _ (eq-eqb a.position a.position refl)
    (and_from (eqb a.depth a.depth) _ (eq-eqb a.depth a.depth refl)
    (and_from (same_state a.state a.state) (pointwise same_state a.entered a.entered) (same_state-self a.state) (states-self a.entered)))

-- keys with the same parts are equal
pub same_key-equivalence : IsEquivalence same_key
same_key-equivalence = decided same_key (λ a b. (same_key-true a b, λ e. ap (same_key a) (sym e) ∙ same_key-self a))
