use Rattle.std.proofs.Common.{◌≡◌, ◌∙◌, List, ap, arith, drop, min, sym, take, ℕ}
use Rattle.std.proofs.lemmas.Bool.{eqb-true, false≢true}
use Rattle.pam_dispatch.specs.declared.entered.TheConstants.{LISTS}
use Rattle.pam_dispatch.specs.declared.state.State.{State}
use Rattle.pam_dispatch.specs.inner.Hashing.{same_state-true}
use Rattle.pam_dispatch.specs.Keys.{KeyValue, key_of}
use Rattle.pam_dispatch.specs.Representatives.{read_states, representative_of}
use Rattle.pam_dispatch.proofs.program.Program.is_key_at.Goals as goal
use Rattle.pam_dispatch.proofs.program.Program.is_key_at.Goals.{then-key-place, else-key-place, then-key-from, else-key-from}

pub returns-then-eq : goal.returns-then-eq
unfolding key_of representative_of
returns-then-eq c same =
    let place = c.args.place.now in
    let key = c.key.inside in
    let value : ℕ → ℕ → State → List State → KeyValue =
    λ position depth state entered. record { position = position; depth = depth; state = state; entered = entered } in
    let read = read_states 0 (drop place.position c.args.self.now) place.entered.states in
    let lists : min place.depth LISTS ≡ place.depth = omega (arith, place.shallow) in
    elim c.if-key-from.branch [
      | then-key-from w ↦
          let states : key.state ≡ place.state = same_state-true key.state place.state (sym w.eq.ensures ∙ sym w.value-is ∙ c.if-eq.true) in
          elim c.if-key-place.branch [
            | then-key-place v ↦
                let depths : key.depth ≡ place.depth =
                eqb-true key.depth v.from.result (sym v.value-is ∙ w.if-key-from.true) ∙ v.from.ensures in
                sym c.key.view_is
                ∙ ap (value key.position key.depth key.state) (c.are_at_levels.ensures (drop place.position c.args.self.now) c.read_levels_at.ensures same)
                ∙ ap (λ (n : ℕ). value n key.depth key.state (take (min key.depth LISTS) read)) v.if-key-place.true
                ∙ ap (λ (n : ℕ). value place.position n key.state (take (min n LISTS) read)) depths
                ∙ ap (λ (s : State). value place.position place.depth s (take (min place.depth LISTS) read)) states
                ∙ ap (λ (n : ℕ). value place.position place.depth place.state (take n read)) lists
            | else-key-place v ↦ absurd (v.if-key-place.false (eqb-true key.position place.position (sym v.value-is ∙ w.if-key-from.true)))
          ]
      | else-key-from w ↦ absurd (false≢true (sym (w.value-is ∙ w.if-key-from.false) ∙ c.if-eq.true))
    ]
