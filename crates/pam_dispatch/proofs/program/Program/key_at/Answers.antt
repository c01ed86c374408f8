use Rattle.std.proofs.Common.{◌≡◌, ◌∙◌, List, ap, arith, drop, min, subst, sym, take, ℕ}
use Rattle.pam_dispatch.specs.declared.entered.TheConstants.{LISTS}
use Rattle.pam_dispatch.specs.declared.state.State.{State}
use Rattle.pam_dispatch.specs.Flat.{rest_of}
use Rattle.pam_dispatch.specs.Keys.{KeyValue, key_of, rest_at}
use Rattle.pam_dispatch.specs.Representatives.{AreEqualRests, read_states, representative_of}
use Rattle.pam_dispatch.proofs.EqualRests.{representative-rests}
use Rattle.pam_dispatch.proofs.program.Program.key_at.Goals as goal

pub returns-clause-key : goal.returns-clause-key
unfolding key_of representative_of
returns-clause-key c =
    let place = c.args.place.now in
    let key : ℕ → List State → KeyValue =
    λ depth entered. record { position = place.position; depth = depth; state = place.state; entered = entered } in
    let read = read_states 0 (drop place.position c.args.self.now) place.entered.states in
    let lists : min place.depth LISTS ≡ place.depth = omega (arith, place.shallow) in
    ap (key c.from-depth.result) (c.at_levels.ensures (drop place.position c.args.self.now) c.read_levels_at.ensures)
    ∙ ap (λ (depth : ℕ). key depth (take (min depth LISTS) read)) c.from-depth.ensures
    ∙ ap (λ (n : ℕ). key place.depth (take n read)) lists

pub returns-clause-rests : goal.returns-clause-rests
returns-clause-rests c =
    subst (λ (k : KeyValue). AreEqualRests (rest_at c.args.self.now k) (rest_of c.args.self.now c.args.place.now)) (sym (returns-clause-key c))
    (representative-rests c.args.self.now c.args.place.now)
