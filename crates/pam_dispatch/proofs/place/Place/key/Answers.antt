use Rattle.std.proofs.Common.{◌≡◌, ◌∙◌, ℕ, ap, arith, drop, min, take}
use Rattle.pam_dispatch.specs.declared.entered.TheConstants.{LISTS}
use Rattle.pam_dispatch.specs.Flat.{rest_of, resume}
use Rattle.pam_dispatch.specs.Keys.{KeyValue, key_of, rest_at}
use Rattle.pam_dispatch.proofs.place.Place.key.Goals as goal

pub returns-clause-key : goal.returns-clause-key
unfolding key_of
returns-clause-key c =
    let place = c.args.self.now in
    let key : ℕ → ℕ → KeyValue =
    λ depth lists. record { position = place.position; depth = depth; state = place.state; entered = take lists place.entered.states } in
    let lists : min place.depth LISTS ≡ place.depth = omega (arith, place.shallow) in
    ap (λ (depth : ℕ). key depth (min depth LISTS)) c.from.ensures ∙ ap (key place.depth) lists

pub returns-clause-rest : goal.returns-clause-rest
unfolding rest_at rest_of
returns-clause-rest c program =
    let place = c.args.self.now in
    let lists : min place.depth LISTS ≡ place.depth = omega (arith, place.shallow) in
    ap (λ (depth : ℕ). resume (drop place.position program) depth 0 (take (min depth LISTS) place.entered.states) place.state) c.from.ensures
    ∙ ap (λ (n : ℕ). resume (drop place.position program) place.depth 0 (take n place.entered.states) place.state) lists
