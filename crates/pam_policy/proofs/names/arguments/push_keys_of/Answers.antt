use Rattle.std.proofs.Common.{◌∙◌, ◌++◌, Bor, List, ℕ, ap, append-nil, map, sym}
use Rattle.pam_policy.specs.names.Host.{call_view}
use Rattle.pam_policy.specs.names.Placed.{placed_view, speaks_of}
use Rattle.pam_policy.proofs.NamesProofs.Parts.{keys_of_call, keys_of_other}
use Rattle.pam_policy.proofs.names.arguments.push_keys_of.Goals as goal

abbrev text_of : Bor (List ℕ) → List ℕ
text_of key = key.now

pub returns-in_ok-push_keys : goal.returns-in_ok-push_keys
returns-in_ok-push_keys c =
    let placed = placed_view c.args.placed.now in
    let is =
    ap (speaks_of placed) (sym c.deref.ensures.value) ∙ sym c.speaks_of.ensures ∙ c.if-speaks_of.true in
    c.in_ok-push_keys.ensures
    ∙ ap (λ (keys : List (List ℕ)). map text_of c.args.keys.now.items ++ keys) (sym (keys_of_call placed (call_view c.args.call.now) is))

pub returns-else-speaks_of : goal.returns-else-speaks_of
returns-else-speaks_of c =
    let placed = placed_view c.args.placed.now in
    let is =
    ap (speaks_of placed) (sym c.deref.ensures.value) ∙ sym c.speaks_of.ensures ∙ c.if-speaks_of.false in
    sym (append-nil (map text_of c.args.keys.now.items))
    ∙ ap (λ (keys : List (List ℕ)). map text_of c.args.keys.now.items ++ keys) (sym (keys_of_other placed (call_view c.args.call.now) is))
