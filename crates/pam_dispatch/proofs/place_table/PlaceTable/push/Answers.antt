use Rattle.std.proofs.Common.{◌≡◌, ◌∷◌, ◌++◌, ◌∙◌, [], List, ap, false, subst, sym}
use Rattle.std.proofs.lemmas.Bool.{cond-false}
use Rattle.std.specs.List.{list_any}
use Rattle.pam_dispatch.specs.Keys.{DiffersFrom, KeyValue}
use Rattle.pam_dispatch.specs.Hashing.{same_key}
use Rattle.pam_dispatch.proofs.Keys.{differs-any}
use Rattle.pam_dispatch.proofs.place_table.PlaceTable.push.Goals as goal

pub returns-clause-added : goal.returns-clause-added
returns-clause-added c =
    let keys = c.self.inside.keys.keys in
    let key = c.args.key in
    let new : list_any (same_key key) keys ≡ false = differs-any key keys (subst (DiffersFrom key) (sym c.self.view_is) c.requires) in
    c.in_ok-insert.ensures.keys
    ∙ cond-false (list_any (same_key key) keys) keys (keys ++ key ∷ []) new
    ∙ ap (λ (x : List KeyValue). x ++ key ∷ []) c.self.view_is
