use Rattle.std.proofs.Common.{◌≡◌, List, subst}
use Rattle.std.specs.Prelude.{IfNone, IfSome, Some, slice_get}
use Rattle.pam_dispatch.specs.Keys.{DiffersFrom, KeyValue}
use Rattle.pam_dispatch.proofs.Keys.{found-at, none-differs}
use Rattle.pam_dispatch.proofs.place_table.PlaceTable.find.Goals as goal

pub returns-clause-found : goal.returns-clause-found
returns-clause-found c =
    subst (λ (ks : List KeyValue). IfSome c.get_index_of.result (λ index. slice_get ks index ≡ Some c.args.key.now)) c.self.view_is
    (found-at c.get_index_of.result c.args.key.now c.self.inside.keys.keys c.get_index_of.ensures.index)

pub returns-clause-none : goal.returns-clause-none
returns-clause-none c =
    subst (λ (ks : List KeyValue). IfNone c.get_index_of.result (DiffersFrom c.args.key.now ks)) c.self.view_is
    (none-differs c.get_index_of.result c.args.key.now c.self.inside.keys.keys c.get_index_of.ensures.found)
