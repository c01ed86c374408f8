use Rattle.std.proofs.Common.{◌≡◌, ◌-◌, ◌<◌, ◌∙◌, List, [], ap, arith, drop, get_or, length, subst, sym, ℕ}
use Rattle.std.proofs.lemmas.List.{get_or_default}
use Rattle.pam_dispatch.specs.declared.flat_item.FlatItem.{FlatItem}
use Rattle.pam_dispatch.specs.inner.ReadLevels.{AreReadLevels}
use Rattle.pam_dispatch.proofs.PositionTables.{table-at}
use Rattle.pam_dispatch.proofs.program.Program.read_levels_at.Goals as goal

pub returns : goal.returns
returns c =
    let position = c.args.place.now.position in
    let items = c.self.inside.flat_items.items in
    let table = c.self.inside.read_levels.items in
    let at : c.saturating_sub-left.result ≡ length items - position =
    omega (arith, c.saturating_sub-left.ensures, c.len.ensures, c.self.inside.flat_items.ok) in
    let within : length items - position < length table = omega (arith, c.self.invariant.read.long) in
    let levels : get_or table (length items - position) [] ≡ c.index.result.now =
    sym (c.index.ensures ∙ ap (λ (n : ℕ). get_or table n c.index.result.now) at
    ∙ get_or_default table (length items - position) c.index.result.now [] within) in
    subst (λ (ts : List FlatItem). AreReadLevels (drop position ts) c.index.result.now) c.self.view_is
    (subst (AreReadLevels (drop position items)) levels (table-at AreReadLevels [] items table position c.self.invariant.read))
