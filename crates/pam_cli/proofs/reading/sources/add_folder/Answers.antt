use Rattle.std.proofs.Common.{◌≡◌, ◌∷◌, Global, List, String, map, option_map, string_bytes, subst, sym}
use Rattle.std.specs.Vec.Iter.{into_iter_items}
use Rattle.pam_cli.specs.System.{place_view}
use Rattle.pam_cli.specs.inner.Sources.{AddsBefore}
use Rattle.pam_cli.proofs.Entries.{next_entry, no_entry}
use Rattle.pam_cli.proofs.Rising.{in_order}
use Rattle.pam_cli.proofs.reading.sources.add_folder.Goals as goal

pub loop-name-init : goal.loop-name-init
loop-name-init g c =
    let told = g.S.System.told c.args.system.now in
    let above = option_map place_view c.args.above in
    let folder = place_view c.args.folder in
    let names = c.in_ok-names.names.items in
    let left = into_iter_items c.into_iter-name-iterator.result in
    let all = c.into_iter-name-iterator.ensures.into_iter_gives.0 in
    subst (λ (ns : List (String Global)). AddsBefore told above folder (map string_bytes ns) c.args.found.now c.args.found.now) (sym all)
    (no_entry told above folder (map string_bytes names) c.args.found.now c.in_ok-names.ensures.names (in_order string_bytes names c.in_ok-names.ensures.order))

pub loop-name-preserved : goal.loop-name-preserved
loop-name-preserved g c =
    let told = g.S.System.told c.args.system.now in
    let above = option_map place_view c.args.above in
    let folder = place_view c.args.folder in
    let first = c.args.found.now in
    let found = c.loop-name.found in
    let left = into_iter_items c.next.new.self in
    let here : into_iter_items c.loop-name.name-iterator ≡ c.in-Some.name ∷ left = c.in-Some.ensures.steps.0 in
    let before = subst (λ (ns : List (String Global)). AddsBefore told above folder (map string_bytes ns) first found) here c.loop-name.invariant in
    next_entry told above folder (string_bytes c.in-Some.name) (map string_bytes left) first found before c.put_entry.new.found c.in_ok-put_entry.ensures.ok
