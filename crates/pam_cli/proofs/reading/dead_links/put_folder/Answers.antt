use Rattle.std.proofs.Common.{◌≡◌, ◌∷◌, Global, List, String, map, string_bytes, subst, sym}
use Rattle.std.specs.Vec.Iter.{into_iter_items}
use Rattle.clap.specs.Words.{Text}
use Rattle.pam_cli.specs.DeadLinks.{AreAdded}
use Rattle.pam_cli.specs.System.{place_view}
use Rattle.pam_cli.specs.inner.DeadLinks.{AddsEntry}
use Rattle.pam_cli.proofs.DeadLinks.{then-added}
use Rattle.pam_cli.proofs.reading.dead_links.put_folder.Goals as goal

pub loop-name-init : goal.loop-name-init
loop-name-init g c =
    let told = g.S.System.told c.args.system.now in
    let folder = place_view c.args.folder in
    let files = c.args.files.now.entries in
    let items = c.into_iter-name-iterator.ensures.into_iter_gives.0 in
    λ all added. (
      map string_bytes c.in_ok-names.names.items,
      c.in_ok-names.ensures.names,
      subst (λ (ns : List (String Global)). AreAdded told folder files (map string_bytes ns) c.args.dead.now all) items added,
    )

pub loop-name-preserved : goal.loop-name-preserved
loop-name-preserved g c =
    let told = g.S.System.told c.args.system.now in
    let folder = place_view c.args.folder in
    let files = c.args.files.now.entries in
    let left = into_iter_items c.next.new.self in
    let here : into_iter_items c.loop-name.name-iterator ≡ c.in-Some.name ∷ left = c.in-Some.ensures.steps.0 in
    let old = c.loop-name.dead in
    let new = c.put_entry.new.dead in
    let entry = subst (λ (name : Text). AddsEntry told folder files name old new) c.as_str.ensures.value c.in_ok-put_entry.ensures in
    λ all added. c.loop-name.invariant all
    (subst (λ (ns : List (String Global)). AreAdded told folder files (map string_bytes ns) old all) (sym here)
    (then-added told folder files (string_bytes c.in-Some.name) (map string_bytes left) old new all entry added))
