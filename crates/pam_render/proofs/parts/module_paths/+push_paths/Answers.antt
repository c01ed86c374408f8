use Rattle.std.proofs.Common.{◌≡◌, ℕ, ◌+◌, List, [], ◌∷◌, ◌++◌, ap, arith, drop, length, map, refl, sym, ◌∙◌}
use Rattle.std.proofs.lemmas.List.{length-append, length-map, map-append}
use Rattle.pam_conf.specs.ItemsOf.{items_of}
use Rattle.pam_conf.specs.Stack.{SubList}
use Rattle.pam_render.proofs.PartsProofs.PathLists.{count-module, count-sub, length-paths_of, paths-module, paths-sub, text_of}
use Rattle.pam_render.specs.parts.inner.ModulePaths.{paths_of}
use Rattle.pam_render.proofs.parts.module_paths.+push_paths.Goals.{in-Module, in-Sub}
use Rattle.pam_render.proofs.parts.module_paths.+push_paths.Goals as goal

pub loop-item-preserved : goal.loop-item-preserved
loop-item-preserved t c =
    let index = c.loop-item.item-index in
    let items = c.args.items.now in
    let d = c.item-item.result in
    let before = map text_of c.loop-item.paths.items in
    let left = paths_of (items_of (drop (index + 1) items)) in
    let long = length-map c.loop-item.paths.items text_of in
    let longer = length-map c.match-item.paths.items text_of in
    elim c.match-item.branch [
      | in-Module w ↦
          let m = w.in-Module.module in
          let is = sym c.item-item.is ∙ w.in-Module.is in
          let texts : map text_of c.match-item.paths.items ≡ before ++ m.path.items ∷ [] =
          rw (w.paths-is, w.push.ensures.items)
          (map-append text_of c.loop-item.paths.items (w.as_slice.result ∷ []) ∙ ap (λ (path : List ℕ). before ++ path ∷ []) w.as_slice.ensures.value) in (
            ap (λ (paths : List (List ℕ)). paths ++ left) texts ∙ paths-module index items before d m c.loop-item-test.true is ∙ c.loop-item.invariant.0,
            omega (
              arith,
              long,
              longer,
              ap length texts,
              length-append before (m.path.items ∷ []),
              count-module index items d m c.loop-item-test.true is,
              c.loop-item.invariant.1,
            ),
          )
      | in-Sub w ↦
          let s = w.in-Sub.sub in
          let is = sym c.item-item.is ∙ w.in-Sub.is in
          let inner : items_of w.deref.result.now ≡ s.inner = ap items_of w.deref.ensures.value ∙ ap (λ (x : SubList). x.inner) w.sub.view_is in
          let texts : map text_of c.match-item.paths.items ≡ before ++ paths_of s.inner = rw (w.paths-is, w.push_paths.ensures, inner) refl in (
            ap (λ (paths : List (List ℕ)). paths ++ left) texts ∙ paths-sub index items before d s c.loop-item-test.true is ∙ c.loop-item.invariant.0,
            omega (
              arith,
              long,
              longer,
              ap length texts,
              length-append before (paths_of s.inner),
              length-paths_of s.inner,
              count-sub index items d s c.loop-item-test.true is,
              c.loop-item.invariant.1,
            ),
          )
    ]
