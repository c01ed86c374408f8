-- The columns of a picture, from how they are laid out.
use Rattle.std.proofs.Common.{◌≡◌, ◌∙◌, ℕ, ◌+◌, ◌-◌, ◌<◌, List, [], ◌∷◌, ◌++◌, Option, Some, ap, arith, length, map, refl}
use Rattle.std.proofs.Common.{slice_get, slice_index_or, subst, sym}
use Rattle.std.proofs.lemmas.List.{length-map}
use Rattle.std.proofs.lemmas.List.FromFn.{length-map-range_with_len}
use Rattle.std.proofs.lemmas.Option.{get_or_from_slice_get}
use Rattle.std.specs.List.{All, AllPairs, range_with_len}
use Rattle.std.specs.Option.{option_map_or}
use Rattle.pam_codes.specs.declared.code.TheConstants.{CODES}
use Rattle.pam_conf.specs.Stack.{Items, module_count}
use Rattle.pam_graph.specs.Walks.{GraphValue}
use Rattle.pam_graph.specs.declared.node.Node.{Node}
use Rattle.pam_drawing.proofs.PictureProofs.Lanes.{get-map, map-got}
use Rattle.pam_drawing.proofs.PictureProofs.Ranges.{entry}
use Rattle.pam_drawing.specs.picture.Columns.{HasColumns, IsLeftOf, column_of, end_column, reach_over, spans_after}
use Rattle.pam_drawing.specs.picture.Places.{no_end, origin, point_at}
use Rattle.pam_drawing.specs.declared.picture.layout.Layout.{Layout}
use Rattle.pam_drawing.specs.declared.picture.layout.heights.Heights.{Heights}
use Rattle.pam_drawing.specs.declared.picture.layout.shapes.EndPlace.{EndPlace}
use Rattle.pam_drawing.specs.declared.picture.layout.shapes.Place.{Place}
use Rattle.pam_drawing.specs.declared.picture.layout.shapes.Point.{Point}
use Rattle.pam_drawing.specs.declared.picture.layout.widths.Spaces.{Spaces}
use Rattle.pam_drawing.specs.picture.inner.Laned.{end_in, point_of_end}
use Rattle.pam_drawing.specs.picture.inner.Spaced.{HasPlacesIn, module_of, place_in, reach_in, x_of, x_of_end}

fused : {A B C : Type 0} (f : A → B) (g : B → C) (xs : List A) → map g (map f xs) ≡ map (λ (x : A). g (f x)) xs
fused f g [] = refl
fused {A} {B} {C} f g (x ∷ xs) = ap (λ (l : List C). g (f x) ∷ l) (fused f g xs)

-- the ends are in one column
pub ends-in-column : (ends : List EndPlace) (x : ℕ) (heights : List Heights) (lanes : List ℕ)
    → map point_of_end ends ≡ map (end_in x heights lanes) (range_with_len 0 CODES)
    → map x_of_end ends ≡ map (λ (decision : ℕ). x) (range_with_len 0 CODES)
ends-in-column ends x heights lanes h =
    sym (fused point_of_end (λ (p : Point). p.x) ends) ∙ ap (map (λ (p : Point). p.x)) h
    ∙ fused (end_in x heights lanes) (λ (p : Point). p.x) (range_with_len 0 CODES)

-- there is an end for each decision
pub count-ends : (ends : List EndPlace) (x : ℕ) (heights : List Heights) (lanes : List ℕ)
    → map point_of_end ends ≡ map (end_in x heights lanes) (range_with_len 0 CODES) → length ends ≡ CODES
count-ends ends x heights lanes h =
    sym (length-map ends point_of_end) ∙ ap length h ∙ length-map-range_with_len (end_in x heights lanes) 0 CODES

-- the left and the right of a bracket, by where the columns are
abbrev reach-among : List ℕ → ℕ → ℕ × ℕ → ℕ × ℕ
reach-among columns end span = (slice_index_or columns (span.0 - 1) end - 8, slice_index_or columns (span.1 + 1 - 1) end - 14)

module _ (items : Items) (graph : GraphValue) (spaces : Spaces) (layout : Layout)
    (counted : length spaces.columns.items + 1 ≡ module_count items + 1) (order : AllPairs IsLeftOf (spaces.columns.items ++ spaces.end ∷ []))
    (placed : HasPlacesIn spaces graph (spans_after 0 items) layout) where
  end-at : (k : ℕ) → k < CODES → (e : EndPlace) × (slice_get layout.ends.items k ≡ Some e) × (e.point.x ≡ spaces.end)
  end-at k h = entry x_of_end (λ (decision : ℕ). spaces.end) CODES k layout.ends.items placed.ends h

  ends-there : end_column layout ≡ spaces.end
  ends-there =
      let first = end-at 0 (omega arith) in
      ap (λ (e : EndPlace). e.point.x) (get_or_from_slice_get layout.ends.items 0 first.0 no_end first.1) ∙ first.2

  same-column : (number : ℕ) → place_in spaces number ≡ column_of layout number
  same-column number =
      ap (λ (columns : List ℕ). slice_index_or columns (number - 1) spaces.end) (sym placed.columns)
      ∙ ap (λ (end : ℕ). slice_index_or layout.columns.items (number - 1) end) (sym ends-there)

  node-there : (index : ℕ) (node : Node) → slice_get graph.nodes index ≡ Some node
      → (point_at layout index).x ≡ column_of layout node.module_number
  node-there index node at =
      let told = ap (λ (l : List ℕ). slice_get l index) placed.nodes
      ∙ get-map (place_in spaces) (map module_of graph.nodes) index node.module_number (get-map module_of graph.nodes index node at) in
      let place = map-got x_of layout.places.items index (place_in spaces node.module_number) told in
      ap (λ (o : Option Place). (option_map_or (λ (p : Place). p.point) o origin).x) place.1 ∙ place.2 ∙ same-column node.module_number

  pub has-columns : HasColumns items graph layout
  has-columns = record {
    count = omega (arith, counted, ap length placed.columns);
    order = subst (AllPairs IsLeftOf)
        (ap (λ (columns : List ℕ). columns ++ spaces.end ∷ []) (sym placed.columns)
        ∙ ap (λ (end : ℕ). layout.columns.items ++ end ∷ []) (sym ends-there)) order;
    nodes = node-there;
    ends = λ k d within.
        let long = length-map layout.ends.items x_of_end in
        let ranged = ap length placed.ends in
        let count = length-map-range_with_len (λ (decision : ℕ). spaces.end) 0 CODES in
        let end = end-at k (omega (arith, within, long, ranged, count)) in
        ap (λ (e : EndPlace). e.point.x) (get_or_from_slice_get layout.ends.items k end.0 d end.1) ∙ end.2 ∙ sym ends-there;
    brackets =
        placed.brackets
        ∙ ap (λ (columns : List ℕ). map (reach-among columns spaces.end) (spans_after 0 items)) (sym placed.columns)
        ∙ ap (λ (end : ℕ). map (reach-among layout.columns.items end) (spans_after 0 items)) (sym ends-there);
  }
