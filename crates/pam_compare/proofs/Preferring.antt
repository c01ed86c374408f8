-- Which answers are shown: as few as any, and the first usual ones.
use Rattle.std.proofs.Common.{◌≡◌, ◌<◌, ◌≤◌, ◌+◌, ◌∙◌, ℕ, List, Option, Some, None, length, map, ap, arith, subst, sym}
use Rattle.std.proofs.lemmas.List.{length-map}
use Rattle.std.specs.List.{AllByRecursion}
use Rattle.pam_dispatch.specs.declared.flat_item.FlatItem.{FlatItem}
use Rattle.pam_dispatch.specs.Flat.{modules_of, runs_of}
use Rattle.pam_dispatch.specs.Runs.{AsksRise, Assignment, Runs, asked_module}
use Rattle.pam_paths.specs.Listing.{Allowance}
use Rattle.pam_compare.specs.declared.change.Change.{Change}
use Rattle.pam_compare.specs.declared.held.HeldAnswer.{HeldAnswer}
use Rattle.pam_compare.specs.declared.naming.Naming.{Naming}
use Rattle.pam_compare.specs.declared.nodes.Found.{Found}
use Rattle.pam_compare.specs.declared.nodes.Way.{Way}
use Rattle.pam_compare.specs.declared.witness.Witness.{Witness}
use Rattle.pam_compare.specs.Changes.{change_of}
use Rattle.pam_compare.specs.Comparison.{IsPreferred, decision_in}
use Rattle.pam_compare.specs.Names.{by_name, name_of}
use Rattle.pam_compare.specs.inner.Naming.{AreUsual, IsPossible, by_code}
use Rattle.pam_compare.specs.inner.Nodes.{IsFoundWithin, IsSearched, found_at}
use Rattle.pam_compare.specs.inner.Trails.{AreAnswers, Follows, IsTrail, answers_on}
use Rattle.pam_compare.specs.inner.Turn.{first_of}
use Rattle.pam_compare.specs.inner.Ways.{IsFit, IsNaming, IsNamingFor, IsNearest, IsWalkTo, step_of}
use Rattle.pam_compare.proofs.Agreeing.{Named, as-one}
use Rattle.pam_compare.proofs.Allowed.{are-possible}
use Rattle.pam_compare.proofs.Growing.{same-some}
use Rattle.pam_compare.proofs.Choosing.{chosen-on}

-- the node that was found for a change is as near as any
pub nearest : (old new : List FlatItem) (naming : Naming) (ways : List Way) (found : Found) (change : Change) (k : ℕ) →
    IsSearched old new naming.names.items (first_of naming.ranks) naming.possible.items ways found → found_at found change ≡ Some k →
    IsNearest old new naming ways k change
unfolding IsNearest IsSearched
nearest old new naming ways found change k searched is a n trail can makes end there =
    let near : IsFoundWithin found ways n (Some change) = subst (IsFoundWithin found ways n) makes (searched a n can end) in
    let same : near.0 ≡ k = same-some near.0 k (sym near.1 ∙ is) in
    near.2 trail (subst (λ (j : ℕ). IsTrail ways j trail) (sym same) there)

module _ (old_allows new_allows : Allowance) (old new : List FlatItem) (partners : List (Option ℕ)) (naming : Naming)
    (told : IsNamingFor old_allows new_allows old new partners naming) (tables : IsNaming old new naming)
    (rise_old : AsksRise 0 (modules_of old) (runs_of old)) (rise_new : AsksRise 0 (modules_of new) (runs_of new))
    (usual : List ℕ) (can : IsPossible naming.possible.items (by_code usual)) (first : AreUsual naming.possible.items usual)
    (ways : List Way) (k : ℕ) (left right : Runs) (held : List HeldAnswer) (walk : IsWalkTo old new naming ways k left right held)
    (old_ends : asked_module left ≡ None) (new_ends : asked_module right ≡ None) (change : Change) (near : IsNearest old new naming ways k change)
    (fits : AllByRecursion (IsFit naming.possible.items) walk.trail) (follows : Follows (answers_on (by_code usual) walk.trail) walk.trail)
    (w : Witness) (of_old : AreAnswers (modules_of old) (answers_on (by_code usual) walk.trail) w.old_codes.items)
    (of_new : AreAnswers (modules_of new) (by_name naming.names.items (answers_on (by_code usual) walk.trail)) w.new_codes.items) where
  pub is-preferred : IsPreferred old_allows new_allows old new partners change w
  unfolding IsNearest AreUsual
  is-preferred =
      let a : Assignment = answers_on (by_code usual) walk.trail in
      record {
        names = naming.names.items;
        possible = naming.possible.items;
        old_first = first_of naming.ranks;
        are_names = told.names;
        are_possible = are-possible old_allows new_allows (modules_of old) (modules_of new) naming.names.items naming.possible.items (by_code usual) can
            told.possible told.exact;
        old_answers = a;
        new_answers = by_name naming.names.items a;
        old_are = of_old.each;
        new_are = of_new.each;
        answers = map step_of walk.trail;
        left = left;
        right = right;
        held = held;
        after = walk.after a follows;
        old_ends = old_ends;
        new_ends = new_ends;
        fewest = λ x y n old_can new_can agree makes end.
            let one : Named old new naming.names.items naming.possible.items x y =
            as-one old_allows new_allows old new partners naming.names.items told.names naming.possible.items told.possible rise_old rise_new x y
            old_can new_can agree in
            let few = near one.answers n walk.trail one.can (one.makes ∙ makes) (one.ends (first_of naming.ranks) n end) walk.is_trail in
            subst (λ (m : ℕ). m ≤ n) (sym (length-map walk.trail step_of)) few;
        old_usual = λ i positive most. chosen-on naming.possible.items (by_code usual) i walk.trail fits (first i (omega (arith, most, tables.possible)));
        new_usual = λ j positive most.
            let low = tables.low j positive most in
            chosen-on naming.possible.items (by_code usual) (name_of naming.names.items j) walk.trail fits
            (first (name_of naming.names.items j) (omega (arith, low, tables.possible)));
      }
