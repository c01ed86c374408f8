-- What is shown of the modules that a pair of stacks asks.
use Rattle.std.proofs.Common.{◌≡◌, ◌∙◌, ◌<◌, ◌≤◌, ℕ, List, Option, ap, arith, inl, inr, subst, sym}
use Rattle.pam_compare.proofs.Matched.{is-matching}
use Rattle.pam_compare.specs.Matching.{IsMatching, matching_of}
use Rattle.pam_compare.specs.declared.change.Change.{Change}
use Rattle.pam_compare.specs.declared.change.Change.TheVariants.{Admits, Refuses, Tells}
use Rattle.pam_conf.specs.declared.rule.Kind.{Kind}
use Rattle.pam_conf.specs.Stack.{Items, IsNumbered, module_count}
use Rattle.pam_dispatch.proofs.Numbering.{AsksRise-stack}
use Rattle.pam_dispatch.specs.Flat.{modules_of, runs_of}
use Rattle.pam_dispatch.specs.Runs.{Assignment, Runs, answers_of}
use Rattle.pam_dispatch.specs.Tree.{runs_of_stack}
use Rattle.pam_dispatch.specs.declared.flat_item.FlatItem.{FlatItem}
use Rattle.pam_paths.specs.Known.{may_answer}
use Rattle.pam_paths.specs.Listing.{Allowance}
use Rattle.pam_changes.specs.Asked.{AreModules, AreShownOnce, IsOneToOne}
use Rattle.pam_changes.specs.Known.{alike_partners}
use Rattle.pam_changes.specs.Laws.{AskedAreShownOnce, AskedOfPairIsShownOnce}
use Rattle.pam_changes.specs.Pairs.{AreDecisions, AreShown, IsProgramOf, IsShown, IsShownBy}
use Rattle.pam_changes.specs.Sides.{SidesText}
use Rattle.pam_changes.specs.Steps.{asked_modules, asked_numbers}
use Rattle.pam_changes.specs.declared.pair.Shown.{Shown}
use Rattle.pam_changes.proofs.Asking.{shown-once}
use Rattle.pam_changes.proofs.Ordered.{all-members, pairs-all}
use Rattle.pam_changes.proofs.Rising.{alike-partner, numbers-rise}

pub any_shown_once : AskedAreShownOnce
any_shown_once partners old_answers new_answers old_asked new_asked modules matched rise within =
    shown-once partners old_answers new_answers old_asked new_asked modules matched rise within

-- no two modules that answer alike have the same partner
one-to-one : (sides : SidesText) (kind : Kind) (old new : Items) (partners : List (Option ℕ)) → partners ≡ matching_of old new →
    IsOneToOne (alike_partners sides kind old new partners)
one-to-one sides kind old new partners is i j k e f =
    let matching : IsMatching old new partners = subst (IsMatching old new) (sym is) (is-matching old new) in
    matching.one_to_one i j k (alike-partner sides kind old new partners j i e) (alike-partner sides kind old new partners k i f)

module _ (old new : Items) (partners : List (Option ℕ)) (matched : IsOneToOne partners) (old_numbered : IsNumbered old) (new_numbered : IsNumbered new)
    (old_program new_program : List FlatItem) (of_old : IsProgramOf old old_program) (of_new : IsProgramOf new new_program) where
  -- under each witness
  shown-by : (old_allows new_allows : Allowance) (change : Change) (shown : Shown) →
      IsShownBy old_allows new_allows old_program new_program partners change shown →
      let a = answers_of shown.witness.old_codes.items in
      let b = answers_of shown.witness.new_codes.items in
      AreShownOnce partners a b (asked_numbers (runs_of_stack old) a) (asked_numbers (runs_of_stack new) b) (module_count new) shown.asked.items
  shown-by old_allows new_allows change shown is =
      let a : Assignment = answers_of shown.witness.old_codes.items in
      let b : Assignment = answers_of shown.witness.new_codes.items in
      let one = numbers-rise a 0 (module_count old) (runs_of_stack old) (AsksRise-stack old old_numbered) in
      let other = numbers-rise b 0 (module_count new) (runs_of_stack new) (AsksRise-stack new new_numbered) in
      let old_asked : List ℕ = asked_numbers (runs_of_stack old) a in
      let new_asked : List ℕ = asked_numbers (runs_of_stack new) b in
      let within : AreModules (module_count new) new_asked =
      all-members (λ n. (1 ≤ n) × (n ≤ module_count new)) new_asked (λ n k. let w = other.within n k in (omega (arith, w.0), w.1)) in
      let same : shown.asked.items ≡ asked_modules partners a b old_asked new_asked (module_count new) =
      is.asked
      ∙ ap (λ (r : Runs). asked_modules partners a b (asked_numbers r a) (asked_numbers (runs_of new_program) b) (modules_of new_program)) of_old.runs
      ∙ ap (λ (r : Runs). asked_modules partners a b old_asked (asked_numbers r b) (modules_of new_program)) of_new.runs
      ∙ ap (λ (n : ℕ). asked_modules partners a b old_asked new_asked n) of_new.modules in
      subst (AreShownOnce partners a b old_asked new_asked (module_count new)) (sym same)
      (shown-once partners a b old_asked new_asked (module_count new) matched (pairs-all (λ x y. x < y) old_asked one.rise) within)

pub of_pair_shown_once : AskedOfPairIsShownOnce
of_pair_shown_once sides pair changes shown old_numbered new_numbered is known among =
    let c = is.decisions in
    let partners = alike_partners sides pair.kind pair.old pair.new pair.matching in
    let matched = one-to-one sides pair.kind pair.old pair.new pair.matching is.matching in
    let one : Allowance = may_answer c.old_known in
    let other : Allowance = may_answer c.new_known in
    let are : AreShown one other c.old_program c.new_program partners changes =
    subst (AreDecisions one other c.old_program c.new_program partners) known c.decisions in
    let by = shown-by pair.old pair.new partners matched old_numbered new_numbered c.old_program c.new_program c.of_old c.of_new one other in
    elim among [
      | inl e ↦ by Admits shown (subst (IsShown one other c.old_program c.new_program partners Admits) e are.admits)
      | inr rest ↦ elim rest [
        | inl e ↦ by Refuses shown (subst (IsShown one other c.old_program c.new_program partners Refuses) e are.refuses)
        | inr e ↦ by Tells shown (subst (IsShown one other c.old_program c.new_program partners Tells) e are.tells)
      ]
    ]
