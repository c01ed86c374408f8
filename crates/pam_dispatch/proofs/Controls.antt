-- How a program finds the control of a module.
use Rattle.std.proofs.Common.{◌≡◌, ℕ, ◌+◌, ◌-◌, ◌<◌, ◌≤◌, Bool, List, [], ◌∷◌, zero, suc, refl, sym, ◌∙◌, ap, subst, arith, length, get_or, Some}
use Rattle.std.specs.Prelude.{is_some}
use Rattle.std.specs.List.{AllZip}
use Rattle.std.proofs.lemmas.Slice.Zip.{AllZip-long}
use Rattle.std.proofs.lemmas.List.{get_or_default}
use Rattle.pam_codes.specs.declared.action.Action.{Action}
use Rattle.pam_codes.specs.declared.parts.Part.{Part}
use Rattle.pam_codes.specs.Parts.{IsParts}
use Rattle.pam_dispatch.specs.declared.flat_item.FlatItem.{FlatItem}
use Rattle.pam_dispatch.specs.declared.flat_item.FlatItem.TheVariants.{Module, Substack}
use Rattle.pam_dispatch.specs.declared.place.Place.{Place}
use Rattle.pam_dispatch.specs.Runs.{Runs, asked_module, next_ask}
use Rattle.pam_dispatch.specs.Flat.{IsPlaceOf, controls_in, control_at, modules_of, rest_of}
use Rattle.pam_dispatch.specs.inner.Flat.{IsNumbered}
use Rattle.pam_dispatch.specs.inner.Program.{IsProgram}
use Rattle.pam_dispatch.proofs.Asking.{number-next_ask}
use Rattle.pam_dispatch.proofs.Numbering.{ModuleAt, control_of, at_positions_from, control_in-module, length-positions_from}
use Rattle.pam_dispatch.proofs.Places.{place_asks, place_no_substack, place_within}
use Rattle.pam_dispatch.proofs.Resume.{ask_at}

all_zipped_at : (controls : List (List Action)) (parts : List (List Part)) (index : ℕ) (c : List Action) (p : List Part) →
    AllZip IsParts controls parts → index < length controls → IsParts (get_or controls index c) (get_or parts index p)
all_zipped_at [] parts index c p h within = absurd (omega (arith, within))
all_zipped_at (x ∷ xs) [] index c p h within = absurd h
all_zipped_at (x ∷ xs) (y ∷ ys) zero c p h within = h.0
all_zipped_at (x ∷ xs) (y ∷ ys) (suc index) c p h within = all_zipped_at xs ys index c p h.1 (omega (arith, within))

-- each module of a program has a position
pub length-positions : (flat_items program : List FlatItem) (positions : List ℕ)
    {parts : List (List Part)} {stretches : List ℕ} {tail : ℕ} {levels : List (List Bool)} →
    IsProgram flat_items positions parts stretches tail levels → flat_items ≡ program →
    length positions ≡ modules_of program
length-positions flat_items program positions p is =
    ap (λ (x : List ℕ). length x) p.found ∙ length-positions_from 0 flat_items ∙ ap (λ (ts : List FlatItem). modules_of ts) is

-- a module of a program has the control of its number
pub control_at-module : (program : List FlatItem) (position : ℕ) (past : FlatItem) (level number : ℕ) (control : List Action) (after : ℕ) →
    IsNumbered 0 program → position < length program → get_or program position past ≡ Module level number control after →
    control_at program number ≡ control
control_at-module program position past level number control after n within is =
    let found = control_in-module program 0 position past level number control after n within is in
    let same : number - 1 ≡ found.0 = omega (arith, found.1) in
    ap (λ (x : ℕ). get_or (controls_in program) x []) same ∙ found.2

-- a place that asks a module is at that module, and no other
at_item : (program : List FlatItem) (place : Place) (number : ℕ) → IsNumbered 0 program → IsPlaceOf program place →
    asked_module (rest_of program place) ≡ Some number → place.position < length program →
    (e : FlatItem) → get_or program place.position (Substack 0) ≡ e → (next_ask (rest_of program place)).control ≡ control_at program number
unfolding ask_at
at_item program place number numbered valid asked within (Substack level) is =
    absurd (place_no_substack program place valid (Substack 0) level within is)
at_item program place number numbered valid asked within (Module level m control after) is =
    let asks = place_asks program place valid (Substack 0) level m control after within is in
    let same : m ≡ number = sym (ap (λ (r : Runs). (next_ask r).module_number) asks) ∙ number-next_ask (rest_of program place) number asked in
    ap (λ (r : Runs). (next_ask r).control) asks
    ∙ sym (control_at-module program place.position (Substack 0) level m control after numbered within is)
    ∙ ap (λ (x : ℕ). control_at program x) same

-- how a module of a program is asked, by its number
pub place-control : (program : List FlatItem) (place : Place) (number : ℕ) → IsNumbered 0 program → IsPlaceOf program place →
    asked_module (rest_of program place) ≡ Some number → (next_ask (rest_of program place)).control ≡ control_at program number
place-control program place number numbered valid asked =
    at_item program place number numbered valid asked (place_within program place valid (ap is_some asked))
    (get_or program place.position (Substack 0)) refl

module _ (flat_items program : List FlatItem) (positions : List ℕ) {parts : List (List Part)} {stretches : List ℕ} {tail : ℕ} {levels : List (List Bool)}
    (p : IsProgram flat_items positions parts stretches tail levels)
    (is : flat_items ≡ program) (number : ℕ) (first : 1 ≤ number) (last : number ≤ modules_of program) where
  index_within : number - 1 < modules_of flat_items
  index_within = omega (arith, first, last, ap (λ (ts : List FlatItem). modules_of ts) is)

  pub number_within : number - 1 < length positions
  number_within = omega (arith, first, last, length-positions flat_items program positions p is)

  pub parts_within : number - 1 < length parts
  parts_within = omega (arith, index_within, AllZip-long IsParts (controls_in flat_items) parts p.divided)

  -- the parts of a number are those of its control
  pub parts_at : (past : List Part) → IsParts (control_at program number) (get_or parts (number - 1) past)
  parts_at past =
      subst (λ (ts : List FlatItem). IsParts (control_at ts number) (get_or parts (number - 1) past)) is
      (all_zipped_at (controls_in flat_items) parts (number - 1) [] past p.divided index_within)

  pub parts_asked : (past : List Part) (place : Place) → IsPlaceOf program place → asked_module (rest_of program place) ≡ Some number →
      IsParts (next_ask (rest_of program place)).control (get_or parts (number - 1) past)
  parts_asked past place valid asked =
      subst (λ (control : List Action). IsParts control (get_or parts (number - 1) past))
      (sym (place-control program place number (subst (λ ts. IsNumbered 0 ts) is p.numbered) valid asked)) (parts_at past)

  pub control_asked : (place : Place) → IsPlaceOf program place → asked_module (rest_of program place) ≡ Some number →
      (next_ask (rest_of program place)).control ≡ control_at program number
  control_asked place valid asked = place-control program place number (subst (λ ts. IsNumbered 0 ts) is p.numbered) valid asked

  module _ (position : ℕ) (at : position ≡ get_or positions (number - 1) position) where
    module_there : ModuleAt flat_items position number (get_or (controls_in flat_items) (number - 1) [])
    module_there =
        let found = at_positions_from flat_items 0 0 (number - 1) p.numbered index_within in
        let here : found.0 ≡ position =
        sym (at ∙ get_or_default positions (number - 1) position 0 number_within
        ∙ ap (λ (x : List ℕ). get_or x (number - 1) 0) p.found ∙ found.1 ∙ (let z : 0 + found.0 ≡ found.0 = omega arith in z)) in
        let same : 0 + (number - 1) + 1 ≡ number = omega (arith, first) in
        subst (λ (x : ℕ). ModuleAt flat_items x number (get_or (controls_in flat_items) (number - 1) [])) here
        (subst (λ (x : ℕ). ModuleAt flat_items found.0 x (get_or (controls_in flat_items) (number - 1) [])) same found.2)

    pub position_within : position < length flat_items
    position_within = module_there.within

    module _ (e : FlatItem) (there : e ≡ get_or flat_items position e) where
      -- the item that was found is the module of the number
      found_module : e ≡ Module module_there.level number (get_or (controls_in flat_items) (number - 1) []) module_there.after
      found_module = there ∙ module_there.is e

      pub found_no_substack : (level : ℕ) → e ≡ Substack level → ⊥
      found_no_substack level substack =
          let no : Module module_there.level number (get_or (controls_in flat_items) (number - 1) []) module_there.after ≡ Substack level =
          sym found_module ∙ substack in
          cc

      pub found_control : (level m : ℕ) (control : List Action) (after : ℕ) → e ≡ Module level m control after → control ≡ control_at program number
      found_control level m control after found =
          ap control_of (sym found ∙ found_module) ∙ ap (λ (ts : List FlatItem). control_at ts number) is

      pub found_asked : (level m : ℕ) (control : List Action) (after : ℕ) → e ≡ Module level m control after →
          (place : Place) → IsPlaceOf program place → asked_module (rest_of program place) ≡ Some number →
          (next_ask (rest_of program place)).control ≡ control
      found_asked level m control after found place valid asked =
          place-control program place number (subst (λ ts. IsNumbered 0 ts) is p.numbered) valid asked
          ∙ sym (found_control level m control after found)
