-- The numbers of a program's modules.
use Rattle.std.proofs.Common.{◌≡◌, ℕ, ◌+◌, ◌-◌, ◌<◌, ◌≤◌, ◌&&◌, List, [], ◌∷◌, eqb, ltb, zero, suc, refl, ◌∙◌, ap, arith, length, get_or, subst}
use Rattle.std.proofs.lemmas.Bool.{cond_both}
use Rattle.pam_codes.specs.declared.action.Action.{Action}
use Rattle.pam_conf.specs.Stack.{Items, IsNumberedFrom, module_count}
use Rattle.pam_dispatch.specs.declared.state.State.{State}
use Rattle.pam_dispatch.specs.declared.flat_item.FlatItem.{FlatItem}
use Rattle.pam_dispatch.specs.declared.flat_item.FlatItem.TheVariants.{Module, Substack}
use Rattle.pam_dispatch.specs.Runs.{Runs, ends, asks, AsksRise}
use Rattle.pam_dispatch.specs.Flat.{resume, runs_of, controls_in, modules_of}
use Rattle.pam_dispatch.specs.inner.Flat.{flat_list, positions_from, IsNumbered}
use Rattle.pam_dispatch.specs.Tree.{runs_of_stack}
use Rattle.pam_dispatch.proofs.Flattening.{runs_of-flat_list}
use Rattle.pam_dispatch.proofs.StackLists.{modules_of-flat_list, numbered-flat_list}

-- numbers that rise above a number rise above each lower one
pub AsksRise-lower : (low above high : ℕ) (r : Runs) → low ≤ above → AsksRise above high r → AsksRise low high r
unfolding AsksRise
AsksRise-lower low above high (ends s) le h = tt
AsksRise-lower low above high (asks ask next) le h = (omega (arith, h.0), h.1, h.2)

-- a run of numbered modules asks them in order
AsksRise-resume : (ts : List FlatItem) (before high level skip : ℕ) (es : List State) (s : State) →
    IsNumbered before ts → before + modules_of ts ≤ high → AsksRise before high (resume ts level skip es s)
unfolding IsNumbered resume AsksRise controls_in
AsksRise-resume [] before high level skip es s n h = tt
AsksRise-resume (Module here m control after ∷ rest) before high level skip es s n h =
    cond_both (ltb level here) (resume rest level skip es s) _ (λ r. AsksRise before high r)
    (λ k. AsksRise-lower before (before + 1) high _ (omega arith) (AsksRise-resume rest (before + 1) high level skip es s n.1 (omega (arith, h))))
    (λ k. cond_both (eqb here level && ltb 0 skip) (resume rest level (skip - 1) es s) _ (λ r. AsksRise before high r)
    (λ j. AsksRise-lower before (before + 1) high _ (omega arith) (AsksRise-resume rest (before + 1) high level (skip - 1) es s n.1 (omega (arith, h))))
    (λ j. (
      omega (arith, n.0),
      omega (arith, n.0, h),
      λ o.
          AsksRise-lower m (before + 1) high _ (omega (arith, n.0))
          (AsksRise-resume rest (before + 1) high here (after - o.left) _ o.state n.1 (omega (arith, h))),
    )))
AsksRise-resume (Substack here ∷ rest) before high level skip es s n h =
    cond_both (ltb level here) (resume rest level skip es s) _ (λ r. AsksRise before high r)
    (λ k. AsksRise-resume rest before high level skip es s n h)
    (λ k. cond_both (eqb here level && ltb 0 skip) (resume rest level (skip - 1) es s) (resume rest (here + 1) 0 _ s) (λ r. AsksRise before high r)
    (λ j. AsksRise-resume rest before high level (skip - 1) es s n h)
    (λ j. AsksRise-resume rest before high (here + 1) 0 _ s n h))

pub AsksRise-runs_of : (program : List FlatItem) → IsNumbered 0 program → AsksRise 0 (modules_of program) (runs_of program)
unfolding runs_of
AsksRise-runs_of program n = AsksRise-resume program 0 (modules_of program) 0 0 _ _ n (omega arith)

-- and so does the run of a numbered stack
pub AsksRise-stack : (items : Items) → IsNumberedFrom 1 items → AsksRise 0 (module_count items) (runs_of_stack items)
AsksRise-stack items numbered =
    let first : 1 ≡ 0 + 1 = omega arith in
    subst (λ (n : ℕ). AsksRise 0 n (runs_of_stack items)) (modules_of-flat_list 0 items)
    (subst (λ (r : Runs). AsksRise 0 (modules_of (flat_list 0 items)) r) (runs_of-flat_list items)
    (AsksRise-runs_of (flat_list 0 items) (numbered-flat_list 0 0 items (subst (λ (n : ℕ). IsNumberedFrom n items) first numbered))))

-- each module has a position
pub length-positions_from : (before : ℕ) (ts : List FlatItem) → length (positions_from before ts) ≡ modules_of ts
unfolding positions_from controls_in
length-positions_from before [] = refl
length-positions_from before (Module level number control after ∷ rest) = ap suc (length-positions_from (before + 1) rest)
length-positions_from before (Substack level ∷ rest) = length-positions_from (before + 1) rest

-- the number and the control of an item
abbrev pub number_of : FlatItem → ℕ
number_of (Module level number control after) = number
number_of (Substack level) = 0

abbrev pub control_of : FlatItem → List Action
control_of (Module level number control after) = control
control_of (Substack level) = []

-- the item at a position is the module of a number, with its control
pub record ModuleAt (ts : List FlatItem) (position number : ℕ) (control : List Action) : Type 0 where
  pub level : ℕ
  pub after : ℕ
  pub within : position < length ts
  pub is : (past : FlatItem) → get_or ts position past ≡ Module level number control after

-- after one more item
ModuleAt-next : (e : FlatItem) (ts : List FlatItem) (position number : ℕ) (control : List Action) →
    ModuleAt ts position number control → ModuleAt (e ∷ ts) (suc position) number control
ModuleAt-next e ts position number control m = record { level = m.level; after = m.after; within = omega (arith, m.within); is = m.is }

-- the module of an index is at its position in the list of positions
pub at_positions_from : (ts : List FlatItem) (before numbered index : ℕ) → IsNumbered numbered ts → index < modules_of ts →
    (position : ℕ) × (get_or (positions_from before ts) index 0 ≡ before + position)
    × ModuleAt ts position (numbered + index + 1) (get_or (controls_in ts) index [])
unfolding IsNumbered positions_from controls_in
at_positions_from [] before numbered index n h = absurd (omega (arith, h))
at_positions_from (Module level number control after ∷ rest) before numbered zero n h = (
  0,
  omega arith,
  record
      { level = level; after = after; within = omega arith; is = λ past. ap (λ (x : ℕ). Module level x control after) (omega (arith, n.0)) },
)
at_positions_from (Module level number control after ∷ rest) before numbered (suc index) n h =
    let deeper = at_positions_from rest (before + 1) (numbered + 1) index n.1 (omega (arith, h)) in
    let same : (numbered + 1) + index + 1 ≡ numbered + suc index + 1 = omega arith in (
      suc deeper.0,
      deeper.1 ∙ omega arith,
      rw (← same) (ModuleAt-next (Module level number control after) rest deeper.0 _ _ deeper.2),
    )
at_positions_from (Substack level ∷ rest) before numbered index n h =
    let deeper = at_positions_from rest (before + 1) numbered index n h in
    (suc deeper.0, deeper.1 ∙ omega arith, ModuleAt-next (Substack level) rest deeper.0 _ _ deeper.2)

-- a module of the list has the control of its number
pub control_in-module : (ts : List FlatItem) (before position : ℕ) (past : FlatItem) (level number : ℕ) (control : List Action) (after : ℕ) →
    IsNumbered before ts → position < length ts → get_or ts position past ≡ Module level number control after →
    (index : ℕ) × (number ≡ before + index + 1) × (get_or (controls_in ts) index [] ≡ control)
unfolding IsNumbered controls_in
control_in-module [] before position past level number control after n within is = absurd (omega (arith, within))
control_in-module (Module l m c b ∷ rest) before zero past level number control after n within is =
    (0, omega (arith, n.0, ap number_of is), ap control_of is)
control_in-module (Module l m c b ∷ rest) before (suc position) past level number control after n within is =
    let deeper = control_in-module rest (before + 1) position past level number control after n.1 (omega (arith, within)) is in
    (suc deeper.0, omega (arith, deeper.1), deeper.2)
control_in-module (Substack l ∷ rest) before zero past level number control after n within is = cc
control_in-module (Substack l ∷ rest) before (suc position) past level number control after n within is =
    control_in-module rest before position past level number control after n (omega (arith, within)) is
