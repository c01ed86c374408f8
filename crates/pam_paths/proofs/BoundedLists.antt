-- Lists in an array, and the steps of a path that are written in place.
use Rattle.std.proofs.Common.{◌≡◌, ℕ, ◌+◌, ◌-◌, ◌<◌, ◌≤◌, ◌∷◌, ◌++◌, [], List, get_or, length, map, take, drop, zero, suc, arith, ap, sym, ◌∙◌, length-take}
use Rattle.std.proofs.Math.ListN.{set}
use Rattle.std.proofs.Math.Seq.{take-set-lt}
use Rattle.std.proofs.lemmas.List.{drop-set-lt, get_or_default, get_or-drop, get_or-map, get_or-take}
use Rattle.std.proofs.lemmas.List.{length-drop, length-map, map-set, take_more, take_more_set}
use Rattle.pam_dispatch.specs.declared.place.Place.{Place}
use Rattle.pam_paths.specs.declared.classes.Classes.{Classes}
use Rattle.pam_paths.specs.declared.frames.Branch.{Branch}
use Rattle.pam_paths.specs.declared.frames.Frame.{Frame}
use Rattle.pam_paths.specs.declared.path.PathStep.{PathStep}
use Rattle.pam_paths.specs.inner.Followed.{followed}
use Rattle.pam_paths.specs.Frames.{step_in}
use Rattle.pam_paths.specs.Paths.{StepValue}
use Rattle.pam_paths.specs.Steps.{step_seen}
use Rattle.pam_paths.specs.Tail.{IsTail, tail_from}
use Rattle.pam_paths.specs.inner.Tail.{EndsInTail}

module _ {A : Type 0} (cells items : List A) (count : ℕ) (is : take count cells ≡ items) (i : ℕ) (within : i < length items) where
  pub row-within : i < length cells
  row-within = omega (arith, length-take count cells, ap length is)

  -- an element is replaced
  pub row-set : (x : A) → take count (set cells i x) ≡ set items i x
  row-set x =
      let lt : i < count = omega (arith, length-take count cells, ap length is) in take-set-lt count cells i x lt ∙ ap (λ (l : List A). set l i x) is

abbrev frame_of : Place → ℕ → ℕ → List ℕ → Classes → Frame
frame_of place number code class classes = record { place = place; module_number = number; code = code; class = class; classes = classes }

frame-same : (put frame : Frame) (branch : Branch) → put.place ≡ frame.place → put.module_number ≡ frame.module_number →
    put.code ≡ branch.code → put.class ≡ branch.class → put.classes ≡ frame.classes → put ≡ followed frame branch
frame-same put frame branch place number code class classes =
    ap (λ (x : Place). frame_of x put.module_number put.code put.class put.classes) place
    ∙ ap (λ (x : ℕ). frame_of frame.place x put.code put.class put.classes) number
    ∙ ap (λ (x : ℕ). frame_of frame.place frame.module_number x put.class put.classes) code
    ∙ ap (λ (x : List ℕ). frame_of frame.place frame.module_number branch.code x put.classes) class
    ∙ ap (λ (x : Classes). frame_of frame.place frame.module_number branch.code branch.class x) classes

-- at a frame a branch is followed
pub row-followed : (cells items : List Frame) (count : ℕ) → take count cells ≡ items → (i : ℕ) → i < length items → (frame was put : Frame) (branch : Branch) →
    frame ≡ get_or items i frame → put.place ≡ (get_or cells i was).place → put.module_number ≡ (get_or cells i was).module_number →
    put.code ≡ branch.code → put.class ≡ branch.class → put.classes ≡ (get_or cells i was).classes →
    take count (set cells i put) ≡ set items i (followed frame branch)
row-followed cells items count is i within frame was put branch at place number code class classes =
    let lt : i < count = omega (arith, length-take count cells, ap length is) in
    let here : get_or cells i was ≡ frame =
    sym (get_or-take count cells i was lt) ∙ ap (λ (l : List Frame). get_or l i was) is
    ∙ get_or_default items i was frame within ∙ sym at in
    let same : put ≡ followed frame branch =
    frame-same put frame branch (place ∙ ap (λ (f : Frame). f.place) here) (number ∙ ap (λ (f : Frame). f.module_number) here) code class
    (classes ∙ ap (λ (f : Frame). f.classes) here) in
    row-set cells items count is i within put ∙ ap (set items i) same

more-same : {A : Type 0} (seen own : List A) (i : ℕ) (s : A) → take i seen ≡ take i own → i < length seen → i < length own → s ≡ get_or own i s →
    take (i + 1) (set seen i s) ≡ take (i + 1) own
more-same {A} seen own i s same within inside at =
    take_more_set seen i s within ∙ ap (λ (l : List A). l ++ s ∷ []) same ∙ ap (λ (x : A). take i own ++ x ∷ []) at ∙ sym (take_more own i s inside)

-- a step is written over that of the next frame
module _ (steps : List PathStep) (frames : List Frame) (i : ℕ) (frame : Frame) (step : PathStep) (inside : i < length frames)
    (long : length frames ≤ length steps) (at : frame ≡ get_or frames i frame) (is : step_seen step ≡ step_in frame) where
  pub rewritten-first : take i (map step_seen steps) ≡ take i (map step_in frames) →
      take (i + 1) (map step_seen (set steps i step)) ≡ take (i + 1) (map step_in frames)
  rewritten-first same =
      ap (take (i + 1)) (map-set step_seen steps i step)
      ∙ more-same (map step_seen steps) (map step_in frames) i (step_seen step) same (omega (arith, length-map steps step_seen, inside, long))
      (omega (arith, length-map frames step_in, inside))
      (is ∙ ap step_in at ∙ sym (get_or-map step_in frames i frame (step_seen step) inside))

  pub rewritten-last : drop (length frames) (map step_seen (set steps i step)) ≡ drop (length frames) (map step_seen steps)
  rewritten-last = ap (drop (length frames)) (map-set step_seen steps i step) ∙ drop-set-lt (length frames) (map step_seen steps) i (step_seen step) inside

-- the last steps of a path are those of a tail, if those of one module are
alike-head : (seen last : List StepValue) (count kept first second : ℕ) (x y : StepValue) → drop count seen ≡ tail_from first kept →
    last ≡ tail_from second kept → 0 < kept → (get_or seen count x).module_number ≡ (get_or last 0 y).module_number → drop count seen ≡ last
unfolding tail_from
alike-head seen last count zero first second x y at is some same = absurd (omega (arith, some))
alike-head seen last count (suc kept) first second x y at is some same =
    let one : (get_or (drop count seen) 0 x).module_number ≡ first = ap (λ (l : List StepValue). (get_or l 0 x).module_number) at in
    let other : (get_or last 0 y).module_number ≡ second = ap (λ (l : List StepValue). (get_or l 0 y).module_number) is in
    let moved : get_or (drop count seen) 0 x ≡ get_or seen count x = get_or-drop count seen 0 x ∙ ap (λ (n : ℕ). get_or seen n x) (omega arith) in
    let equal : first ≡ second = sym one ∙ ap (λ (s : StepValue). s.module_number) moved ∙ same ∙ other in
    at ∙ ap (λ (n : ℕ). tail_from n (suc kept)) equal ∙ sym is

pub ends-same : (steps tail : List PathStep) (count kept : ℕ) (x y : PathStep) → EndsInTail kept (map step_seen steps) → IsTail (map step_seen tail) →
    length tail ≡ kept → length steps - kept ≡ count → 0 < kept → x.number ≡ y.number → x ≡ get_or steps count x → y ≡ get_or tail 0 y →
    drop count (map step_seen steps) ≡ map step_seen tail
ends-same steps tail count kept x y end alike long before some same at is =
    let seen = map step_seen steps in
    let all : length seen ≡ length steps = length-map steps step_seen in
    let told : length (map step_seen tail) ≡ kept = length-map tail step_seen ∙ long in
    let here : length seen - kept ≡ count = ap (λ (n : ℕ). n - kept) all ∙ before in
    let left : length (drop count seen) ≡ kept = omega (arith, length-drop count seen, here, end.0) in
    let last = ap (λ (n : ℕ). drop n seen) here in
    alike-head seen (map step_seen tail) count kept end.1.0 alike.0 (step_seen x) (step_seen y)
    (sym last ∙ end.1.1 ∙ ap (λ (l : List StepValue). tail_from end.1.0 (length l)) last ∙ ap (tail_from end.1.0) left)
    (alike.1 ∙ ap (tail_from alike.0) told) some
    (ap (λ (s : StepValue). s.module_number) (get_or-map step_seen steps count x (step_seen x) (omega (arith, before, all, end.0, some)))
    ∙ ap (λ (s : PathStep). s.number) (sym at) ∙ same ∙ ap (λ (s : PathStep). s.number) is
    ∙ sym (ap (λ (s : StepValue). s.module_number) (get_or-map step_seen tail 0 y (step_seen y) (omega (arith, long, some)))))
