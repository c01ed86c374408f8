-- The steps of a walk that is followed.
use Rattle.std.proofs.Common.{◌≡◌, ℕ, ◌+◌, ◌<◌, ◌≤◌, List, [], ◌∷◌, ◌++◌, map, refl}
use Rattle.std.proofs.Common.{sym, ◌∙◌, ap, subst, arith, length, take, IfNone, IfSome, None, Some, Option, slice_index_or, zero, suc}
use Rattle.std.proofs.lemmas.List.{length-map, take_all}
use Rattle.pam_conf.specs.declared.stack.TheConstants.{MAX_MODULES}
use Rattle.pam_graph.specs.declared.direction.Direction.{Direction}
use Rattle.pam_graph.specs.declared.frames.Frame.{Frame}
use Rattle.pam_graph.specs.declared.frames.Way.{Way}
use Rattle.pam_graph.specs.declared.goal.Goal.{Goal}
use Rattle.pam_graph.specs.declared.node.Node.{Node}
use Rattle.pam_graph.specs.Frames.{ahead, along, coming, step_in, under}
use Rattle.pam_graph.specs.inner.Frames.{AreFirstSteps, AreFrames, walk_to}
use Rattle.pam_graph.specs.Order.{AreNodes, numbers_of}
use Rattle.pam_paths.specs.Paths.{PathValue, StepValue}
use Rattle.pam_paths.proofs.FrameLists.{after_steps-nil}

-- no frames
pub no-steps : (frames : List Frame) (steps : List StepValue) → frames ≡ [] → AreFirstSteps frames steps
no-steps frames steps none =
    subst (λ (x : List Frame). AreFirstSteps x steps) (sym none) (sym (nothing (length steps)))
  where
    nothing : (n : ℕ) → take n (map step_in []) ≡ []
    nothing n = take_all n [] (omega arith)

-- the steps of all frames
pub all-steps : (frames : List Frame) (steps : List StepValue) → steps ≡ map step_in frames → AreFirstSteps frames steps
all-steps frames steps is =
    subst (λ (x : List StepValue). take (length frames) x ≡ take (length x) (map step_in frames)) (sym is)
    (ap (λ (n : ℕ). take n (map step_in frames)) (sym (length-map frames step_in)))

module _ (d : Direction) (goal : Goal) (nodes : List Node) where
  -- a way on is there
  pub coming-on : (pending : Option Way) (fs : List Frame) (way : Way) → pending ≡ Some way →
      coming d goal nodes pending fs ≡ under fs (along d goal nodes way) ++ ahead d goal nodes fs
  unfolding coming
  coming-on pending fs way is = ap (λ (p : Option Way). coming d goal nodes p fs) is

  -- no wanted walk is on it
  pub coming-ahead : (pending : Option Way) (fs : List Frame) → IfSome pending (λ way. along d goal nodes way ≡ []) →
      coming d goal nodes pending fs ≡ ahead d goal nodes fs
  unfolding coming
  coming-ahead None fs none = refl
  coming-ahead (Some way) fs none = ap (λ (x : List PathValue). x ++ ahead d goal nodes fs) (ap (under fs) none ∙ after_steps-nil (map step_in fs))

-- WHAT IS FOUND

pub told-none : (r : Option Way) (one other : List PathValue) → other ≡ one → IfNone r (one ≡ []) → IfNone r (other ≡ [])
told-none None one other is h = is ∙ h
told-none (Some way) one other is h = tt

pub told-walks : (r : Option Way) (one other : List PathValue) (there : Way → List PathValue) → other ≡ one → IfSome r (λ way. one ≡ there way) →
    IfSome r (λ way. other ≡ there way)
told-walks None one other there is h = tt
told-walks (Some way) one other there is h = is ∙ h

-- MODULES' NUMBERS

numbers-most : (before : List ℕ) (nodes : List Node) (i : ℕ) → AreNodes before nodes → i < length nodes → slice_index_or (numbers_of nodes) i 0 ≤ MAX_MODULES
unfolding AreNodes
numbers-most before [] i h l = absurd (omega arith)
numbers-most before (node ∷ nodes) zero h l = h.0.last
numbers-most before (node ∷ nodes) (suc i) h l = numbers-most (before ++ node.module_number ∷ []) nodes i h.1 (omega (arith, l))

pub frames-most : (nodes : List Node) (low : ℕ) (fs : List Frame) (k : ℕ) (d : Frame) → AreNodes [] nodes → AreFrames nodes low fs → k < length fs →
    (slice_index_or fs k d).module_number ≤ MAX_MODULES
unfolding AreFrames
frames-most nodes low [] k d order h l = absurd (omega arith)
frames-most nodes low (f ∷ fs) zero d order h l =
    let most = numbers-most [] nodes f.node order h.0.node in omega (arith, most, h.0.number)
frames-most nodes low (f ∷ fs) (suc k) d order h l = frames-most nodes (low + 1) fs k d order h.1 (omega (arith, l))

-- the walk that is followed, by its steps and its decision
pub walk-told : (walk : PathValue) (fs : List Frame) (decision : ℕ) → walk.steps ≡ map step_in fs → walk.decision ≡ decision → walk_to fs decision ≡ walk
walk-told walk fs decision steps end =
    ap (λ (x : List StepValue). path x decision) (sym steps) ∙ ap (path walk.steps) (sym end)
  where
    path : List StepValue → ℕ → PathValue
    path s d = record { steps = s; decision = d }
