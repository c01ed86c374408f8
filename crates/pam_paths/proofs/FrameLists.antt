-- Frames, and the paths that are ahead of them.
use Rattle.std.proofs.Common.{◌≡◌, ℕ, ◌+◌, ◌<◌, ◌≤◌, List, [], ◌∷◌, ◌++◌, map, refl, sym, ◌∙◌, ap, subst, arith, append_assoc, append-nil, length, reverse}
use Rattle.std.proofs.Common.{Bool, Some, false, true}
use Rattle.std.proofs.lemmas.Bool.{false≢true}
use Rattle.std.proofs.lemmas.List.{map-append, reverse-reverse}
use Rattle.pam_codes.specs.Code.{all_codes}
use Rattle.pam_dispatch.specs.declared.flat_item.FlatItem.{FlatItem}
use Rattle.pam_dispatch.specs.declared.place.Place.{Place}
use Rattle.pam_dispatch.specs.Flat.{IsPlaceOf, modules_of, rest_of, runs_of}
use Rattle.pam_dispatch.specs.Runs.{AsksRise, Runs, after_answer, asked_module, asks, ends, next_ask, outcome_of}
use Rattle.pam_paths.specs.declared.classes.Classes.{Classes}
use Rattle.pam_paths.specs.declared.direction.Direction.{Direction}
use Rattle.pam_paths.specs.declared.direction.Direction.TheVariants.{Forward, Backward}
use Rattle.pam_paths.specs.declared.frames.Frame.{Frame}
use Rattle.pam_text.specs.Members.{Member}
use Rattle.pam_paths.specs.Computed.{after_step, after_steps, listing}
use Rattle.pam_paths.specs.Directions.{ordered, past}
use Rattle.pam_paths.specs.inner.Directions.{outset}
use Rattle.pam_paths.specs.Frames.{AreClasses, ahead, ahead_of, coming, offered_at, step_in}
use Rattle.pam_paths.specs.inner.Frames.{AreFrames, IsExploring, IsFrame, under}
use Rattle.pam_paths.specs.Listing.{Allowance, IsLawful}
use Rattle.pam_paths.specs.Paths.{PathValue, StepValue, path_of}
use Rattle.pam_paths.proofs.Listings.{some_assignment, listing-has}

abbrev path : List StepValue → ℕ → PathValue
path s d = record { steps = s; decision = d }

-- PATHS AFTER STEPS

pub after_steps-append : (steps : List StepValue) (xs ys : List PathValue) → after_steps steps (xs ++ ys) ≡ after_steps steps xs ++ after_steps steps ys
unfolding after_steps
after_steps-append [] xs ys = refl
after_steps-append (step ∷ steps) xs ys =
    ap (map (after_step step)) (after_steps-append steps xs ys) ∙ map-append (after_step step) (after_steps steps xs) (after_steps steps ys)

pub after_steps-nil : (steps : List StepValue) → after_steps steps [] ≡ []
unfolding after_steps
after_steps-nil [] = refl
after_steps-nil (step ∷ steps) = ap (map (after_step step)) (after_steps-nil steps)

-- one more frame, whatever its step is made of
pub after_steps-push : {F : Type 0} (step : F → StepValue) (fs : List F) (f : F) (ps : List PathValue) →
    after_steps (map step (fs ++ f ∷ [])) ps ≡ after_steps (map step fs) (map (after_step (step f)) ps)
unfolding after_steps
after_steps-push step [] f ps = refl
after_steps-push step (g ∷ fs) f ps = ap (map (after_step (step g))) (after_steps-push step fs f ps)

-- THE FRAMES OF A PROGRAM

AreFrames-push : (allows : Allowance) (program : List FlatItem) (low : ℕ) (fs : List Frame) (f : Frame) → AreFrames allows program low fs →
    IsFrame allows program (low + length fs) f → AreFrames allows program low (fs ++ f ∷ [])
unfolding AreFrames
AreFrames-push allows program low [] f h k = (subst (λ x. IsFrame allows program x f) (omega arith) k, tt)
AreFrames-push allows program low (g ∷ fs) f h k =
    (h.0, AreFrames-push allows program (low + 1) fs f h.1 (subst (λ x. IsFrame allows program x f) (omega arith) k))

AreFrames-pop : (allows : Allowance) (program : List FlatItem) (low : ℕ) (fs : List Frame) (f : Frame) → AreFrames allows program low (fs ++ f ∷ []) →
    AreFrames allows program low fs × IsFrame allows program (low + length fs) f
unfolding AreFrames
AreFrames-pop allows program low [] f h = (tt, subst (λ x. IsFrame allows program x f) (omega arith) h.0)
AreFrames-pop allows program low (g ∷ fs) f h =
    let k = AreFrames-pop allows program (low + 1) fs f h.1 in
    ((h.0, k.0), subst (λ x. IsFrame allows program x f) (omega arith) k.1)

pub popped : (allows : Allowance) (program : List FlatItem) (items fs : List Frame) (f : Frame) → items ≡ fs ++ f ∷ [] → AreFrames allows program 0 items →
    AreFrames allows program 0 fs × IsFrame allows program (length fs) f
popped allows program items fs f e h =
    let k = AreFrames-pop allows program 0 fs f (subst (λ x. AreFrames allows program 0 x) e h) in
    (k.0, subst (λ x. IsFrame allows program x f) (omega arith) k.1)

pub pushed : (allows : Allowance) (program : List FlatItem) (fs : List Frame) (f : Frame) → AreFrames allows program 0 fs →
    IsFrame allows program (length fs) f → AreFrames allows program 0 (fs ++ f ∷ [])
pushed allows program fs f h k = AreFrames-push allows program 0 fs f h (subst (λ x. IsFrame allows program x f) (omega arith) k)

-- the modules asked after a module have greater numbers
pub rise_after : (low n m c : ℕ) (r : Runs) → AsksRise low n r → asked_module r ≡ Some m →
    (low < m) × (m ≤ n) × AsksRise m n (after_answer r c)
unfolding AsksRise
rise_after low n m c (ends s) h e = absurd (let k : ⊥ = cc in k)
rise_after low n m c (asks ask next) h e =
    let is : ask.module_number ≡ m = cc in
    subst (λ x. (low < x) × (x ≤ n) × AsksRise x n (next (outcome_of ask c))) is (h.0, h.1, h.2 (outcome_of ask c))

pub AsksRise-lower : (low high n : ℕ) (r : Runs) → low ≤ high → AsksRise high n r → AsksRise low n r
unfolding AsksRise
AsksRise-lower low high n (ends s) l h = tt
AsksRise-lower low high n (asks ask next) l h = (omega (arith, h.0), h.1, h.2)

pub frame_number : (allows : Allowance) (program : List FlatItem) (low : ℕ) (f : Frame) → IsFrame allows program low f →
    (low < f.module_number) × (f.module_number ≤ modules_of program)
frame_number allows program low f h = let k = rise_after low (modules_of program) f.module_number 0 _ h.rise h.asking in (k.0, k.1)

pub frame_room : (allows : Allowance) (program : List FlatItem) (low : ℕ) (f : Frame) → IsFrame allows program low f → low < modules_of program
frame_room allows program low f h = let k = frame_number allows program low f h in omega arith

pub frame_after : (allows : Allowance) (program : List FlatItem) (low : ℕ) (f : Frame) (c : ℕ) (p : Place) → IsFrame allows program low f →
    rest_of program p ≡ after_answer (rest_of program f.place) c → AsksRise (low + 1) (modules_of program) (rest_of program p)
frame_after allows program low f c p h e =
    let k = rise_after low (modules_of program) f.module_number c _ h.rise h.asking in
    subst (λ x. AsksRise (low + 1) (modules_of program) x) (sym e) (AsksRise-lower (low + 1) f.module_number (modules_of program) _ (omega arith) k.2)

pub AreFrames-length : (allows : Allowance) (program : List FlatItem) (low : ℕ) (fs : List Frame) → low ≤ modules_of program →
    AreFrames allows program low fs → low + length fs ≤ modules_of program
unfolding AreFrames
AreFrames-length allows program low [] l h = omega arith
AreFrames-length allows program low (f ∷ fs) l h =
    let room = frame_room allows program low f h.0 in
    let k = AreFrames-length allows program (low + 1) fs (omega arith) h.1 in omega arith

-- a frame follows another branch
pub frame_same : (allows : Allowance) (program : List FlatItem) (low : ℕ) (f g : Frame) → IsFrame allows program low f →
    g.place ≡ f.place → g.module_number ≡ f.module_number → g.classes ≡ f.classes → g.code < 31 → IsFrame allows program low g
frame_same allows program low f g is place number classes code = record {
  place = subst (λ (x : Place). IsPlaceOf program x) (sym place) is.place;
  asking = subst (λ (x : Place). asked_module (rest_of program x) ≡ Some g.module_number) (sym place) (is.asking ∙ ap Some (sym number));
  rise = subst (λ (x : Place). AsksRise low (modules_of program) (rest_of program x)) (sym place) is.rise;
  offered = ap (λ (x : Classes). x.offered) classes ∙ is.offered ∙ ap (λ (x : Place). offered_at allows (rest_of program x)) (sym place);
  classes = subst (λ (x : Place). AreClasses (next_ask (rest_of program x)) g.classes) (sym place)
      (subst (AreClasses (next_ask (rest_of program f.place))) (sym classes) is.classes);
  code = code;
}

-- THE PATHS AHEAD OF FRAMES

-- at a module the listing is all its branches
pub listing-ahead : (d : Direction) (allows : Allowance) (r : Runs) (m : ℕ) → asked_module r ≡ Some m →
    ordered d (listing allows r) ≡ ahead_of d allows r (outset d)
unfolding listing ahead_of all_codes
listing-ahead d allows (ends s) m e = absurd (let k : ⊥ = cc in k)
listing-ahead Forward allows (asks ask next) m e = refl
listing-ahead Backward allows (asks ask next) m e = refl

-- a listing has a path, if the knowledge allows each module some code
listing-some : (allows : Allowance) (low n : ℕ) (r : Runs) → AsksRise low n r → IsLawful allows n → listing allows r ≡ [] → ⊥
unfolding Member
listing-some allows low n r rise lawful e =
    let a = some_assignment allows n lawful in
    subst (λ x. Member (path_of r a.0) x) e (listing-has allows low n r a.0 rise a.1)

reverse-empty : (ps : List PathValue) → reverse ps ≡ [] → ps ≡ []
reverse-empty ps e = sym (reverse-reverse ps) ∙ ap reverse e

pub ordered-some : (d : Direction) (allows : Allowance) (low n : ℕ) (r : Runs) → AsksRise low n r → IsLawful allows n → ordered d (listing allows r) ≡ [] → ⊥
ordered-some Forward allows low n r rise lawful e = listing-some allows low n r rise lawful e
ordered-some Backward allows low n r rise lawful e = listing-some allows low n r rise lawful (reverse-empty (listing allows r) e)

module _ (d : Direction) (allows : Allowance) (program : List FlatItem) where
  abbrev from : Frame → List PathValue
  from f = ahead_of d allows (rest_of program f.place) (past d f.code)

  pub ahead-push : (fs : List Frame) (f : Frame) → ahead d allows program (fs ++ f ∷ []) ≡ under fs (from f) ++ ahead d allows program fs
  unfolding ahead after_steps
  ahead-push [] f = sym (append-nil _)
  ahead-push (g ∷ fs) f =
      let step = map (after_step (step_in g)) in
      ap (λ (x : List PathValue). map (after_step (step_in g)) x ++ from g) (ahead-push fs f)
      ∙ ap (λ (x : List PathValue). x ++ from g) (map-append (after_step (step_in g)) (under fs (from f)) (ahead d allows program fs))
      ∙ append_assoc (map (after_step (step_in g)) (under fs (from f))) (map (after_step (step_in g)) (ahead d allows program fs)) (from g)

  -- with no branch ahead of a frame, the paths are those ahead of the frames before it
  pub ahead-none : (fs : List Frame) (f : Frame) → from f ≡ [] → ahead d allows program (fs ++ f ∷ []) ≡ ahead d allows program fs
  ahead-none fs f e =
      ahead-push fs f
      ∙ ap (λ (x : List PathValue). under fs x ++ ahead d allows program fs) e
      ∙ ap (λ (x : List PathValue). x ++ ahead d allows program fs) (after_steps-nil (map step_in fs))

  -- the paths below a frame's branch, and those ahead of it
  pub ahead-enter : (fs : List Frame) (g : Frame) (below paths : List PathValue) → paths ≡ map (after_step (step_in g)) below ++ from g →
      under fs paths ++ ahead d allows program fs ≡ under (fs ++ g ∷ []) below ++ ahead d allows program (fs ++ g ∷ [])
  ahead-enter fs g below paths is =
      let here = map (after_step (step_in g)) below in
      ap (λ (x : List PathValue). under fs x ++ ahead d allows program fs) is
      ∙ ap (λ (x : List PathValue). x ++ ahead d allows program fs) (after_steps-append (map step_in fs) here (from g))
      ∙ append_assoc (under fs here) (under fs (from g)) (ahead d allows program fs)
      ∙ ap (λ (x : List PathValue). x ++ (under fs (from g) ++ ahead d allows program fs)) (sym (after_steps-push step_in fs g below))
      ∙ ap (λ (x : List PathValue). under (fs ++ g ∷ []) below ++ x) (sym (ahead-push fs g))

  pub ahead-next : (fs : List Frame) (f g : Frame) (below : List PathValue) → from f ≡ map (after_step (step_in g)) below ++ from g →
      ahead d allows program (fs ++ f ∷ []) ≡ under (fs ++ g ∷ []) below ++ ahead d allows program (fs ++ g ∷ [])
  ahead-next fs f g below branch = ahead-push fs f ∙ ahead-enter fs g below (from f) branch

  -- a frame that follows a branch, in the words of the branch
  pub branch_followed : (r : Runs) (f g : Frame) (bound c : ℕ) (class : List ℕ) (below : List PathValue) →
      r ≡ rest_of program g.place → g.module_number ≡ f.module_number → g.code ≡ c → g.class ≡ class →
      ahead_of d allows r bound ≡ map (after_step (record { module_number = f.module_number; class = class })) below ++ ahead_of d allows r (past d c) →
      ahead_of d allows r bound ≡ map (after_step (step_in g)) below ++ from g
  branch_followed r f g bound c class below here number code same h =
      h
      ∙ ap (λ (x : ℕ). map (after_step (record { module_number = x; class = class })) below ++ ahead_of d allows r (past d c)) (sym number)
      ∙ ap (λ (x : List ℕ). map (after_step (record { module_number = g.module_number; class = x })) below ++ ahead_of d allows r (past d c)) (sym same)
      ∙ ap (λ (x : ℕ). map (after_step (step_in g)) below ++ ahead_of d allows r (past d x)) (sym code)
      ∙ ap (λ (x : Runs). map (after_step (step_in g)) below ++ ahead_of d allows x (past d g.code)) here

  -- at the start the paths are all from the first place on
  pub coming-all : (at_start : Bool) (fs : List Frame) (place : Place) → at_start ≡ true → IsExploring allows program at_start fs →
      rest_of program place ≡ runs_of program →
      coming d allows program at_start fs ≡ under fs (ordered d (listing allows (rest_of program place))) ++ ahead d allows program fs
  unfolding coming after_steps ahead
  coming-all false fs place e is whole = absurd (false≢true e)
  coming-all true fs place e is whole =
      let none : fs ≡ [] = is.start refl in
      let all = ordered d (listing allows (rest_of program place)) in
      ap (λ (x : Runs). ordered d (listing allows x)) (sym whole)
      ∙ sym (append-nil all)
      ∙ ap (λ (x : List Frame). under x all ++ ahead d allows program x) (sym none)

  pub coming-ahead : (at_start : Bool) (fs : List Frame) → at_start ≡ false → coming d allows program at_start fs ≡ ahead d allows program fs
  unfolding coming
  coming-ahead false fs e = refl
  coming-ahead true fs e = absurd (false≢true (sym e))
