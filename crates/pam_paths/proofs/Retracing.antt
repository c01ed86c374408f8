-- The frames of a cursor, and the codes that are left.
use Rattle.std.proofs.Common.{◌≡◌, ◌≢◌, ℕ, drop-cons, ◌+◌, ◌<◌, ◌≤◌, ◌&&◌, Bool, true, false, List, [], ◌∷◌, ◌++◌, map, cond, suc, refl, sym, ◌∙◌, ap}
use Rattle.std.proofs.Common.{subst, arith, length, drop, get_or, append_assoc, append-nil, Some, None}
use Rattle.std.proofs.lemmas.Bool.{false≢true}
use Rattle.std.proofs.lemmas.List.{length-append}
use Rattle.pam_dispatch.specs.declared.flat_item.FlatItem.{FlatItem}
use Rattle.pam_dispatch.specs.Flat.{rest_of}
use Rattle.pam_dispatch.specs.Runs.{Runs, after_answer, asked_module, asks, ends, next_ask}
use Rattle.pam_paths.specs.declared.direction.Direction.{Direction}
use Rattle.pam_paths.specs.declared.frames.Frame.{Frame}
use Rattle.pam_paths.specs.Classes.{class_of, least}
use Rattle.pam_paths.specs.Computed.{after_step, after_steps, is_offered, listing}
use Rattle.pam_paths.specs.Cursor.{accepted, too_long, too_short, not_least}
use Rattle.pam_paths.specs.Directions.{past}
use Rattle.pam_paths.specs.Frames.{ahead, ahead_of, branches_in, step_in}
use Rattle.pam_paths.specs.inner.Frames.{AreFrames, IsFrame, part, under}
use Rattle.pam_paths.specs.Listing.{Allowance}
use Rattle.pam_paths.specs.Paths.{PathValue, StepValue, step_of}
use Rattle.pam_paths.specs.inner.Retrace.{further, verdict_of}
use Rattle.pam_paths.proofs.FrameLists.{after_steps-append, after_steps-nil, after_steps-push, ahead-push, pushed}
use Rattle.pam_paths.proofs.Verdicts.{verdict-head, verdict-other}

-- at a module, by the first code that is left
pub verdict-asked : (r q : Runs) (m c : ℕ) (k : List ℕ) → asked_module r ≡ Some m → least (class_of (next_ask r) c) ≡ c → q ≡ after_answer r c →
    verdict_of r (c ∷ k) ≡ further 1 (verdict_of q k)
verdict-asked (ends s) q m c k e head at = absurd (let x : ⊥ = cc in x)
verdict-asked (asks ask next) q m c k e head at =
    verdict-head ask next c k head ∙ ap (λ (x : Runs). further 1 (verdict_of x k)) (sym at)

pub verdict-refused : (r : Runs) (m c : ℕ) (k : List ℕ) → asked_module r ≡ Some m → least (class_of (next_ask r) c) ≢ c → verdict_of r (c ∷ k) ≡ not_least 1
verdict-refused (ends s) m c k e other = absurd (let x : ⊥ = cc in x)
verdict-refused (asks ask next) m c k e other = verdict-other ask next c k other

pub verdict-short : (r : Runs) (m : ℕ) → asked_module r ≡ Some m → verdict_of r [] ≡ too_short
unfolding verdict_of
verdict-short (ends s) m e = absurd (let x : ⊥ = cc in x)
verdict-short (asks ask next) m e = refl

pub verdict-long : (r : Runs) (c : ℕ) (k : List ℕ) → asked_module r ≡ None → verdict_of r (c ∷ k) ≡ too_long
unfolding verdict_of
verdict-long (ends s) c k e = refl
verdict-long (asks ask next) c k e = absurd (let x : ⊥ = cc in x)

pub verdict-end : (r : Runs) → asked_module r ≡ None → verdict_of r [] ≡ accepted
unfolding verdict_of
verdict-end (ends s) e = refl
verdict-end (asks ask next) e = absurd (let x : ⊥ = cc in x)

pub part-end : (d : Direction) (allows : Allowance) (r : Runs) (k : List ℕ) → asked_module r ≡ None → part d allows r k ≡ []
unfolding part
part-end d allows (ends s) k e = refl
part-end d allows (asks ask next) k e = absurd (let x : ⊥ = cc in x)

part-asked : (d : Direction) (allows : Allowance) (r q : Runs) (m c : ℕ) (k : List ℕ) → asked_module r ≡ Some m → q ≡ after_answer r c →
    part d allows r (c ∷ k)
    ≡ cond (is_offered allows (next_ask r) c) (map (after_step (step_of (next_ask r) c)) (part d allows q k)) [] ++ ahead_of d allows r (past d c)
unfolding part ahead_of
part-asked d allows (ends s) q m c k e at = absurd (let x : ⊥ = cc in x)
part-asked d allows (asks ask next) q m c k e at =
    ap (λ (x : Runs). cond (is_offered allows ask c) (map (after_step (step_of ask c)) (part d allows x k)) []
    ++ branches_in d allows ask (λ o. listing allows (next o)) (past d c)) (sym at)

under-cond : (fs : List Frame) (b : Bool) (xs : List PathValue) → under fs (cond b xs []) ≡ cond b (under fs xs) []
under-cond fs true xs = refl
under-cond fs false xs = after_steps-nil (map step_in fs)

module _ (d : Direction) (allows : Allowance) (program : List FlatItem) (fs : List Frame) (f : Frame) (r q : Runs) (m c : ℕ) (k : List ℕ)
    (asking : asked_module r ≡ Some m) (here : r ≡ rest_of program f.place) (code : f.code ≡ c)
    (step : step_in f ≡ step_of (next_ask r) c) (at : q ≡ after_answer r c) where
  -- one more frame
  part-pushed : (whole : List PathValue) → whole ≡ under fs (part d allows r (c ∷ k)) ++ ahead d allows program fs →
      whole ≡ cond (is_offered allows (next_ask r) c) (under (fs ++ f ∷ []) (part d allows q k)) [] ++ ahead d allows program (fs ++ f ∷ [])
  part-pushed whole is =
      let b = is_offered allows (next_ask r) c in
      let rest = ahead_of d allows r (past d c) in
      let inner = part d allows q k in
      is
      ∙ ap (λ (x : List PathValue). under fs x ++ ahead d allows program fs) (part-asked d allows r q m c k asking at)
      ∙ ap (λ (x : List PathValue). x ++ ahead d allows program fs)
      (after_steps-append (map step_in fs) (cond b (map (after_step (step_of (next_ask r) c)) inner) []) rest)
      ∙ append_assoc (under fs (cond b (map (after_step (step_of (next_ask r) c)) inner) [])) (under fs rest) (ahead d allows program fs)
      ∙ ap (λ (x : List PathValue). x ++ (under fs rest ++ ahead d allows program fs))
      (under-cond fs b (map (after_step (step_of (next_ask r) c)) inner)
      ∙ ap (λ (x : StepValue). cond b (under fs (map (after_step x) inner)) []) (sym step)
      ∙ ap (λ (x : List PathValue). cond b x []) (sym (after_steps-push step_in fs f inner)))
      ∙ ap (λ (x : List PathValue). cond b (under (fs ++ f ∷ []) inner) [] ++ x)
      (ap (λ (x : ℕ). under fs (ahead_of d allows r (past d x)) ++ ahead d allows program fs) (sym code)
      ∙ ap (λ (x : Runs). under fs (ahead_of d allows x (past d f.code)) ++ ahead d allows program fs) here
      ∙ sym (ahead-push d allows program fs f))

  -- a frame is kept if the classes before it have an allowed code
  pub part-kept : (offered more : Bool) (whole : List PathValue) → more ≡ is_offered allows (next_ask r) c →
      whole ≡ cond offered (under fs (part d allows r (c ∷ k))) [] ++ ahead d allows program fs →
      whole ≡ cond (offered && more) (under (cond offered (fs ++ f ∷ []) fs) (part d allows q k)) [] ++ ahead d allows program
      (cond offered (fs ++ f ∷ []) fs)
  part-kept true more whole e is =
      part-pushed whole is ∙ ap (λ (b : Bool). cond b (under (fs ++ f ∷ []) (part d allows q k)) [] ++ ahead d allows program (fs ++ f ∷ [])) (sym e)
  part-kept false more whole e is = is

pub kept-frames : (allows : Allowance) (program : List FlatItem) (fs : List Frame) (f : Frame) (offered : Bool) (n : ℕ) →
    (offered ≡ true → length fs ≡ n) → AreFrames allows program 0 fs → IsFrame allows program n f →
    AreFrames allows program 0 (cond offered (fs ++ f ∷ []) fs)
kept-frames allows program fs f true n count are is = pushed allows program fs f are (subst (λ (x : ℕ). IsFrame allows program x f) (sym (count refl)) is)
kept-frames allows program fs f false n count are is = are

pub kept-many : (fs : List Frame) (f : Frame) (offered : Bool) (n : ℕ) → length fs ≤ n → length (cond offered (fs ++ f ∷ []) fs) ≤ n + 1
kept-many fs f true n h = omega (arith, h, length-append fs (f ∷ []))
kept-many fs f false n h = omega (arith, h)

pub kept-each : (fs : List Frame) (f : Frame) (offered more : Bool) (n : ℕ) → (offered ≡ true → length fs ≡ n) → (offered && more) ≡ true →
    length (cond offered (fs ++ f ∷ []) fs) ≡ n + 1
kept-each fs f true more n h t = omega (arith, h refl, length-append fs (f ∷ []))
kept-each fs f false more n h t = absurd (false≢true t)

-- a code that is left
pub left-cons : (codes : List ℕ) (i c : ℕ) → i < length codes → c ≡ get_or codes i c → drop i codes ≡ c ∷ drop (i + 1) codes
left-cons codes i c l e =
    let next : suc i ≡ i + 1 = omega arith in
    drop-cons codes i c l ∙ ap (λ (x : ℕ). get_or codes i c ∷ drop x codes) next ∙ ap (λ (x : ℕ). x ∷ drop (i + 1) codes) (sym e)

-- at the beginning there is no frame
pub first_frames : (allows : Allowance) (program : List FlatItem) (fs : List Frame) → fs ≡ [] → AreFrames allows program 0 fs
unfolding AreFrames
first_frames allows program fs e = subst (AreFrames allows program 0) (sym e) tt

pub first_part : (d : Direction) (allows : Allowance) (program : List FlatItem) (fs : List Frame) (paths : List PathValue) → fs ≡ [] →
    paths ≡ under fs paths ++ ahead d allows program fs
unfolding after_steps ahead
first_part d allows program fs paths e = sym (append-nil paths) ∙ ap (λ (x : List Frame). under x paths ++ ahead d allows program x) (sym e)

-- at an end nothing is left below the frames
nothing : (fs : List Frame) (offered : Bool) (paths : List PathValue) → paths ≡ [] → cond offered (under fs paths) [] ≡ []
nothing fs true paths e = ap (under fs) e ∙ after_steps-nil (map step_in fs)
nothing fs false paths e = refl

pub nothing_left : (d : Direction) (allows : Allowance) (program : List FlatItem) (fs : List Frame) (r : Runs) (offered : Bool) (k : List ℕ) →
    asked_module r ≡ None →
    cond offered (under fs (part d allows r k)) [] ++ ahead d allows program fs ≡ ahead d allows program fs
nothing_left d allows program fs r offered k e =
    ap (λ (x : List PathValue). x ++ ahead d allows program fs) (nothing fs offered (part d allows r k) (part-end d allows r k e))
