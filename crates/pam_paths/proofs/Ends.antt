-- How a cursor is accepted or refused, and the paths after and before it.
use Rattle.std.proofs.Common.{◌≡◌, ◌≢◌, ℕ, ◌<◌, ◌≤◌, List, All, sym, ◌∙◌, subst, Option, Some, None, Result, Ok, Err, false}
use Rattle.std.proofs.lemmas.Bool.{false≢true}
use Rattle.std.specs.Prelude.{IfSome, MatchResult, OnOk}
use Rattle.pam_conf.specs.declared.stack.TheConstants.{MAX_MODULES}
use Rattle.pam_dispatch.specs.Flat.{modules_of}
use Rattle.pam_dispatch.specs.declared.flat_item.FlatItem.{FlatItem}
use Rattle.pam_dispatch.specs.Runs.{AsksRise, Runs}
use Rattle.pam_paths.specs.declared.cursor.CursorError.{CursorError}
use Rattle.pam_paths.specs.declared.direction.Direction.{Direction}
use Rattle.pam_paths.specs.declared.direction.Direction.TheVariants.{Forward, Backward}
use Rattle.pam_paths.specs.declared.frames.Frame.{Frame}
use Rattle.pam_paths.specs.Cursor.{IsAccepted, IsRefusal, Verdict, HasVerdict, accepted, verdict_told}
use Rattle.pam_paths.specs.Computed.{listing}
use Rattle.pam_paths.specs.inner.Directions.{IsListingFrom}
use Rattle.pam_paths.specs.inner.Frames.{AreFrames, IsExploring, part}
use Rattle.pam_paths.specs.Listing.{Allowance, IsLawful, IsListingAfter, IsListingBefore}
use Rattle.pam_paths.specs.Paths.{PathValue, path_of}
use Rattle.pam_paths.specs.inner.Retrace.{verdict_of}
use Rattle.pam_paths.proofs.Listings.{listing-is, some_assignment}
use Rattle.pam_paths.proofs.PageProofs.{before-is}
use Rattle.pam_paths.proofs.Parts.{after-is, part-after, part-before}
use Rattle.pam_paths.proofs.Verdicts.{verdict-holds}

told_accepted : (n : ℕ) (runs : Runs) (k : List ℕ) → AsksRise 0 n runs → All (λ code. code < 31) k → verdict_of runs k ≡ accepted →
    HasVerdict n (path_of runs) k accepted
told_accepted n runs k rise ok e = subst (HasVerdict n (path_of runs) k) e (verdict-holds 0 n runs k rise ok)

told_by : (told : Option Verdict) (n : ℕ) (runs : Runs) (k : List ℕ) (s : Verdict) → told ≡ Some s → HasVerdict n (path_of runs) k s →
    IfSome told (HasVerdict n (path_of runs) k) × (told ≢ None)
told_by None n runs k s e h = absurd (let x : ⊥ = cc in x)
told_by (Some t) n runs k s e h = let same : s ≡ t = cc in (subst (HasVerdict n (path_of runs) k) same h, λ f. let x : ⊥ = cc in x)

told_refused : (n : ℕ) (runs : Runs) (k : List ℕ) (e : CursorError) → AsksRise 0 n runs → All (λ code. code < 31) k →
    verdict_told e ≡ Some (verdict_of runs k) → IsRefusal n (path_of runs) k e
told_refused n runs k e rise ok is = told_by (verdict_told e) n runs k (verdict_of runs k) is (verdict-holds 0 n runs k rise ok)

module _ (allows : Allowance) (n : ℕ) (runs : Runs) (k : List ℕ) (paths : List PathValue)
    (rise : AsksRise 0 n runs) (lawful : IsLawful allows n) (e : verdict_of runs k ≡ accepted) where
  listing_from : (d : Direction) → paths ≡ part d allows runs k → IsListingFrom d allows n (path_of runs) k paths
  listing_from Forward is =
      let a = some_assignment allows n lawful in
      subst (IsListingAfter allows n (path_of runs) k) (sym (is ∙ part-after allows runs k e))
      (after-is allows n (path_of runs) k (listing allows runs) (listing-is allows n runs rise a.0 a.1))
  listing_from Backward is =
      let a = some_assignment allows n lawful in
      subst (IsListingBefore allows n (path_of runs) k) (sym (is ∙ part-before allows runs k e))
      (before-is allows n (path_of runs) k (listing allows runs) (listing-is allows n runs rise a.0 a.1))

-- THE SAME, OF THE CODES OF A CURSOR

module _ (n : ℕ) (runs : Runs) (codes k : List ℕ) (same : codes ≡ k) (rise : AsksRise 0 n runs) where
  pub refused_at : (e : CursorError) → All (λ code. code < 31) codes → verdict_told e ≡ Some (verdict_of runs codes) → IsRefusal n (path_of runs) k e
  refused_at e ok is = subst (λ (x : List ℕ). IsRefusal n (path_of runs) x e) same (told_refused n runs codes e rise ok is)

  pub accepted_at : All (λ code. code < 31) codes → verdict_of runs codes ≡ accepted → HasVerdict n (path_of runs) k accepted
  accepted_at ok is = subst (λ (x : List ℕ). HasVerdict n (path_of runs) x accepted) same (told_accepted n runs codes rise ok is)

  pub from_at : (d : Direction) (allows : Allowance) (paths : List PathValue) → IsLawful allows n → verdict_of runs codes ≡ accepted →
      paths ≡ part d allows runs codes → IsListingFrom d allows n (path_of runs) k paths
  from_at d allows paths lawful is e =
      subst (λ (x : List ℕ). IsListingFrom d allows n (path_of runs) x paths) same (listing_from allows n runs codes paths rise lawful is d e)

-- THE SAME, OF A CALL THAT MAY REFUSE THE CURSOR

pub exploring_on : (r : Result (Unit {0}) CursorError) (allows : Allowance) (program : List FlatItem) (frames : List Frame) → modules_of program ≤ MAX_MODULES
    → OnOk r (AreFrames allows program 0 frames) → OnOk r (IsExploring allows program false frames)
exploring_on (Ok x) allows program frames few valid = record { few = few; valid = valid; start = λ e. absurd (false≢true e) }
exploring_on (Err e) allows program frames few valid = tt

module _ (n : ℕ) (runs : Runs) (codes k : List ℕ) (same : codes ≡ k) (rise : AsksRise 0 n runs) where
  abbrev IsJudged : Result (Unit {0}) CursorError → Type 0
  IsJudged r = MatchResult r (λ _. verdict_of runs codes ≡ accepted) (λ e. verdict_told e ≡ Some (verdict_of runs codes))

  pub verdict_on : (r : Result (Unit {0}) CursorError) → All (λ code. code < 31) codes → IsJudged r
      → MatchResult r (λ _. IsAccepted n (path_of runs) k) (IsRefusal n (path_of runs) k)
  verdict_on (Ok x) ok h = accepted_at n runs codes k same rise ok h
  verdict_on (Err e) ok h = refused_at n runs codes k same rise e ok h

  module _ (allows : Allowance) (paths : Direction → List PathValue) (lawful : IsLawful allows n) where
    abbrev Lists : Result (Unit {0}) CursorError → Type 0
    Lists r = OnOk r ((direction : Direction) → paths direction ≡ part direction allows runs codes)

    pub from_on : (r : Result (Unit {0}) CursorError) → IsJudged r → Lists r →
        (d : Direction) → OnOk r (IsListingFrom d allows n (path_of runs) k (paths d))
    from_on (Ok x) h lists d = from_at n runs codes k same rise d allows (paths d) lawful h (lists d)
    from_on (Err e) h lists d = tt
