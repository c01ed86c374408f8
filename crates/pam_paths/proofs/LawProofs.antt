use Rattle.std.proofs.Common.{◌≡◌, ℕ, refl, sym, ◌∙◌, ap, subst, arith}
use Rattle.pam_paths.proofs.Alike.{in_class, of_class}
use Rattle.pam_paths.proofs.Listings.{path_of-step, one_listing}
use Rattle.pam_dispatch.specs.Decision.{decision_of}
use Rattle.pam_dispatch.specs.Runs.{AsksRise, Assignment, Runs, asks, ends, final_state, outcome_of, asked_by}
use Rattle.pam_paths.specs.Laws.{OneListing, OnePath}
use Rattle.pam_paths.specs.Listing.{Allowance, IsAllowed}
use Rattle.pam_paths.specs.Computed.{after_step}
use Rattle.pam_paths.specs.Paths.{Agrees, AgreesAlong, path_of, step_of}

-- an assignment agrees with its own path
pub agrees_own : (allows : Allowance) (low n : ℕ) (runs : Runs) (a : Assignment) → AsksRise low n runs → IsAllowed allows n a → Agrees a (path_of runs a)
unfolding AgreesAlong path_of AsksRise asked_by final_state
agrees_own allows low n (ends s) a h ok = tt
agrees_own allows low n (asks ask next) a h ok =
    let m = ask.module_number in
    (in_class ask (a m) (a m) (ok m (omega (arith, h.0)) h.1).0 refl, agrees_own allows m n (next (outcome_of ask (a m))) a (h.2 (outcome_of ask (a m))) ok)

-- a path with which an assignment agrees is its own
pub agrees_same : (runs : Runs) (a b : Assignment) → Agrees a (path_of runs b) → path_of runs b ≡ path_of runs a
unfolding AgreesAlong path_of asked_by final_state
agrees_same (ends s) a b h = refl
agrees_same (asks ask next) a b h =
    let m = ask.module_number in
    let e = (of_class ask (b m) (a m) h.0).1 in
    ap (after_step (step_of ask (b m))) (agrees_same (next (outcome_of ask (b m))) a b h.1)
    ∙ sym (path_of-step ask next a (b m) (sym e))

pub path_decision : (runs : Runs) (a : Assignment) → (path_of runs a).decision ≡ decision_of (final_state runs a)
unfolding path_of final_state asked_by
path_decision (ends s) a = refl
path_decision (asks ask next) a = path_decision (next (outcome_of ask (a ask.module_number))) a

pub one_listing_proof : OneListing
one_listing_proof = one_listing

pub one_path_proof : OnePath
one_path_proof allows n runs paths a rise is ok = (
  (is.members (path_of runs a)).1 (a, ok, refl),
  agrees_own allows 0 n runs a rise ok,
  (λ p i h.
      let b = (is.members p).0 i in
      b.2 ∙ agrees_same runs a b.0 (subst (λ x. Agrees a x) b.2 h)),
  path_decision runs a,
)
