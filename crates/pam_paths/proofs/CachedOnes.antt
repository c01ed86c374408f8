-- Classes that are kept of modules.
use Rattle.std.proofs.Common.{◌≡◌, ◌≢◌, Bool, true, false, eqb, refl, ℕ, ◌-◌, ◌<◌, ◌≤◌, List, None, Option, Some, ap, sym, ◌∙◌, subst, arith}
use Rattle.std.proofs.Common.{get_or, length, slice_set}
use Rattle.std.proofs.lemmas.List.{get_or-set_other}
use Rattle.std.proofs.lemmas.Bool.{eqb-true, eqb-false}
use Rattle.std.proofs.lemmas.Grind.{get_or-set_at}
use Rattle.std.specs.List.{list_any}
use Rattle.std.specs.Prelude.{MatchOption}
use Rattle.pam_codes.specs.Set.{codes_where}
use Rattle.pam_codes.specs.declared.action.Action.{Action}
use Rattle.pam_dispatch.specs.declared.asked.Situation.{Situation}
use Rattle.pam_dispatch.specs.declared.flat_item.FlatItem.{FlatItem}
use Rattle.pam_dispatch.specs.declared.place.Place.{Place}
use Rattle.pam_dispatch.specs.Flat.{IsPlaceOf, control_at, modules_of, rest_of}
use Rattle.pam_dispatch.specs.Representatives.{is_reset}
use Rattle.pam_dispatch.specs.Runs.{Ask, AsksRise, asked_module, next_ask, situation_of}
use Rattle.pam_dispatch.specs.Situations.{representative}
use Rattle.pam_dispatch.proofs.Asking.{number-next_ask}
use Rattle.pam_paths.specs.declared.classes.Classes.{Classes}
use Rattle.pam_paths.specs.declared.frames.Frame.{Frame}
use Rattle.pam_paths.specs.declared.class_cache.CachedClasses.{CachedClasses}
use Rattle.pam_paths.specs.Computed.{is_offered}
use Rattle.pam_paths.specs.Frames.{AreClasses, offered_at}
use Rattle.pam_paths.specs.inner.Frames.{IsFrame}
use Rattle.pam_paths.specs.Cached.{AreCached, IsCachedFor, StandsFor, has_reset}
use Rattle.pam_paths.specs.Listing.{Allowance}
use Rattle.pam_paths.proofs.Situations.{from-normal, normal, represented, same-offered, to-normal}

-- a module with one control is asked in one way in each situation
same-ask : (a b : Ask) → a.module_number ≡ b.module_number → a.control ≡ b.control → situation_of a ≡ situation_of b → a ≡ b
same-ask a b number control situation =
    ap (λ (n : ℕ). record { module_number = n; control = a.control; state = a.state; entry = a.entry; after = a.after }) number
    ∙ ap (λ (x : List Action). record { module_number = b.module_number; control = x; state = a.state; entry = a.entry; after = a.after }) control
    ∙ ap (λ (s : Situation). record { module_number = b.module_number; control = b.control; state = s.state; entry = s.entry; after = s.items_after })
    situation

some-is : (s t : Situation) → Some s ≡ Some t → s ≡ t
some-is s t e = cc

-- a kept situation serves if it is the representative of the question's situation
pub own-stands : (cached : Option Situation) (situation : Situation) (ask : Ask) → cached ≡ Some situation →
    situation ≡ representative true (situation_of ask) → StandsFor cached ask
own-stands cached situation ask is own =
    (situation, is, ap (representative (has_reset ask)) own ∙ represented (has_reset ask) (situation_of ask))

-- so does one that differs in the entry state alone, where the control has no reset
pub like-stands : (cached : Option Situation) (situation : Situation) (ask : Ask) →
    MatchOption cached ⊥ (λ last. representative false last ≡ representative false situation) →
    situation ≡ representative true (situation_of ask) → has_reset ask ≡ false → StandsFor cached ask
like-stands None situation ask like own none = absurd like
like-stands (Some last) situation ask like own none = (
  last,
  refl,
  subst (λ (b : Bool). representative b last ≡ representative b (situation_of ask)) (sym none)
      (like ∙ ap (representative false) own ∙ represented false (situation_of ask)),
)

module _ (allows : Allowance) (program : List FlatItem) (number : ℕ) where
  -- classes computed at a place are those of the module that is asked there, in each situation with the same representative
  pub cached-of : (at : Place) (kept : CachedClasses) → IsPlaceOf program at → asked_module (rest_of program at) ≡ Some number →
      ((other : Place) → IsPlaceOf program other → asked_module (rest_of program other) ≡ Some number →
      (next_ask (rest_of program other)).control ≡ control_at program number) →
      kept.situation ≡ Some (representative true (situation_of (next_ask (rest_of program at)))) →
      kept.classes.offered ≡ offered_at allows (rest_of program at) → AreClasses (next_ask (rest_of program at)) kept.classes →
      IsCachedFor allows program number kept
  unfolding IsCachedFor
  cached-of at kept there here control situation offered classes place valid asked stands =
      let here_asked = next_ask (rest_of program at) in
      let there_asked = next_ask (rest_of program place) in
      let resets = has_reset there_asked in
      let alike : resets ≡ has_reset here_asked =
      ap (list_any is_reset) (control place valid asked ∙ sym (control at there here)) in
      let last : stands.0 ≡ representative true (situation_of here_asked) = some-is _ _ (sym stands.1 ∙ situation) in
      let one : representative resets (situation_of here_asked) ≡ representative resets (situation_of there_asked) =
      sym (represented resets (situation_of here_asked)) ∙ sym (ap (representative resets) last) ∙ stands.2 in
      let same : normal resets here_asked ≡ normal resets there_asked =
      same-ask _ _ (number-next_ask (rest_of program at) number here ∙ sym (number-next_ask (rest_of program place) number asked))
      (control at there here ∙ sym (control place valid asked)) one in (
        offered ∙ sym (same-offered resets here_asked alike allows) ∙ ap (λ (a : Ask). codes_where (is_offered allows a)) same
            ∙ same-offered resets there_asked refl allows,
        from-normal resets there_asked refl kept.classes
            (subst (λ (a : Ask). AreClasses a kept.classes) same (to-normal resets here_asked alike kept.classes classes)),
      )

  -- those of one module are replaced
  pub cached-set : (modules : List CachedClasses) (kept : CachedClasses) → AreCached allows program modules → length modules ≡ 256 → 1 ≤ number → number ≤ 256 →
      IsCachedFor allows program number kept → AreCached allows program (slice_set modules (number - 1) kept)
  unfolding AreCached
  cached-set modules kept before long first last is other low high past =
      let set = slice_set modules (number - 1) kept in
      elim (eqb other number) as (λ (t : Bool). eqb other number ≡ t → IsCachedFor allows program other (get_or set (other - 1) past)) [
        | true ↦ λ e.
            let same : other ≡ number = eqb-true other number e in
            let there : get_or set (other - 1) past ≡ kept =
            get_or-set_at modules (number - 1) (other - 1) kept past (omega (arith, same)) (omega (arith, first, last, long)) in
            subst (λ (n : ℕ). IsCachedFor allows program n (get_or set (other - 1) past)) (sym same)
            (subst (λ (k : CachedClasses). IsCachedFor allows program number k) (sym there) is)
        | false ↦ λ e.
            let differ : other ≢ number = eqb-false other number e in
            let apart : other - 1 ≢ number - 1 = λ equal. differ (omega (arith, equal, low, first)) in
            subst (λ (k : CachedClasses). IsCachedFor allows program other k) (sym (get_or-set_other modules (number - 1) (other - 1) kept past apart))
            (before other low high past)
      ] refl

-- the frame of a module that is asked, with its classes
pub frame_of : (allows : Allowance) (program : List FlatItem) (low : ℕ) (frame : Frame) (place : Place) (number : ℕ) (classes : Classes) →
    frame.place ≡ place → frame.module_number ≡ number → frame.classes ≡ classes → frame.code < 31 → IsPlaceOf program place →
    asked_module (rest_of program place) ≡ Some number → AsksRise low (modules_of program) (rest_of program place) →
    classes.offered ≡ offered_at allows (rest_of program place) → AreClasses (next_ask (rest_of program place)) classes →
    IsFrame allows program low frame
frame_of allows program low frame place number classes there numbered known code valid asked rise offered are = record {
  place = subst (λ (p : Place). IsPlaceOf program p) (sym there) valid;
  asking = ap (λ (p : Place). asked_module (rest_of program p)) there ∙ asked ∙ ap (λ (n : ℕ). Some n) (sym numbered);
  rise = subst (λ (p : Place). AsksRise low (modules_of program) (rest_of program p)) (sym there) rise;
  offered = ap (λ (k : Classes). k.offered) known ∙ offered ∙ ap (λ (p : Place). offered_at allows (rest_of program p)) (sym there);
  classes = subst (λ (p : Place). AreClasses (next_ask (rest_of program p)) frame.classes) (sym there)
      (subst (λ (k : Classes). AreClasses (next_ask (rest_of program place)) k) (sym known) are);
  code = code;
}
