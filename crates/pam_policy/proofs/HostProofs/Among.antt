-- Whether what a rule is about can be at one of some classes.
use Rattle.std.proofs.Common.{◌≡◌, ◌≢◌, ◌∙◌, ◌↔◌, ℕ, ◌+◌, ◌<◌, ◌≤◌, Bool, true, false, List, [], ◌∷◌, ◌++◌}
use Rattle.std.proofs.Common.{Option, Some, None, zero, suc, ap, append_assoc, arith, drop, get_or, inl, inr, length, map, refl, subst, sym}
use Rattle.std.proofs.lemmas.Bool.{and_parts, eqb-true, false≢true}
use Rattle.std.proofs.lemmas.List.{drop_all, drop_more, map-append, nil_from_length}
use Rattle.std.proofs.lemmas.List.Elements.{All-push}
use Rattle.std.specs.List.{list_all}
use Rattle.std.specs.Prelude.{◌==◌, All, IsTrue, not}
use Rattle.pam_paths.proofs.Listings.{Member-map, Member-map_back}
use Rattle.pam_text.specs.Members.{Member}
use Rattle.pam_policy.specs.declared.host.idle.Idle.{Idle}
use Rattle.pam_policy.specs.declared.host.idle.Idle.TheVariants.{CannotHappen, CannotEnd}
use Rattle.pam_policy.specs.declared.host.report.ClassReport.{ClassReport}
use Rattle.pam_policy.specs.declared.rules.verdict.Verdict.{Verdict}
use Rattle.pam_policy.specs.host.Idle.{AreKnown, CanBe, IsIdle, SaysIdle, is_about}
use Rattle.pam_policy.specs.host.Reports.{IsVerdict, SaysOfClass}
use Rattle.pam_policy.specs.host.Stacks.{KnownSite, StacksText, site_of}
use Rattle.pam_policy.specs.host.inner.Idle.{CanBeAmong, CanBeAt, holds, is_holding}
use Rattle.pam_policy.specs.text.Sentences.{SentenceText}
use Rattle.pam_policy.proofs.HostProofs.Known.{all-at}

-- AT ONE CLASS

pub some-can : (way : Idle) (known : KnownSite) (site : Option KnownSite) (sentence : SentenceText) (can : Bool) → Some known ≡ site →
    IsTrue can ↔ CanBe way known sentence → IsTrue can ↔ CanBeAt way site sentence
some-can way known site sentence can is h = subst (λ (s : Option KnownSite). IsTrue can ↔ CanBeAt way s sentence) is h

at-known : (way : Idle) (site : Option KnownSite) (sentence : SentenceText) → CanBeAt way site sentence →
    (known : KnownSite) × (site ≡ Some known) × CanBe way known sentence
at-known way None sentence can = absurd can
at-known way (Some known) sentence can = (known, refl, can)

-- AMONG CLASSES

member-at : (xs : List ℕ) (i d : ℕ) → i < length xs → Member (get_or xs i d) xs
unfolding Member
member-at [] i d within = absurd (omega (arith, within))
member-at (x ∷ xs) zero d within = inl refl
member-at (x ∷ xs) (suc i) d within = inr (member-at xs i d (omega (arith, within)))

module _ (way : Idle) (stacks : StacksText) (sentence : SentenceText) where
  pub among-here : (classes : List ℕ) (i d : ℕ) (can : Bool) → i < length classes → can ≡ true →
      IsTrue can ↔ CanBeAt way (site_of stacks (get_or classes i d)) sentence → IsTrue true ↔ CanBeAmong way stacks sentence classes
  among-here classes i d can within is h =
      (λ t. record { class = get_or classes i d; member = member-at classes i d within; can = h.0 is }, λ among. refl)

  later : (class : ℕ) (classes : List ℕ) → (CanBeAt way (site_of stacks class) sentence → ⊥) → CanBeAmong way stacks sentence (class ∷ classes) →
      CanBeAmong way stacks sentence classes
  unfolding Member
  later class classes not_here among =
      elim among.member [
        | inl e ↦ absurd (not_here (subst (λ (c : ℕ). CanBeAt way (site_of stacks c) sentence) e among.can))
        | inr i ↦ record { class = among.class; member = i; can = among.can }
      ]

  pub among-later : (classes : List ℕ) (i d : ℕ) (can : Bool) → i < length classes → can ≡ false →
      IsTrue can ↔ CanBeAt way (site_of stacks (get_or classes i d)) sentence → CanBeAmong way stacks sentence (drop i classes) →
      CanBeAmong way stacks sentence (drop (i + 1) classes)
  among-later classes i d can within is h among =
      later (get_or classes i d) (drop (i + 1) classes) (λ here. false≢true (sym is ∙ h.1 here))
      (subst (CanBeAmong way stacks sentence) (drop_more classes i d within) among)

  nowhere : CanBeAmong way stacks sentence [] → ⊥
  unfolding Member
  nowhere among = among.member

  pub among-none : (classes : List ℕ) (i : ℕ) → length classes ≤ i →
      (CanBeAmong way stacks sentence classes → CanBeAmong way stacks sentence (drop i classes)) →
      IsTrue false ↔ CanBeAmong way stacks sentence classes
  among-none classes i past left =
      (λ t. absurd (false≢true t), λ among. absurd (nowhere (subst (CanBeAmong way stacks sentence) (drop_all i classes past) (left among))))

  -- A RULE SAYS NOTHING

  among-of : (classes : List ℕ) (known : KnownSite) → Member (Some known) (map (site_of stacks) classes) → CanBe way known sentence →
      CanBeAmong way stacks sentence classes
  among-of classes known member can =
      let of = Member-map_back (site_of stacks) (Some known) classes member in
      record { class = of.0; member = of.1; can = subst (λ (s : Option KnownSite). CanBeAt way s sentence) of.2 can }

  not-among : (classes : List ℕ) → CanBeAmong way stacks sentence classes → IsIdle (map (site_of stacks) classes) sentence way → ⊥
  not-among classes among idle =
      let at = at-known way (site_of stacks among.class) sentence among.can in
      idle.nowhere at.0
      (subst (λ (s : Option KnownSite). Member s (map (site_of stacks) classes)) at.1 (Member-map (site_of stacks) among.class classes among.member))
      at.2

  pub idle-unless : (classes : List ℕ) (can : Bool) → is_about way sentence ≡ true → IsTrue can ↔ CanBeAmong way stacks sentence classes →
      IsTrue (not can) ↔ IsIdle (map (site_of stacks) classes) sentence way
  idle-unless classes true about h = (λ t. absurd (false≢true t), λ idle. absurd (not-among classes (h.0 refl) idle))
  idle-unless classes false about h =
      (λ t. record { about = about; nowhere = λ known member can. false≢true (h.1 (among-of classes known member can)) }, λ idle. refl)

-- WHERE EACH CLASS HOLDS, each is known

each-holds : {X : Type 0} (test : X → Bool) (xs : List X) → list_all test xs ≡ true → (x : X) → Member x xs → test x ≡ true
unfolding Member
each-holds test [] all x h = absurd h
each-holds test (y ∷ xs) all x (inl e) = subst (λ z. test z ≡ true) (sym e) (and_parts (test y) (list_all test xs) all).0
each-holds test (y ∷ xs) all x (inr i) = each-holds test xs (and_parts (test y) (list_all test xs) all).1 x i

not-unknown : (site : Option KnownSite) (sentence : SentenceText) (verdict : Option Verdict) → IsVerdict site sentence verdict →
    is_holding verdict ≡ true → None ≡ site → ⊥
not-unknown None sentence None says is none = false≢true is
not-unknown None sentence (Some verdict) says is none = says
not-unknown (Some known) sentence verdict says is none = absurd cc

pub are-known : (stacks : StacksText) (sentence : SentenceText) (reports : List ClassReport) (classes : List ℕ) → classes ≢ [] →
    map (λ report. report.class) reports ≡ classes → list_all holds reports ≡ true → All (SaysOfClass stacks sentence) reports →
    AreKnown (map (site_of stacks) classes)
are-known stacks sentence reports classes some is all say = record {
  some = no-classes classes some;
  each = λ member.
      let class_of : ClassReport → ℕ = λ report. report.class in
      let class = Member-map_back (site_of stacks) None classes member in
      let report = Member-map_back class_of class.0 reports (subst (Member class.0) (sym is) class.1) in
      not-unknown (site_of stacks report.0.class) sentence report.0.verdict (all-at (SaysOfClass stacks sentence) reports report.0 say report.1)
      (each-holds holds reports all report.0 report.1) (class.2 ∙ ap (site_of stacks) report.2);
}
  where
    no-classes : (those : List ℕ) → those ≢ [] → map (site_of stacks) those ≢ []
    no-classes [] none e = none refl
    no-classes (class ∷ those) none e = absurd cc

-- WHAT IS SAID

pub empty-idle : (stacks : StacksText) (sentence : SentenceText) (classes : List ℕ) → classes ≡ [] → SaysIdle (map (site_of stacks) classes) sentence None
empty-idle stacks sentence [] is known way idle = known.some refl
empty-idle stacks sentence (class ∷ classes) is known way idle = absurd cc

pub neither : (sites : List (Option KnownSite)) (sentence : SentenceText) (happen end : Bool) → happen ≡ false → end ≡ false →
    IsTrue happen ↔ IsIdle sites sentence CannotHappen → IsTrue end ↔ IsIdle sites sentence CannotEnd → SaysIdle sites sentence None
neither sites sentence happen end no_happen no_end h k known CannotHappen idle = false≢true (sym no_happen ∙ h.1 idle)
neither sites sentence happen end no_happen no_end h k known CannotEnd idle = false≢true (sym no_end ∙ k.1 idle)

-- REPORTS, one class after another

module _ (classes : List ℕ) (i d : ℕ) (old new : List ClassReport) (report : ClassReport) (step : new ≡ old ++ report ∷ []) where
  abbrev class_of : ClassReport → ℕ
  class_of of = of.class

  pub classes-pushed : i < length classes → report.class ≡ get_or classes i d → map class_of old ++ drop i classes ≡ classes →
      map class_of new ++ drop (i + 1) classes ≡ classes
  classes-pushed within is so_far =
      ap (λ (reports : List ClassReport). map class_of reports ++ drop (i + 1) classes) step
      ∙ ap (λ (those : List ℕ). those ++ drop (i + 1) classes) (map-append class_of old (report ∷ []))
      ∙ append_assoc (map class_of old) (report.class ∷ []) (drop (i + 1) classes)
      ∙ ap (λ (class : ℕ). map class_of old ++ class ∷ drop (i + 1) classes) is
      ∙ ap (λ (those : List ℕ). map class_of old ++ those) (sym (drop_more classes i d within))
      ∙ so_far

  pub verdicts-pushed : (P : ClassReport → Type 0) → All P old → P report → All P new
  verdicts-pushed P all is = subst (All P) (sym step) (All-push P old report all is)

pub is-empty : (classes : List ℕ) → (length classes == 0) ≡ true → classes ≡ []
is-empty classes is = nil_from_length classes (eqb-true (length classes) 0 is)

pub not-empty : (classes : List ℕ) → (length classes == 0) ≡ false → classes ≢ []
not-empty classes is e = false≢true (sym is ∙ ap (λ (those : List ℕ). length those == 0) e)
