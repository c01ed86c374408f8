-- The four stacks of a service are taken.
use Rattle.std.proofs.Common.{◌≡◌, ◌⊎◌, ◌↔◌, ℕ, ◌+◌, ◌<◌, ◌≤◌, List, [], ◌∷◌, ◌++◌, length, length-append, refl, sym, ◌∙◌, ap, subst, inl, inr, arith}
use Rattle.std.proofs.Common.{Option, None, slice_index_or, slice_get, drop, suc, zero, replicate}
use Rattle.std.specs.Prelude.{unwrap_or}
use Rattle.std.proofs.lemmas.Bool.{cases_eq}
use Rattle.std.proofs.lemmas.List.{get_or-replicate, get_or_append_left, get_or_push, length-replicate}
use Rattle.pam_conf.specs.Survey.{SurveyText}
use Rattle.pam_conf.specs.declared.rule.Kind.{Kind}
use Rattle.pam_conf.specs.declared.rule.Kind.TheVariants.{Auth, Account, Password, Session}
use Rattle.pam_findings.specs.host.inner.Checking.{AddsService}
use Rattle.pam_text.specs.Members.{Member}
use Rattle.pam_findings.specs.host.Host.{Host, beside_at, reads_at, service_at, survey_at}
use Rattle.pam_findings.specs.host.inner.Meeting.{MetSoFar}
use Rattle.pam_findings.specs.host.inner.SoFar.{InStackAt, Shows, SoFar, Taken}
use Rattle.pam_findings.specs.host.StackProblems.{HasWayIn, IsCutOff}
use Rattle.pam_findings.specs.host.inner.Table.{ArePlaced, finding_at}
use Rattle.pam_findings.specs.host.Verdicts.{Refused}
use Rattle.pam_findings.specs.declared.host.met.Met.{Met}
use Rattle.pam_findings.specs.declared.host.problem.Spot.{Spot}
use Rattle.pam_findings.specs.declared.host.stacks.Found.{Found}
use Rattle.pam_findings.specs.declared.host.way_in.WayIn.{WayIn}
use Rattle.pam_findings.proofs.HostProofs.Taking.{alike-taken, take-stack}

-- THE STACKS OF A SERVICE, one kind after another

abbrev Earlier : ℕ → ℕ → Kind → Type 0
Earlier service s k = s < service

abbrev And : (ℕ → Kind → Type 0) → ℕ → Kind → ℕ → Kind → Type 0
And T service kind s k = T s k ⊎ ((s ≡ service) × (k ≡ kind))

-- with those of the services before it: up to `auth`, and so on
abbrev UpToAuth : ℕ → ℕ → Kind → Type 0
UpToAuth service = And (Earlier service) service Auth

abbrev UpToAccount : ℕ → ℕ → Kind → Type 0
UpToAccount service = And (UpToAuth service) service Account

abbrev UpToPassword : ℕ → ℕ → Kind → Type 0
UpToPassword service = And (UpToAccount service) service Password

abbrev UpToSession : ℕ → ℕ → Kind → Type 0
UpToSession service = And (UpToPassword service) service Session

-- none of them is of a later service
and-upto : (T : ℕ → Kind → Type 0) (service : ℕ) (kind : Kind) → ((s : ℕ) (k : Kind) → T s k → s ≤ service) →
    (s : ℕ) (k : Kind) → And T service kind s k → s ≤ service
and-upto T service kind upto s k (inl h) = upto s k h
and-upto T service kind upto s k (inr e) = omega (arith, e.0)

-- each is taken once
and-apart : (T : ℕ → Kind → Type 0) (service : ℕ) (kind other : Kind) → (T service other → ⊥) → (other ≡ kind → ⊥) → And T service kind service other → ⊥
and-apart T service kind other none differ (inl h) = none h
and-apart T service kind other none differ (inr e) = differ e.1

all-kinds : (service s : ℕ) (k : Kind) → s ≡ service → UpToSession service s k
all-kinds service s Auth e = inl (inl (inl (inr (e, refl))))
all-kinds service s Account e = inl (inl (inr (e, refl)))
all-kinds service s Password e = inl (inr (e, refl))
all-kinds service s Session e = inr (e, refl)

taken-all : (service s : ℕ) (k : Kind) → UpToSession service s k ↔ (s < service + 1)
taken-all service s k = (
  λ h. let upto : (x : ℕ) (y : Kind) → Earlier service x y → x ≤ service = λ x y l. omega (arith, l) in
      let most = and-upto (UpToPassword service) service Session (and-upto (UpToAccount service) service Password (and-upto (UpToAuth service) service Account
      (and-upto (Earlier service) service Auth upto))) s k h in
      omega (arith, most),
  λ h. elim (cases_eq s service) [ inl e ↦ all-kinds service s k e | inr ne ↦ inl (inl (inl (inl (omega (arith, h, ne))))) ],
)

-- a later way in changes no earlier one
front-way : (ways : List (Option WayIn)) (way : Option WayIn) (s : ℕ) → s < length ways → slice_index_or (ways ++ way ∷ []) s None ≡ slice_index_or ways s None
front-way ways way s h = get_or_append_left ways (way ∷ []) None s h

last-way : (ways : List (Option WayIn)) (way : Option WayIn) (n : ℕ) → length ways ≡ n → slice_index_or (ways ++ way ∷ []) n None ≡ way
last-way ways way n h = get_or_push ways way None n h

with-way : (host : Host) (service : ℕ) (found : Found) (ways : List (Option WayIn)) (way : Option WayIn) → length ways ≡ service →
    Taken host (Earlier service) found ways → Taken host (Earlier service) found (ways ++ way ∷ [])
with-way host service found ways way count t = record {
  verdicts = t.verdicts;
  are = t.are;
  shows = t.shows;
  asks = t.asks;
  reads = t.reads;
  cuts = t.cuts;
  placed = t.placed;
  readers = t.readers;
  ways_in = λ s h. subst (HasWayIn (t.verdicts s Auth)) (sym (front-way ways way s (omega (arith, count, h)))) (t.ways_in s h);
}

pub take-service : (host : Host) (service : ℕ) (old new : Found) (ways : List (Option WayIn)) (way : Option WayIn) → SoFar host service old ways →
    (other : Kind → SurveyText) → ((kind : Kind) → other kind ≡ beside_at host kind) →
    AddsService host.folder host.modules other service (service_at host service) old new way → SoFar host (service + 1) new (ways ++ way ∷ [])
take-service host service old new ways way h other is adds =
    let all : List (Option WayIn) = ways ++ way ∷ [] in
    let up0 : (x : ℕ) (y : Kind) → Earlier service x y → x ≤ service = λ x y l. omega (arith, l) in
    let up1 = and-upto (Earlier service) service Auth up0 in
    let up2 = and-upto (UpToAuth service) service Account up1 in
    let up3 = and-upto (UpToAccount service) service Password up2 in
    let no0 : (k : Kind) → Earlier service service k → ⊥ = λ k l. omega (arith, l) in
    let first = take-stack host (Earlier service) service Auth old adds.first all way up0 (no0 Auth) (with-way host service old ways way h.count h.taken)
    (other Auth) (is Auth) adds.auth (λ e. subst (HasWayIn adds.auth.verdict) (sym (last-way ways way service h.count)) (adds.auth.way_in refl)) in
    let second = take-stack host (UpToAuth service) service Account adds.first adds.second all adds.others.0 up1
    (and-apart (Earlier service) service Auth Account (no0 Account) (λ e. cc)) first (other Account) (is Account) adds.account (λ e. absurd cc) in
    let third = take-stack host (UpToAccount service) service Password adds.second adds.third all adds.others.1 up2
    (and-apart (UpToAuth service) service Account Password (and-apart (Earlier service) service Auth Password (no0 Password) (λ e. cc)) (λ e. cc))
    second (other Password) (is Password) adds.password (λ e. absurd cc) in
    let fourth = take-stack host (UpToPassword service) service Session adds.third new all adds.others.2 up3
    (and-apart (UpToAccount service) service Password Session
    (and-apart (UpToAuth service) service Account Session (and-apart (Earlier service) service Auth Session (no0 Session) (λ e. cc)) (λ e. cc)) (λ e. cc))
    third (other Session) (is Session) adds.session (λ e. absurd cc) in
    record {
      taken = alike-taken host (UpToSession service) (λ s k. s < service + 1) new all (taken-all service) fourth;
      count = length-append ways (way ∷ []) ∙ ap (λ n. n + 1) h.count;
    }

-- THE SERVICES THAT ARE LEFT

drop-nil : (n : ℕ) → (let none : List (List ℕ) = [] in drop n none ≡ none)
drop-nil zero = refl
drop-nil (suc n) = refl

pub next-left : (services : List (List ℕ)) (n : ℕ) (name : List ℕ) (rest : List (List ℕ)) → drop n services ≡ name ∷ rest →
    (unwrap_or (slice_get services n) [] ≡ name) × (drop (n + 1) services ≡ rest) × (n < length services)
next-left [] n name rest h = let none : drop n [] ≡ [] = drop-nil n in absurd (let k : [] ≡ name ∷ rest = sym none ∙ h in cc)
next-left (x ∷ xs) zero name rest h = let same : x ≡ name = cc in let others : xs ≡ rest = cc in (same, others, omega arith)
next-left (x ∷ xs) (suc n) name rest h =
    let again = next-left xs n name rest h in
    let step : suc n + 1 ≡ suc (n + 1) = omega arith in
    (again.0, ap (λ k. drop k (x ∷ xs)) step ∙ again.1, omega (arith, again.2))

pub none-left : (services : List (List ℕ)) (n : ℕ) → drop n services ≡ [] → length services ≤ n
none-left [] n h = omega arith
none-left (x ∷ xs) zero h = absurd cc
none-left (x ∷ xs) (suc n) h = let again = none-left xs n h in omega (arith, again)

-- no service is taken at first
pub take-none : (host : Host) (found : Found) → found.readers.items ≡ replicate (length host.folder.entries) None
    → ((spot : Spot) → finding_at found.table spot ≡ None) →
    ArePlaced found.table → found.asked.items ≡ [] → found.cut_off ≡ None → SoFar host 0 found []
unfolding Member
take-none host found readers nothing_found placed nothing_asked nothing_cut = record {
  taken = record {
    verdicts = λ s k. Refused;
    are = λ s k h. absurd (omega (arith, h));
    shows = λ spot. subst (Shows (λ s k. (s < 0) × InStackAt host (λ x y. Refused) spot s k) spot) (sym (nothing_found spot))
        (λ s k h. omega (arith, h.0));
    reads = λ file within.
        subst (MetSoFar (λ s k. (s < 0) × Member file (reads_at host s k)))
        (sym (ap (λ (l : List (Option Met)). slice_index_or l file None) readers ∙ get_or-replicate (length host.folder.entries) file None None within))
        (λ s k h. omega (arith, h.0));
    cuts = subst (MetSoFar (λ s k. (s < 0) × IsCutOff (survey_at host s k))) (sym nothing_cut) (λ s k h. omega (arith, h.0));
    asks = λ spot. (λ m. absurd (subst (Member spot) nothing_asked m), λ a. absurd (omega (arith, a.2)));
    placed = placed;
    readers = ap (λ (l : List (Option Met)). length l) readers ∙ length-replicate (length host.folder.entries) None;
    ways_in = λ s h. absurd (omega (arith, h));
  };
  count = refl;
}
