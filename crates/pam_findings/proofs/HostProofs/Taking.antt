-- One stack after another is taken.
use Rattle.std.proofs.Common.{◌≡◌, ◌⊎◌, ◌↔◌, ℕ, ◌<◌, ◌≤◌, cond, ◌&&◌, List, length, refl, sym, ◌∙◌, ap, subst, inl, inr, Option, Some, None}
use Rattle.std.proofs.Common.{MatchOption, slice_index_or}
use Rattle.std.specs.Prelude.{◌==◌}
use Rattle.std.proofs.lemmas.Bool.{and_from, and_parts, cases_Bool, eqb-true, eq-eqb}
use Rattle.pam_conf.specs.Survey.{SurveyText}
use Rattle.pam_conf.specs.declared.rule.Kind.{Kind}
use Rattle.pam_conf.specs.declared.rule.Kind.TheVariants.{Auth, Account, Password, Session}
use Rattle.pam_text.specs.Members.{Member}
use Rattle.pam_findings.specs.host.inner.Checking.{AddsStack, reads_of}
use Rattle.pam_findings.specs.host.Host.{Host, InStackOf, Verdicts, beside_at, reads_at, service_at, survey_at}
use Rattle.pam_findings.specs.host.inner.Looked.{Asks}
use Rattle.pam_findings.specs.host.inner.Meeting.{MetSoFar}
use Rattle.pam_findings.specs.host.Met.{AreMet}
use Rattle.pam_findings.specs.host.Problems.{number_of_kind}
use Rattle.pam_findings.specs.host.Report.{IsMetFinding}
use Rattle.pam_findings.specs.host.inner.SoFar.{AsksAt, InStackAt, Shows, Taken, with_verdict}
use Rattle.pam_findings.specs.host.StackProblems.{HasWayIn, IsCutOff}
use Rattle.pam_findings.specs.host.inner.Table.{Notes, Puts, finding_at, met_of, with_stack}
use Rattle.pam_findings.specs.host.Verdicts.{IsVerdict, Verdict}
use Rattle.pam_findings.specs.declared.host.met.Met.{Met}
use Rattle.pam_findings.specs.declared.host.problem.Spot.{Spot}
use Rattle.pam_findings.specs.declared.host.report.Finding.{Finding}
use Rattle.pam_findings.specs.declared.host.stacks.Found.{Found}
use Rattle.pam_findings.specs.declared.host.way_in.WayIn.{WayIn}
use Rattle.pam_findings.proofs.HostProofs.Meeting.{alike-met, one-more-met}

-- KINDS BY NUMBER

kind_of : ℕ → Kind
kind_of n = cond (n == 0) Auth (cond (n == 1) Account (cond (n == 2) Password Session))

kind-back : (kind : Kind) → kind_of (number_of_kind kind) ≡ kind
unfolding kind_of
kind-back Auth = refl
kind-back Account = refl
kind-back Password = refl
kind-back Session = refl

same-kind : (one other : Kind) → number_of_kind one ≡ number_of_kind other → one ≡ other
same-kind one other h = sym (kind-back one) ∙ ap kind_of h ∙ kind-back other

-- VERDICTS

module _ (verdicts : Verdicts) (service : ℕ) (kind : Kind) (verdict : Verdict) where
  pub verdict-here : with_verdict verdicts service kind verdict service kind ≡ verdict
  verdict-here =
      ap (λ b. cond b verdict (verdicts service kind))
      (and_from (service == service) (number_of_kind kind == number_of_kind kind) (eq-eqb service service refl)
      (eq-eqb (number_of_kind kind) (number_of_kind kind) refl))

  pub verdict-elsewhere : (s : ℕ) (k : Kind) → ((s ≡ service) × (k ≡ kind) → ⊥) → with_verdict verdicts service kind verdict s k ≡ verdicts s k
  verdict-elsewhere s k apart = elim (cases_Bool ((s == service) && (number_of_kind k == number_of_kind kind))) [
    | inl t ↦
        let parts = and_parts (s == service) (number_of_kind k == number_of_kind kind) t in
        absurd (apart (eqb-true s service parts.0, same-kind k kind (eqb-true (number_of_kind k) (number_of_kind kind) parts.1)))
    | inr f ↦ ap (λ b. cond b verdict (verdicts s k)) f
  ]

-- FINDINGS

met-of-match : (P : ℕ → Kind → Type 0) (o : Option Met) → MatchOption o ⊥ (AreMet P) → MetSoFar P o
met-of-match P None h = absurd h
met-of-match P (Some met) h = h

pub met-of-shows : (P : ℕ → Kind → Type 0) (spot : Spot) (o : Option Finding) → Shows P spot o → MetSoFar P (met_of o)
met-of-shows P spot None h = h
met-of-shows P spot (Some finding) h = met-of-match P finding.met h.is_met

match-alike : (P Q : ℕ → Kind → Type 0) → ((s : ℕ) (k : Kind) → P s k ↔ Q s k) → (o : Option Met) → MatchOption o ⊥ (AreMet P) → MatchOption o ⊥ (AreMet Q)
match-alike P Q same None h = h
match-alike P Q same (Some met) h = alike-met P Q same (Some met) h

pub alike-finding : (P Q : ℕ → Kind → Type 0) → ((s : ℕ) (k : Kind) → P s k ↔ Q s k) → (spot : Spot) (finding : Finding) →
    IsMetFinding P spot finding → IsMetFinding Q spot finding
alike-finding P Q same spot finding h = record { problem = h.problem; is_met = match-alike P Q same finding.met h.is_met }

pub alike-shows : (P Q : ℕ → Kind → Type 0) → ((s : ℕ) (k : Kind) → P s k ↔ Q s k) → (spot : Spot) (o : Option Finding) → Shows P spot o → Shows Q spot o
alike-shows P Q same spot None none = λ s k q. none s k ((same s k).1 q)
alike-shows P Q same spot (Some finding) h = alike-finding P Q same spot finding h

-- the same stacks are taken
pub alike-taken : (host : Host) (T U : ℕ → Kind → Type 0) (found : Found) (ways : List (Option WayIn)) → ((s : ℕ) (k : Kind) → T s k ↔ U s k) →
    Taken host T found ways → Taken host U found ways
alike-taken host T U found ways same t = record {
  verdicts = t.verdicts;
  are = λ s k u. t.are s k ((same s k).1 u);
  shows = λ spot.
      alike-shows (λ s k. T s k × InStackAt host t.verdicts spot s k) (λ s k. U s k × InStackAt host t.verdicts spot s k)
      (λ s k. (λ p. ((same s k).0 p.0, p.1), λ p. ((same s k).1 p.0, p.1))) spot (finding_at found.table spot) (t.shows spot);
  reads = λ file within.
      alike-met (λ s k. T s k × Member file (reads_at host s k)) (λ s k. U s k × Member file (reads_at host s k))
      (λ s k. (λ p. ((same s k).0 p.0, p.1), λ p. ((same s k).1 p.0, p.1))) (slice_index_or found.readers.items file None) (t.reads file within);
  cuts =
      alike-met (λ s k. T s k × IsCutOff (survey_at host s k)) (λ s k. U s k × IsCutOff (survey_at host s k))
      (λ s k. (λ p. ((same s k).0 p.0, p.1), λ p. ((same s k).1 p.0, p.1))) found.cut_off t.cuts;
  asks = λ spot.
      let k = t.asks spot in
      (λ m. let a = k.0 m in (a.0, a.1, (same a.0 a.1).0 a.2, a.3), λ a. k.1 (a.0, a.1, (same a.0 a.1).1 a.2, a.3));
  placed = t.placed;
  readers = t.readers;
  ways_in = λ s u. t.ways_in s ((same s Auth).1 u);
}

-- ONE MORE STACK

module _ (host : Host) (T : ℕ → Kind → Type 0) (service : ℕ) (kind : Kind) (old new : Found) (ways : List (Option WayIn)) (way : Option WayIn)
    (upto : (s : ℕ) (k : Kind) → T s k → s ≤ service) (apart : T service kind → ⊥) (t : Taken host T old ways) (other : SurveyText)
    (is_other : other ≡ beside_at host kind) (adds : AddsStack host.folder host.modules other service (service_at host service) kind old new way)
    (way_in : kind ≡ Auth → HasWayIn adds.verdict (slice_index_or ways service None)) where
  abbrev Is : ℕ → Kind → Type 0
  Is s k = (s ≡ service) × (k ≡ kind)

  abbrev More : ℕ → Kind → Type 0
  More s k = T s k ⊎ Is s k

  abbrev now : Verdicts
  now = with_verdict t.verdicts service kind adds.verdict

  apart-from : (s : ℕ) (k : Kind) → T s k → Is s k → ⊥
  apart-from s k h e = apart (subst (λ x. T x kind) e.0 (subst (T s) e.1 h))

  as-before : (s : ℕ) (k : Kind) → T s k → now s k ≡ t.verdicts s k
  as-before s k h = verdict-elsewhere t.verdicts service kind adds.verdict s k (apart-from s k h)

  here : now service kind ≡ adds.verdict
  here = verdict-here t.verdicts service kind adds.verdict

  -- what holds of this stack holds where it is meant
  at-it : (P : ℕ → Kind → Type 0) (s : ℕ) (k : Kind) → Is s k → P service kind → P s k
  at-it P s k e h = subst (P s) (sym e.1) (subst (λ x. P x kind) (sym e.0) h)

  from-it : (P : ℕ → Kind → Type 0) (s : ℕ) (k : Kind) → Is s k → P s k → P service kind
  from-it P s k e h = subst (λ x. P x kind) e.0 (subst (P s) e.1 h)

  up : (s : ℕ) (k : Kind) (Q : ℕ → Kind → Type 0) → T s k × Q s k → s ≤ service
  up s k Q h = upto s k h.0

  -- with one more stack, of which Holds holds or not
  module _ (P Q : ℕ → Kind → Type 0) (same : (s : ℕ) (k : Kind) → T s k → P s k ↔ Q s k) where
    with-it : Q service kind → (s : ℕ) (k : Kind) → (More s k × Q s k) ↔ ((T s k × P s k) ⊎ Is s k)
    with-it q s k = (
      λ h. elim h.0 [ inl x ↦ inl (x, (same s k x).1 h.1) | inr e ↦ inr e ],
      λ w. elim w [ inl h ↦ (inl h.0, (same s k h.0).0 h.1) | inr e ↦ (inr e, at-it Q s k e q) ],
    )

    without-it : (Q service kind → ⊥) → (s : ℕ) (k : Kind) → (T s k × P s k) ↔ (More s k × Q s k)
    without-it none s k = (
      λ h. (inl h.0, (same s k h.0).0 h.1),
      λ h. elim h.0 [ inl x ↦ (x, (same s k x).1 h.1) | inr e ↦ absurd (none (from-it Q s k e h.1)) ],
    )

  in-stack : (spot : Spot) (s : ℕ) (k : Kind) → T s k → InStackAt host t.verdicts spot s k ↔ InStackAt host now spot s k
  in-stack spot s k h =
      let P : Verdict → Type 0 = λ v. InStackOf host.folder host.modules (beside_at host k) s (service_at host s) k v spot in
      (λ i. subst P (sym (as-before s k h)) i, λ i. subst P (as-before s k h) i)

  shows-more : (spot : Spot) → Shows (λ s k. More s k × InStackAt host now spot s k) spot (finding_at new.table spot)
  shows-more spot =
      let P : ℕ → Kind → Type 0 = InStackAt host t.verdicts spot in
      let Q : ℕ → Kind → Type 0 = InStackAt host now spot in
      let before : Option Finding = finding_at old.table spot in
      let V : Verdict → Type 0 = λ v. InStackOf host.folder host.modules (beside_at host kind) service (service_at host service) kind v spot in
      let O : SurveyText → Type 0 = λ o.
      Puts (InStackOf host.folder host.modules o service (service_at host service) kind adds.verdict) (with_stack service kind) old.table new.table in
      elim ((subst O is_other adds.puts).each spot) [
        | inl h ↦
            let finding : IsMetFinding (λ s k. More s k × Q s k) spot (with_stack service kind spot before) = record {
              problem = refl;
              is_met = one-more-met service kind (λ s k. T s k × P s k) (λ s k. More s k × Q s k) (λ s k p. upto s k p.0)
                  (with-it P Q (in-stack spot) (subst V (sym here) h.0)) (met_of before) (met-of-shows (λ s k. T s k × P s k) spot before (t.shows spot));
            } in
            subst (Shows (λ s k. More s k × Q s k) spot) (sym h.1) finding
        | inr h ↦
            subst (Shows (λ s k. More s k × Q s k) spot) (sym h.1)
            (alike-shows (λ s k. T s k × P s k) (λ s k. More s k × Q s k) (without-it P Q (in-stack spot) (λ q. h.0 (subst V here q))) spot before
            (t.shows spot))
      ]

  reads-more : (file : ℕ) → file < length host.folder.entries →
      MetSoFar (λ s k. More s k × Member file (reads_at host s k)) (slice_index_or new.readers.items file None)
  reads-more file within =
      let P : ℕ → Kind → Type 0 = λ s k. Member file (reads_at host s k) in
      let before : Option Met = slice_index_or old.readers.items file None in
      let same : (s : ℕ) (k : Kind) → T s k → P s k ↔ P s k = λ s k x. (λ p. p, λ p. p) in
      let reads : SurveyText → Type 0 = λ o. Notes (λ f. Member f (reads_of host.folder o (service_at host service) kind)) service kind old.readers.items
      new.readers.items in
      elim ((subst reads is_other adds.notes).each file (subst (λ n. file < n) (sym t.readers) within)) [
        | inl h ↦
            subst (MetSoFar (λ s k. More s k × P s k)) (sym h.1)
            (one-more-met service kind (λ s k. T s k × P s k) (λ s k. More s k × P s k) (λ s k p. upto s k p.0) (with-it P P same h.0) before
            (t.reads file within))
        | inr h ↦
            subst (MetSoFar (λ s k. More s k × P s k)) (sym h.1)
            (alike-met (λ s k. T s k × P s k) (λ s k. More s k × P s k) (without-it P P same h.0) before (t.reads file within))
      ]

  cuts-more : MetSoFar (λ s k. More s k × IsCutOff (survey_at host s k)) new.cut_off
  cuts-more =
      let P : ℕ → Kind → Type 0 = λ s k. IsCutOff (survey_at host s k) in
      let before : Option Met = old.cut_off in
      let same : (s : ℕ) (k : Kind) → T s k → P s k ↔ P s k = λ s k x. (λ p. p, λ p. p) in
      elim adds.cuts [
        | inl h ↦
            subst (MetSoFar (λ s k. More s k × P s k)) (sym h.1)
            (one-more-met service kind (λ s k. T s k × P s k) (λ s k. More s k × P s k) (λ s k p. upto s k p.0) (with-it P P same h.0) before t.cuts)
        | inr h ↦
            subst (MetSoFar (λ s k. More s k × P s k)) (sym h.1)
            (alike-met (λ s k. T s k × P s k) (λ s k. More s k × P s k) (without-it P P same h.0) before t.cuts)
      ]

  asks-more : (spot : Spot) → Member spot new.asked.items ↔ ((s : ℕ) × (k : Kind) × More s k × AsksAt host now spot s k)
  asks-more spot =
      let before = t.asks spot in
      let A : ℕ → Kind → Verdict → Type 0 = λ s k v. Asks (survey_at host s k).items v spot in (
        λ m. elim ((adds.asks.each spot).1 m) [
          | inl o ↦ let a = before.0 o in (a.0, a.1, inl a.2, subst (A a.0 a.1) (sym (as-before a.0 a.1 a.2)) a.3)
          | inr a ↦ (service, kind, inr (refl, refl), subst (A service kind) (sym here) a)
        ],
        λ a. (adds.asks.each spot).0 (elim a.2 [
          | inl h ↦ inl (before.1 (a.0, a.1, h, subst (A a.0 a.1) (as-before a.0 a.1 h) a.3))
          | inr e ↦ inr (subst (A service kind) here (from-it (λ s k. AsksAt host now spot s k) a.0 a.1 e a.3))
        ]),
      )

  pub take-stack : Taken host (λ s k. T s k ⊎ ((s ≡ service) × (k ≡ kind))) new ways
  take-stack = record {
    verdicts = now;
    are = λ s k m. elim m [
      | inl h ↦ subst (IsVerdict host.folder host.modules (service_at host s) k) (sym (as-before s k h)) (t.are s k h)
      | inr e ↦
          at-it (λ x y. IsVerdict host.folder host.modules (service_at host x) y (now x y)) s k e
          (subst (IsVerdict host.folder host.modules (service_at host service) kind) (sym here) adds.is_verdict)
    ];
    shows = shows-more;
    asks = asks-more;
    reads = reads-more;
    cuts = cuts-more;
    placed = adds.puts.placed t.placed;
    readers = adds.notes.count ∙ t.readers;
    ways_in = λ s m. elim m [
      | inl h ↦ subst (λ v. HasWayIn v (slice_index_or ways s None)) (sym (as-before s Auth h)) (t.ways_in s h)
      | inr e ↦
          let W : ℕ → Kind → Type 0 = λ x y. HasWayIn (now x y) (slice_index_or ways x None) in
          at-it W s Auth e (subst (λ v. HasWayIn v (slice_index_or ways service None)) (sym here) (way_in (sym e.1)))
    ];
  }
