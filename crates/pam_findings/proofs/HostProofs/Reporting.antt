-- From what is found of all stacks, files and the folder to the report.
use Rattle.std.proofs.Common.{◌≡◌, ◌⊎◌, ◌↔◌, ℕ, ◌<◌, true, false, All, List, length, refl, sym, ◌∙◌, ap, subst, inl, inr, Option, Some, None}
use Rattle.std.proofs.Common.{MatchOption, IfSome, slice_index_or, slice_get, get_or}
use Rattle.std.specs.BTreeMap.{IsOrdered}
use Rattle.std.specs.Option.{option_map}
use Rattle.std.proofs.lemmas.Bool.{cases_Bool, cases_lt}
use Rattle.std.proofs.lemmas.Map.Views.{All-found}
use Rattle.std.proofs.lemmas.Option.{slice_get_past}
use Rattle.pam_conf.specs.Files.{Folder, Named, bytes_at}
use Rattle.pam_conf.specs.Stack.{Items}
use Rattle.pam_conf.specs.declared.conf_error.ConfError.{ConfError}
use Rattle.pam_conf.specs.declared.rule.Kind.{Kind}
use Rattle.pam_text.specs.Members.{Member}
use Rattle.pam_findings.specs.host.FileProblems.{BytesHave, FileHas}
use Rattle.pam_findings.specs.host.FolderProblems.{is_of_folder}
use Rattle.pam_findings.specs.host.Host.{Host, IsAsked, Meets, Verdicts, beside_at, reads_at, service_at, survey_at}
use Rattle.pam_findings.specs.host.inner.CutOff.{OfCut}
use Rattle.pam_findings.specs.host.inner.Meeting.{MetSoFar}
use Rattle.pam_findings.specs.host.Met.{AreMet}
use Rattle.pam_findings.specs.host.inner.Own.{IsOwn, IsRead, met_in, read_by}
use Rattle.pam_findings.specs.host.Problems.{compare_places, place_of}
use Rattle.pam_findings.specs.host.Report.{IsFound, IsMetFinding, IsPlaced, IsReportOn}
use Rattle.pam_findings.specs.host.inner.SoFar.{InStackAt, Shows, SoFar}
use Rattle.pam_findings.specs.host.Modules.{Modules}
use Rattle.pam_findings.specs.host.StackProblems.{ByVerdict, InItems, InWalk, IsCutOff, StackAt, stack_at}
use Rattle.pam_findings.specs.host.inner.Table.{Adds, ArePlaced, Puts, Removes, Table, finding_at, with_met}
use Rattle.pam_findings.specs.host.Verdicts.{Verdict}
use Rattle.pam_findings.specs.declared.host.met.Met.{Met}
use Rattle.pam_findings.specs.declared.host.problem.Place.{Place}
use Rattle.pam_findings.specs.declared.host.problem.Problem.{Problem}
use Rattle.pam_findings.specs.declared.host.problem.Problem.TheVariants as problems
use Rattle.pam_findings.specs.declared.host.problem.Spot.{Spot}
use Rattle.pam_findings.specs.declared.host.report.Finding.{Finding}
use Rattle.pam_findings.specs.declared.host.stacks.Found.{Found}
use Rattle.pam_findings.specs.declared.host.way_in.WayIn.{WayIn}
use Rattle.pam_findings.proofs.HostProofs.CutOff.{cut-from, cut-to}
use Rattle.pam_findings.proofs.HostProofs.Meeting.{alike-met}
use Rattle.pam_findings.proofs.HostProofs.PlaceOrder.{places_total}
use Rattle.pam_findings.proofs.HostProofs.Taking.{alike-finding, alike-shows}

-- A PROBLEM OF A FILE IS NONE OF A STACK

not-in-stack : (modules : Modules) (service : ℕ) (name : List ℕ) (kind : Kind) (faults : List ConfError) (items : Option Items)
    (home : StackAt) (verdict : Verdict)
    (spot : Spot)
    (folder : Folder) (start : ℕ) (bytes : List ℕ) (problem : Problem) → BytesHave folder start bytes spot.line problem →
    InWalk faults spot problem ⊎ (InItems modules name kind items spot problem ⊎ ByVerdict home verdict spot problem) → ⊥
not-in-stack modules service name kind faults items home verdict spot folder start bytes (problems.Fault fault) h (inl w) = w
not-in-stack modules service name kind faults None home verdict spot folder start bytes (problems.Fault fault) h (inr (inl i)) = i
not-in-stack modules service name kind faults (Some items) home verdict spot folder start bytes (problems.Fault fault) h (inr (inl i)) = i.3
not-in-stack modules service name kind faults items home verdict spot folder start bytes (problems.Fault fault) h (inr (inr v)) = v
not-in-stack modules service name kind faults items home verdict spot folder start bytes (problems.Released difference) h (inl w) = w
not-in-stack modules service name kind faults None home verdict spot folder start bytes (problems.Released difference) h (inr (inl i)) = i
not-in-stack modules service name kind faults (Some items) home verdict spot folder start bytes (problems.Released difference) h (inr (inl i)) = i.3
not-in-stack modules service name kind faults items home verdict spot folder start bytes (problems.Released difference) h (inr (inr v)) = v
not-in-stack modules service name kind faults items home verdict spot folder start bytes (problems.IncludedFromVendor is_at_include) h (inl w) = w
not-in-stack modules service name kind faults None home verdict spot folder start bytes (problems.IncludedFromVendor is_at_include) h (inr (inl i)) = i
not-in-stack modules service name kind faults (Some items) home verdict spot folder start bytes (problems.IncludedFromVendor is_at_include) h
    (inr (inl i)) = i.3
not-in-stack modules service name kind faults items home verdict spot folder start bytes (problems.IncludedFromVendor is_at_include) h (inr (inr v)) = v
not-in-stack modules service name kind faults items home verdict spot folder start bytes (problems.Walk fault) h k = h
not-in-stack modules service name kind faults items home verdict spot folder start bytes (problems.LetsNobodyIn of_service of_kind) h k = h
not-in-stack modules service name kind faults items home verdict spot folder start bytes (problems.LetsAnybodyIn of_service of_greeter) h k = h
not-in-stack modules service name kind faults items home verdict spot folder start bytes problems.JumpPastEnd h k = h
not-in-stack modules service name kind faults items home verdict spot folder start bytes (problems.NoModule is_dashed) h k = h
not-in-stack modules service name kind faults items home verdict spot folder start bytes problems.NeverAsked h k = h
not-in-stack modules service name kind faults items home verdict spot folder start bytes problems.NoOther h k = h
not-in-stack modules service name kind faults items home verdict spot folder start bytes problems.UnreachableName h k = h
not-in-stack modules service name kind faults items home verdict spot folder start bytes (problems.TooLarge of_service of_kind) h k = h
not-in-stack modules service name kind faults items home verdict spot folder start bytes (problems.OtherAnswers of_service of_kind none nobody) h k = h
not-in-stack modules service name kind faults items home verdict spot folder start bytes problems.LeftOver h k = h
not-in-stack modules service name kind faults items home verdict spot folder start bytes problems.JumpIntoInclude h k = h
not-in-stack modules service name kind faults items home verdict spot folder start bytes problems.NoFunction h k = h
not-in-stack modules service name kind faults items home verdict spot folder start bytes (problems.CallerIsRoot is_daemon) h k = h
not-in-stack modules service name kind faults items home verdict spot folder start bytes problems.EmptySeparator h k = h
not-in-stack modules service name kind faults items home verdict spot folder start bytes problems.UnknownModule h k = h
not-in-stack modules service name kind faults items home verdict spot folder start bytes problems.SuccessNeverCounts h k = h
not-in-stack modules service name kind faults items home verdict spot folder start bytes problems.LinkOutside h k = h
not-in-stack modules service name kind faults items home verdict spot folder start bytes (problems.StoredThoughRefused by) h k = h
not-in-stack modules service name kind faults items home verdict spot folder start bytes problems.NoFailureCounted h k = h
not-in-stack modules service name kind faults items home verdict spot folder start bytes (problems.NotCounted counts) h k = h
not-in-stack modules service name kind faults items home verdict spot folder start bytes (problems.Argument argument wrong) h k = h
not-in-stack modules service name kind faults items home verdict spot folder start bytes (problems.BadArguments lack) h k = h

-- the bytes of a file that has a problem
has-bytes : (P : List ℕ → Type 0) (o : Option (List ℕ)) → MatchOption o ⊥ P → (bytes : List ℕ) × P bytes
has-bytes P None h = absurd h
has-bytes P (Some bytes) h = (bytes, h)

no-bytes : (P : List ℕ → Type 0) (o : Option Named) → o ≡ None → MatchOption (option_map (λ f. f.1) o) ⊥ P → ⊥
no-bytes P None e h = h
no-bytes P (Some f) e h = absurd cc

within-files : (folder : Folder) (start file line : ℕ) (problem : Problem) → FileHas folder start file line problem → file < length folder.entries
within-files folder start file line problem h = elim (cases_lt file (length folder.entries)) [
  | inl lt ↦ lt
  | inr ge ↦ absurd (no-bytes (λ bytes. BytesHave folder start bytes line problem) (slice_get folder.entries file) (slice_get_past folder.entries file ge) h)
]

-- what some stacks read is known
read-met : (P : ℕ → Kind → Type 0) (o : Option Met) (s : ℕ) (k : Kind) → MetSoFar P o → P s k → (met : Met) × (o ≡ Some met)
read-met P None s k none p = absurd (none s k p)
read-met P (Some met) s k h p = (met, refl)

module _ (host : Host) (named : List (List ℕ)) (found : Found) (ways : List (Option WayIn)) (h : SoFar host (length host.services) found ways) where
  abbrev V : Verdicts
  V = h.taken.verdicts

  abbrev Of : Spot → ℕ → Kind → Type 0
  Of spot s k = (s < length host.services) × InStackAt host V spot s k × (spot.problem ≡ problems.NeverAsked → IsAsked host V spot → ⊥)

  abbrev Reads : ℕ → ℕ → Kind → Type 0
  Reads file s k = (s < length host.services) × Member file (reads_at host s k)

  -- a problem that a file has is met by the stacks that read the file
  met-by-reading : (spot : Spot) (file : ℕ) → IsOwn host.folder host.vendor_start file spot → (s : ℕ) (k : Kind) → Reads file s k ↔ Meets host V spot s k
  met-by-reading spot file own s k = (
    λ r.
        let b = has-bytes (λ bytes. BytesHave host.folder host.vendor_start bytes spot.line spot.problem) (bytes_at file host.folder.entries) own.1 in
        (r.0, inl (file, own.0, r.1, own.1), λ e a. subst (BytesHave host.folder host.vendor_start b.0 spot.line) e b.1),
    λ m. elim m.1 [
      | inl i ↦
          let equal : Some i.0 ≡ Some file = sym i.1 ∙ own.0 in
          let same : i.0 ≡ file = cc in
          (m.0, subst (λ f. Member f (reads_at host s k)) same i.2)
      | inr stack ↦
          let b = has-bytes (λ bytes. BytesHave host.folder host.vendor_start bytes spot.line spot.problem) (bytes_at file host.folder.entries) own.1 in
          absurd (elim stack [
            | inl own ↦
                not-in-stack host.modules s (service_at host s) k (survey_at host s k).faults (survey_at host s k).items
                (stack_at host.folder s (service_at host s) k (survey_at host s k)) (V s k) spot
                host.folder host.vendor_start b.0 spot.problem b.1 own
            | inr beside ↦ elim beside [
              | inl other ↦ subst (BytesHave host.folder host.vendor_start b.0 spot.line) other.problem b.1
              | inr rest ↦ elim rest [
                | inl jump ↦ subst (BytesHave host.folder host.vendor_start b.0 spot.line) jump.problem b.1
                | inr walk ↦
                    not-in-stack host.modules s (service_at host s) k (beside_at host k).faults (survey_at host s k).items
                    (stack_at host.folder s (service_at host s) k (survey_at host s k)) (V s k) spot
                    host.folder host.vendor_start b.0 spot.problem b.1 (inl walk)
              ]
            ]
          ])
    ],
  )

  -- where no file that is read has it, it is met by the stacks that have it themselves
  unread : (spot : Spot) → (IsRead host.folder host.vendor_start found.readers.items (length found.readers.items) spot → ⊥) → (s : ℕ) (k : Kind) →
      Meets host V spot s k
      → Of spot s k
  unread spot none s k m = elim m.1 [
    | inl i ↦
        let within = within-files host.folder host.vendor_start i.0 spot.line spot.problem i.3 in
        let met = read-met (Reads i.0) (slice_index_or found.readers.items i.0 None) s k (h.taken.reads i.0 within) (m.0, i.2) in
        absurd (none record {
          position = i.0;
          within = subst (λ n. i.0 < n) (sym h.taken.readers) within;
          met = met.0;
          reads = met.1;
          own = (i.1, i.3);
        })
    | inr stack ↦ (m.0, stack, m.2)
  ]

  met-by-stacks : (spot : Spot) → (IsRead host.folder host.vendor_start found.readers.items (length found.readers.items) spot → ⊥) → (s : ℕ) (k : Kind) →
      Of spot s k ↔ Meets host V spot s k
  met-by-stacks spot none s k = (λ o. (o.0, inr o.1, o.2), unread spot none s k)

  found-read : (spot : Spot) (r : IsRead host.folder host.vendor_start found.readers.items (length found.readers.items) spot) →
      IsMetFinding (Meets host V spot) spot (let f : Finding = record { problem = spot.problem; met = met_in found.readers.items spot.file } in f)
  found-read spot r =
      let within = subst (λ n. r.position < n) h.taken.readers r.within in
      let met : AreMet (Reads r.position) r.met = subst (MetSoFar (Reads r.position)) r.reads (h.taken.reads r.position within) in
      let is : met_in found.readers.items spot.file ≡ Some r.met = ap (met_in found.readers.items) r.own.0 ∙ r.reads in
      record {
        problem = refl;
        is_met = subst (λ (o : Option Met). MatchOption o ⊥ (AreMet (Meets host V spot))) (sym is)
            (alike-met (Reads r.position) (Meets host V spot) (met-by-reading spot r.position r.own) (Some r.met) met);
      }

  found-unread : (spot : Spot) (o : Option Finding) → (IsRead host.folder host.vendor_start found.readers.items (length found.readers.items) spot → ⊥) →
      (is_of_folder host.folder named spot ≡ false) → Shows (Of spot) spot o → IsFound host V named spot o
  found-unread spot None none not_folder shows = ((λ s k m. shows s k (unread spot none s k m)), not_folder)
  found-unread spot (Some finding) none not_folder shows =
      inl (alike-finding (Of spot) (Meets host V spot) (met-by-stacks spot none) spot finding shows)

  not-folder : (spot : Spot) → (is_of_folder host.folder named spot ≡ true → ⊥) → is_of_folder host.folder named spot ≡ false
  not-folder spot none = elim (cases_Bool (is_of_folder host.folder named spot)) [ inl y ↦ absurd (none y) | inr n ↦ n ]

  module _ (left middle new : Table) (asked : List Spot) (added : Adds (OfCut host.folder found.cut_off) found.asked.items asked)
      (removed : Removes (λ spot. Member spot asked) found.table left)
      (files : Puts (IsRead host.folder host.vendor_start found.readers.items (length found.readers.items)) (read_by found.readers.items) left middle)
      (folder : Puts (λ spot. is_of_folder host.folder named spot ≡ true) (with_met None) middle new) where
    abbrev IsCut : ℕ → Kind → Type 0
    IsCut s k = (s < length host.services) × IsCutOff (survey_at host s k)

    -- what is removed is what some stack may ask
    is-asked : (spot : Spot) → Member spot asked → (spot.problem ≡ problems.NeverAsked) × IsAsked host V spot
    is-asked spot m = elim ((added.each spot).1 m) [
      | inl i ↦
          let a = (h.taken.asks spot).0 i in
          (a.3.problem_is, record { service = a.0; within = a.2; kind = a.1; may_ask = inl a.3.may_ask })
      | inr c ↦
          let k = cut-from host.folder IsCut found.cut_off h.taken.cuts spot c in
          (k.4, record { service = k.0; within = k.2.0; kind = k.1; may_ask = inr (k.2.1, k.3) })
    ]

    asked-is : (spot : Spot) → spot.problem ≡ problems.NeverAsked → IsAsked host V spot → Member spot asked
    asked-is spot e a = elim a.may_ask [
      | inl i ↦ (added.each spot).0 (inl ((h.taken.asks spot).1 (a.service, a.kind, a.within, record { problem_is = e; may_ask = i })))
      | inr c ↦ (added.each spot).0 (inr (cut-to host.folder IsCut found.cut_off h.taken.cuts spot a.service a.kind (a.within, c.0) c.1 e))
    ]

    -- S3 is left where no stack may ask the module
    shows-left : (spot : Spot) → Shows (Of spot) spot (finding_at left spot)
    shows-left spot =
        elim (removed.each spot) [
          | inl m ↦
              let a = is-asked spot m.0 in
              subst (Shows (Of spot) spot) (sym m.1) (λ s k o. o.2 a.0 a.1)
          | inr n ↦
              subst (Shows (Of spot) spot) (sym n.1)
              (alike-shows (λ s k. (s < length host.services) × InStackAt host V spot s k) (Of spot)
              (λ s k. (λ p. (p.0, p.1, λ e a. n.0 (asked-is spot e a)), λ o. (o.0, o.1)))
              spot (finding_at found.table spot) (h.taken.shows spot))
        ]

    found-at : (spot : Spot) → IsFound host V named spot (finding_at new spot)
    found-at spot = elim (folder.each spot) [
      | inl y ↦ subst (IsFound host V named spot) (sym y.1) (inr (y.0, refl))
      | inr n ↦
          let not_folder = not-folder spot n.0 in
          elim (files.each spot) [
            | inl r ↦ subst (IsFound host V named spot) (sym (n.1 ∙ r.1)) (inl (found-read spot r.0))
            | inr u ↦
                subst (IsFound host V named spot) (sym (n.1 ∙ u.1)) (found-unread spot (finding_at left spot) u.0 not_folder (shows-left spot))
          ]
    ]

    placed-at : IsOrdered compare_places new → All IsPlaced new.entries
    placed-at ordered = λ k d within.
        let entry : Place × Finding = get_or new.entries k d in
        let placed : ArePlaced new = folder.placed (files.placed (removed.placed h.taken.placed)) in
        let there = All-found places_total new ordered k d within in
        let P : Option Finding → Type 0 = λ o. IfSome o (λ f. entry.0 ≡ place_of record { file = entry.0.file; line = entry.0.line; problem = f.problem }) in
        subst P there (placed entry.0)

    pub report-from : IsOrdered compare_places new → IsReportOn host named new ways
    report-from ordered = record {
      verdicts = h.taken.verdicts;
      are_verdicts = h.taken.are;
      ordered = ordered;
      placed = placed-at ordered;
      findings = found-at;
      ways_in = record { count = h.count; each = h.taken.ways_in };
    }
