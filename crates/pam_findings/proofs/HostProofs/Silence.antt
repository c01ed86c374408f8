-- A host whose findings are all notes.
use Rattle.std.proofs.Common.{◌≡◌, ℕ, ◌<◌, ◌==◌, Bool, false, true, not, List, [], ◌∷◌, ◌++◌, length, get_or, slice_get, refl, sym, ◌∙◌, ap, subst, inl, inr, arith}
use Rattle.std.proofs.Common.{Option, Some, None, IfSome, IsSome, is_some, MatchOption, Ok}
use Rattle.std.specs.Prelude.{unwrap_or}
use Rattle.std.specs.BTreeMap.{get}
use Rattle.std.specs.List.{Contains}
use Rattle.std.specs.Option.{option_map_or}
use Rattle.std.proofs.lemmas.Bool.{cases_Bool, eqb-true, eq-eqb}
use Rattle.std.proofs.lemmas.List.Elements.{All-contains}
use Rattle.std.proofs.lemmas.Map.Views.{IfSome-get}
use Rattle.pam_findings.specs.stack.Soundness.{LetsIn, SaysNobody, SaysWayIn}
use Rattle.pam_conf.specs.FileRules.{own_faults}
use Rattle.pam_conf.specs.Files.{bytes_at}
use Rattle.pam_conf.specs.Laws.{IsSound}
use Rattle.pam_conf.specs.Resolution.{resolved}
use Rattle.pam_conf.specs.Stack.{IsNumbered, Items, ModuleText, module_at}
use Rattle.pam_conf.specs.Survey.{SurveyText, faults_at}
use Rattle.pam_conf.specs.declared.conf_error.ConfError.{ConfError}
use Rattle.pam_conf.specs.declared.error.RuleFault.{RuleFault}
use Rattle.pam_conf.specs.declared.rule.Kind.{Kind}
use Rattle.pam_conf.specs.declared.rule.Kind.TheVariants.{Auth, Password}
use Rattle.pam_conf.proofs.ResolvedStacks.{resolved_stack}
use Rattle.pam_conf.proofs.StackTree.{module_at-there}
use Rattle.pam_conf.proofs.SoundSurveys.{faultless, stack_is_sound}
use Rattle.pam_codes.specs.Code.{all_codes}
use Rattle.pam_facts.specs.Answers.{is_there}
use Rattle.pam_dispatch.specs.State.{success}
use Rattle.pam_text.specs.Members.{Member}
use Rattle.pam_paths.specs.Known.{may_answer}
use Rattle.pam_paths.specs.Paths.{PathValue}
use Rattle.pam_findings.specs.host.Callers.{is_greeter}
use Rattle.pam_findings.specs.host.Faillock.{has_task}
use Rattle.pam_findings.specs.host.FileProblems.{BytesHave, FileHas}
use Rattle.pam_findings.specs.host.Host.{Host, Meets, beside_at, reads_at, service_at, survey_at}
use Rattle.pam_findings.specs.host.Laws.{IsAskedFor, IsSilent, IsSoundStack, SilentHostIsSound, SomeAsksBefore, SomeFailsBefore, SomeHasTask}
use Rattle.pam_findings.specs.host.Laws.{is_included_at}
use Rattle.pam_findings.specs.host.Levels.{level_of, level_of_argument}
use Rattle.pam_findings.specs.host.Problems.{compare_places, place_of}
use Rattle.pam_findings.specs.host.Report.{IsFound, IsReportOn}
use Rattle.pam_findings.specs.host.StackProblems.{ByVerdict, InItems, InWalk, ModuleHas, StackAt, SucceedsInVain, named_in, stack_at}
use Rattle.pam_findings.specs.host.Storing.{failures, refuses, stores}
use Rattle.pam_findings.specs.host.Tokens.{may_ask_for, only_takes, takes}
use Rattle.pam_findings.specs.host.inner.Table.{Table}
use Rattle.pam_findings.specs.host.Verdicts.{IsJudgement, IsVerdict, Judged, Judgement, LetsNobody, Refused, SaysWhoLogsIn, TooLarge, Verdict, causes_of}
use Rattle.pam_findings.specs.host.Verdicts.{way_in_of}
use Rattle.pam_findings.specs.stack.Asked.{Asks}
use Rattle.pam_findings.specs.stack.Leading.{Leads}
use Rattle.pam_explain.specs.declared.explanation.Level.TheVariants.{Note, Warning}
use Rattle.pam_findings.specs.declared.host.problem.ArgumentProblem.TheVariants.{NoToken}
use Rattle.pam_findings.specs.declared.host.problem.Place.{Place}
use Rattle.pam_findings.specs.declared.host.problem.Problem.{Problem}
use Rattle.pam_findings.specs.declared.host.problem.Problem.TheVariants as problems
use Rattle.pam_findings.specs.declared.host.problem.Spot.{Spot}
use Rattle.pam_findings.specs.declared.host.refusing.Refuser.{Refuser}
use Rattle.pam_findings.specs.declared.host.report.Finding.{Finding}
use Rattle.pam_findings.specs.declared.host.way_in.WayIn.{WayIn}
use Rattle.pam_conf.proofs.ServiceSteps.{no_faults}
use Rattle.pam_findings.proofs.HostProofs.Adding.{numbered}
use Rattle.pam_findings.proofs.HostProofs.Counted.{asked-range, counts_or_not}
use Rattle.pam_findings.proofs.HostProofs.Meeting.{to_front}
use Rattle.pam_findings.proofs.HostProofs.PlaceOrder.{exact_places, places_total}
use Rattle.pam_findings.proofs.HostProofs.Tokens.{passes_at, passing-rule}
use Rattle.pam_findings.proofs.HostProofs.Uncounted.{not-of}
use Rattle.pam_findings.proofs.StackProofs.Deciding.{asked_or_not, led_or_not}
use Rattle.pam_findings.proofs.HostProofs.Grave.{at-index, first-in, grave, missing-warns, reached-read, some-at, there-within}

module _ (host : Host) (named : List (List ℕ)) (found : Table) (ways : List (Option WayIn)) (report : IsReportOn host named found ways)
    (silent : IsSilent found) where
  -- WHAT IS FOUND IS A NOTE

  found-note : (place : Place) (finding : Finding) → get compare_places found place ≡ Some finding → level_of finding.problem ≡ Note
  found-note place finding is =
      let Is : Option Finding → Type 0 = λ o. IfSome o (λ f. Contains found.entries (place, f)) in
      let listed : Contains found.entries (place, finding) = subst Is is (IfSome-get places_total exact_places found place) in
      All-contains (λ (entry : Place × Finding). level_of entry.1.problem ≡ Note) found.entries (place, finding) silent listed

  shown-note : (spot : Spot) (service : ℕ) (kind : Kind) → Meets host report.verdicts spot service kind → (o : Option Finding) →
      get compare_places found (place_of spot) ≡ o → IsFound host report.verdicts named spot o → level_of spot.problem ≡ Note
  shown-note spot service kind meets None is h = absurd (h.0 service kind meets)
  shown-note spot service kind meets (Some finding) is (inl h) = ap level_of (sym h.problem) ∙ found-note (place_of spot) finding is
  shown-note spot service kind meets (Some finding) is (inr h) =
      ap level_of (sym (ap (λ (f : Finding). f.problem) h.1)) ∙ found-note (place_of spot) finding is

  -- and so is what a stack meets
  met-note : (spot : Spot) (service : ℕ) (kind : Kind) → Meets host report.verdicts spot service kind → level_of spot.problem ≡ Note
  met-note spot service kind meets =
      shown-note spot service kind meets (get compare_places found (place_of spot)) refl (report.findings spot)

  -- THE STACK OF A SERVICE FOR A KIND

  module _ (service : ℕ) (kind : Kind) (within : service < length host.services) where
    abbrev survey : SurveyText
    survey = survey_at host service kind

    -- the walk has no fault
    no-walk-fault : (all : List ConfError) → survey.faults ≡ all → all ≡ []
    no-walk-fault [] is = refl
    no-walk-fault (fault ∷ rest) is =
        let spot : Spot = record { file = fault.at; line = fault.line; problem = problems.Walk fault.kind } in
        let walked : InWalk survey.faults spot spot.problem = first-in fault rest survey.faults is in
        absurd (grave fault.kind (met-note spot service kind (within, inr (inl (inl walked)), λ e. absurd cc)))

    -- a file that it reaches has none
    no-line-fault : (file : ℕ) (bytes : List ℕ) → Member file survey.reached → bytes_at file host.folder.entries ≡ Some bytes →
        (all : List RuleFault) → own_faults host.folder.form bytes ≡ all → all ≡ []
    no-line-fault file bytes reached there [] is = refl
    no-line-fault file bytes reached there (fault ∷ rest) is =
        let spot : Spot = record { file = Some file; line = fault.line; problem = problems.Fault fault.kind } in
        let inside = there-within host.folder.entries file (slice_get host.folder.entries file) refl bytes there in
        let read : Member file (reads_at host service kind) =
        reached-read host.folder.form (length host.folder.entries) (survey.reached ++ (beside_at host kind).reached) file
        (to_front file survey.reached (beside_at host kind).reached reached) inside in
        let own : BytesHave host.folder host.vendor_start bytes fault.line (problems.Fault fault.kind) =
        first-in fault rest (own_faults host.folder.form bytes) is in
        let Has : Option (List ℕ) → Type 0 =
        λ o. MatchOption o ⊥ (λ b. BytesHave host.folder host.vendor_start b fault.line (problems.Fault fault.kind)) in
        let has : FileHas host.folder host.vendor_start file fault.line (problems.Fault fault.kind) = subst Has (sym there) own in
        absurd (grave fault.kind (met-note spot service kind (within, inl (file, refl, read, has), λ e. absurd cc)))

    faultless-bytes : (file : ℕ) → Member file survey.reached → (o : Option (List ℕ)) → bytes_at file host.folder.entries ≡ o →
        own_faults host.folder.form (unwrap_or o []) ≡ []
    faultless-bytes file reached None is = no_faults host.folder.form
    faultless-bytes file reached (Some bytes) is = no-line-fault file bytes reached is (own_faults host.folder.form bytes) refl

    faultless-file : (file : ℕ) → Member file survey.reached → faults_at host.folder file ≡ []
    faultless-file file reached = faultless-bytes file reached (bytes_at file host.folder.entries) refl

    sound : IsSound host.folder survey
    sound = (no-walk-fault survey.faults refl, λ k d inside. faultless-file (get_or survey.reached k d) (at-index survey.reached k d inside))

    accepted-from : (o : Option Items) → survey.items ≡ o → IsSome o → (items : Items) × (resolved host.folder (service_at host service) kind ≡ Ok items)
    accepted-from None is some = absurd cc
    accepted-from (Some items) is some = (items, (stack_is_sound host.folder (service_at host service) kind items).1 (is, sound))

    -- so there is a stack
    accepted : (items : Items) × (resolved host.folder (service_at host service) kind ≡ Ok items)
    accepted = accepted-from survey.items refl (faultless host.folder (service_at host service) kind sound.0)

    -- WHAT ITS VERDICT SAYS

    abbrev home : Option ℕ
    home = slice_get survey.reached 0

    not-large : report.verdicts service kind ≡ TooLarge → ⊥
    not-large is =
        let spot : Spot = record { file = home; line = 0; problem = problems.TooLarge service kind } in
        let note : Warning ≡ Note = met-note spot service kind (within, inr (inl (inr (inr (refl, refl, (refl, refl), is)))), λ e. absurd cc) in
        cc

    not-nobody : IsAskedFor host service kind → LetsNobody kind (report.verdicts service kind) → ⊥
    not-nobody asked h =
        let named = named_in host.folder.form service in
        let cause = (causes_of (report.verdicts service kind)).nobody in
        let spot : Spot = record { file = cause; line = 0; problem = problems.LetsNobodyIn named kind } in
        let note : Warning ≡ Note = met-note spot service kind (within, inr (inl (inr (inr (refl, refl, (refl, refl), h, asked)))), λ e. absurd cc) in
        cc

    not-anybody : kind ≡ Auth → IsAskedFor host service kind → is_greeter (service_at host service) ≡ false →
        IsSome (way_in_of (report.verdicts service kind)) → ⊥
    not-anybody auth asked other h =
        let named = named_in host.folder.form service in
        let cause = (causes_of (report.verdicts service kind)).anybody in
        let spot : Spot = record { file = cause; line = 0; problem = problems.LetsAnybodyIn named false } in
        let note : Warning ≡ Note =
        met-note spot service kind (within, inr (inl (inr (inr (refl, auth, (refl, refl), h, asked, sym other)))), λ e. absurd cc) in
        cc

    -- and so of a rule of it
    abbrev at : StackAt
    at = stack_at host.folder service (service_at host service) kind survey

    told-note : (j : Judgement) → report.verdicts service kind ≡ Judged j → (rule : ModuleText) (problem : Problem) → (problem ≡ problems.NeverAsked → ⊥) →
        ByVerdict at (Judged j) (record { file = Some rule.file; line = rule.line; problem = problem }) problem → level_of problem ≡ Note
    told-note j is rule problem other by =
        let spot : Spot = record { file = Some rule.file; line = rule.line; problem = problem } in
        let here : ByVerdict at (report.verdicts service kind) spot problem = subst (λ (v : Verdict). ByVerdict at v spot problem) (sym is) by in
        met-note spot service kind (within, inr (inl (inr (inr here))), λ e. absurd (other e))

    -- RULES WHOSE MODULES ONLY TAKE A TOKEN, of pam_faillock, or that store a password

    module _ (j : Judgement) (is : report.verdicts service kind ≡ Judged j)
        (h : IsJudgement host.folder host.modules (service_at host service) kind j) where
      all-numbered : IsNumbered j.items
      all-numbered = (resolved_stack host.folder (service_at host service) kind j.items h.stack).0

      -- what a rule has by itself is a note
      own-note : (number : ℕ) (rule : ModuleText) (problem : Problem) → module_at number j.items ≡ Some rule → (problem ≡ problems.NeverAsked → ⊥) →
          ModuleHas host.modules (service_at host service) kind rule problem → level_of problem ≡ Note
      own-note number rule problem there other has =
          let spot : Spot = record { file = Some rule.file; line = rule.line; problem = problem } in
          let name = service_at host service in
          let given : survey.items ≡ Some j.items = ((stack_is_sound host.folder name kind j.items).0 h.stack).0 in
          let here : InItems host.modules name kind (Some j.items) spot problem = (number, rule, record { is_there = there; file = refl; line = refl }, has) in
          let In : Option Items → Type 0 = λ o. InItems host.modules name kind o spot problem in
          met-note spot service kind (within, inr (inl (inr (inl (subst In (sym given) here)))), λ e. absurd (other e))

      not-never : (number : ℕ) → Asks (may_answer j.free) j.items number → Member number j.never_asked → ⊥
      not-never number asks never = ((h.never_asked.members number).0 never).never asks

      asks-before : is_included_at host service ≡ false → (number : ℕ) (rule : ModuleText) → module_at number j.items ≡ Some rule →
          only_takes kind rule ≡ true → Asks (may_answer j.free) j.items number → SomeAsksBefore kind j.free j.items number
      asks-before alone number rule there takes_one asks =
          elim (led_or_not j.free j.items all-numbered (passes_at (may_ask_for kind) j.items) all_codes (λ later. later == number)) [
            | inl led ↦
                let first = passing-rule (may_ask_for kind) (module_at led.one j.items) led.is_first in (
                  led.one,
                  first.0,
                  first.1,
                  first.2,
                  subst (Leads (may_answer j.free) j.items all_codes led.one) (eqb-true led.other number led.is_later) led.leads,
                )
            | inr none ↦
                let word = some-at (takes kind rule) rule.arguments takes_one in
                let note : Warning ≡ Note =
                told-note j is rule (problems.Argument word.0 NoToken) (λ e. absurd cc) (
                  refl,
                  alone,
                  (
                    number,
                    rule,
                    record { is_there = there; file = refl; line = refl },
                    (
                      word.1,
                      not-never number asks,
                      λ first asking is_first may leads.
                          none first number (ap (λ (o : Option ModuleText). option_map_or (may_ask_for kind) o false) is_first ∙ may)
                          (eq-eqb number number refl) leads,
                    ),
                  ),
                ) in
                absurd cc
          ]

      none-refused : kind ≡ Password → (by : Refuser) (first later : ℕ) (refusing storing : ModuleText) →
          module_at first j.items ≡ Some refusing → refuses by refusing ≡ true → module_at later j.items ≡ Some storing → stores storing ≡ true →
          Leads (may_answer j.free) j.items failures first later → ⊥
      none-refused password by first later refusing storing is_first may there stores_one leads =
          let note : Warning ≡ Note =
          told-note j is storing (problems.StoredThoughRefused by) (λ e. absurd cc)
          (password, (later, storing, record { is_there = there; file = refl; line = refl }, (stores_one, (first, refusing, is_first, may, leads)))) in
          cc

      has-other-task : kind ≡ Auth → (task : Bool) (number : ℕ) (rule : ModuleText) → module_at number j.items ≡ Some rule → has_task task rule ≡ true →
          SomeHasTask (not task) j.free j.items
      has-other-task auth task number rule there has =
          elim (asked_or_not j.free j.items all-numbered (passes_at (has_task (not task)) j.items)) [
            | inl some ↦
                let other = passing-rule (has_task (not task)) (module_at some.number j.items) some.passes in
                (some.number, other.0, other.1, other.2, some.asks)
            | inr none ↦
                let note : Warning ≡ Note =
                told-note j is rule (problems.NotCounted task) (λ e. absurd cc) (
                  auth,
                  (
                    number,
                    rule,
                    record { is_there = there; file = refl; line = refl },
                    (
                      has,
                      λ other of is_other has_other.
                          let range = numbered j.items other of all-numbered is_other in
                          (h.never_asked.members other).1 (record {
                            first = range.0;
                            last = range.1;
                            never = none other (ap (λ (o : Option ModuleText). option_map_or (has_task (not task)) o false) is_other ∙ has_other);
                          }),
                    ),
                  ),
                ) in
                absurd cc
          ]

      fails-before : kind ≡ Auth → is_included_at host service ≡ false → (number : ℕ) (rule : ModuleText) → module_at number j.items ≡ Some rule →
          has_task true rule ≡ true → Asks (may_answer j.free) j.items number → SomeFailsBefore j.free j.failing j.items number
      fails-before auth alone number rule there has asks =
          elim (led_or_not j.free j.items all-numbered (λ first. not (may_answer j.failing first success)) failures (λ later. later == number)) [
            | inl led ↦ (
              led.one,
              not-of (may_answer j.failing led.one success) led.is_first,
              subst (Leads (may_answer j.free) j.items failures led.one) (eqb-true led.other number led.is_later) led.leads,
            )
            | inr none ↦
                let note : Warning ≡ Note =
                told-note j is rule problems.NoFailureCounted (λ e. absurd cc) (
                  auth,
                  alone,
                  (
                    number,
                    rule,
                    record { is_there = there; file = refl; line = refl },
                    (
                      has,
                      not-never number asks,
                      λ first says leads. none first number (ap not says) (eq-eqb number number refl) leads,
                    ),
                  ),
                ) in
                absurd cc
          ]

    sound-judged : (j : Judgement) → report.verdicts service kind ≡ Judged j → IsJudgement host.folder host.modules (service_at host service) kind j →
        IsSoundStack host service kind
    sound-judged j is h = record {
      items = j.items;
      stack = h.stack;
      free = j.free;
      failing = j.failing;
      is_free = h.free;
      is_failing = h.failing;
      somebody = λ asked is_open. elim (cases_Bool j.nobody) [
        | inl t ↦ absurd (not-nobody asked (subst (LetsNobody kind) (sym is) (t, is_open)))
        | inr f ↦ subst (SaysNobody (may_answer j.free) j.items) f h.nobody
      ];
      nobody_else = λ auth asked other answers allowed decides.
          way-none auth asked other j.way refl h.way (record { answers = answers; allowed = allowed; decides = decides });
      counts = λ auth lets number says succeeds.
          let is_numbered : IsNumbered j.items = (resolved_stack host.folder (service_at host service) kind j.items h.stack).0 in
          let range = asked-range (may_answer j.free) j.items number is_numbered succeeds.asks in
          let module_there = module_at-there 1 number j.items is_numbered range.0 (omega (arith, range.1)) in
          elim (counts_or_not (may_answer j.free) j.items number is_numbered succeeds) [
            | inl counts ↦ counts
            | inr none ↦
                let never : Member number j.never_counts = (h.never_counts.members number).1 (record { succeeds = succeeds; never = none }) in
                absurd (not-vain auth lets number (module_at number j.items) refl module_there never says)
          ];
      arguments = λ number rule position wrong there wrong_is.
          own-note j is h number rule (problems.Argument position wrong) there (λ e. absurd cc) (inl wrong_is);
      files = λ number rule position wrong there missing.
          let note = own-note j is h number rule (problems.Argument position wrong) there (λ e. absurd cc) (inr missing) in
          let warns : level_of_argument wrong ≡ Warning = missing-warns host.modules.files kind rule wrong (slice_get rule.arguments position) missing in
          let clash : Warning ≡ Note = sym warns ∙ note in
          absurd cc;
      caller = λ number rule there daemon is_root.
          let note : Warning ≡ Note =
          own-note j is h number rule (problems.CallerIsRoot true) there (λ e. absurd cc) (is_root, sym daemon) in
          absurd cc;
      whole = λ number rule lack there lack_is.
          let note : Warning ≡ Note = own-note j is h number rule (problems.BadArguments lack) there (λ e. absurd cc) lack_is in
          absurd cc;
      tokens = asks-before j is h;
      refusals = none-refused j is h;
      tasks = has-other-task j is h;
      failures_count = fails-before j is h;
    }
      where
        somebody-in : LetsIn (may_answer j.free) j.items → j.nobody ≡ false
        somebody-in lets = elim (cases_Bool j.nobody) [
          | inl t ↦ absurd (subst (SaysNobody (may_answer j.free) j.items) t h.nobody lets)
          | inr f ↦ f
        ]

        not-vain : kind ≡ Auth → LetsIn (may_answer j.free) j.items → (number : ℕ) (o : Option ModuleText) → module_at number j.items ≡ o → IsSome o →
            Member number j.never_counts → SaysWhoLogsIn j.failing number → ⊥
        not-vain auth lets number None there some never says = absurd cc
        not-vain auth lets number (Some rule) there some never says =
            let spot : Spot = record { file = Some rule.file; line = rule.line; problem = problems.SuccessNeverCounts } in
            let vain : SucceedsInVain (Judged j) spot =
            (somebody-in lets, (number, rule, record { is_there = there; file = refl; line = refl }, (never, says))) in
            let here : SucceedsInVain (report.verdicts service kind) spot = subst (λ (v : Verdict). SucceedsInVain v spot) (sym is) vain in
            let note : Warning ≡ Note = met-note spot service kind (within, inr (inl (inr (inr (auth, here)))), λ e. absurd cc) in
            cc

        way-none : kind ≡ Auth → IsAskedFor host service kind → is_greeter (service_at host service) ≡ false → (o : Option PathValue) → j.way ≡ o →
            SaysWayIn (may_answer j.failing) j.items o → LetsIn (may_answer j.failing) j.items → ⊥
        way-none auth asked other None none says lets = says lets
        way-none auth asked other (Some path) some says lets = not-anybody auth asked other (ap (λ v. is_some (way_in_of v)) is ∙ ap is_some some)

    sound-by : (v : Verdict) → report.verdicts service kind ≡ v → IsVerdict host.folder host.modules (service_at host service) kind v →
        IsSoundStack host service kind
    sound-by Refused is h = absurd (h accepted.0 accepted.1)
    sound-by TooLarge is h = absurd (not-large is)
    sound-by (Judged j) is h = sound-judged j is h

    pub sound_stack : IsSoundStack host service kind
    sound_stack = sound-by (report.verdicts service kind) refl (report.are_verdicts service kind within)

pub silent_host : SilentHostIsSound
silent_host host named found ways report silent service kind within = sound_stack host named found ways report silent service kind within
