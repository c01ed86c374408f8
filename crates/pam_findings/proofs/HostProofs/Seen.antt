-- What is seen of a stack.
use Rattle.std.proofs.Common.{◌≡◌, ◌⊎◌, ◌↔◌, ℕ, ◌++◌, Bool, false, List, [], length, refl, sym, ◌∙◌, ap, subst, inl, inr}
use Rattle.std.proofs.Common.{Option, Some, None, Ok, slice_get}
use Rattle.std.proofs.lemmas.Bool.{false≢true}
use Rattle.pam_conf.specs.Files.{Folder}
use Rattle.pam_conf.specs.Laws.{IsSound, StackIsSoundSurvey}
use Rattle.pam_conf.specs.Resolution.{resolved}
use Rattle.pam_conf.specs.Stack.{Items}
use Rattle.pam_conf.specs.Targets.{is_target}
use Rattle.pam_conf.specs.Survey.{SurveyText, surveyed}
use Rattle.pam_conf.specs.declared.rule.Kind.{Kind}
use Rattle.pam_conf.specs.declared.rule.Form.{Form}
use Rattle.pam_text.specs.Members.{Member}
use Rattle.pam_findings.specs.host.inner.Checking.{AddsStack}
use Rattle.pam_findings.specs.host.FileProblems.{files_read}
use Rattle.pam_findings.specs.host.Host.{InStackOf}
use Rattle.pam_findings.specs.host.Inside.{HasJumpInside}
use Rattle.pam_findings.specs.host.Callers.{is_greeter}
use Rattle.pam_findings.specs.host.OtherAnswers.{HasOtherAnswer, is_only_included}
use Rattle.pam_findings.specs.host.inner.Looked.{Asks, Judges, Looks, OfModules}
use Rattle.pam_findings.specs.host.inner.Meeting.{Changes, also_met}
use Rattle.pam_findings.specs.host.Modules.{Modules}
use Rattle.pam_findings.specs.host.StackProblems.{ByVerdict, InItems, InStack, InWalk, IsCutOff, StackAt, named_in, stack_at}
use Rattle.pam_findings.specs.host.inner.Table.{Adds, Notes, Puts, Table, with_stack}
use Rattle.pam_findings.specs.host.Verdicts.{IsVerdict, Refused, Verdict, never_asked_in}
use Rattle.pam_findings.specs.declared.host.judging.Stacked.{Stacked}
use Rattle.pam_findings.specs.declared.host.judging.Told.{Told}
use Rattle.pam_findings.specs.declared.host.problem.Problem.{Problem}
use Rattle.pam_findings.specs.declared.host.problem.Problem.TheVariants as problems
use Rattle.pam_findings.specs.declared.host.problem.Spot.{Spot}
use Rattle.pam_findings.specs.declared.host.stacks.Found.{Found}
use Rattle.pam_findings.proofs.HostProofs.Adding.{adds-both, adds-iff, adds-none}
use Rattle.pam_findings.proofs.HostProofs.Passes.{puts-both, puts-iff, settles-stack}

-- WHICH STACK

same-stack : (service : ℕ) (kind : Kind) (named named' home home' : Option ℕ) (included included' target target' greeter greeter' : Bool) → named ≡ named' →
    home ≡ home' → included ≡ included' → target ≡ target' → greeter ≡ greeter' →
    (let one : StackAt =
    record { service = service; kind = kind; named = named; home = home; is_only_included = included; is_included = target; is_greeter = greeter } in
    let other : StackAt =
    record { service = service; kind = kind; named = named'; home = home'; is_only_included = included'; is_included = target'; is_greeter = greeter' } in
    one ≡ other)
same-stack service kind named named' home home' included included' target target' greeter greeter' n h i t g = cc

-- NOTHING BY A VERDICT THAT REFUSES

pub none-by-refused : (at : StackAt) (spot : Spot) (problem : Problem) → ByVerdict at Refused spot problem → ⊥
none-by-refused at spot (problems.LetsNobodyIn of_service of_kind) h = h.3
none-by-refused at spot (problems.LetsAnybodyIn of_service of_greeter) h = false≢true h.3
none-by-refused at spot (problems.TooLarge of_service of_kind) h = absurd cc
none-by-refused at spot (problems.OtherAnswers of_service of_kind has_no_rule lets_nobody_in) h = h
none-by-refused at spot problems.JumpPastEnd h = h
none-by-refused at spot (problems.Fault fault) h = h
none-by-refused at spot (problems.Walk fault) h = h
none-by-refused at spot (problems.Released difference) h = h
none-by-refused at spot (problems.IncludedFromVendor is_at_include) h = h
none-by-refused at spot problems.NeverAsked h = h
none-by-refused at spot (problems.NoModule is_dashed) h = h
none-by-refused at spot problems.NoOther h = h
none-by-refused at spot problems.UnreachableName h = h
none-by-refused at spot problems.LeftOver h = h
none-by-refused at spot problems.JumpIntoInclude h = h
none-by-refused at spot problems.NoFunction h = h
none-by-refused at spot (problems.CallerIsRoot is_daemon) h = h
none-by-refused at spot (problems.Argument argument wrong) h = h.2
none-by-refused at spot (problems.BadArguments lack) h = h
none-by-refused at spot problems.EmptySeparator h = h
none-by-refused at spot problems.UnknownModule h = h
none-by-refused at spot problems.LinkOutside h = h
none-by-refused at spot problems.SuccessNeverCounts h = h.1
none-by-refused at spot (problems.StoredThoughRefused by) h = h.1
none-by-refused at spot problems.NoFailureCounted h = h.2
none-by-refused at spot (problems.NotCounted counts) h = h.1

-- WHAT A STACK MAY ASK

pub asks-of : (items : Items) (verdict : Verdict) (old new : List Spot) →
    Adds (OfModules problems.NeverAsked items (λ number. Member number (never_asked_in verdict) → ⊥)) old new → Adds (Asks (Some items) verdict) old new
asks-of items verdict old new h =
    adds-iff (OfModules problems.NeverAsked items (λ number. Member number (never_asked_in verdict) → ⊥)) (Asks (Some items) verdict) old new
    (λ spot. (
      λ m. record { problem_is = m.of.problem_is; may_ask = (m.number, m.of.rule, m.of.at, m.one) },
      λ a. record { number = a.may_ask.0; one = a.may_ask.3; of = record { problem_is = a.problem_is; rule = a.may_ask.1; at = a.may_ask.2 } },
    ))
    h

-- WHAT IS SEEN

module _ (folder : Folder) (modules : Modules) (name : List ℕ) (service : ℕ) (kind : Kind) (survey : SurveyText)
    (is : survey ≡ surveyed folder name kind) (law : StackIsSoundSurvey) where
  pub stack-of : (items : Items) → survey.items ≡ Some items → IsSound folder survey → resolved folder name kind ≡ Ok items
  stack-of items there sound =
      (law folder name kind items).1 (ap (λ (s : SurveyText). s.items) (sym is) ∙ there, subst (IsSound folder) is sound)

  sound-of : (items : Items) → resolved folder name kind ≡ Ok items → (survey.items ≡ Some items) × IsSound folder survey
  sound-of items stack =
      let k = (law folder name kind items).0 stack in
      (ap (λ (s : SurveyText). s.items) is ∙ k.0, subst (IsSound folder) (sym is) k.1)

  Walk : Spot → Type 0
  Walk spot = InWalk survey.faults spot spot.problem

  abbrev At : StackAt
  At = stack_at folder service name kind survey

  By : Verdict → Spot → Type 0
  By verdict spot = ByVerdict At verdict spot spot.problem

  pub looks-none : survey.items ≡ None → (spots asked : List Spot) → Adds (λ spot. InWalk survey.faults spot spot.problem) [] spots →
      Looks folder modules name service kind survey spots asked asked (record { way_in = None; lets_nobody_in = false })
  looks-none none spots asked h = record {
    verdict = Refused;
    is_verdict = λ items stack. let k = (sound-of items stack).0 in let clash : Some items ≡ None = sym k ∙ none in absurd cc;
    adds = adds-iff (λ spot. InWalk survey.faults spot spot.problem) (InStack folder modules service name kind survey Refused) [] spots
        (λ spot. (
          λ w. inl w,
          λ k. elim k [
            | inl w ↦ w
            | inr r ↦ elim r [
              | inl i ↦ absurd (subst (λ (o : Option Items). InItems modules name kind o spot spot.problem) none i)
              | inr b ↦ absurd (none-by-refused At spot spot.problem b)
            ]
          ],
        ))
        h;
    asks = subst (λ (o : Option Items). Adds (Asks o Refused) asked asked) (sym none) (adds-none (Asks None Refused) asked (λ spot a. a.may_ask));
    tells = record { way_in = λ _. refl; nobody = refl };
  }

  -- the parts of what is wrong with a stack of these items
  parts : (items : Items) → survey.items ≡ Some items → (verdict : Verdict) (spot : Spot) →
      ((InWalk survey.faults spot spot.problem ⊎ InItems modules name kind (Some items) spot spot.problem)
      ⊎ ByVerdict At verdict spot spot.problem)
      ↔ InStack folder modules service name kind survey verdict spot
  parts items there verdict spot = (
    λ k. elim k [
      | inl w ↦ elim w [
        | inl i ↦ inl i
        | inr m ↦ inr (inl (subst (λ (o : Option Items). InItems modules name kind o spot spot.problem) (sym there) m))
      ]
      | inr b ↦ inr (inr b)
    ],
    λ k. elim k [
      | inl w ↦ inl (inl w)
      | inr r ↦ elim r [
        | inl i ↦ inl (inr (subst (λ (o : Option Items). InItems modules name kind o spot spot.problem) there i))
        | inr b ↦ inr b
      ]
    ],
  )

  pub looks-unsound : (items : Items) → survey.items ≡ Some items → (IsSound folder survey → ⊥) → (first spots asked more : List Spot) →
      Adds (λ spot. InWalk survey.faults spot spot.problem) [] first →
      Adds (λ spot. InItems modules name kind (Some items) spot spot.problem) first spots →
      Adds (OfModules problems.NeverAsked items (λ number. Member number [] → ⊥)) asked more →
      Looks folder modules name service kind survey spots asked more (record { way_in = None; lets_nobody_in = false })
  looks-unsound items there unsound first spots asked more h k l = record {
    verdict = Refused;
    is_verdict = λ others stack. unsound (sound-of others stack).1;
    adds =
        let A : Spot → Type 0 = λ spot. InWalk survey.faults spot spot.problem in
        let B : Spot → Type 0 = λ spot. InItems modules name kind (Some items) spot spot.problem in
        adds-iff (λ spot. A spot ⊎ B spot) (InStack folder modules service name kind survey Refused) [] spots
        (λ spot. (
          λ w. (parts items there Refused spot).0 (inl w),
          λ s. elim ((parts items there Refused spot).1 s) [
            | inl w ↦ w
            | inr b ↦ absurd (none-by-refused At spot spot.problem b)
          ],
        ))
        (adds-both A B [] first spots h k);
    asks = subst (λ (o : Option Items). Adds (Asks o Refused) asked more) (sym there) (asks-of items Refused asked more l);
    tells = record { way_in = λ _. refl; nobody = refl };
  }

  pub looks-judged : (items : Items) → survey.items ≡ Some items → (first second spots asked more : List Spot) →
      Adds (λ spot. InWalk survey.faults spot spot.problem) [] first →
      Adds (λ spot. InItems modules name kind (Some items) spot spot.problem) first second →
      (told : Told) (named home : Option ℕ) (included target greeter : Bool) → named ≡ named_in folder.form service → home ≡ slice_get survey.reached 0 →
      included ≡ is_only_included folder name survey → target ≡ is_target folder name → greeter ≡ is_greeter name →
      (let at : Stacked =
      record { service = service; kind = kind; named = named; home = home; is_only_included = included; is_included = target; is_greeter = greeter } in
      Judges folder modules name at items second spots asked more told → Looks folder modules name service kind survey spots asked more told)
  looks-judged items there first second spots asked more h k told named home included target greeter n at i t g judged = record {
    verdict = judged.verdict;
    is_verdict = judged.is_verdict;
    adds =
        let A : Spot → Type 0 = λ spot. InWalk survey.faults spot spot.problem in
        let B : Spot → Type 0 = λ spot. InItems modules name kind (Some items) spot spot.problem in
        let C : Spot → Type 0 = λ spot. ByVerdict At judged.verdict spot spot.problem in
        adds-iff (λ spot. (A spot ⊎ B spot) ⊎ C spot) (InStack folder modules service name kind survey judged.verdict) [] spots (parts items there judged.verdict)
        (adds-both (λ spot. A spot ⊎ B spot) C [] second spots (adds-both A B [] first second h k)
        (subst (λ (at : StackAt). Adds (λ spot. ByVerdict at judged.verdict spot spot.problem) second spots)
        (same-stack service kind named (named_in folder.form service) home (slice_get survey.reached 0) included (is_only_included folder name survey)
        target (is_target folder name) greeter (is_greeter name) n at i t g) judged.adds));
    asks = subst (λ (o : Option Items). Adds (Asks o judged.verdict) asked more) (sym there) judged.asks;
    tells = judged.tells;
  }

-- WHAT A STACK ADDS

pub adds-stack : (files rules : Folder) (modules : Modules) (other : SurveyText) (service : ℕ) (name : List ℕ) (kind : Kind) (survey : SurveyText)
    (spots all : List Spot) (middle : Table) (told : Told)
    (old new : Found) (form : Form) (reached others : List ℕ) → rules ≡ files → survey ≡ surveyed rules name kind → form ≡ files.form →
    reached ≡ survey.reached → others ≡ other.reached →
    length old.readers.items ≡ length files.entries →
    (looks : Looks rules modules name service kind survey spots old.asked.items new.asked.items told) →
    Adds (HasOtherAnswer rules service name kind looks.verdict) spots all →
    Puts (λ spot. HasJumpInside rules name kind spot ⊎ InWalk other.faults spot spot.problem) (with_stack service kind) old.table middle →
    Puts (λ spot. Member spot all) (with_stack service kind) middle new.table →
    Notes (λ file. Member file (files_read form (length old.readers.items) (reached ++ others))) service kind old.readers.items new.readers.items →
    Changes (IsCutOff survey) (also_met service kind old.cut_off) old.cut_off new.cut_off →
    AddsStack files modules other service name kind old new told.way_in
unfolding Member
adds-stack files rules modules other service name kind survey spots all middle told old new form reached others same is is_form is_reached are_others
    count looks answers beside puts notes cuts =
    let here : survey ≡ surveyed files name kind = subst (λ (r : Folder). survey ≡ surveyed r name kind) same is in
    record {
      verdict = looks.verdict;
      is_verdict = subst (λ (r : Folder). IsVerdict r modules name kind looks.verdict) same looks.is_verdict;
      puts =
          let S : Folder → SurveyText → Spot → Type 0 = λ f s spot. InStack f modules service name kind s looks.verdict spot in
          let A : Folder → Spot → Type 0 = λ f spot. HasJumpInside f name kind spot ⊎ InWalk other.faults spot spot.problem in
          let O : Folder → Spot → Type 0 = λ f spot. HasOtherAnswer f service name kind looks.verdict spot in
          puts-iff (λ spot. A rules spot ⊎ Member spot all) (InStackOf files modules other service name kind looks.verdict) (with_stack service kind)
          old.table new.table
          (λ spot. (
            λ w. elim w [
              | inl a ↦ inr (inr (subst (λ f. A f spot) same a))
              | inr m ↦ elim ((answers.each spot).1 m) [
                | inl l ↦
                    let seen : S rules survey spot = elim ((looks.adds.each spot).1 l) [ inl n ↦ absurd n | inr k ↦ k ] in
                    inl (subst (λ s. S files s spot) here (subst (λ f. S f survey spot) same seen))
                | inr o ↦ inr (inl (subst (λ f. O f spot) same o))
              ]
            ],
            λ k. elim k [
              | inl s ↦
                  let seen : S rules survey spot = subst (λ f. S f survey spot) (sym same) (subst (λ t. S files t spot) (sym here) s) in
                  inr ((answers.each spot).0 (inl ((looks.adds.each spot).0 (inr seen))))
              | inr r ↦ elim r [
                | inl o ↦ inr ((answers.each spot).0 (inr (subst (λ f. O f spot) (sym same) o)))
                | inr a ↦ inl (subst (λ f. A f spot) (sym same) a)
              ]
            ],
          ))
          (puts-both (A rules) (λ spot. Member spot all) (with_stack service kind) old.table middle new.table (settles-stack service kind) beside puts);
      notes = subst (λ (l : List ℕ). Notes (λ file. Member file l) service kind old.readers.items new.readers.items)
          (ap (λ (f : Form). files_read f (length old.readers.items) (reached ++ others)) is_form
          ∙ ap (λ (n : ℕ). files_read files.form n (reached ++ others)) count
          ∙ ap (λ (l : List ℕ). files_read files.form (length files.entries) (l ++ others)) (is_reached ∙ ap (λ (s : SurveyText). s.reached) here)
          ∙ ap (λ (l : List ℕ). files_read files.form (length files.entries) ((surveyed files name kind).reached ++ l)) are_others)
          notes;
      asks = subst (λ (s : SurveyText). Adds (Asks s.items looks.verdict) old.asked.items new.asked.items) here looks.asks;
      cuts = subst (λ (s : SurveyText). Changes (IsCutOff s) (also_met service kind old.cut_off) old.cut_off new.cut_off) here cuts;
      way_in = looks.tells.way_in;
    }
