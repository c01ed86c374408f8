-- S1 and S2 are told once.
use Rattle.std.proofs.Common.{◌≡◌, ◌⊎◌, ◌∙◌, ℕ, ◌<◌, ◌&&◌, Bool, true, false, IsSome, List, MatchOption, Option, Some, None, ap, inl, inr, length, refl, sym}
use Rattle.std.specs.BTreeMap.{get}
use Rattle.std.proofs.lemmas.Bool.{and_parts, false≢true}
use Rattle.pam_conf.specs.Files.{bytes_at}
use Rattle.pam_conf.specs.Stack.{Items}
use Rattle.pam_conf.specs.declared.rule.Kind.{Kind}
use Rattle.pam_conf.specs.declared.rule.Kind.TheVariants.{Auth}
use Rattle.pam_findings.specs.host.Callers.{is_greeter}
use Rattle.pam_findings.specs.host.FolderProblems.{is_folder, is_of_folder, none_is_named}
use Rattle.pam_findings.specs.host.Host.{Host, InFile, InStackOf, Meets, Verdicts, beside_at, service_at, survey_at}
use Rattle.pam_findings.specs.host.Laws.{HasWhole, IsToldOnce, IsWhole, OnlyWholesAreTold, WholesAreToldOnce}
use Rattle.pam_findings.specs.host.Modules.{Modules}
use Rattle.pam_findings.specs.host.Problems.{compare_places, place_of}
use Rattle.pam_findings.specs.host.Report.{IsFound}
use Rattle.pam_findings.specs.host.StackProblems.{ByVerdict, InItems, StackAt, named_in, stack_at}
use Rattle.pam_findings.specs.host.Verdicts.{IsCauseOf, IsVerdict, Judged, LetsNobody, Refused, TooLarge, Verdict, causes_of, way_in_of}
use Rattle.pam_findings.specs.host.inner.Table.{Table}
use Rattle.pam_findings.specs.declared.host.alone.Whole.{Whole}
use Rattle.pam_findings.specs.declared.host.alone.Whole.TheVariants.{Anybody, Nobody}
use Rattle.pam_findings.specs.declared.host.problem.Problem.{Problem}
use Rattle.pam_findings.specs.declared.host.problem.Problem.TheVariants as problems
use Rattle.pam_findings.specs.declared.host.problem.Spot.{Spot}
use Rattle.pam_findings.specs.declared.host.report.Finding.{Finding}
use Rattle.pam_findings.proofs.HostProofs.Verdicted.{same-spot, spot_in}

-- WHAT A STACK MEETS OF THEM IS SAID BY ITS VERDICT

-- nothing of the bytes of a file
no-bytes : (o : Option (List ℕ)) → MatchOption o ⊥ (λ _. ⊥) → ⊥
no-bytes None h = h
no-bytes (Some bytes) h = h

-- nor of the rules of a stack
no-nobody : (modules : Modules) (name : List ℕ) (kind : Kind) (spot : Spot) (s : Option ℕ) (k : Kind) (o : Option Items) →
    InItems modules name kind o spot (problems.LetsNobodyIn s k) → ⊥
no-nobody modules name kind spot s k None h = h
no-nobody modules name kind spot s k (Some items) h = h.3

no-anybody : (modules : Modules) (name : List ℕ) (kind : Kind) (spot : Spot) (s : Option ℕ) (g : Bool) (o : Option Items) →
    InItems modules name kind o spot (problems.LetsAnybodyIn s g) → ⊥
no-anybody modules name kind spot s g None h = h
no-anybody modules name kind spot s g (Some items) h = h.3

module _ (host : Host) (verdicts : Verdicts) (service : ℕ) (kind : Kind) where
  abbrev At : StackAt
  At = stack_at host.folder service (service_at host service) kind (survey_at host service kind)

  abbrev verdict : Verdict
  verdict = verdicts service kind

  abbrev Parts : Spot → Type 0
  Parts spot =
      InFile host spot service kind
      ⊎ InStackOf host.folder host.modules (beside_at host kind) service (service_at host service) kind verdict spot

  from-parts : (whole : Whole) (of_kind : Kind) (file : Option ℕ) (line : ℕ) (problem : Problem) → IsWhole whole of_kind problem →
      (let spot : Spot = record { file = file; line = line; problem = problem } in Parts spot → ByVerdict At verdict spot problem)
  from-parts Nobody of_kind file line (problems.LetsNobodyIn s k) is (inl f) = absurd (no-bytes (bytes_at f.0 host.folder.entries) f.3)
  from-parts Nobody of_kind file line (problems.LetsNobodyIn s k) is (inr (inl (inl w))) = absurd w
  from-parts Nobody of_kind file line (problems.LetsNobodyIn s k) is (inr (inl (inr (inl i)))) =
      let spot : Spot = record { file = file; line = line; problem = problems.LetsNobodyIn s k } in
      absurd (no-nobody host.modules (service_at host service) kind spot s k (survey_at host service kind).items i)
  from-parts Nobody of_kind file line (problems.LetsNobodyIn s k) is (inr (inl (inr (inr v)))) = v
  from-parts Nobody of_kind file line (problems.LetsNobodyIn s k) is (inr (inr (inl o))) = let clash = o.problem in absurd cc
  from-parts Nobody of_kind file line (problems.LetsNobodyIn s k) is (inr (inr (inr (inl j)))) = let clash = j.problem in absurd cc
  from-parts Nobody of_kind file line (problems.LetsNobodyIn s k) is (inr (inr (inr (inr w)))) = absurd w
  from-parts Anybody of_kind file line (problems.LetsAnybodyIn s g) is (inl f) = absurd (no-bytes (bytes_at f.0 host.folder.entries) f.3)
  from-parts Anybody of_kind file line (problems.LetsAnybodyIn s g) is (inr (inl (inl w))) = absurd w
  from-parts Anybody of_kind file line (problems.LetsAnybodyIn s g) is (inr (inl (inr (inl i)))) =
      let spot : Spot = record { file = file; line = line; problem = problems.LetsAnybodyIn s g } in
      absurd (no-anybody host.modules (service_at host service) kind spot s g (survey_at host service kind).items i)
  from-parts Anybody of_kind file line (problems.LetsAnybodyIn s g) is (inr (inl (inr (inr v)))) = v
  from-parts Anybody of_kind file line (problems.LetsAnybodyIn s g) is (inr (inr (inl o))) = let clash = o.problem in absurd cc
  from-parts Anybody of_kind file line (problems.LetsAnybodyIn s g) is (inr (inr (inr (inl j)))) = let clash = j.problem in absurd cc
  from-parts Anybody of_kind file line (problems.LetsAnybodyIn s g) is (inr (inr (inr (inr w)))) = absurd w
  from-parts whole of_kind file line problem is parts = absurd is

  -- so the stack has what it meets
  had : (whole : Whole) (of_kind : Kind) (file : Option ℕ) (line : ℕ) (problem : Problem) → IsWhole whole of_kind problem →
      (let spot : Spot = record { file = file; line = line; problem = problem } in
      ByVerdict At verdict spot problem → (kind ≡ of_kind) × HasWhole host verdicts whole service kind)
  had Nobody of_kind file line (problems.LetsNobodyIn s k) is v = (sym v.1 ∙ is, (v.3, v.4))
  had Anybody of_kind file line (problems.LetsAnybodyIn s g) is v = (v.1 ∙ sym is, (v.1, v.3, v.4))
  had whole of_kind file line problem is v = absurd is

  pub is-had : (whole : Whole) (of_kind : Kind) (spot : Spot) → IsWhole whole of_kind spot.problem → Meets host verdicts spot service kind →
      (kind ≡ of_kind) × HasWhole host verdicts whole service kind
  is-had whole of_kind spot is meets =
      had whole of_kind spot.file spot.line spot.problem is (from-parts whole of_kind spot.file spot.line spot.problem is meets.1)

  -- THE ONE PLACE

  abbrev place : Whole → Spot
  place Nobody = spot_in (causes_of verdict).nobody (problems.LetsNobodyIn (named_in host.folder.form service) kind)
  place Anybody =
      spot_in (causes_of verdict).anybody (problems.LetsAnybodyIn (named_in host.folder.form service) (is_greeter (service_at host service)))

  at-place : (whole : Whole) (of_kind : Kind) (file : Option ℕ) (line : ℕ) (problem : Problem) → IsWhole whole of_kind problem →
      (let spot : Spot = record { file = file; line = line; problem = problem } in ByVerdict At verdict spot problem → spot ≡ place whole)
  at-place Nobody of_kind file line (problems.LetsNobodyIn s k) is v =
      same-spot _ _ v.2.0 v.2.1 (ap (λ n. problems.LetsNobodyIn n k) v.0 ∙ ap (problems.LetsNobodyIn (named_in host.folder.form service)) v.1)
  at-place Anybody of_kind file line (problems.LetsAnybodyIn s g) is v =
      same-spot _ _ v.2.0 v.2.1 (ap (λ n. problems.LetsAnybodyIn n g) v.0 ∙ ap (problems.LetsAnybodyIn (named_in host.folder.form service)) v.5)
  at-place whole of_kind file line problem is v = absurd is

  only-place : (whole : Whole) (spot : Spot) → IsWhole whole kind spot.problem → Meets host verdicts spot service kind → spot ≡ place whole
  only-place whole spot is meets =
      at-place whole kind spot.file spot.line spot.problem is (from-parts whole kind spot.file spot.line spot.problem is meets.1)

  is-whole : (whole : Whole) → HasWhole host verdicts whole service kind → IsWhole whole kind (place whole).problem
  is-whole Nobody h = refl
  is-whole Anybody h = h.0

  meets-it : (whole : Whole) → service < length host.services → HasWhole host verdicts whole service kind → Meets host verdicts (place whole) service kind
  meets-it Nobody within h = (within, inr (inl (inr (inr (refl, refl, (refl, refl), h.0, h.1)))), λ e. absurd cc)
  meets-it Anybody within h = (within, inr (inl (inr (inr (refl, h.0, (refl, refl), h.1, h.2, refl)))), λ e. absurd cc)

  cause-by : (v : Verdict) → IsVerdict host.folder host.modules (service_at host service) kind v → LetsNobody kind v →
      IsCauseOf host.folder host.modules (service_at host service) kind Nobody (causes_of v).nobody
  cause-by Refused is lets = absurd lets
  cause-by TooLarge is lets = absurd lets
  cause-by (Judged j) is lets = is.nobody_cause lets.0 lets.1

  cause-of-anybody : (v : Verdict) → IsVerdict host.folder host.modules (service_at host service) kind v → kind ≡ Auth → IsSome (way_in_of v) →
      IsCauseOf host.folder host.modules (service_at host service) kind Anybody (causes_of v).anybody
  cause-of-anybody Refused is auth some = absurd (false≢true some)
  cause-of-anybody TooLarge is auth some = absurd (false≢true some)
  cause-of-anybody (Judged j) is auth some = is.anybody_cause auth some

  is-cause : (whole : Whole) → IsVerdict host.folder host.modules (service_at host service) kind verdict → HasWhole host verdicts whole service kind →
      IsCauseOf host.folder host.modules (service_at host service) kind whole (place whole).file
  is-cause Nobody is h = cause-by verdict is h.0
  is-cause Anybody is h = cause-of-anybody verdict is h.0 h.1

  at-line : (whole : Whole) → (place whole).line ≡ 0
  at-line Nobody = refl
  at-line Anybody = refl

  not-of-folder : (whole : Whole) (named : List (List ℕ)) → is_of_folder host.folder named (place whole) ≡ true → ⊥
  not-of-folder Nobody named h = false≢true (and_parts (is_folder host.folder.form && none_is_named named && true) false h).1
  not-of-folder Anybody named h = false≢true (and_parts (is_folder host.folder.form && none_is_named named && true) false h).1

  told-once : (named : List (List ℕ)) (found : Table) (whole : Whole) → service < length host.services →
      IsVerdict host.folder host.modules (service_at host service) kind verdict → HasWhole host verdicts whole service kind →
      (o : Option Finding) → get compare_places found (place_of (place whole)) ≡ o → IsFound host verdicts named (place whole) o →
      IsToldOnce host verdicts found whole service kind
  told-once named found whole within is h None there none = absurd (none.0 service kind (meets-it whole within h))
  told-once named found whole within is h (Some finding) there (inr folder) = absurd (not-of-folder whole named folder.0)
  told-once named found whole within is h (Some finding) there (inl met) = record {
    spot = place whole;
    is = is-whole whole h;
    cause = is-cause whole is h;
    line = at-line whole;
    finding = finding;
    told = there;
    met = met;
    meets = meets-it whole within h;
    only = only-place whole;
  }

pub wholes-once : WholesAreToldOnce
wholes-once host named found ways report whole service kind within h =
    let spot = place host report.verdicts service kind whole in
    told-once host report.verdicts service kind named found whole within (report.are_verdicts service kind within) h (get compare_places found (place_of spot))
    refl (report.findings spot)

pub only-wholes : OnlyWholesAreTold
only-wholes host verdicts whole service kind of_kind spot is meets = is-had host verdicts service kind whole of_kind spot is meets
