-- The places of problems: two problems have two places.
use Rattle.std.proofs.Common.{◌≡◌, ℕ, ◌+◌, ◌-◌, ◌/◌, ◌%◌, ◌≤◌, arith, cond, nat_lt, if◌then◌else◌, Bool, true, false, [], ◌∷◌, refl, sym, ◌∙◌, ap}
use Rattle.std.proofs.Common.{subst, inl, inr, Option, Some, None, slice_index_or, IfSome, unwrap_or}
use Rattle.std.specs.BTreeMap.{Updates, get, is_at}
use Rattle.std.specs.Ordering.{is_eq}
use Rattle.std.proofs.lemmas.Bool.{cases_Bool, false≢true}
use Rattle.std.proofs.lemmas.Cmp.{tied_itself}
use Rattle.std.proofs.lemmas.Map.Views.{tells_apart}
use Rattle.pam_facts.specs.declared.arguments.lacks.Lack.{Lack}
use Rattle.pam_facts.specs.declared.arguments.lacks.Lack.TheVariants as lacks
use Rattle.pam_facts.specs.declared.arguments.verdict.Reaction.TheVariants.{Fails, Ignores, Logs}
use Rattle.pam_codes.specs.declared.error.ControlError.TheVariants.{BadControl, BadValue, BadAction, ZeroJump, OpenBracket}
use Rattle.pam_conf.specs.declared.error.FaultKind.{FaultKind}
use Rattle.pam_conf.specs.declared.error.FaultKind.TheVariants as faults
use Rattle.pam_conf.specs.declared.rule.Kind.{Kind}
use Rattle.pam_conf.specs.declared.rule.Kind.TheVariants.{Auth, Account, Password, Session}
use Rattle.pam_released.specs.declared.difference.Difference.{Difference}
use Rattle.pam_released.specs.declared.difference.Difference.TheVariants.{CarriageReturn, ContinuedOverBlank, BackslashBlank, BackslashComment}
use Rattle.pam_released.specs.declared.difference.Difference.TheVariants.{EndsInContinuation, CapitalInBrackets, LongLine, EmptyModuleName, DroppedBlank}
use Rattle.pam_released.specs.Findings.{number_of}
use Rattle.pam_findings.specs.host.Problems.{compare_places, kind_of, number_of_answer, number_of_anybody, number_of_kind, number_of_lack, number_of_nobody, number_of_refuser, place_of}
use Rattle.pam_findings.specs.host.Problems.{rank_of, rank_of_argument, rank_of_fault, reaction_of, service_of}
use Rattle.pam_findings.specs.host.inner.Table.{Puts, Removes, Table, finding_at}
use Rattle.pam_findings.specs.declared.host.missing_files.Absence.{Absence}
use Rattle.pam_findings.specs.declared.host.missing_files.Absence.TheVariants as absences
use Rattle.pam_findings.specs.declared.host.problem.ArgumentProblem.{ArgumentProblem}
use Rattle.pam_findings.specs.declared.host.problem.ArgumentProblem.TheVariants as arguments
use Rattle.pam_findings.specs.declared.host.problem.Place.{Place}
use Rattle.pam_findings.specs.declared.host.problem.Problem.{Problem}
use Rattle.pam_findings.specs.declared.host.problem.Problem.TheVariants as problems
use Rattle.pam_findings.specs.declared.host.problem.Spot.{Spot}
use Rattle.pam_findings.specs.declared.host.refusing.Refuser.{Refuser}
use Rattle.pam_findings.specs.declared.host.refusing.Refuser.TheVariants as refusers
use Rattle.pam_findings.specs.declared.host.report.Finding.{Finding}
use Rattle.pam_findings.proofs.HostProofs.PlaceOrder.{exact_places, places_total}

-- THE NUMBER OF A DIFFERENCE

pub number_small : (difference : Difference) → number_of difference ≤ 9
unfolding number_of
number_small CarriageReturn = omega arith
number_small ContinuedOverBlank = omega arith
number_small BackslashBlank = omega arith
number_small BackslashComment = omega arith
number_small EndsInContinuation = omega arith
number_small CapitalInBrackets = omega arith
number_small LongLine = omega arith
number_small EmptyModuleName = omega arith
number_small DroppedBlank = omega arith

-- FROM A PLACE TO ITS PROBLEM

abbrev kind_numbered : ℕ → Kind
kind_numbered n = slice_index_or (Auth ∷ Account ∷ Password ∷ Session ∷ []) n Auth

abbrev fault_numbered : ℕ → FaultKind
fault_numbered n = slice_index_or (faults.NulByte ∷ faults.NulByte ∷ faults.MissingField ∷ faults.BadKind ∷ (faults.Control BadControl)
    ∷ (faults.Control BadValue) ∷ (faults.Control BadAction) ∷ (faults.Control ZeroJump) ∷ (faults.Control OpenBracket) ∷ faults.MissingTarget
    ∷ faults.BadTarget ∷ faults.Cycle ∷ faults.TooDeep ∷ faults.TooManyModules ∷ faults.IncludeInSingleFile ∷ faults.NoService ∷ faults.FileTooLong
    ∷ faults.Memory ∷ faults.TooManyFollowed ∷ []) n faults.NulByte

abbrev difference_numbered : ℕ → Difference
difference_numbered n = slice_index_or (CarriageReturn ∷ CarriageReturn ∷ ContinuedOverBlank ∷ BackslashBlank ∷ BackslashComment ∷ EndsInContinuation
    ∷ CapitalInBrackets ∷ LongLine ∷ EmptyModuleName ∷ DroppedBlank ∷ []) n CarriageReturn

abbrev wrong_numbered : ℕ → ℕ → ArgumentProblem
wrong_numbered n reaction =
    slice_index_or (arguments.Unknown (slice_index_or (Ignores ∷ Logs ∷ Fails ∷ []) reaction Ignores) ∷ arguments.Longer ∷ arguments.OtherKind ∷ []) n
    arguments.BadValue

abbrev lack_numbered : ℕ → Lack
lack_numbered n = slice_index_or (lacks.Program ∷ lacks.List ∷ lacks.Database ∷ lacks.UserType ∷ []) n lacks.Condition

abbrev absence_numbered : ℕ → Absence
absence_numbered n = slice_index_or (absences.Fails ∷ []) n absences.Passes

abbrev refuser_numbered : ℕ → Refuser
refuser_numbered n = slice_index_or (refusers.Cracklib ∷ refusers.Passwdqc ∷ refusers.Pwhistory ∷ []) n refusers.Pwquality

abbrev counting_numbered : ℕ → Problem
counting_numbered n = if nat_lt n 2 then problems.NotCounted (nat_lt 0 n) else problems.NoFailureCounted

abbrev answer_numbered : ℕ → ℕ → Problem
answer_numbered service n = problems.OtherAnswers service (kind_numbered (n / 4)) (nat_lt 1 (n % 4)) (nat_lt 0 (n % 2))

abbrev named_numbered : Bool → ℕ → Option ℕ
named_numbered is_named service = if is_named then Some service else None

abbrev other_numbered : ℕ → ℕ → ℕ → Problem
other_numbered n service kind =
    if nat_lt n 1 then problems.IncludedFromVendor (nat_lt 0 kind)
    else if nat_lt n 6 then problems.EmptySeparator
    else if nat_lt n 12 then problems.LetsNobodyIn (named_numbered (nat_lt 3 kind) service) (kind_numbered (kind % 4))
    else if nat_lt n 13 then problems.LetsAnybodyIn (named_numbered (nat_lt 1 kind) service) (nat_lt 0 (kind % 2))
    else if nat_lt n 14 then problems.NeverAsked
    else if nat_lt n 15 then problems.JumpPastEnd
    else if nat_lt n 16 then problems.NoModule (nat_lt 0 kind)
    else if nat_lt n 17 then problems.NoOther
    else if nat_lt n 18 then problems.UnreachableName
    else if nat_lt n 20 then problems.TooLarge service (kind_numbered kind)
    else if nat_lt n 21 then answer_numbered service kind
    else if nat_lt n 22 then problems.LeftOver
    else if nat_lt n 23 then problems.JumpIntoInclude
    else if nat_lt n 24 then problems.NoFunction
    else if nat_lt n 25 then problems.CallerIsRoot (nat_lt 0 kind)
    else if nat_lt n 29 then problems.Argument service (wrong_numbered (n - 25) kind)
    else if nat_lt n 30 then problems.BadArguments (lack_numbered kind)
    else if nat_lt n 31 then problems.Argument service arguments.NoToken
    else if nat_lt n 32 then problems.StoredThoughRefused (refuser_numbered kind)
    else if nat_lt n 33 then counting_numbered kind
    else if nat_lt n 34 then problems.Argument service arguments.Weak
    else if nat_lt n 35 then problems.Argument service (arguments.MissingFile (absence_numbered kind))
    else if nat_lt n 36 then problems.UnknownModule
    else if nat_lt n 37 then problems.SuccessNeverCounts
    else problems.LinkOutside

-- the problem with this rank, service and kind
problem_of : ℕ → ℕ → ℕ → Problem
problem_of rank service kind =
    if nat_lt rank 20 then problems.Fault (fault_numbered rank)
    else if nat_lt rank 40 then problems.Walk (fault_numbered (rank - 20))
    else if nat_lt rank 50 then problems.Released (difference_numbered (rank - 40))
    else other_numbered (rank - 50) service kind

of_fault : (fault : FaultKind) → problem_of (rank_of_fault fault) 0 0 ≡ problems.Fault fault
unfolding problem_of
of_fault faults.NulByte = refl
of_fault faults.MissingField = refl
of_fault faults.BadKind = refl
of_fault (faults.Control BadControl) = refl
of_fault (faults.Control BadValue) = refl
of_fault (faults.Control BadAction) = refl
of_fault (faults.Control ZeroJump) = refl
of_fault (faults.Control OpenBracket) = refl
of_fault faults.MissingTarget = refl
of_fault faults.BadTarget = refl
of_fault faults.Cycle = refl
of_fault faults.TooDeep = refl
of_fault faults.TooManyModules = refl
of_fault faults.IncludeInSingleFile = refl
of_fault faults.NoService = refl
of_fault faults.FileTooLong = refl
of_fault faults.Memory = refl
of_fault faults.TooManyFollowed = refl

of_walk : (fault : FaultKind) → problem_of (20 + rank_of_fault fault) 0 0 ≡ problems.Walk fault
unfolding problem_of
of_walk faults.NulByte = refl
of_walk faults.MissingField = refl
of_walk faults.BadKind = refl
of_walk (faults.Control BadControl) = refl
of_walk (faults.Control BadValue) = refl
of_walk (faults.Control BadAction) = refl
of_walk (faults.Control ZeroJump) = refl
of_walk (faults.Control OpenBracket) = refl
of_walk faults.MissingTarget = refl
of_walk faults.BadTarget = refl
of_walk faults.Cycle = refl
of_walk faults.TooDeep = refl
of_walk faults.TooManyModules = refl
of_walk faults.IncludeInSingleFile = refl
of_walk faults.NoService = refl
of_walk faults.FileTooLong = refl
of_walk faults.Memory = refl
of_walk faults.TooManyFollowed = refl

of_difference : (difference : Difference) → problem_of (40 + number_of difference) 0 0 ≡ problems.Released difference
unfolding problem_of number_of
of_difference CarriageReturn = refl
of_difference ContinuedOverBlank = refl
of_difference BackslashBlank = refl
of_difference BackslashComment = refl
of_difference EndsInContinuation = refl
of_difference CapitalInBrackets = refl
of_difference LongLine = refl
of_difference EmptyModuleName = refl
of_difference DroppedBlank = refl

of_nobody : (service : Option ℕ) (kind : Kind) →
    problem_of 61 (unwrap_or service 0) (number_of_nobody service kind) ≡ problems.LetsNobodyIn service kind
unfolding problem_of
of_nobody None Auth = refl
of_nobody None Account = refl
of_nobody None Password = refl
of_nobody None Session = refl
of_nobody (Some service) Auth = refl
of_nobody (Some service) Account = refl
of_nobody (Some service) Password = refl
of_nobody (Some service) Session = refl

of_anybody : (service : Option ℕ) (is_greeter : Bool) →
    problem_of 62 (unwrap_or service 0) (number_of_anybody service is_greeter) ≡ problems.LetsAnybodyIn service is_greeter
unfolding problem_of
of_anybody None true = refl
of_anybody None false = refl
of_anybody (Some service) true = refl
of_anybody (Some service) false = refl

of_large : (service : ℕ) (kind : Kind) → problem_of 69 service (number_of_kind kind) ≡ problems.TooLarge service kind
unfolding problem_of
of_large service Auth = refl
of_large service Account = refl
of_large service Password = refl
of_large service Session = refl

of_answer : (service : ℕ) (kind : Kind) (has_no_rule lets_nobody_in : Bool) →
    problem_of 70 service (number_of_answer kind has_no_rule lets_nobody_in) ≡ problems.OtherAnswers service kind has_no_rule lets_nobody_in
unfolding problem_of
of_answer service Auth false false = refl
of_answer service Auth false true = refl
of_answer service Auth true false = refl
of_answer service Auth true true = refl
of_answer service Account false false = refl
of_answer service Account false true = refl
of_answer service Account true false = refl
of_answer service Account true true = refl
of_answer service Password false false = refl
of_answer service Password false true = refl
of_answer service Password true false = refl
of_answer service Password true true = refl
of_answer service Session false false = refl
of_answer service Session false true = refl
of_answer service Session true false = refl
of_answer service Session true true = refl

of_included : (is_at_include : Bool) → problem_of 50 0 (if is_at_include then 1 else 0) ≡ problems.IncludedFromVendor is_at_include
unfolding problem_of
of_included true = refl
of_included false = refl

of_missing : (is_dashed : Bool) → problem_of 65 0 (if is_dashed then 1 else 0) ≡ problems.NoModule is_dashed
unfolding problem_of
of_missing true = refl
of_missing false = refl

of_caller : (is_daemon : Bool) → problem_of 74 0 (if is_daemon then 1 else 0) ≡ problems.CallerIsRoot is_daemon
unfolding problem_of
of_caller true = refl
of_caller false = refl

of_half : (counts : Bool) → problem_of 82 0 (if counts then 1 else 0) ≡ problems.NotCounted counts
unfolding problem_of
of_half true = refl
of_half false = refl

of_argument : (argument : ℕ) (wrong : ArgumentProblem) →
    problem_of (rank_of_argument wrong) argument (reaction_of wrong) ≡ problems.Argument argument wrong
unfolding problem_of
of_argument argument (arguments.Unknown Ignores) = refl
of_argument argument (arguments.Unknown Logs) = refl
of_argument argument (arguments.Unknown Fails) = refl
of_argument argument arguments.Longer = refl
of_argument argument arguments.OtherKind = refl
of_argument argument arguments.BadValue = refl
of_argument argument arguments.NoToken = refl
of_argument argument arguments.Weak = refl
of_argument argument (arguments.MissingFile absences.Fails) = refl
of_argument argument (arguments.MissingFile absences.Passes) = refl

of_lack : (lack : Lack) → problem_of 79 0 (number_of_lack lack) ≡ problems.BadArguments lack
unfolding problem_of
of_lack lacks.Program = refl
of_lack lacks.List = refl
of_lack lacks.Database = refl
of_lack lacks.UserType = refl
of_lack lacks.Condition = refl

of_refuser : (by : Refuser) → problem_of 81 0 (number_of_refuser by) ≡ problems.StoredThoughRefused by
unfolding problem_of
of_refuser refusers.Cracklib = refl
of_refuser refusers.Passwdqc = refl
of_refuser refusers.Pwhistory = refl
of_refuser refusers.Pwquality = refl

of_problem : (problem : Problem) → problem_of (rank_of problem) (service_of problem) (kind_of problem) ≡ problem
unfolding problem_of
of_problem (problems.Fault fault) = of_fault fault
of_problem (problems.Walk fault) = of_walk fault
of_problem (problems.Released difference) = of_difference difference
of_problem (problems.IncludedFromVendor is_at_include) = of_included is_at_include
of_problem (problems.LetsNobodyIn service kind) = of_nobody service kind
of_problem (problems.LetsAnybodyIn service is_greeter) = of_anybody service is_greeter
of_problem problems.NeverAsked = refl
of_problem problems.JumpPastEnd = refl
of_problem (problems.NoModule is_dashed) = of_missing is_dashed
of_problem problems.NoOther = refl
of_problem problems.UnreachableName = refl
of_problem (problems.TooLarge service kind) = of_large service kind
of_problem (problems.OtherAnswers service kind has_no_rule lets_nobody_in) = of_answer service kind has_no_rule lets_nobody_in
of_problem problems.LeftOver = refl
of_problem problems.JumpIntoInclude = refl
of_problem problems.NoFunction = refl
of_problem (problems.CallerIsRoot is_daemon) = of_caller is_daemon
of_problem problems.EmptySeparator = refl
of_problem problems.UnknownModule = refl
of_problem problems.SuccessNeverCounts = refl
of_problem problems.LinkOutside = refl
of_problem (problems.StoredThoughRefused by) = of_refuser by
of_problem (problems.NotCounted counts) = of_half counts
of_problem problems.NoFailureCounted = refl
of_problem (problems.Argument argument wrong) = of_argument argument wrong
of_problem (problems.BadArguments lack) = of_lack lack

-- TWO PROBLEMS HAVE TWO PLACES
pub spot-from_place : (one other : Spot) → place_of one ≡ place_of other → one ≡ other
unfolding place_of
spot-from_place one other h =
    let file : one.file ≡ other.file = ap (λ (p : Place). p.file) h in
    let line : one.line ≡ other.line = ap (λ (p : Place). p.line) h in
    let problem : one.problem ≡ other.problem =
    sym (of_problem one.problem) ∙ ap (λ (p : Place). problem_of p.rank p.service p.kind) h ∙ of_problem other.problem in
    ap (λ (x : Option ℕ). let s : Spot = record { file = x; line = one.line; problem = one.problem } in s) file
    ∙ ap (λ (x : ℕ). let s : Spot = record { file = other.file; line = x; problem = one.problem } in s) line
    ∙ ap (λ (x : Problem). let s : Spot = record { file = other.file; line = other.line; problem = x } in s) problem

-- ONE FINDING IS PUT

-- where a problem is put, and where it is not
pub put-one : (old new : Table) (spot : Spot) (finding : Finding) (value : Spot → Option Finding → Finding) →
    Updates compare_places old new (place_of spot) (Some finding) → finding ≡ value spot (finding_at old spot) → finding.problem ≡ spot.problem →
    Puts (λ other. other ≡ spot) value old new
unfolding place_of
put-one old new spot finding value updates is_value is_problem =
    let key : Place = place_of spot in
    record {
      each = λ other. elim (cases_Bool (is_at (compare_places key) (place_of other))) [
        | inl t ↦
            let same : other ≡ spot = sym (spot-from_place spot other (tells_apart exact_places key (place_of other) t)) in
            inl (
              same,
              updates.0 (place_of other) ∙ ap (λ b. cond b (Some finding) (finding_at old other)) t
                  ∙ ap (λ x. Some x) (is_value ∙ ap (λ (s : Spot). value s (finding_at old s)) (sym same)),
            )
        | inr f ↦ inr (
          (λ same. false≢true (sym f ∙ ap (λ (s : Spot). is_at (compare_places key) (place_of s)) same
              ∙ ap is_eq (tied_itself places_total key))),
          updates.2 (place_of other) f,
        )
      ];
      placed = λ were place. elim (cases_Bool (is_at (compare_places key) place)) [
        | inl t ↦
            let same : key ≡ place = tells_apart exact_places key place t in
            let now : get compare_places new place ≡ Some finding =
            updates.0 place ∙ ap (λ b. cond b (Some finding) (get compare_places old place)) t in
            let P : Option Finding → Type 0 = λ o. IfSome o (λ f. place ≡ place_of record { file = place.file; line = place.line; problem = f.problem }) in
            let at_key : key ≡ place_of record { file = key.file; line = key.line; problem = finding.problem } =
            ap (λ (x : Problem). place_of record { file = spot.file; line = spot.line; problem = x }) (sym is_problem) in
            let Q : Place → Type 0 = λ q. q ≡ place_of record { file = q.file; line = q.line; problem = finding.problem } in
            subst P (sym now) (subst Q same at_key)
        | inr f ↦
            let P : Option Finding → Type 0 = λ o. IfSome o (λ f. place ≡ place_of record { file = place.file; line = place.line; problem = f.problem }) in
            subst P (sym (updates.2 place f)) (were place)
      ];
    }

pub removed-one : (old new : Table) (spot : Spot) (key : Place) → key ≡ place_of spot → Updates compare_places old new key None →
    Removes (λ other. other ≡ spot) old new
unfolding place_of
removed-one old new spot key is updates =
    let at : key ≡ place_of spot = is in
    record {
      each = λ other. elim (cases_Bool (is_at (compare_places key) (place_of other))) [
        | inl t ↦
            let none : Option Finding = None in
            inl (
              sym (spot-from_place spot other (sym at ∙ tells_apart exact_places key (place_of other) t)),
              updates.0 (place_of other) ∙ ap (λ b. cond b none (finding_at old other)) t,
            )
        | inr f ↦ inr (
          (λ same. false≢true (sym f ∙ ap (λ (s : Spot). is_at (compare_places key) (place_of s)) same
              ∙ ap (λ (k : Place). is_at (compare_places key) k) (sym at) ∙ ap is_eq (tied_itself places_total key))),
          updates.2 (place_of other) f,
        )
      ];
      placed = λ were place.
          let P : Option Finding → Type 0 = λ o. IfSome o (λ f. place ≡ place_of record { file = place.file; line = place.line; problem = f.problem }) in
          elim (cases_Bool (is_at (compare_places key) place)) [
            | inl t ↦
                let none : Option Finding = None in
                subst P (sym (updates.0 place ∙ ap (λ b. cond b none (get compare_places old place)) t)) tt
            | inr f ↦ subst P (sym (updates.2 place f)) (were place)
          ];
    }

pub put-at : (old new : Table) (spot : Spot) (key : Place) (finding : Finding) (value : Spot → Option Finding → Finding) → key ≡ place_of spot →
    Updates compare_places old new key (Some finding) → finding ≡ value spot (finding_at old spot) → finding.problem ≡ spot.problem →
    Puts (λ other. other ≡ spot) value old new
put-at old new spot key finding value is updates is_value is_problem =
    let P : Place → Type 0 = λ k. Updates compare_places old new k (Some finding) in
    put-one old new spot finding value (subst P is updates) is_value is_problem
