-- What is wrong with a folder itself.
use Rattle.std.proofs.Common.{◌≡◌, ◌⊎◌, ℕ, ◌+◌, ◌<◌, Bool, true, false, cond, ◌&&◌, not, List, [], length, refl, sym, ◌∙◌, ap, subst, inl, inr, arith}
use Rattle.std.proofs.Common.{Option, Some, None, codes, slice_get}
use Rattle.std.specs.Option.{option_map, option_map_or}
use Rattle.std.specs.Prelude.{◌==◌}
use Rattle.std.proofs.lemmas.Bool.{and_from, and_parts, cases_Bool, cases_eq, eqb-true, eq-eqb, false≢true}
use Rattle.std.proofs.lemmas.List.{length-map}
use Rattle.std.proofs.lemmas.Option.{slice_get-map, slice_get_within}
use Rattle.pam_conf.specs.Files.{Folder, Named}
use Rattle.pam_conf.specs.Targets.{is_target}
use Rattle.pam_conf.specs.declared.rule.Form.TheVariants.{Dir}
use Rattle.pam_findings.specs.host.FolderProblems.{folder_has, has_file, is_folder, is_of_folder, is_unread, is_unreachable, names_in, none_is_named}
use Rattle.pam_findings.specs.host.inner.OfFolder.{HasNameProblem, IsNameProblem, LacksOther, problem_of_name}
use Rattle.pam_conf.specs.Services.{has_capital, is_left_over}
use Rattle.pam_findings.specs.host.inner.Table.{Puts, Table, with_met}
use Rattle.pam_findings.specs.declared.host.problem.Problem.{Problem}
use Rattle.pam_findings.specs.declared.host.problem.Problem.TheVariants as problems
use Rattle.pam_findings.specs.declared.host.problem.Spot.{Spot}
use Rattle.pam_findings.proofs.HostProofs.Passes.{puts-both, puts-iff, settles-met}

-- one more name
pub names-more : (folder : Folder) (n : ℕ) (name : List ℕ) (old middle new : Table) → slice_get (names_in folder) n ≡ Some name →
    Puts (IsNameProblem folder n) (with_met None) old middle → Puts (HasNameProblem folder name n) (with_met None) middle new →
    Puts (IsNameProblem folder (n + 1)) (with_met None) old new
names-more folder n name old middle new is so_far one =
    puts-iff (λ spot. IsNameProblem folder n spot ⊎ HasNameProblem folder name n spot) (IsNameProblem folder (n + 1)) (with_met None) old new
    (λ spot. (
      λ h. elim h [
        | inl p ↦ record { position = p.position; within = omega (arith, p.within); name = p.name; is_name = p.is_name; has = p.has }
        | inr k ↦ record { position = n; within = omega arith; name = name; is_name = is; has = k }
      ],
      λ p. elim (cases_eq p.position n) [
        | inl e ↦
            let same : Some p.name ≡ Some name = sym p.is_name ∙ ap (slice_get (names_in folder)) e ∙ is in
            let equal : p.name ≡ name = cc in
            inr (subst (λ k. HasNameProblem folder name k spot) e (subst (λ l. HasNameProblem folder l p.position spot) equal p.has))
        | inr ne ↦ inl record { position = p.position; within = omega (arith, p.within, ne); name = p.name; is_name = p.is_name; has = p.has }
      ],
    ))
    (puts-both (IsNameProblem folder n) (HasNameProblem folder name n) (with_met None) old middle new (settles-met None) so_far one)

pub name-of : (folder : Folder) (n : ℕ) (name : List ℕ) → option_map (λ f. f.0) (slice_get folder.entries n) ≡ Some name → slice_get (names_in folder) n
    ≡ Some name
name-of folder n name is = slice_get-map (λ (f : Named). f.0) folder.entries n ∙ is

-- THE PROBLEM OF A NAME

name_rest : Folder → List ℕ → Option Problem
name_rest folder name = cond (is_unread folder name) (Some problems.UnreachableName) None

-- a name with a problem is left over, or it is not and nothing reads it
name-cases : (folder : Folder) (name : List ℕ) (problem : Problem) → problem_of_name folder name ≡ Some problem →
    ((problem ≡ problems.LeftOver) × (is_left_over name ≡ true)) ⊎ ((problem ≡ problems.UnreachableName) × (is_unread folder name ≡ true))
unfolding name_rest
name-cases folder name problem h = elim (cases_Bool (is_left_over name)) [
  | inl t ↦
      let k : Some problems.LeftOver ≡ Some problem = sym (ap (λ b. cond b (Some problems.LeftOver) (name_rest folder name)) t) ∙ h in
      inl (cc, t)
  | inr f ↦
      let k : name_rest folder name ≡ Some problem = sym (ap (λ b. cond b (Some problems.LeftOver) (name_rest folder name)) f) ∙ h in
      elim (cases_Bool (is_unread folder name)) [
        | inl t ↦
            let l : Some problems.UnreachableName ≡ Some problem = sym (ap (λ b. cond b (Some problems.UnreachableName) None) t) ∙ k in
            inr (cc, t)
        | inr g ↦
            let none : Option Problem = None in
            let l : none ≡ Some problem = sym (ap (λ b. cond b (Some problems.UnreachableName) None) g) ∙ k in
            absurd cc
      ]
]

not-true : (b : Bool) → not b ≡ true → b ≡ false
not-true true h = absurd (false≢true h)
not-true false h = refl

name-left_over : (folder : Folder) (name : List ℕ) → is_left_over name ≡ true → problem_of_name folder name ≡ Some problems.LeftOver
unfolding name_rest
name-left_over folder name t = ap (λ b. cond b (Some problems.LeftOver) (name_rest folder name)) t

name-unread : (folder : Folder) (name : List ℕ) → is_unread folder name ≡ true → problem_of_name folder name ≡ Some problems.UnreachableName
unfolding name_rest
name-unread folder name t =
    let unreachable = (and_parts (is_unreachable name) (not (is_target folder name)) t).0 in
    let not_left = not-true (is_left_over name) (and_parts (has_capital name) (not (is_left_over name)) unreachable).1 in
    ap (λ b. cond b (Some problems.LeftOver) (name_rest folder name)) not_left ∙ ap (λ b. cond b (Some problems.UnreachableName) None) t

-- THE PROBLEMS OF A FOLDER

named : (test : List ℕ → Bool) (o : Option (List ℕ)) → option_map_or test o false ≡ true → (name : List ℕ) × (o ≡ Some name) × (test name ≡ true)
named test None h = absurd (false≢true h)
named test (Some name) h = (name, refl, h)

module _ (folder : Folder) where
  in-folder : (spot : Spot) → LacksOther folder spot ⊎ IsNameProblem folder (length folder.entries) spot →
      (spot.line ≡ 0) × (folder_has folder spot.file spot.problem ≡ true)
  in-folder spot (inl k) =
      (k.line, ap (folder_has folder spot.file) k.problem ∙ ap (λ f. folder_has folder f problems.NoOther) k.file ∙ ap not k.none)
  in-folder spot (inr p) =
      let found = ap (λ f. folder_has folder f spot.problem) p.has.file in
      elim (name-cases folder p.name spot.problem p.has.problem) [
        | inl k ↦ (p.has.line, found ∙ ap (folder_has folder (Some p.position)) k.0 ∙ ap (λ o. option_map_or is_left_over o false) p.is_name ∙ k.1)
        | inr k ↦ (p.has.line, found ∙ ap (folder_has folder (Some p.position)) k.0 ∙ ap (λ o. option_map_or (is_unread folder) o false) p.is_name ∙ k.1)
      ]

  inside : (n : ℕ) (name : List ℕ) → slice_get (names_in folder) n ≡ Some name → n < length folder.entries
  inside n name is = omega (arith, slice_get_within (names_in folder) n name is, length-map folder.entries (λ (f : Named). f.0))

  from-folder : (file : Option ℕ) (line : ℕ) (problem : Problem) → line ≡ 0 → folder_has folder file problem ≡ true →
      (let s : Spot = record { file = file; line = line; problem = problem } in LacksOther folder s ⊎ IsNameProblem folder (length folder.entries) s)
  from-folder None line problems.NoOther first h =
      inl record { file = refl; line = first; problem = refl; none = not-true (has_file (codes "other") (names_in folder)) h }
  from-folder (Some file) line problems.NoOther first h = absurd (false≢true h)
  from-folder None line problems.UnreachableName first h = absurd (false≢true h)
  from-folder (Some file) line problems.UnreachableName first h =
      let k = named (is_unread folder) (slice_get (names_in folder) file) h in
      inr record {
        position = file;
        within = inside file k.0 k.1;
        name = k.0;
        is_name = k.1;
        has = record { file = refl; line = first; problem = name-unread folder k.0 k.2 };
      }
  from-folder None line problems.LeftOver first h = absurd (false≢true h)
  from-folder (Some file) line problems.LeftOver first h =
      let k = named is_left_over (slice_get (names_in folder) file) h in
      inr record {
        position = file;
        within = inside file k.0 k.1;
        name = k.0;
        is_name = k.1;
        has = record { file = refl; line = first; problem = name-left_over folder k.0 k.2 };
      }
  from-folder file line (problems.Fault fault) first h = absurd (false≢true h)
  from-folder file line (problems.Walk fault) first h = absurd (false≢true h)
  from-folder file line (problems.Released difference) first h = absurd (false≢true h)
  from-folder file line (problems.IncludedFromVendor is_at_include) first h = absurd (false≢true h)
  from-folder file line (problems.LetsNobodyIn service kind) first h = absurd (false≢true h)
  from-folder file line (problems.LetsAnybodyIn service is_greeter) first h = absurd (false≢true h)
  from-folder file line problems.JumpPastEnd first h = absurd (false≢true h)
  from-folder file line problems.NeverAsked first h = absurd (false≢true h)
  from-folder file line (problems.NoModule is_dashed) first h = absurd (false≢true h)
  from-folder file line (problems.TooLarge service kind) first h = absurd (false≢true h)
  from-folder file line (problems.OtherAnswers service kind has_no_rule lets_nobody_in) first h = absurd (false≢true h)
  from-folder file line problems.JumpIntoInclude first h = absurd (false≢true h)
  from-folder file line problems.NoFunction first h = absurd (false≢true h)
  from-folder file line (problems.CallerIsRoot is_daemon) first h = absurd (false≢true h)
  from-folder file line (problems.Argument argument wrong) first h = absurd (false≢true h)
  from-folder file line (problems.BadArguments lack) first h = absurd (false≢true h)
  from-folder file line problems.EmptySeparator first h = absurd (false≢true h)
  from-folder file line problems.UnknownModule first h = absurd (false≢true h)
  from-folder file line problems.LinkOutside first h = absurd (false≢true h)
  from-folder file line (problems.StoredThoughRefused by) first h = absurd (false≢true h)
  from-folder file line problems.NoFailureCounted first h = absurd (false≢true h)
  from-folder file line (problems.NotCounted counts) first h = absurd (false≢true h)
  from-folder file line problems.SuccessNeverCounts first h = absurd (false≢true h)

-- with no names, the problems of a folder are these
pub whole-folder : (folder : Folder) (named : List (List ℕ)) → folder.form ≡ Dir → named ≡ [] → (old new : Table) →
    Puts (λ spot. LacksOther folder spot ⊎ IsNameProblem folder (length folder.entries) spot) (with_met None) old new →
    Puts (λ spot. is_of_folder folder named spot ≡ true) (with_met None) old new
whole-folder folder named dir none old new h =
    puts-iff (λ spot. LacksOther folder spot ⊎ IsNameProblem folder (length folder.entries) spot) (λ spot. is_of_folder folder named spot ≡ true)
    (with_met None) old new
    (λ spot.
    let front = is_folder folder.form && none_is_named named in
    let is_front : front ≡ true = and_from (is_folder folder.form) (none_is_named named) (ap is_folder dir) (ap none_is_named none) in (
      λ k. let i = in-folder folder spot k in
          and_from (front && (spot.line == 0)) (folder_has folder spot.file spot.problem)
          (and_from front (spot.line == 0) is_front (eq-eqb spot.line 0 i.0)) i.1,
      λ t. let parts = and_parts (front && (spot.line == 0)) (folder_has folder spot.file spot.problem) t in
          from-folder folder spot.file spot.line spot.problem (eqb-true spot.line 0 (and_parts front (spot.line == 0) parts.0).1) parts.1,
    ))
    h
