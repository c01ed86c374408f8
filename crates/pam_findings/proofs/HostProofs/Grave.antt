-- Findings that are no notes, and where the faults of a file are.
use Rattle.std.proofs.Common.{◌≡◌, ℕ, ◌<◌, ◌&&◌, Bool, false, true, not, List, [], ◌∷◌, length, get_or, slice_get, refl, sym, ◌∙◌, ap, subst, inl, inr, suc, zero, arith}
use Rattle.std.proofs.Common.{Option, Some, None, if◌then◌else◌}
use Rattle.std.specs.List.{list_any}
use Rattle.std.specs.Option.{option_and_then, option_map, option_map_or}
use Rattle.std.proofs.lemmas.Bool.{cases_Bool, false≢true, or_cases}
use Rattle.std.proofs.lemmas.Option.{slice_get_within}
use Rattle.pam_codes.specs.declared.error.ControlError.TheVariants.{BadControl}
use Rattle.pam_conf.specs.Files.{Named}
use Rattle.pam_conf.specs.Stack.{ModuleText}
use Rattle.pam_conf.specs.declared.error.FaultKind.{FaultKind}
use Rattle.pam_conf.specs.declared.error.FaultKind.TheVariants as faults
use Rattle.pam_conf.specs.declared.rule.Form.{Form}
use Rattle.pam_conf.specs.declared.rule.Form.TheVariants.{Dir, Single}
use Rattle.pam_conf.specs.declared.rule.Kind.{Kind}
use Rattle.pam_facts.specs.Answers.{is_there}
use Rattle.pam_text.specs.Members.{Member}
use Rattle.pam_paths.proofs.Alike.{Member-codes}
use Rattle.pam_findings.specs.host.FileProblems.{files_read}
use Rattle.pam_findings.specs.host.Levels.{level_of_argument}
use Rattle.pam_findings.specs.host.MissingFiles.{absence_of, may_lack_file, missing_by, names_file}
use Rattle.pam_findings.specs.host.Rows.{row_of_fault}
use Rattle.pam_explain.specs.declared.explanation.Level.TheVariants.{Note, Warning}
use Rattle.pam_findings.specs.declared.host.problem.ArgumentProblem.{ArgumentProblem}
use Rattle.pam_findings.specs.declared.host.problem.ArgumentProblem.TheVariants.{MissingFile}

-- no fault is a note
pub grave : (fault : FaultKind) → (row_of_fault fault).level ≡ Note → ⊥
grave (faults.Control BadControl) h = cc
grave (faults.Control error) h = cc
grave fault h = cc

-- LISTS

pub at-index : {X : Type 0} (xs : List X) (k : ℕ) (d : X) → k < length xs → Member (get_or xs k d) xs
unfolding Member
at-index [] k d h = absurd (omega (arith, h))
at-index (x ∷ xs) zero d h = inl refl
at-index (x ∷ xs) (suc k) d h = inr (at-index xs k d (omega (arith, h)))

pub first-in : {X : Type 0} (x : X) (xs all : List X) → all ≡ x ∷ xs → Member x all
unfolding Member
first-in x xs all is = subst (Member x) (sym is) (inl refl)

-- a file that is reached is read
pub reached-read : (form : Form) (files : ℕ) (reached : List ℕ) (file : ℕ) → Member file reached → file < files → Member file (files_read form files reached)
reached-read Dir files reached file there within = there
reached-read Single files reached file there within = Member-codes 0 files file (omega arith) (omega (arith, within))

pub there-within : (entries : List Named) (file : ℕ) (o : Option Named) → slice_get entries file ≡ o → (bytes : List ℕ) → option_map (λ f. f.1) o ≡ Some bytes →
    file < length entries
there-within entries file None is bytes h = absurd cc
there-within entries file (Some f) is bytes h = slice_get_within entries file f is

-- a file that is not there is no note
pub missing-warns : (files : Option (List (List ℕ))) (kind : Kind) (rule : ModuleText) (wrong : ArgumentProblem) (o : Option (List ℕ)) →
    option_and_then (missing_by files kind rule) o ≡ Some wrong → level_of_argument wrong ≡ Warning
missing-warns files kind rule wrong None h = absurd (let no : None ≡ Some wrong = h in cc)
missing-warns files kind rule wrong (Some word) h =
    elim (cases_Bool (names_file kind rule.path word && (not (may_lack_file rule) && not (is_there files word)))) [
      | inl t ↦
          let absence : ArgumentProblem = MissingFile (absence_of rule.path) in
          let is : Some absence ≡ Some wrong = sym (ap (λ (b : Bool). let o : Option ArgumentProblem = if b then Some absence else None in o) t) ∙ h in
          let same : absence ≡ wrong = cc in
          ap level_of_argument (sym same)
      | inr f ↦
          let absence : ArgumentProblem = MissingFile (absence_of rule.path) in
          let no : None ≡ Some wrong = sym (ap (λ (b : Bool). let o : Option ArgumentProblem = if b then Some absence else None in o) f) ∙ h in
          absurd cc
    ]

-- some word passes a test, at a position
pub some-at : (test : List ℕ → Bool) (words : List (List ℕ)) → list_any test words ≡ true →
    (position : ℕ) × (option_map_or test (slice_get words position) false ≡ true)
some-at test [] h = absurd (false≢true h)
some-at test (word ∷ words) h = elim (or_cases (test word) (list_any test words) h) [
  | inl here ↦ (0, here)
  | inr later ↦ let again = some-at test words later in (suc again.0, again.1)
]
