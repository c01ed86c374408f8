-- Modules that may answer the same.
use Rattle.std.proofs.Common.{◌≡◌, ◌∙◌, ◌+◌, ℕ, List, ap, arith, inl, inr, subst, sym, unwrap_or}
use Rattle.std.proofs.lemmas.Bool.{cases_eq}
use Rattle.std.specs.Prelude.{Result, Ok, Err}
use Rattle.pam_codes.specs.Set.{codes_where, is_in}
use Rattle.pam_codes.specs.inner.SetBits.{is_in-codes_where}
use Rattle.pam_conf.specs.Stack.{Items, module_count}
use Rattle.pam_conf.specs.declared.rule.Kind.{Kind}
use Rattle.pam_facts.proofs.KnownProofs.FaultSteps.{is_fault_of}
use Rattle.pam_facts.specs.Answers.{Allows}
use Rattle.pam_facts.specs.known.Answers.{IsFault}
use Rattle.pam_facts.specs.known.Knowledge.{◌>>=◌, Agree, Knows, knowledge}
use Rattle.pam_facts.specs.declared.known.error.KnownError.{KnownError}
use Rattle.pam_paths.specs.Listing.{Allowance}
use Rattle.pam_paths.specs.declared.knowledge.Known.{Known}
use Rattle.pam_conf.specs.declared.rule.Kind.TheVariants.{Auth}
use Rattle.pam_facts.specs.known.Tables.{TablesText}
use Rattle.pam_tables.specs.Returns.{ReturnLine}
use Rattle.pam_policy.specs.host.Answers.{answers_of, checked_with, lines_in, with_checked, with_settings}
use Rattle.pam_policy.specs.host.Sources.{SourcesText, login_to}

pub agree-none : (one other : Allowance) → Agree 0 one other
agree-none one other number code low high small = absurd (omega (arith, low, high))

pub agree-more : (i : ℕ) (one other : Allowance) → Agree i one other → codes_where (one (i + 1)) ≡ codes_where (other (i + 1)) → Agree (i + 1) one other
agree-more i one other before same number code low high small = elim (cases_eq number (i + 1)) [
  | inl e ↦
      ap (λ (k : ℕ). one k code) e
      ∙ sym (is_in-codes_where (one (i + 1)) code small)
      ∙ ap (is_in code) same
      ∙ is_in-codes_where (other (i + 1)) code small
      ∙ sym (ap (λ (k : ℕ). other k code) e)
  | inr ne ↦ before number code low (omega (arith, ne, high)) small
]

pub agree-trans : (n : ℕ) (a b c : Allowance) → Agree n a b → Agree n b c → Agree n a c
agree-trans n a b c first second number code low high small = first number code low high small ∙ second number code low high small

-- in auth the modules that check have no ignore, with the lines of the returns file
pub by-lines : (n : ℕ) (kind : Kind) (tables : TablesText) (lines : List ReturnLine) (items : Items) (known : Known) (base : ℕ → List ℕ) →
    kind ≡ Auth → lines ≡ lines_in tables → Allows n known (λ number. unwrap_or (checked_with tables lines items number) (base number)) →
    Allows n known (with_checked kind tables items base)
by-lines n kind tables lines items known base is same h =
    subst (λ (k : Kind). Allows n known (with_checked k tables items base)) (sym is)
    (subst (λ (ls : List ReturnLine). Allows n known (λ number. unwrap_or (checked_with tables ls items number) (base number))) same h)

-- WHAT IS KNOWN, with what is set
module _ (sources : SourcesText) (name : List ℕ) (kind : Kind) (items : Items) where
  abbrev then_set : Result (ℕ → List ℕ) KnownError → Result (ℕ → List ℕ) KnownError
  then_set told = told >>= λ codes. Ok (with_settings sources items (with_checked kind sources.tables items codes))

  all-set : (told : Result (ℕ → List ℕ) KnownError) → knowledge kind (login_to sources.visitor name) sources.tables items ≡ told →
      answers_of sources name kind items ≡ then_set told
  unfolding answers_of
  all-set told is = ap then_set is

  pub set-fault : (e : KnownError) → IsFault e (knowledge kind (login_to sources.visitor name) sources.tables items ≡ Err e) →
      IsFault e (answers_of sources name kind items ≡ Err e)
  set-fault e = is_fault_of {A = knowledge kind (login_to sources.visitor name) sources.tables items ≡ Err e}
      {B = answers_of sources name kind items ≡ Err e} e (all-set (Err e))

  pub set-known : (before after : Known) → Knows (module_count items) (Ok before) (knowledge kind (login_to sources.visitor name) sources.tables items) →
      ((codes : ℕ → List ℕ) → Allows (module_count items) before codes
      → Allows (module_count items) after (with_settings sources items (with_checked kind sources.tables items codes))) →
      Knows (module_count items) (Ok after) (answers_of sources name kind items)
  set-known before after told put =
      (with_settings sources items (with_checked kind sources.tables items told.0), all-set (Ok told.0) told.1, put told.0 told.2)
