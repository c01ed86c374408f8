-- The knowledge of a stack, from its parts.
use Rattle.std.proofs.Common.{◌≡◌, ◌≤◌, ℕ, List, [], sym, ◌∙◌, ap, subst}
use Rattle.std.specs.Prelude.{Option, Some, None, Result, Ok, Err}
use Rattle.pam_conf.specs.Stack.{Items, module_count}
use Rattle.pam_conf.specs.declared.rule.Kind.{Kind}
use Rattle.pam_facts.specs.Answers.{Allows}
use Rattle.pam_facts.specs.Missing.{where_there}
use Rattle.pam_paths.specs.Known.{set_for}
use Rattle.pam_paths.specs.declared.knowledge.Known.{Known}
use Rattle.pam_tables.specs.Error.{FailsAt}
use Rattle.pam_tables.specs.Groups.{Group}
use Rattle.pam_tables.specs.Login.{LoginText}
use Rattle.pam_tables.specs.Returns.{ReturnLine, returns_of}
use Rattle.pam_tables.specs.declared.error.Table.TheVariants.{Returns}
use Rattle.pam_tables.specs.declared.error.TableError.{TableError}
use Rattle.pam_facts.specs.known.Answers.{IsFault, read_as}
use Rattle.pam_facts.specs.known.Knowledge.{◌>>=◌, Knows, codes_by, first_fault, groups_read, knowledge, line_at, numbers, returns_read, said_at}
use Rattle.pam_facts.specs.known.Knowledge.{told_at, told_knowledge, unless}
use Rattle.pam_facts.specs.known.inner.Sets.{Lets}
use Rattle.pam_facts.specs.known.Tables.{TablesText}
use Rattle.pam_facts.specs.declared.known.error.KnownError.{KnownError}
use Rattle.pam_facts.specs.declared.known.error.KnownError.TheVariants as known
use Rattle.pam_facts.proofs.KnownProofs.FaultSteps.{first, is_fault_of, read_fails}
use Rattle.pam_facts.proofs.KnownProofs.ReaderSteps.{no_lines}

module _ (kind : Kind) (login : LoginText) (tables : TablesText) (items : Items) where
  -- the codes, if the groups and the lines of the returns file are these
  abbrev pub codes_with : List Group → List ReturnLine → ℕ → List ℕ
  codes_with groups lines number =
      codes_by (told_at kind login tables groups items number) (line_at lines items number) (said_at kind tables.facts items number)

  abbrev after_returns : List Group → Result (List ReturnLine) KnownError → Result (ℕ → List ℕ) KnownError
  after_returns groups returns = returns >>= λ lines. Ok (codes_with groups lines)

  abbrev after_tables : List Group → Option KnownError → Result (ℕ → List ℕ) KnownError
  after_tables groups fault = unless fault (after_returns groups (returns_read tables.returns))

  abbrev after_groups : Result (List Group) KnownError → Result (ℕ → List ℕ) KnownError
  after_groups groups = groups >>= λ g. after_tables g (first_fault (told_at kind login tables g items) (numbers items))

  groups_fail : (e : KnownError) → groups_read tables items ≡ Err e → told_knowledge kind login tables items ≡ Err e
  unfolding told_knowledge
  groups_fail e is = ap after_groups is

  pub groups_fault : (e : KnownError) → IsFault e (groups_read tables items ≡ Err e) →
      IsFault e (told_knowledge kind login tables items ≡ Err e)
  groups_fault e =
      is_fault_of {A = groups_read tables items ≡ Err e} {B = told_knowledge kind login tables items ≡ Err e} e (groups_fail e)

  module _ (groups : List Group) (read : groups_read tables items ≡ Ok groups) where
    tables_fail : (e : KnownError) → first_fault (told_at kind login tables groups items) (numbers items) ≡ Some e →
        told_knowledge kind login tables items ≡ Err e
    unfolding told_knowledge
    tables_fail e is = ap after_groups read ∙ ap (after_tables groups) is

    pub tables_fault : (e : KnownError) → IsFault e (first_fault (told_at kind login tables groups items) (numbers items) ≡ Some e) →
        IsFault e (told_knowledge kind login tables items ≡ Err e)
    tables_fault e =
        is_fault_of {A = first_fault (told_at kind login tables groups items) (numbers items) ≡ Some e}
        {B = told_knowledge kind login tables items ≡ Err e} e (tables_fail e)

    module _ (none : first_fault (told_at kind login tables groups items) (numbers items) ≡ None) where
      returns_fail : (e : KnownError) → returns_read tables.returns ≡ Err e → told_knowledge kind login tables items ≡ Err e
      unfolding told_knowledge
      returns_fail e is = ap after_groups read ∙ ap (after_tables groups) none ∙ ap (after_returns groups) is

      pub returns_fault : (bytes : List ℕ) (e : TableError) → tables.returns ≡ Some bytes → e.table ≡ Returns → FailsAt e.fault e.line (returns_of bytes) →
          IsFault (known.Table (first e)) (told_knowledge kind login tables items ≡ Err (known.Table (first e)))
      returns_fault bytes e given same h =
          is_fault_of {A = read_as Returns (returns_of bytes) ≡ Err (known.Table (first e))}
          {B = told_knowledge kind login tables items ≡ Err (known.Table (first e))} (known.Table (first e))
          (λ is. returns_fail (known.Table (first e)) (ap returns_read given ∙ is)) (read_fails Returns e (returns_of bytes) same h)

      all_read : (lines : List ReturnLine) → returns_read tables.returns ≡ Ok lines →
          told_knowledge kind login tables items ≡ Ok (codes_with groups lines)
      unfolding told_knowledge
      all_read lines is = ap after_groups read ∙ ap (after_tables groups) none ∙ ap (after_returns groups) is

      -- if the sets of the modules are those of these lines, the knowledge is theirs
      pub known_with : (lines : List ReturnLine) (known : Known) → returns_read tables.returns ≡ Ok lines →
          ((number : ℕ) → 1 ≤ number → number ≤ module_count items → Lets (codes_with groups lines number) (set_for known number)) →
          Knows (module_count items) (Ok known) (told_knowledge kind login tables items)
      unfolding Lets
      known_with lines known is sets =
          (codes_with groups lines, all_read lines is, λ number code first last small. sets number first last code small)

      pub known_from_file : (bytes : List ℕ) (lines : List ReturnLine) (known : Known) → tables.returns ≡ Some bytes → returns_of bytes ≡ Ok lines →
          ((number : ℕ) → 1 ≤ number → number ≤ module_count items → Lets (codes_with groups lines number) (set_for known number)) →
          Knows (module_count items) (Ok known) (told_knowledge kind login tables items)
      known_from_file bytes lines known given is sets = known_with lines known (ap returns_read given ∙ ap (read_as Returns) is) sets

      pub known_from_tables : (known : Known) → tables.returns ≡ None →
          ((number : ℕ) → 1 ≤ number → number ≤ module_count items →
          Lets (codes_by (told_at kind login tables groups items number) None (said_at kind tables.facts items number)) (set_for known number)) →
          Knows (module_count items) (Ok known) (told_knowledge kind login tables items)
      known_from_tables known given sets = known_with [] known (ap returns_read given) (λ number first last.
          subst (λ (line : Option (List ℕ)).
          Lets (codes_by (told_at kind login tables groups items number) line (said_at kind tables.facts items number)) (set_for known number))
          (sym (no_lines items number)) (sets number first last))

-- the codes of modules that may not be there
module _ (kind : Kind) (login : LoginText) (tables : TablesText) (items : Items) where
  abbrev then_there : Result (ℕ → List ℕ) KnownError → Result (ℕ → List ℕ) KnownError
  then_there told = told >>= λ codes. Ok (where_there tables.there items codes)

  all_told : (told : Result (ℕ → List ℕ) KnownError) → told_knowledge kind login tables items ≡ told →
      knowledge kind login tables items ≡ then_there told
  unfolding knowledge
  all_told told is = ap then_there is

  pub knows_fault : (e : KnownError) → IsFault e (told_knowledge kind login tables items ≡ Err e) → IsFault e (knowledge kind login tables items ≡ Err e)
  knows_fault e =
      is_fault_of {A = told_knowledge kind login tables items ≡ Err e} {B = knowledge kind login tables items ≡ Err e} e (all_told (Err e))

  pub knows_there : (before after : Known) → Knows (module_count items) (Ok before) (told_knowledge kind login tables items) →
      ((codes : ℕ → List ℕ) → Allows (module_count items) before codes → Allows (module_count items) after (where_there tables.there items codes)) →
      Knows (module_count items) (Ok after) (knowledge kind login tables items)
  knows_there before after told put = (where_there tables.there items told.0, all_told (Ok told.0) told.1, put told.0 told.2)
