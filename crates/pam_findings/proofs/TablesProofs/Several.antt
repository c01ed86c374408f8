-- The problems of access tables, one table after another.
use Rattle.std.proofs.Common.{◌≡◌, ℕ, ◌+◌, List, [], ◌∷◌, ◌++◌, sym, ◌∙◌, ap, append_assoc}
use Rattle.std.proofs.lemmas.List.{append-nil}
use Rattle.pam_tables.specs.Options.{Options}
use Rattle.pam_findings.specs.tables.Tables.{access_problems, all_access_problems}
use Rattle.pam_findings.specs.declared.tables.problem.TableFinding.{TableFinding}

pub access-more : (options : Options) (n : ℕ) (bytes : List ℕ) (left rest : List (List ℕ)) (old new all : List TableFinding) → left ≡ bytes ∷ rest →
    new ≡ old ++ access_problems options n bytes → old ++ all_access_problems options n left ≡ all →
    new ++ all_access_problems options (n + 1) rest ≡ all
access-more options n bytes left rest old new all more pushed so_far =
    ap (λ (p : List TableFinding). p ++ all_access_problems options (n + 1) rest) pushed
    ∙ append_assoc old (access_problems options n bytes) (all_access_problems options (n + 1) rest)
    ∙ sym (ap (λ (c : List (List ℕ)). old ++ all_access_problems options n c) more) ∙ so_far

pub access-end : (options : Options) (n : ℕ) (left : List (List ℕ)) (old all : List TableFinding) → left ≡ [] →
    old ++ all_access_problems options n left ≡ all → old ≡ all
access-end options n left old all end so_far =
    sym (append-nil old) ∙ sym (ap (λ (c : List (List ℕ)). old ++ all_access_problems options n c) end) ∙ so_far
