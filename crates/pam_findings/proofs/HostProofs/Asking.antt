-- The modules that are never asked, and the others.
use Rattle.std.proofs.Common.{◌≡◌, ℕ, true, false, List, refl, sym, ◌∙◌, subst}
use Rattle.std.specs.Prelude.{◌==◌}
use Rattle.std.specs.List.{list_any}
use Rattle.std.proofs.lemmas.Bool.{eq-eqb, eqb-true, false≢true}
use Rattle.pam_conf.specs.Stack.{Items}
use Rattle.pam_text.specs.Members.{Member}
use Rattle.pam_paths.proofs.Alike.{list_any_back, list_any_from}
use Rattle.pam_findings.specs.host.inner.Looked.{OfModule}
use Rattle.pam_findings.specs.host.inner.Table.{Adds}
use Rattle.pam_findings.specs.declared.host.problem.Problem.{Problem}
use Rattle.pam_findings.specs.declared.host.problem.Spot.{Spot}
use Rattle.pam_findings.proofs.HostProofs.Adding.{adds-if, adds-unless}

module _ (problem : Problem) (items : Items) (numbers : List ℕ) (number : ℕ) where
  pub adds-listed : (spots : List Spot) → list_any (λ n. n == number) numbers ≡ true →
      Adds (λ spot. (Member number numbers → ⊥) × OfModule problem items number spot) spots spots
  adds-listed spots h =
      let k = list_any_back (λ n. n == number) numbers h in
      adds-unless (Member number numbers → ⊥) (OfModule problem items number) spots
      (λ none. none (subst (λ n. Member n numbers) (eqb-true k.0 number k.2) k.1))

  pub adds-unlisted : (old new : List Spot) → list_any (λ n. n == number) numbers ≡ false → Adds (OfModule problem items number) old new →
      Adds (λ spot. (Member number numbers → ⊥) × OfModule problem items number spot) old new
  adds-unlisted old new h k =
      adds-if (Member number numbers → ⊥) (OfModule problem items number) old new
      (λ m. false≢true (sym h ∙ list_any_from (λ n. n == number) numbers number m (eq-eqb number number refl))) k
