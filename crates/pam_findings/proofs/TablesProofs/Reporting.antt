-- The report on the tables of a host, from what the passes found.
use Rattle.std.proofs.Common.{◌≡◌, ◌∙◌, ◌↔◌, ℕ, List, [], get_or, ap, sym, subst, refl, inl, inr, Bor, false, IfSome, Option, Some, None, is_some}
use Rattle.std.specs.BTreeMap.{IsOrdered}
use Rattle.std.specs.List.{All}
use Rattle.std.specs.Option.{option_map, option_map_or}
use Rattle.std.proofs.lemmas.Map.Views.{All-found}
use Rattle.pam_conf.specs.Files.{Folder}
use Rattle.pam_text.specs.Members.{Member}
use Rattle.pam_findings.specs.tables.Needs.{IsNeeded, Need, OfAccess, OfGroups, OfTime}
use Rattle.pam_findings.specs.tables.inner.Passes.{Adds, ArePlaced, Found, IsOfSome, Puts, finding_at}
use Rattle.pam_findings.specs.tables.Problems.{compare_places, place_of}
use Rattle.pam_findings.specs.tables.Report.{IsProblem, IsTableReport}
use Rattle.pam_findings.specs.tables.Tables.{TablesText, all_access_problems, beside, group_problems, problems_for, time_problems}
use Rattle.pam_findings.specs.declared.tables.problem.TableFinding.{TableFinding}
use Rattle.pam_findings.specs.declared.tables.problem.TablePlace.{TablePlace}
use Rattle.pam_findings.proofs.TablesProofs.Adding.{of-none}
use Rattle.pam_findings.proofs.TablesProofs.Places.{places_total}
use Rattle.pam_findings.proofs.TablesProofs.Putting.{puts-iff, puts-none}

module _ (folder : Folder) (services : List (List ℕ)) (tables : TablesText) where
  -- the problems of the needs are those of the host
  pub problems-of : (needs : List Need) (old new : Found) → Adds (IsNeeded folder services) [] needs → Puts (IsOfSome tables needs) old new →
      Puts (IsProblem folder services tables) old new
  problems-of needs old new adds puts =
      puts-iff (IsOfSome tables needs) (IsProblem folder services tables) old new
      (λ finding. (
        λ k. elim ((adds k.0).1 k.1) [
          | inl none ↦ absurd (of-none k.0 none)
          | inr needed ↦ record { need = k.0; is_needed = needed; is_of = k.2 }
        ],
        λ p. (p.need, (adds p.need).0 (inr p.is_needed), p.is_of),
      ))
      puts

  -- where no table is given there is none
  none-for : (need : Need) → tables.access ≡ [] → tables.time ≡ None → problems_for tables need ≡ []
  none-for OfGroups access time = ap (λ (contents : List (List ℕ)). beside contents (option_map_or group_problems tables.groups [])) access
  none-for (OfAccess options) access time = ap (all_access_problems options 0) access
  none-for OfTime access time = ap (λ (o : Option (List ℕ)). option_map_or time_problems o []) time

  pub no-problems : (found : Found) → tables.access ≡ [] → tables.time ≡ None → Puts (IsProblem folder services tables) found found
  no-problems found access time =
      puts-none (IsProblem folder services tables) found
      (λ finding p. of-none finding (subst (Member finding) (none-for p.need access time) p.is_of))

  module _ (empty found : Found) (nothing : (finding : TableFinding) → finding_at empty finding ≡ None) (placed : ArePlaced empty)
      (puts : Puts (IsProblem folder services tables) empty found) where
    row : (finding : TableFinding) → (finding_at found finding ≡ Some finding) ↔ IsProblem folder services tables finding
    row finding = (
      λ h. elim ((puts.each finding).0 h) [
        | inl p ↦ p
        | inr old ↦
            let clash : None ≡ Some finding = sym (nothing finding) ∙ old in
            absurd cc
      ],
      λ p. (puts.each finding).1 (inl p),
    )

    placed-at : IsOrdered compare_places found → All (λ entry. entry.0 ≡ place_of entry.1) found.entries
    placed-at ordered = λ k d within.
        let entry : TablePlace × TableFinding = get_or found.entries k d in
        let there = All-found places_total found ordered k d within in
        let P : Option TableFinding → Type 0 = λ o. IfSome o (λ f. entry.0 ≡ place_of f) in
        subst P there (puts.placed placed entry.0)

    pub report-from : IsOrdered compare_places found → IsTableReport folder services tables found
    report-from ordered = record { ordered = ordered; placed = placed-at ordered; rows = row }

pub no-access-given : (o : Option (Bor (List (List ℕ)))) → is_some o ≡ false → option_map_or (λ t. t.now) o [] ≡ []
no-access-given None h = refl
no-access-given (Some t) h = absurd cc

pub none-given : (o : Option (Bor (List ℕ))) → is_some o ≡ false → option_map (λ b. b.now) o ≡ None
none-given None h = refl
none-given (Some b) h = absurd cc
