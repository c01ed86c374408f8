-- S27: links that lead out of their folder.
use Rattle.std.proofs.Common.{◌≡◌, ◌⊎◌, ℕ, zero, suc, ◌+◌, ◌<◌, true, false, List, [], ◌∷◌, length, refl, sym, ◌∙◌, ap, subst, inl, inr, arith, get_or}
use Rattle.std.proofs.Common.{Bool, IfSome, Option, Some, None, slice_index_or}
use Rattle.std.specs.BTreeMap.{IsOrdered, get}
use Rattle.std.specs.List.{All, Contains}
use Rattle.std.proofs.lemmas.Bool.{cases_eq, false≢true}
use Rattle.std.proofs.lemmas.List.Elements.{All-contains}
use Rattle.std.proofs.lemmas.Map.Views.{All-found, IfSome-get}
use Rattle.pam_findings.specs.host.Laws.{IsSilent, LinksAreNotes}
use Rattle.pam_findings.specs.host.Levels.{level_of}
use Rattle.pam_findings.specs.host.Links.{IsLinkOutside, WithLinks, is_outside}
use Rattle.pam_findings.specs.host.Problems.{compare_places, place_of}
use Rattle.pam_findings.specs.host.Report.{IsPlaced}
use Rattle.pam_findings.specs.host.inner.Linked.{IsFirstLink, IsLinkAt}
use Rattle.pam_findings.specs.host.inner.Table.{ArePlaced, Puts, Table, finding_at, with_met}
use Rattle.pam_explain.specs.declared.explanation.Level.{Level}
use Rattle.pam_explain.specs.declared.explanation.Level.TheVariants.{Error, Note, Warning}
use Rattle.pam_findings.specs.declared.host.problem.Place.{Place}
use Rattle.pam_findings.specs.declared.host.problem.Problem.{Problem}
use Rattle.pam_findings.specs.declared.host.problem.Problem.TheVariants as problems
use Rattle.pam_findings.specs.declared.host.problem.Spot.{Spot}
use Rattle.pam_findings.specs.declared.host.report.Finding.{Finding}
use Rattle.pam_findings.proofs.HostProofs.Passes.{puts-both, puts-iff, puts-none, settles-met}
use Rattle.pam_findings.proofs.HostProofs.PlaceOrder.{exact_places, places_total}
use Rattle.pam_findings.proofs.HostProofs.Verdicted.{same-spot}

-- ONE FILE

pub no-link : (outside : List Bool) (position : ℕ) (table : Table) → is_outside outside (Some position) ≡ false →
    Puts (IsLinkAt outside position) (with_met None) table table
no-link outside position table f =
    puts-none (IsLinkAt outside position) (with_met None) table
    (λ spot h. false≢true (sym f ∙ ap (is_outside outside) (sym h.0) ∙ h.1.is_outside))

pub one-link : (outside : List Bool) (position : ℕ) (old new : Table) → is_outside outside (Some position) ≡ true →
    (let one : Spot = record { file = Some position; line = 0; problem = problems.LinkOutside } in
    Puts (λ spot. spot ≡ one) (with_met None) old new → Puts (IsLinkAt outside position) (with_met None) old new)
one-link outside position old new t h =
    let one : Spot = record { file = Some position; line = 0; problem = problems.LinkOutside } in
    puts-iff (λ spot. spot ≡ one) (IsLinkAt outside position) (with_met None) old new
    (λ spot. (
      λ e. subst (IsLinkAt outside position) (sym e) (refl, record { is_outside = t; line = refl; problem = refl }),
      λ k. same-spot spot one k.0 k.1.line k.1.problem,
    ))
    h

-- ALL FILES

pub links-start : (outside : List Bool) (table : Table) → Puts (IsFirstLink outside 0) (with_met None) table table
links-start outside table = puts-none (IsFirstLink outside 0) (with_met None) table (λ spot h. omega (arith, h.within))

pub links-more : (outside : List Bool) (n : ℕ) (old middle new : Table) →
    Puts (IsFirstLink outside n) (with_met None) old middle → Puts (IsLinkAt outside n) (with_met None) middle new →
    Puts (IsFirstLink outside (n + 1)) (with_met None) old new
links-more outside n old middle new so_far one =
    puts-iff (λ spot. IsFirstLink outside n spot ⊎ IsLinkAt outside n spot) (IsFirstLink outside (n + 1)) (with_met None) old new
    (λ spot. (
      λ h. elim h [
        | inl p ↦ record { position = p.position; within = omega (arith, p.within); at = p.at }
        | inr k ↦ record { position = n; within = omega arith; at = k }
      ],
      λ p. elim (cases_eq p.position n) [
        | inl e ↦ inr (subst (λ k. IsLinkAt outside k spot) e p.at)
        | inr ne ↦ inl record { position = p.position; within = omega (arith, p.within, ne); at = p.at }
      ],
    ))
    (puts-both (IsFirstLink outside n) (IsLinkAt outside n) (with_met None) old middle new (settles-met None) so_far one)

-- what is told of a position is one of what is told
told-within : (outside : List Bool) (position : ℕ) → slice_index_or outside position false ≡ true → position < length outside
told-within [] position h = absurd (false≢true h)
told-within (b ∷ bs) zero h = omega arith
told-within (b ∷ bs) (suc position) h = omega (arith, told-within bs position h)

first-link : (outside : List Bool) (spot : Spot) (file : Option ℕ) → spot.file ≡ file → is_outside outside file ≡ true →
    IsLinkOutside outside spot → IsFirstLink outside (length outside) spot
first-link outside spot None is t h = absurd (false≢true t)
first-link outside spot (Some position) is t h =
    record {
      position = position;
      within = told-within outside position t;
      at = (is, h);
    }

pub links-all : (outside : List Bool) (old new : Table) →
    Puts (IsFirstLink outside (length outside)) (with_met None) old new → Puts (IsLinkOutside outside) (with_met None) old new
links-all outside old new h =
    puts-iff (IsFirstLink outside (length outside)) (IsLinkOutside outside) (with_met None) old new
    (λ spot. (λ p. p.at.1, λ k. first-link outside spot spot.file refl k.is_outside k))
    h

-- THE FINDINGS WITH S27

if-some : (P Q : Finding → Type 0) (o : Option Finding) → ((f : Finding) → P f → Q f) → IfSome o P → IfSome o Q
if-some P Q None h k = k
if-some P Q (Some f) h k = h f k

are-placed : (table : Table) → All IsPlaced table.entries → ArePlaced table
are-placed table placed = λ place.
    if-some (λ f. Contains table.entries (place, f))
    (λ f. place ≡ place_of record { file = place.file; line = place.line; problem = f.problem }) (get compare_places table place)
    (λ f listed. All-contains IsPlaced table.entries (place, f) placed listed)
    (IfSome-get places_total exact_places table place)

all-placed : (table : Table) → IsOrdered compare_places table → ArePlaced table → All IsPlaced table.entries
all-placed table ordered placed = λ k d within.
    let entry : Place × Finding = get_or table.entries k d in
    let P : Option Finding → Type 0 = λ o. IfSome o (λ f. entry.0 ≡ place_of record { file = entry.0.file; line = entry.0.line; problem = f.problem }) in
    subst P (All-found places_total table ordered k d within) (placed entry.0)

pub with-links : (outside : List Bool) (old new : Table) → IsOrdered compare_places new →
    Puts (IsLinkOutside outside) (with_met None) old new → WithLinks outside old new
with-links outside old new ordered h = record {
  ordered = ordered;
  placed = λ placed. all-placed new ordered (h.placed (are-placed old placed));
  noted = λ spot link. elim (h.each spot) [
    | inl y ↦
        y.1 ∙ ap (λ (p : Problem). let f : Finding = record { problem = p; met = None } in let o : Option Finding = Some f in o) link.problem
    | inr n ↦ absurd (n.0 link)
  ];
  others = λ spot none. elim (h.each spot) [ inl y ↦ absurd (none y.0) | inr n ↦ n.1 ];
}

-- WHERE THEY ARE ALL NOTES, THEY WERE

unless-link : (problem : Problem) (level : Level) → level_of problem ≡ level → ((problem ≡ problems.LinkOutside → ⊥) → level_of problem ≡ Note) →
    level_of problem ≡ Note
unless-link problem Note is h = is
unless-link problem Warning is h = h (λ e. let clash : Note ≡ Warning = sym (ap level_of e) ∙ is in absurd cc)
unless-link problem Error is h = h (λ e. let clash : Note ≡ Error = sym (ap level_of e) ∙ is in absurd cc)

pub links_are_notes : LinksAreNotes
links_are_notes = λ host named old ways report outside new links silent. λ k d within.
    let entry : Place × Finding = get_or old.entries k d in
    let spot : Spot = record { file = entry.0.file; line = entry.0.line; problem = entry.1.problem } in
    let placed : entry.0 ≡ place_of spot = report.placed k d within in
    let there : get compare_places old entry.0 ≡ Some entry.1 = All-found places_total old report.ordered k d within in
    unless-link entry.1.problem (level_of entry.1.problem) refl
    (λ differs.
    let same = links.others spot (λ link. differs link.problem) in
    let still : get compare_places new (place_of spot) ≡ Some entry.1 = same ∙ ap (get compare_places old) (sym placed) ∙ there in
    let Is : Option Finding → Type 0 = λ o. IfSome o (λ f. Contains new.entries (place_of spot, f)) in
    All-contains (λ (e : Place × Finding). level_of e.1.problem ≡ Note) new.entries (place_of spot, entry.1) silent
    (subst Is still (IfSome-get places_total exact_places new (place_of spot))))
