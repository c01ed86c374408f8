-- For private contracts and proofs alone: what a pass adds to a list of needs, and to the problems that are found.
use Rattle.std.specs.Prelude.{◌≡◌, ◌⊎◌, ◌↔◌, ℕ, List, IfSome, MatchOption, Option, Some}
use Rattle.std.specs.BTreeMap.{BTreeMap, get}
use Rattle.pam_conf.specs.Files.{Folder}
use Rattle.pam_conf.specs.Stack.{Items, module_at}
use Rattle.pam_conf.specs.Survey.{surveyed}
use Rattle.pam_conf.specs.declared.rule.Kind.{Kind}
use Rattle.pam_text.specs.Members.{Member}
use Rattle.pam_tables.specs.Options.{options_of}
use Rattle.pam_findings.specs.tables.Needs.{IsNeededIn, Need, OfAccess, OfGroups, OfTime, needs_of}
use Rattle.pam_findings.specs.tables.Problems.{compare_places, place_of}
use Rattle.pam_findings.specs.tables.Tables.{TablesText, problems_for}
use Rattle.pam_findings.specs.declared.tables.needs.Needed.{Needed}
use Rattle.pam_findings.specs.declared.tables.needs.Needed.TheVariants as needed
use Rattle.pam_findings.specs.declared.tables.problem.TableFinding.{TableFinding}
use Rattle.pam_findings.specs.declared.tables.problem.TablePlace.{TablePlace}

abbrev pub need_view : Needed → Need
need_view needed.Groups = OfGroups
need_view (needed.Access arguments) = OfAccess (options_of arguments)
need_view needed.Time = OfTime

-- needs are added of which something holds
abbrev pub Adds : (Need → Type 0) → List Need → List Need → Type 0
Adds Holds old new = (need : Need) → (Member need old ⊎ Holds need) ↔ Member need new

abbrev pub Found : Type 0
Found = BTreeMap TablePlace TableFinding

abbrev pub finding_at : Found → TableFinding → Option TableFinding
finding_at found finding = get compare_places found (place_of finding)

-- each problem is at its place
abbrev pub ArePlaced : Found → Type 0
ArePlaced found = (place : TablePlace) → IfSome (get compare_places found place) (λ f. place ≡ place_of f)

-- problems are found of which something holds, and those that were found before
pub record Puts (Holds : TableFinding → Type 0) (old new : Found) : Type 0 where
  pub each : (finding : TableFinding) → (finding_at new finding ≡ Some finding) ↔ (Holds finding ⊎ (finding_at old finding ≡ Some finding))
  pub placed : ArePlaced old → ArePlaced new

-- a problem of a table that some of these need
abbrev pub IsOfSome : TablesText → List Need → TableFinding → Type 0
IsOfSome tables needs finding = (need : Need) × Member need needs × Member finding (problems_for tables need)

-- the module with a number reads it
abbrev pub IsNeededAt : Kind → Items → ℕ → Need → Type 0
IsNeededAt kind items number need = MatchOption (module_at number items) ⊥ (λ rule. Member need (needs_of kind rule))

-- a module of the stack of a service for a kind reads it
abbrev pub IsNeededFor : Folder → List ℕ → Kind → Need → Type 0
IsNeededFor folder service kind need = MatchOption (surveyed folder service kind).items ⊥ (λ items. IsNeededIn items kind need)
