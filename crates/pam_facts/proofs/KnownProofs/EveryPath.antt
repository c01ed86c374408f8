-- The paths of a service, from its files and tables.
use Rattle.std.proofs.Common.{◌≡◌, ℕ, List, sym, ◌∙◌, subst}
use Rattle.std.specs.Prelude.{Ok}
use Rattle.pam_conf.specs.Files.{Folder}
use Rattle.pam_conf.specs.Resolution.{resolved}
use Rattle.pam_conf.specs.Stack.{Items, module_count}
use Rattle.pam_conf.specs.declared.rule.Kind.{Kind}
use Rattle.pam_conf.proofs.ResolvedStacks.{resolved_stack}
use Rattle.pam_dispatch.specs.Runs.{Assignment, AsksRise}
use Rattle.pam_dispatch.specs.Tree.{runs_of_stack}
use Rattle.pam_dispatch.proofs.Numbering.{AsksRise-stack}
use Rattle.pam_dispatch.proofs.OpenRuns.{decision_of-runs_of_stack}
use Rattle.pam_paths.specs.Cursor.{HasVerdict, Verdict}
use Rattle.pam_paths.specs.Listing.{Allowance, IsListing, anything}
use Rattle.pam_paths.specs.Paths.{PathValue, path_of, path_through}
use Rattle.pam_paths.proofs.LawProofs.{one_listing_proof, one_path_proof}
use Rattle.pam_paths.proofs.Listings.{listing-is, some_assignment}
use Rattle.pam_paths.proofs.Narrowing.{filter_proof}
use Rattle.pam_paths.proofs.Trees.{path_of-stack}
use Rattle.pam_paths.proofs.Verdicts.{verdict_proof}
use Rattle.pam_paths.specs.Computed.{listing}
use Rattle.pam_facts.specs.known.Knowledge.{allows_codes}
use Rattle.pam_facts.specs.known.Laws.{CursorHasOneVerdict, EveryAssignmentHasOnePath, ListingIsNarrowed, ServiceHasOneListing}
use Rattle.pam_facts.proofs.KnownProofs.SomeCodes.{known_lawful}

-- the path of an assignment through the open run is that through the tree
same_paths : (items : Items) → path_of (runs_of_stack items) ≡ path_through items
same_paths items = λ i answers. path_of-stack items answers i

-- so a listing of one is a listing of the other
on_tree : (allows : Allowance) (items : Items) (paths : List PathValue) → IsListing allows (module_count items) (path_of (runs_of_stack items)) paths →
    IsListing allows (module_count items) (path_through items) paths
on_tree allows items paths h =
    subst (λ (by : Assignment → PathValue). IsListing allows (module_count items) by paths) (same_paths items) h

on_run : (allows : Allowance) (items : Items) (paths : List PathValue) → IsListing allows (module_count items) (path_through items) paths →
    IsListing allows (module_count items) (path_of (runs_of_stack items)) paths
on_run allows items paths h =
    subst (λ (by : Assignment → PathValue). IsListing allows (module_count items) by paths) (sym (same_paths items)) h

-- the run of a resolved stack asks in order
rising : (files : Folder) (service : List ℕ) (kind : Kind) (items : Items) → resolved files service kind ≡ Ok items →
    AsksRise 0 (module_count items) (runs_of_stack items)
rising files service kind items is = AsksRise-stack items (resolved_stack files service kind items is).0

pub one_listing : ServiceHasOneListing
one_listing files service kind login tables items allowed stack codes =
    let n = module_count items in
    let allows = allows_codes allowed in
    let some = some_assignment allows n (known_lawful kind login tables items allowed codes) in
    let all = listing allows (runs_of_stack items) in
    let is = on_tree allows items all (listing-is allows n (runs_of_stack items) (rising files service kind items stack) some.0 some.1) in
    (all, is, λ other h. one_listing_proof allows n (path_through items) other all h is)

pub one_path : EveryAssignmentHasOnePath
one_path files service kind login tables items allowed stack codes paths answers is may =
    let all = one_path_proof (allows_codes allowed) (module_count items) (runs_of_stack items) paths answers (rising files service kind items stack)
    (on_run (allows_codes allowed) items paths is) may in
    record {
      path = path_of (runs_of_stack items) answers;
      listed = all.0;
      agrees = all.1;
      alone = all.2;
      decides = all.3 ∙ decision_of-runs_of_stack items answers;
    }

pub narrowed : ListingIsNarrowed
narrowed files service kind login tables items allowed stack codes paths all is_some is_all =
    filter_proof (allows_codes allowed) (module_count items) (runs_of_stack items) paths all (rising files service kind items stack)
    (known_lawful kind login tables items allowed codes) (on_run (allows_codes allowed) items paths is_some) (on_run anything items all is_all)

pub one_verdict : CursorHasOneVerdict
one_verdict files service kind items codes is small =
    let n = module_count items in
    subst (λ (by : Assignment → PathValue). (verdict : Verdict) × HasVerdict n by codes verdict
    × ((other : Verdict) → HasVerdict n by codes other → other ≡ verdict)) (same_paths items)
    (verdict_proof n (runs_of_stack items) codes (rising files service kind items is) small)
