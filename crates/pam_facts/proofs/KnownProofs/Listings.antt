-- Listings of paths under knowledges that allow each module the same codes.
use Rattle.std.proofs.Common.{ℕ, sym, ◌∙◌}
use Rattle.pam_dispatch.specs.Runs.{Assignment}
use Rattle.pam_paths.specs.Listing.{Allowance, IsAllowed, IsAllowedPath}
use Rattle.pam_paths.specs.Paths.{PathValue}
use Rattle.pam_facts.specs.known.Knowledge.{Agree}
use Rattle.pam_facts.specs.known.Laws.{SameListing, SameListingAfter, SameListingBefore}

agree_back : (n : ℕ) (one other : Allowance) → Agree n one other → Agree n other one
agree_back n one other agree number code first last small = sym (agree number code first last small)

same_assignment : (n : ℕ) (one other : Allowance) (answers : Assignment) → Agree n one other → IsAllowed one n answers → IsAllowed other n answers
same_assignment n one other answers agree is_allowed m first last =
    let here = is_allowed m first last in
    (here.0, sym (agree m (answers m) first last here.0) ∙ here.1)

same_path : (n : ℕ) (one other : Allowance) (path_by : Assignment → PathValue) (path : PathValue) → Agree n one other →
    IsAllowedPath one n path_by path → IsAllowedPath other n path_by path
same_path n one other path_by path agree way = (way.0, same_assignment n one other way.0 agree way.1, way.2)

pub same_listing : SameListing
same_listing n one other path_by paths agree listing = record {
  rising = listing.rising;
  members = λ path. (
    λ member. same_path n one other path_by path agree ((listing.members path).0 member),
    λ way. (listing.members path).1 (same_path n other one path_by path (agree_back n one other agree) way),
  );
}

pub same_listing_after : SameListingAfter
same_listing_after n one other path_by key paths agree listing = record {
  rising = listing.rising;
  members = λ path. (
    λ member. let way = (listing.members path).0 member in (same_path n one other path_by path agree way.0, way.1),
    λ way. (listing.members path).1 (same_path n other one path_by path (agree_back n one other agree) way.0, way.1),
  );
}

pub same_listing_before : SameListingBefore
same_listing_before n one other path_by key paths agree listing = record {
  falling = listing.falling;
  members = λ path. (
    λ member. let way = (listing.members path).0 member in (same_path n one other path_by path agree way.0, way.1),
    λ way. (listing.members path).1 (same_path n other one path_by path (agree_back n one other agree) way.0, way.1),
  );
}
