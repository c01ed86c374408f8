-- The walks of a part that meet a goal, as the listing of the part.
use Rattle.std.proofs.Common.{◌≡◌, ◌∙◌, ℕ, List, codes, Some, Result, Ok, Err, ap, refl, subst, sym}
use Rattle.pam_conf.specs.Stack.{Items}
use Rattle.pam_dispatch.specs.Flat.{modules_of}
use Rattle.pam_graph.specs.Goals.{meeting}
use Rattle.pam_graph.specs.Walks.{GraphValue, walks}
use Rattle.pam_graph.specs.declared.goal.Goal.{Goal}
use Rattle.pam_page.specs.declared.listing.Listing.{Listing}
use Rattle.pam_paths.proofs.PageProofs.{part_after_proof, part_before_proof}
use Rattle.pam_paths.specs.Known.{may_answer}
use Rattle.pam_paths.specs.Listing.{IsListing, IsListingAfter, IsListingBefore}
use Rattle.pam_paths.specs.Pages.{after, before}
use Rattle.pam_paths.specs.Paths.{PathValue, path_through}
use Rattle.pam_words.specs.declared.wanted.PagePart.{PagePart}
use Rattle.pam_words.specs.declared.wanted.PagePart.TheVariants.{Whole}
use Rattle.pam_report.specs.inner.PageView.{IsRefused, IsSide, ListsPaths, ListsWalks}
use Rattle.pam_report.specs.Paths.{AreWalks, IsPart, IsProgramOf, side_of}
use Rattle.pam_report.specs.declared.fault.Fault.{Fault}
use Rattle.pam_report.specs.declared.fault.Fault.TheVariants as faults
use Rattle.pam_report.specs.declared.report.paths.Paging.{Paging}

module _ (paging : Paging) (graph : GraphValue) (goal : Goal) where
  -- of each stack that has the program, these paths are those of the part that meet the goal
  abbrev AreOfPart : PagePart → List PathValue → List ℕ → Type 0
  AreOfPart part listed to =
      (items : Items) → IsProgramOf paging.program.now items → AreWalks (Some graph) (may_answer paging.known.now) paging.program.now items
      → (given : List PathValue) × IsPart (may_answer paging.known.now) items part (Ok given) × (listed ≡ meeting goal given) × (to ≡ side_of part)

  part-listed : {K : Type 0} (found : Result (Listing K) Fault) (part : PagePart) (listed : List PathValue) (to : List ℕ) → AreOfPart part listed to
      → ListsPaths listed to found → ListsWalks paging graph goal part found
  part-listed (Ok listing) part listed to h are = λ items program walked.
      let given = h items program walked in
      (given.0, given.1, are.0 ∙ given.2, are.1 ∙ given.3)
  part-listed (Err (faults.Cursor e)) part listed to h are = absurd are
  part-listed (Err faults.Memory) part listed to h are = tt
  part-listed (Err faults.Device) part listed to h are = absurd are
  part-listed (Err faults.TooManyStates) part listed to h are = absurd are
  part-listed (Err faults.NoSuchModule) part listed to h are = absurd are
  part-listed (Err faults.NoSuchKey) part listed to h are = absurd are
  part-listed (Err faults.NoSuchNumber) part listed to h are = absurd are
  part-listed (Err faults.NoSuchService) part listed to h are = absurd are
  part-listed (Err faults.UnusedCandidate) part listed to h are = absurd are
  part-listed (Err faults.Unread) part listed to h are = absurd are
  part-listed (Err (faults.Facts e)) part listed to h are = absurd are
  part-listed (Err (faults.Policy e)) part listed to h are = absurd are
  part-listed (Err (faults.Accept e)) part listed to h are = absurd are
  part-listed (Err (faults.Conf e)) part listed to h are = absurd are
  part-listed (Err (faults.Count e)) part listed to h are = absurd are
  part-listed (Err (faults.Moment e)) part listed to h are = absurd are
  part-listed (Err (faults.Table e)) part listed to h are = absurd are
  part-listed (Err (faults.Time e)) part listed to h are = absurd are

  part-is : {K : Type 0} (found : Result (Listing K) Fault) (one other : PagePart) → other ≡ one → ListsWalks paging graph goal one found
      → ListsWalks paging graph goal other found
  part-is found one other same h = subst (λ (part : PagePart). ListsWalks paging graph goal part found) (sym same) h

  whole : AreOfPart Whole (meeting goal (walks graph)) (codes "after")
  whole items program walked =
      let known = may_answer paging.known.now in
      let all = walks graph in
      (all, subst (λ (n : ℕ). IsListing known n (path_through items) all) program.1 walked, refl, refl)

  -- all walks that meet the goal
  pub whole-listed : {K : Type 0} (found : Result (Listing K) Fault) (part : PagePart) → part ≡ Whole
      → ListsPaths (meeting goal (walks graph)) (codes "after") found → ListsWalks paging graph goal part found
  whole-listed found part same h = part-is found Whole part same (part-listed found Whole _ _ whole h)

  -- the walks after a cursor, or before it, that meet the goal
  module _ (one : PagePart) (cursor : List ℕ) where
    after-cursor : codes "after" ≡ side_of one
        → ((items : Items) → IsProgramOf paging.program.now items
        → IsSide (IsListingAfter (may_answer paging.known.now) (modules_of paging.program.now) (path_through items)) (may_answer paging.known.now)
        items one cursor)
        → AreOfPart one (meeting goal (after cursor (walks graph))) (codes "after")
    after-cursor to h items program walked =
        let rest = h items program in
        let known = may_answer paging.known.now in
        let part = part_after_proof known _ (path_through items) cursor (walks graph) _ walked rest.1 in
        (rest.0, rest.2, ap (meeting goal) (sym part), to)

    before-cursor : codes "before" ≡ side_of one
        → ((items : Items) → IsProgramOf paging.program.now items
        → IsSide (IsListingBefore (may_answer paging.known.now) (modules_of paging.program.now) (path_through items)) (may_answer paging.known.now)
        items one cursor)
        → AreOfPart one (meeting goal (before cursor (walks graph))) (codes "before")
    before-cursor to h items program walked =
        let rest = h items program in
        let known = may_answer paging.known.now in
        let part = part_before_proof known _ (path_through items) cursor (walks graph) _ walked rest.1 in
        (rest.0, rest.2, ap (meeting goal) (sym part), to)

    pub after-listed : {K : Type 0} (found : Result (Listing K) Fault) (part : PagePart) → part ≡ one → codes "after" ≡ side_of one
        → ((items : Items) → IsProgramOf paging.program.now items
        → IsSide (IsListingAfter (may_answer paging.known.now) (modules_of paging.program.now) (path_through items)) (may_answer paging.known.now)
        items one cursor)
        → ListsPaths (meeting goal (after cursor (walks graph))) (codes "after") found → ListsWalks paging graph goal part found
    after-listed found part same to h are = part-is found one part same (part-listed found one _ _ (after-cursor to h) are)

    pub before-listed : {K : Type 0} (found : Result (Listing K) Fault) (part : PagePart) → part ≡ one → codes "before" ≡ side_of one
        → ((items : Items) → IsProgramOf paging.program.now items
        → IsSide (IsListingBefore (may_answer paging.known.now) (modules_of paging.program.now) (path_through items)) (may_answer paging.known.now)
        items one cursor)
        → ListsPaths (meeting goal (before cursor (walks graph))) (codes "before") found → ListsWalks paging graph goal part found
    before-listed found part same to h are = part-is found one part same (part-listed found one _ _ (before-cursor to h) are)

  pub refused-listed : (K : Type 0) (part one : PagePart) (fault : Fault) → part ≡ one → IsRefused paging one fault
      → ListsWalks {K = K} paging graph goal part (Err fault)
  refused-listed K part one (faults.Cursor e) same h = part-is {K = K} (Err (faults.Cursor e)) one part same (λ items program walked. h items program)
  refused-listed K part one faults.Memory same h = absurd h
  refused-listed K part one faults.Device same h = absurd h
  refused-listed K part one faults.TooManyStates same h = absurd h
  refused-listed K part one faults.NoSuchModule same h = absurd h
  refused-listed K part one faults.NoSuchKey same h = absurd h
  refused-listed K part one faults.NoSuchNumber same h = absurd h
  refused-listed K part one faults.NoSuchService same h = absurd h
  refused-listed K part one faults.UnusedCandidate same h = absurd h
  refused-listed K part one faults.Unread same h = absurd h
  refused-listed K part one (faults.Facts e) same h = absurd h
  refused-listed K part one (faults.Policy e) same h = absurd h
  refused-listed K part one (faults.Accept e) same h = absurd h
  refused-listed K part one (faults.Conf e) same h = absurd h
  refused-listed K part one (faults.Count e) same h = absurd h
  refused-listed K part one (faults.Moment e) same h = absurd h
  refused-listed K part one (faults.Table e) same h = absurd h
  refused-listed K part one (faults.Time e) same h = absurd h
