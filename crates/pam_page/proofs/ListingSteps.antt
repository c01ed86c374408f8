-- The steps that the paths of a page take, and the paths that it leaves.
use Rattle.std.proofs.Common.{◌≡◌, ◌∙◌, ◌+◌, ◌*◌, ◌≤◌, ℕ, List, [], ap, arith, drop, length}
use Rattle.std.specs.Prelude.{OnOk, Result, Ok, Err}
use Rattle.std.proofs.lemmas.List.{length-drop, nil_from_length}
use Rattle.pam_page.specs.Coming.{GoesOn, most_steps, side, work}
use Rattle.pam_page.specs.declared.listing.Listing.{Listing}

steps_more : (each most count old mid new : ℕ) → mid ≤ old + each * count → most ≡ each → new ≤ mid + most → new ≤ old + each * (count + 1)
steps_more each most count old mid new so_far same more = omega (arith, so_far, same, more)

-- one more path is followed
pub goes_more : {K : Type 0} (old mid new : Listing K) (count : ℕ) → GoesOn count old mid
    → side new ≡ side mid → most_steps new ≡ most_steps mid → work new ≤ work mid + most_steps mid → work mid ≤ work new → GoesOn (count + 1) old new
goes_more old mid new count so_far same_side same_most more grows = record {
  same_side = same_side ∙ so_far.same_side;
  same_most = same_most ∙ so_far.same_most;
  bounded = steps_more _ _ _ _ _ _ so_far.bounded so_far.same_most more;
  grows = omega (arith, so_far.grows, grows);
}

-- past the end no path is left
pub none_left : {A : Type 0} (all : List A) (count limit : ℕ) → count ≤ limit → drop count all ≡ [] → drop limit all ≡ []
none_left {A} all count limit few none =
    nil_from_length (drop limit all) (omega (arith, ap length none, length-drop count all, length-drop limit all, few))

-- what always holds, also holds where a call succeeds
pub when_ok : {T E P : Type 0} (result : Result T E) → P → OnOk result P
when_ok (Ok value) holds = holds
when_ok (Err error) holds = tt
