-- The last frame of a path, read and then changed in place.
use Rattle.std.specs.Prelude.{slice_set}
use Rattle.std.proofs.Common.{◌≡◌, ℕ, ◌+◌, ◌-◌, ◌<◌, ◌≤◌, ◌∷◌, ◌++◌, [], List, get_or, length, take, arith, ap, sym, refl, subst, ◌∙◌}
use Rattle.std.proofs.lemmas.List.{length-set, take_all, take_more, take_more_set}
use Rattle.pam_dispatch.specs.declared.flat_item.FlatItem.{FlatItem}
use Rattle.pam_dispatch.specs.Flat.{modules_of}
use Rattle.pam_paths.specs.declared.frames.Branch.{Branch}
use Rattle.pam_paths.specs.declared.frames.Frame.{Frame}
use Rattle.pam_paths.specs.inner.Followed.{followed}
use Rattle.pam_paths.specs.inner.Frames.{AreFrames, IsFrame}
use Rattle.pam_paths.specs.Listing.{Allowance}
use Rattle.pam_paths.proofs.FrameLists.{frame_number, frame_same, popped, pushed}

module _ {A : Type 0} (items : List A) (n : ℕ) (count : n ≡ length items) (some : 0 < n) where
  last_split : (now : List A) (x : A) → now ≡ items → x ≡ get_or now (n - 1) x → items ≡ take (n - 1) items ++ x ∷ []
  last_split now x same at =
      sym (take_all ((n - 1) + 1) items (omega (arith, count, some)))
      ∙ take_more items (n - 1) x (omega (arith, count, some))
      ∙ ap (λ (y : A). take (n - 1) items ++ y ∷ []) (sym (at ∙ ap (λ (l : List A). get_or l (n - 1) x) same))

  last_put : (x : A) → slice_set items (n - 1) x ≡ take (n - 1) items ++ x ∷ []
  last_put x =
      sym (take_all ((n - 1) + 1) (slice_set items (n - 1) x) (omega (arith, length-set items (n - 1) x, count, some)))
      ∙ take_more_set items (n - 1) x (omega (arith, count, some))

-- the last of n frames, and those before it
pub record LastFrame (allows : Allowance) (program : List FlatItem) (items : List Frame) (n : ℕ) (f : Frame) : Type 0 where
  pub split : items ≡ take (n - 1) items ++ f ∷ []
  pub earlier : AreFrames allows program 0 (take (n - 1) items)
  pub is : IsFrame allows program (length (take (n - 1) items)) f
  pub first : 1 ≤ f.module_number
  pub last : f.module_number ≤ modules_of program

-- the same once another branch is followed at the last frame
pub record FollowedLast (allows : Allowance) (program : List FlatItem) (items put : List Frame) (n : ℕ) (f h : Frame) : Type 0 where
  pub was : LastFrame allows program items n f
  pub is : put ≡ take (n - 1) items ++ h ∷ []
  pub frames : AreFrames allows program 0 put
  pub place : h.place ≡ f.place
  pub number : h.module_number ≡ f.module_number

module _ (allows : Allowance) (program : List FlatItem) (items : List Frame) (n : ℕ) (f : Frame)
    (count : n ≡ length items) (some : 0 < n) (frames : AreFrames allows program 0 items) where
  pub last_frame : (now : List Frame) → now ≡ items → f ≡ get_or now (n - 1) f → LastFrame allows program items n f
  last_frame now same at =
      let split = last_split items n count some now f same at in
      let k = popped allows program items (take (n - 1) items) f split frames in
      let number = frame_number allows program (length (take (n - 1) items)) f k.1 in
      record { split = split; earlier = k.0; is = k.1; first = omega (arith, number.0); last = number.1 }

  pub followed_last : (now put : List Frame) (branch : Branch) → now ≡ items → f ≡ get_or now (n - 1) f → branch.code < 31 →
      put ≡ slice_set items (n - 1) (followed f branch) → FollowedLast allows program items put n f (followed f branch)
  followed_last now put branch first at low done =
      let h = followed f branch in
      let was = last_frame now first at in
      let is = done ∙ last_put items n count some h in
      record {
        was = was;
        is = is;
        frames = subst (AreFrames allows program 0) (sym is)
            (pushed allows program (take (n - 1) items) h was.earlier
            (frame_same allows program (length (take (n - 1) items)) f h was.is refl refl refl low));
        place = refl;
        number = refl;
      }
