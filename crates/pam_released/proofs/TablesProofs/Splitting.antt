-- The parts of a text, one after another.
use Rattle.std.proofs.Common.{◌≡◌, ◌∙◌, ◌||◌, ℕ, Bool, true, false, List, Some, None, ap, sym}
use Rattle.std.specs.List.{list_any, slice_split}
use Rattle.std.proofs.Math.Bool.{or-false}
use Rattle.pam_text.specs.Cut.{cut_at}
use Rattle.pam_text.proofs.Splits.{split_found, split_none}

-- a part that passes a test
pub part_passes : (p : ℕ → Bool) (test : List ℕ → Bool) (text a r : List ℕ) → Some (a, r) ≡ cut_at p text → test a ≡ true →
    list_any test (slice_split p text) ≡ true
part_passes p test text a r h passes =
    ap (λ (ps : List (List ℕ)). list_any test ps) (split_found p text a r h) ∙ ap (λ (t : Bool). t || list_any test (slice_split p r)) passes

pub part_fails : (p : ℕ → Bool) (test : List ℕ → Bool) (text a r : List ℕ) → Some (a, r) ≡ cut_at p text → test a ≡ false →
    list_any test (slice_split p r) ≡ list_any test (slice_split p text)
part_fails p test text a r h fails =
    sym (ap (λ (ps : List (List ℕ)). list_any test ps) (split_found p text a r h) ∙ ap (λ (t : Bool). t || list_any test (slice_split p r)) fails)

pub last_part : (p : ℕ → Bool) (test : List ℕ → Bool) (text : List ℕ) → None ≡ cut_at p text → test text ≡ list_any test (slice_split p text)
last_part p test text h = sym (ap (λ (ps : List (List ℕ)). list_any test ps) (split_none p text h) ∙ or-false (test text))
