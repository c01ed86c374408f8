-- What the definitions of names and labels come to: their limits.
use Rattle.std.specs.Prelude.{◌≡◌, ℕ, ◌<◌, ◌≤◌, Bool, true, false, List, [], ◌++◌, codes, length, take}
use Rattle.pam_codes.specs.Set.{IsCodeSet, is_in}
use Rattle.pam_codes.specs.SetText.{set_text}
use Rattle.pam_drawing.specs.picture.Labels.{has_note, label_text, noted_label}
use Rattle.pam_drawing.specs.picture.Picture.{name_ending, name_front}

-- what is shown over a column of a module's name
abbrev pub shown_name : List ℕ → List ℕ
shown_name name = name_front name ++ name_ending name

-- a name of up to 24 bytes is shown whole
abbrev pub ShortNamesAreWhole : Type 0
ShortNamesAreWhole = (name : List ℕ) → length name ≤ 24 → shown_name name ≡ name

-- of a longer one, its first 22 bytes and two points
abbrev pub LongNamesAreCut : Type 0
LongNamesAreCut = (name : List ℕ) → 24 < length name → shown_name name ≡ take 22 name ++ codes ".."

-- one or two codes are named
abbrev pub FewCodesAreNamed : Type 0
FewCodesAreNamed = (forked : Bool) (class : List ℕ) (note : ℕ) → length class ≤ 2
    → (label_text forked class note ≡ set_text class) × (has_note class ≡ false)

-- for 3 to 15 codes there is a note
abbrev pub MoreCodesHaveNote : Type 0
MoreCodesHaveNote = (forked : Bool) (class : List ℕ) (note : ℕ) → 3 ≤ length class → length class ≤ 15
    → (label_text forked class note ≡ noted_label class note) × (has_note class ≡ true)

-- 16 to 30 codes are `else` where the node has another edge
abbrev pub MostCodesAreElse : Type 0
MostCodesAreElse = (class : List ℕ) (note : ℕ) → 16 ≤ length class → length class ≤ 30 → label_text true class note ≡ codes "else"

-- all 31 codes have no label
abbrev pub AllCodesHaveNoLabel : Type 0
AllCodesHaveNoLabel = (forked : Bool) (class : List ℕ) (note : ℕ) → 31 ≤ length class → label_text forked class note ≡ []

-- of two classes that share no code, as those of two edges of a node, not both are so large that they are `else`
abbrev pub AtMostOneIsElse : Type 0
AtMostOneIsElse = (class other : List ℕ) → IsCodeSet class → IsCodeSet other
    → ((code : ℕ) → is_in code class ≡ true → is_in code other ≡ false) → 16 ≤ length class → length other < 16
