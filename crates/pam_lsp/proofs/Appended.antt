-- Frames that are written one after another.
use Rattle.std.proofs.Common.{◌≡◌, ◌∙◌, ◌+◌, ◌<◌, ℕ, Global, List, [], ◌++◌, Option, Vec, ap, append-nil, get_or, length, map, subst, sym, take}
use Rattle.std.proofs.KnownBytes.{Appends-trans}
use Rattle.std.specs.Io.KnownBytes.{Appends}
use Rattle.std.specs.List.{flat_map}
use Rattle.pam_text.proofs.FlatTexts.{flat_map-seen, flat_map-take}
use Rattle.pam_lsp.specs.Frames.{frame}

abbrev framed : Vec ℕ Global → List ℕ
framed m = frame m.items

-- one frame more
pub frame-more : (sent : List (Vec ℕ Global)) (i : ℕ) (d : Vec ℕ Global) (one two three : Option (List ℕ)) (message : List ℕ) → i < length sent
    → message ≡ (get_or sent i d).items → Appends one two (flat_map framed (take i sent)) → Appends two three (frame message)
    → Appends one three (flat_map framed (take (i + 1) sent))
frame-more sent i d one two three message low is some h =
    subst (λ (text : List ℕ). Appends one three text)
    (ap (λ (m : List ℕ). flat_map framed (take i sent) ++ frame m) is ∙ sym (flat_map-take framed sent i d low))
    (Appends-trans one two three (flat_map framed (take i sent)) (frame message) some h)

-- what is written and then flushed
pub flushed-too : (one two three : Option (List ℕ)) (text : List ℕ) → Appends one two text → Appends two three [] → Appends one three text
flushed-too one two three text some h =
    subst (λ (t : List ℕ). Appends one three t) (append-nil text) (Appends-trans one two three text [] some h)

-- the frames of messages, by their bytes
pub frames-seen : (sent : List (Vec ℕ Global)) (one two : Option (List ℕ)) → Appends one two (flat_map framed sent)
    → Appends one two (flat_map frame (map (λ m. m.items) sent))
frames-seen sent one two h = subst (λ (t : List ℕ). Appends one two t) (sym (flat_map-seen frame (λ m. m.items) sent)) h
