-- The texts of strings, part by part.
use Rattle.std.proofs.Common.{◌≡◌, ◌∙◌, ℕ, ◌<◌, List, [], ◌∷◌, ◌++◌, ap, append-nil, append_assoc, arith, codes, drop, length, map, refl, sym}
use Rattle.std.proofs.lemmas.Grind.{flat_map-append}
use Rattle.std.proofs.lemmas.Str.{utf8_lossy_chunk, utf8_lossy_empty, utf8_lossy_last_chunk}
use Rattle.std.specs.List.{flat_map}
use Rattle.std.specs.Str.Lossy.{replacement_bytes, utf8_invalid_len, utf8_lossy, utf8_valid_len}
use Rattle.json.specs.Print.{escape, escape_byte, quoted}
use Rattle.pam_render.specs.json_lines.inner.Text.{invalid_text}
use Rattle.pam_render.specs.declared.json_lines.text.Part.{Part}

escape-append : (a b : List ℕ) → escape (a ++ b) ≡ escape a ++ escape b
escape-append a b = flat_map-append escape_byte a b

escape-replacement : escape replacement_bytes ≡ replacement_bytes
unfolding escape_byte
escape-replacement = refl

-- the text of the bytes that are left is that of the next chunk, and of the bytes after it
pub chunk-next : (bytes valid invalid rest : List ℕ) → bytes ≡ valid ++ (invalid ++ rest) → length valid ≡ utf8_valid_len bytes
    → length invalid ≡ utf8_invalid_len (drop (utf8_valid_len bytes) bytes) → (length invalid ≡ 0 → length rest ≡ 0)
    → (escape valid ++ invalid_text invalid) ++ escape (utf8_lossy rest) ≡ escape (utf8_lossy bytes)
chunk-next bytes valid [] rest is valid-len invalid-len last =
    append_assoc (escape valid) [] (escape (utf8_lossy rest)) ∙ sym (escape-append valid (utf8_lossy rest))
    ∙ ap escape (sym (utf8_lossy_last_chunk bytes valid [] rest is valid-len refl (last refl)))
chunk-next bytes valid (b ∷ bs) rest is valid-len invalid-len last =
    let some : 0 < length (b ∷ bs) = omega arith in
    append_assoc (escape valid) replacement_bytes (escape (utf8_lossy rest))
    ∙ ap (λ l. escape valid ++ (l ++ escape (utf8_lossy rest))) (sym escape-replacement)
    ∙ ap (λ l. escape valid ++ l) (sym (escape-append replacement_bytes (utf8_lossy rest)))
    ∙ sym (escape-append valid (replacement_bytes ++ utf8_lossy rest))
    ∙ ap escape (sym (utf8_lossy_chunk bytes valid (b ∷ bs) rest is valid-len invalid-len some))

-- what is written with the next chunk, as far as the text is split into them
pub chunk-more : (front v i bytes valid invalid rest text : List ℕ) → v ≡ valid → i ≡ invalid
    → (bytes ≡ valid ++ (invalid ++ rest)) × (length rest < length bytes) × (length invalid ≡ 0 → length rest ≡ 0)
    × ((length valid ≡ utf8_valid_len bytes) × (length invalid ≡ utf8_invalid_len (drop (utf8_valid_len bytes) bytes)))
    → front ++ escape (utf8_lossy bytes) ≡ text → (front ++ (escape v ++ invalid_text i)) ++ escape (utf8_lossy rest) ≡ text
chunk-more front v i bytes valid invalid rest text v-is i-is steps h =
    append_assoc front (escape v ++ invalid_text i) (escape (utf8_lossy rest))
    ∙ ap (λ l. front ++ ((escape l ++ invalid_text i) ++ escape (utf8_lossy rest))) v-is
    ∙ ap (λ l. front ++ ((escape valid ++ invalid_text l) ++ escape (utf8_lossy rest))) i-is
    ∙ ap (λ l. front ++ l) (chunk-next bytes valid invalid rest steps.0 steps.3.0 steps.3.1 steps.2) ∙ h

-- nothing is left after the last chunk
pub chunks-all : (front rest text : List ℕ) → length rest ≡ 0 → front ++ escape (utf8_lossy rest) ≡ text → front ≡ text
chunks-all front rest text none h = sym (append-nil front) ∙ ap (λ l. front ++ escape l) (sym (utf8_lossy_empty rest none)) ∙ h

-- PARTS ONE AFTER ANOTHER

parts-escaped : (parts : List Part) → flat_map (λ part. escape (utf8_lossy part.0.now)) parts ≡ escape (flat_map utf8_lossy (map (λ part. part.0.now) parts))
parts-escaped [] = refl
parts-escaped (part ∷ parts) =
    ap (λ l. escape (utf8_lossy part.0.now) ++ l) (parts-escaped parts)
    ∙ sym (escape-append (utf8_lossy part.0.now) (flat_map utf8_lossy (map (λ p. p.0.now) parts)))

pub joined-is : (parts : List Part)
    → codes "\"" ++ (flat_map (λ part. escape (utf8_lossy part.0.now)) parts ++ codes "\"") ≡ quoted (flat_map utf8_lossy (map (λ part. part.0.now) parts))
joined-is parts = ap (λ l. codes "\"" ++ (l ++ codes "\"")) (parts-escaped parts)
