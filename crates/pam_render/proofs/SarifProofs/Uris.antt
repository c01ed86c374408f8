-- A path as the string of a URI reference, byte by byte.
use Rattle.std.proofs.Common.{◌≡◌, ◌∙◌, ℕ, List, [], ◌∷◌, ◌++◌, ap, append_assoc, codes, refl, sym}
use Rattle.std.proofs.lemmas.Grind.{flat_map-append}
use Rattle.std.specs.List.{flat_map}
use Rattle.json.specs.Print.{escape, escape_byte}
use Rattle.pam_render.specs.sarif.Location.{scheme_of, uri_byte, uri_of}
use Rattle.serde_json.specs.Data.{string}
use Rattle.serde_json.specs.Written.{compact_text}

abbrev pub escaped : ℕ → List ℕ
escaped byte = escape (uri_byte byte)

bytes-escaped : (path : List ℕ) → flat_map escaped path ≡ escape (flat_map uri_byte path)
bytes-escaped [] = refl
bytes-escaped (byte ∷ path) =
    ap (λ l. escaped byte ++ l) (bytes-escaped path) ∙ sym (flat_map-append escape_byte (uri_byte byte) (flat_map uri_byte path))

pub uri-is : (path : List ℕ)
    → codes "\"" ++ (escape (scheme_of path) ++ (flat_map escaped path ++ codes "\"")) ≡ compact_text (string (uri_of path))
uri-is path =
    ap (λ l. codes "\"" ++ l)
    (sym (append_assoc (escape (scheme_of path)) (flat_map escaped path) (codes "\""))
    ∙ ap (λ l. l ++ codes "\"")
    (ap (λ l. escape (scheme_of path) ++ l) (bytes-escaped path) ∙ sym (flat_map-append escape_byte (scheme_of path) (flat_map uri_byte path))))
