use Rattle.std.proofs.Common.{◌≡◌, ℕ, ◌+◌, ◌<◌, List, [], ◌∷◌, ◌++◌, length, take, drop, get_or, map, ap, ◌∙◌}
use Rattle.std.specs.Char.{to_ascii_lowercase}
use Rattle.pam_codes.proofs.Writing.{err-front, front-then, front-longer, front-is}
use Rattle.pam_render.proofs.TextProofs.FlatTexts.{map-at}
use Rattle.pam_render.proofs.text.header.put_lowercase.Goals as goal

-- the byte whose writing failed, between those before it and those after it
at_byte : (text : List ℕ) (i byte : ℕ) → i < length text → byte ≡ to_ascii_lowercase (get_or text i 0)
    → (map to_ascii_lowercase (take i text) ++ byte ∷ []) ++ map to_ascii_lowercase (drop (i + 1) text) ≡ map to_ascii_lowercase text
at_byte text i byte h e =
    ap (λ b. (map to_ascii_lowercase (take i text) ++ b ∷ []) ++ map to_ascii_lowercase (drop (i + 1) text)) e ∙ map-at to_ascii_lowercase text i 0 h

pub returns-in_err-put : goal.returns-in_err-put
returns-in_err-put g c =
    let text = c.args.text.now in
    let i = c.loop-byte.byte-index in
    err-front _ c.from_residual.ensures.0
    (front-is (front-longer (map to_ascii_lowercase (drop (i + 1) text)) (front-then c.loop-byte.invariant c.in_err-put.ensures))
    (at_byte text i c.to_ascii_lowercase.result c.loop-byte-test.true c.to_ascii_lowercase.ensures.value))
