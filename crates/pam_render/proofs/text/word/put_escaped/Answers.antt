use Rattle.std.proofs.Common.{◌≡◌, ℕ, ◌+◌, ◌<◌, List, [], ◌∷◌, ◌++◌, length, take, drop, get_or, codes, if◌then◌else◌, sym, ap, ◌∙◌}
use Rattle.pam_codes.proofs.TextSteps.{unequal}
use Rattle.pam_codes.proofs.Writing.{err-front, front-then, front-longer, front-is}
use Rattle.pam_text.proofs.FlatTexts.{flat_map-at}
use Rattle.pam_render.specs.text.WordText.{escaped, escaped_byte}
use Rattle.pam_render.proofs.text.word.put_escaped.Goals as goal

-- the byte whose writing failed, between those before it and those after it
at_byte : (text : List ℕ) (i : ℕ) (piece : List ℕ) → i < length text → piece ≡ escaped_byte (get_or text i 0)
    → (escaped (take i text) ++ piece) ++ escaped (drop (i + 1) text) ≡ escaped text
at_byte text i piece h e = ap (λ l. (escaped (take i text) ++ l) ++ escaped (drop (i + 1) text)) e ∙ flat_map-at escaped_byte text i 0 h

closing : (b : ℕ) → b ≡ 93 → codes "\\]" ≡ escaped_byte b
closing b e = ap escaped_byte (sym e)

other : (b : ℕ) → (b ≡ 93 → ⊥) → b ∷ [] ≡ escaped_byte b
other b h = ap (λ t. if t then codes "\\]" else b ∷ []) (sym (unequal b 93 h))

pub returns-in_err-put : goal.returns-in_err-put
returns-in_err-put g c =
    let text = c.args.text.now in
    let i = c.loop-byte.byte-index in
    err-front _ c.from_residual.ensures.0
    (front-is (front-longer (escaped (drop (i + 1) text)) (front-then c.loop-byte.invariant c.in_err-put.ensures))
    (at_byte text i (codes "\\]") c.loop-byte-test.true (closing _ c.if-byte-eq93.true)))

pub returns-in_err-put-2 : goal.returns-in_err-put-2
returns-in_err-put-2 g c =
    let text = c.args.text.now in
    let i = c.loop-byte.byte-index in
    err-front _ c.from_residual-in_err-put-2.ensures.0
    (front-is (front-longer (escaped (drop (i + 1) text)) (front-then c.loop-byte.invariant c.in_err-put-2.ensures))
    (at_byte text i (get_or text i 0 ∷ []) c.loop-byte-test.true (other _ c.if-byte-eq93.false)))
