-- A text that is copied with the bytes after it.
use Rattle.std.proofs.Common.{◌≡◌, ℕ, ◌+◌, ◌-◌, ◌≤◌, List, ◌++◌, length, take, drop, sym, ap, ◌∙◌, arith}
use Rattle.std.proofs.Math.Seq.{take-append-add}
use Rattle.std.proofs.lemmas.List.{drop-take, length-take, length-take-le, take-append-le, take-take, take_rest}

-- the first bytes stay, and after them stand the first ones of what was put there
pub front_put : (end count : ℕ) (shown old front rest put : List ℕ) → take end shown ≡ old → end ≤ length shown → count ≤ length front
    → put ≡ take end shown ++ (front ++ rest) → take (end + count) put ≡ old ++ take count front
front_put end count shown old front rest put is within fits is_put =
    let kept = take end shown in
    let long : length kept ≡ end = length-take-le end shown within in
    ap (take (end + count)) is_put ∙ ap (λ (n : ℕ). take (n + count) (kept ++ (front ++ rest))) (sym long)
    ∙ take-append-add kept (front ++ rest) count ∙ ap (λ (l : List ℕ). kept ++ l) (take-append-le count front rest fits)
    ∙ ap (λ (l : List ℕ). l ++ take count front) is

-- a part of the first bytes, from the bytes that begin where it does
pub part_shown : (start end all size : ℕ) (bytes shown text padded : List ℕ) → shown ≡ bytes → take all bytes ≡ text → start ≤ end → end ≤ length text
    → end - start ≤ size → padded ≡ take size (take (length shown - start) (drop start shown))
    → take (end - start) padded ≡ take (end - start) (drop start text)
part_shown start end all size bytes shown text padded is_shown is_text order within fits is_padded =
    let count = end - start in
    let whole : start + count ≡ end = omega (arith, order) in
    let inside : end ≤ all = omega (arith, within, ap length (sym is_text), length-take all bytes) in
    ap (take count) (is_padded ∙ ap (take size) (take_rest shown start) ∙ ap (λ (l : List ℕ). take size (drop start l)) is_shown)
    ∙ take-take count size (drop start bytes) fits ∙ sym (drop-take start count bytes) ∙ ap (λ (n : ℕ). drop start (take n bytes)) whole
    ∙ ap (drop start) (sym (take-take end all bytes inside)) ∙ ap (λ (l : List ℕ). drop start (take end l)) is_text
    ∙ ap (λ (n : ℕ). drop start (take n text)) (sym whole) ∙ drop-take start count text
