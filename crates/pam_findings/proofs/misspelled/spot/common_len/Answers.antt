use Rattle.std.proofs.Common.{◌≡◌, List, [], ◌∷◌, arith, drop, length, length-drop, nat_eq, refl, ℕ}
use Rattle.std.proofs.lemmas.List.Sums.{common_prefix_len-drop_no}
use Rattle.std.specs.List.{common_prefix_len}
use Rattle.pam_text.proofs.TextSteps.{unequal}
use Rattle.pam_findings.proofs.misspelled.spot.common_len.Goals as goal
use Rattle.pam_findings.proofs.misspelled.spot.common_len.Goals.{then-index-bytes-via-then-index-bytes, then-index-bytes-via-else-index-bytes+then-word-index}

none_common : (xs ys : List ℕ) → length ys ≡ 0 → common_prefix_len nat_eq xs ys ≡ 0
none_common [] ys h = refl
none_common (x ∷ xs) [] h = refl
none_common (x ∷ xs) (y ∷ ys) h = absurd (omega (arith, h))

pub returns-then-index-bytes : goal.returns-then-index-bytes
returns-then-index-bytes c =
    let word = c.args.word.now in
    let bytes = c.args.bytes.now in
    let at = c.loop-index.index in
    let none : common_prefix_len nat_eq (drop at word) (drop at bytes) ≡ 0 = elim c.then-index-bytes.branch [
      | then-index-bytes-via-then-index-bytes w ↦ none_common (drop at word) (drop at bytes) (omega (arith, length-drop at bytes, w.if-index-bytes.true))
      | then-index-bytes-via-else-index-bytes+then-word-index w ↦
          common_prefix_len-drop_no nat_eq word bytes at 0 0 c.loop-index-test.true
          (omega (arith, w.if-index-bytes.false, c.loop-index.invariant.within)) (unequal _ _ w.if-word-index.true)
    ] in
    omega (arith, none, c.loop-index.invariant.all)
