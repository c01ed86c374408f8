use Rattle.std.proofs.Common.{List, ◌+◌, ◌++◌, ◌∙◌, ap, append_assoc, arith, refl, sym, take, ℕ}
use Rattle.std.specs.List.{flat_map, range_with_len}
use Rattle.pam_drawing.proofs.Indices.{range-all, range-push}
use Rattle.pam_render.proofs.PatchTextProofs.Steps.{feeds_more, row_is}
use Rattle.pam_render.specs.patch_text.Hunk.{pair_text, row}
use Rattle.pam_render.proofs.patch_text.hunk.push_rows.Goals as goal

pub loop-preserved : goal.loop-preserved
loop-preserved c =
    let old = c.args.old.now in
    let new = c.args.new.now in
    let f = row old new in
    let passed = c.args.passed in
    let count = c.args.count in
    let so = c.loop.invariant in
    let k = c.loop.counter in
    let before = flat_map f (take k (range_with_len passed count)) in
    let one = c.first_line.result.now in
    let other = c.first_line-in-loop.result.now in
    let first = c.args.text.now.items in
    record {
      old_left = c.next_line-left.ensures ∙ feeds_more passed k old c.loop.left.now so.old_left;
      new_left = c.next_line-right.ensures ∙ feeds_more passed k new c.loop.right.now so.new_left;
      so_far =
          c.in_ok-push_pair.ensures
          ∙ ap (λ (t : List ℕ). t ++ pair_text one other) so.so_far
          ∙ ap (λ (r : List ℕ). (first ++ before) ++ r)
          (row_is old new c.loop.left.now c.loop.right.now one other (passed + k) c.first_line.ensures c.first_line-in-loop.ensures so.old_left so.new_left)
          ∙ append_assoc first before (f (passed + k))
          ∙ ap (λ (l : List ℕ). first ++ l) (sym (range-push f passed count k (passed + k) (omega (arith, c.loop-test.true)) refl));
    }

pub returns : goal.returns
returns c =
    let f = row c.args.old.now c.args.new.now in
    c.loop.invariant.so_far
    ∙ ap (λ (l : List ℕ). c.args.text.now.items ++ l) (range-all f c.args.passed c.args.count c.loop.counter (omega (arith, c.loop-test.false)))
