use Rattle.std.proofs.Common.{◌≡◌, [], ◌++◌, ◌-◌, ◌∙◌, List, ap, append-nil, append_assoc, refl, sym, ℕ}
use Rattle.pam_codes.proofs.Writing.{all-is, all-none, all-then, err-front, front-is, front-longer, front-then}
use Rattle.pam_render.specs.sentences.Shown.{shown_bytes}
use Rattle.pam_render.proofs.SentencesProofs.ShownTexts.{shown-none, shown-step}
use Rattle.pam_render.proofs.sentences.shown.put_bytes.Goals as goal

pub loop-byte-init : goal.loop-byte-init
loop-byte-init g c = ([], all-none c.args.out.now, refl)

pub loop-byte-preserved : goal.loop-byte-preserved
loop-byte-preserved g c =
    let so_far = c.loop-byte.invariant in
    let byte = c.in-Some.byte.now in
    let after = c.in-Some.after.now in (
      _,
      all-then so_far.1 c.in_ok-put_byte_within.ensures,
      append_assoc so_far.0 _ (shown_bytes c.args.brackets c.saturating_sub-hidden.result after)
          ∙ ap (λ (l : List ℕ). so_far.0 ++ l)
          (shown-step c.args.brackets c.loop-byte.left.now after c.loop-byte.hidden c.hidden_from-hidden.result c.saturating_sub-hidden.result byte
          c.is_numbered.result c.in-Some.ensures.cases.0 c.hidden_from-hidden.ensures c.is_numbered.ensures
          c.saturating_sub-hidden.ensures)
          ∙ so_far.2,
    )

pub returns-in_err-put_byte_within : goal.returns-in_err-put_byte_within
returns-in_err-put_byte_within g c =
    let so_far = c.loop-byte.invariant in
    let byte = c.in-Some.byte.now in
    let after = c.in-Some.after.now in
    let left_over = c.hidden_from-hidden.result - 1 in
    err-front _ c.from_residual.ensures.0
    (front-is (front-longer (shown_bytes c.args.brackets left_over after) (front-then so_far.1 c.in_err-put_byte_within.ensures))
    (append_assoc so_far.0 _ (shown_bytes c.args.brackets left_over after)
    ∙ ap (λ (l : List ℕ). so_far.0 ++ l)
    (shown-step c.args.brackets c.loop-byte.left.now after c.loop-byte.hidden c.hidden_from-hidden.result left_over byte c.is_numbered.result
    c.in-Some.ensures.cases.0 c.hidden_from-hidden.ensures c.is_numbered.ensures refl)
    ∙ so_far.2))

pub returns : goal.returns
returns g c =
    let so_far = c.loop-byte.invariant in
    all-is so_far.1
    (sym (append-nil so_far.0)
    ∙ ap (λ (l : List ℕ). so_far.0 ++ l) (sym (shown-none c.args.brackets c.loop-byte.left.now c.loop-byte.hidden c.in_default.ensures.cases)) ∙ so_far.2)
