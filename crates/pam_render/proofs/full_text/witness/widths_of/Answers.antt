use Rattle.std.proofs.Common.{◌≡◌, ◌∙◌, ap, ap₂, max, ℕ}
use Rattle.pam_render.proofs.FullTextProofs.Witness.{no_widths, widest-more}
use Rattle.pam_render.specs.full_text.Witness.{Row, name_width, number_width, place_width, row_of}
use Rattle.pam_render.specs.full_text.inner.Witness.{row_view}
use Rattle.pam_render.specs.parts.CheckNames.{names_view}
use Rattle.pam_render.proofs.full_text.witness.widths_of.Goals as goal

pub loop-answer-preserved : goal.loop-answer-preserved
loop-answer-preserved c =
    let seen = row_of (names_view c.args.names.now).paths c.args.stack.now in
    let answers = c.args.answers.now in
    let i = c.loop-answer.answer-index in
    let item = c.answer-item.result in
    let so_far = c.loop-answer.invariant in
    let is : row_view c.row_of.result ≡ seen _ = c.row_of.ensures ∙ ap seen c.answer-item.is in
    record {
      number =
          c.widened-widths.ensures.number ∙ ap₂ {A = ℕ} {B = ℕ} {C = ℕ} max so_far.number (ap number_width is)
          ∙ widest-more number_width seen answers i item c.loop-answer-test.true;
      place =
          c.widened-widths.ensures.place ∙ ap₂ {A = ℕ} {B = ℕ} {C = ℕ} max so_far.place (ap place_width is)
          ∙ widest-more place_width seen answers i item c.loop-answer-test.true;
      name =
          c.widened-widths.ensures.name ∙ ap₂ {A = ℕ} {B = ℕ} {C = ℕ} max so_far.name (ap name_width is)
          ∙ widest-more name_width seen answers i item c.loop-answer-test.true;
    }

pub loop-answer-init : goal.loop-answer-init
loop-answer-init c = no_widths
