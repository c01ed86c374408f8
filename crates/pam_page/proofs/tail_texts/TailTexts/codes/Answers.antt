use Rattle.std.proofs.Common.{◌∙◌, ap, sym}
use Rattle.std.proofs.lemmas.List.{length-take-le}
use Rattle.pam_page.proofs.TailTexts.{codes-first}
use Rattle.pam_page.specs.inner.TailTexts.{codes_to}
use Rattle.pam_page.proofs.tail_texts.TailTexts.codes.Goals as goal

pub slice_bounds-result-end-2 : goal.slice_bounds-result-end-2
slice_bounds-result-end-2 c =
    let first = codes-first c.args.self.now c.args.count _ _ (c.self.invariant.cursor ∙ ap codes_to c.self.view_is) c.as_slice.ensures c.requires in
    sym (length-take-le _ _ first.1)

pub returns : goal.returns
returns c = (codes-first c.args.self.now c.args.count _ _ (c.self.invariant.cursor ∙ ap codes_to c.self.view_is) c.as_slice.ensures c.requires).0
