use Rattle.std.proofs.Common.{arith, sym}
use Rattle.std.proofs.lemmas.List.{length-take-le}
use Rattle.pam_codes.proofs.Writing.{writes-is, writes-then}
use Rattle.pam_render.proofs.SentencesProofs.ShownTexts.{long-is}
use Rattle.pam_render.proofs.sentences.shown.put_word.Goals as goal

pub slice_bounds-put_name-end : goal.slice_bounds-put_name-end
slice_bounds-put_name-end g c = sym (length-take-le 64 c.args.word.now (omega arith))

pub returns : goal.returns
returns g c = writes-is _ _ _ _ _ _ (writes-then _ _ _ c.in_ok-put_name.ensures c.put.ensures) (long-is c.args.word.now (omega arith))
