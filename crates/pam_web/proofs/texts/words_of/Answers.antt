use Rattle.std.specs.Str.{IsUtf8}
use Rattle.std.proofs.Common.{arith}
use Rattle.pam_web.proofs.Lists.{one_of}
use Rattle.pam_web.proofs.texts.words_of.Goals as goal

pub returns-in-None : goal.returns-in-None
returns-in-None c = λ all.
    (rw c.in-None.is at c.in_ok-word.ensures) (one_of IsUtf8 c.args.texts.now c.loop-text.text-index _ (omega (arith, c.loop-text-test.true)) all)
