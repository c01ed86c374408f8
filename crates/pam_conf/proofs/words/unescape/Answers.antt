use Rattle.std.proofs.Common.{◌∙◌, ◌≤◌, length, arith}
use Rattle.pam_conf.proofs.WordSteps.{unescaped_done}
use Rattle.pam_conf.proofs.words.unescape.Goals as goal

pub returns : goal.returns
returns c =
    let all_read : length c.loop-read.word.items ≤ c.loop-read.read = omega (arith, c.loop-read.word.ok.0) in
    c.truncate.ensures.items ∙ unescaped_done c.loop-read.word.items _ _ _ all_read c.loop-read.invariant.same
