use Rattle.pam_findings.proofs.AcceptedProofs.KeySteps.{first_word, no_more, one_more}
use Rattle.pam_findings.proofs.accepted.keys.key_of.Goals as goal

pub loop-word-init : goal.loop-word-init
loop-word-init c = first_word c.args.words.now c.in-Some.others.now c.in-Some.first.now _ c.in-Some.ensures.cases.0 (c.in_ok-key.ensures.items)

pub loop-word-preserved : goal.loop-word-preserved
loop-word-preserved c =
    one_more c.in-Some.others.now _ c.loop-word.word-index c.loop-word.key.items c.push.new.self.items _ _ c.loop-word-test.true
    c.loop-word.invariant c.in_ok-push.ensures.items c.in_ok-extend_from_slice.ensures.items

pub returns : goal.returns
returns c = no_more c.in-Some.others.now _ _ _ c.loop-word-test.false c.loop-word.invariant
