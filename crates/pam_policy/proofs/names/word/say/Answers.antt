use Rattle.std.proofs.Common.{◌∙◌, ap, sym}
use Rattle.pam_policy.proofs.NamesProofs.Saying.{is_said, word_new, word_said}
use Rattle.pam_policy.proofs.names.word.say.Goals as goal

pub returns-in_ok-push : goal.returns-in_ok-push
returns-in_ok-push c =
    word_new c.args.said.now.items c.push.new.self.items c.args.misnamed
    (ap (is_said c.args.misnamed) (sym c.deref.ensures.value) ∙ sym c.is_said.ensures ∙ c.if-not-is_said.true) c.in_ok-push.ensures.items

pub returns-else-not-is_said : goal.returns-else-not-is_said
returns-else-not-is_said c =
    word_said c.args.said.now.items c.args.misnamed
    (ap (is_said c.args.misnamed) (sym c.deref.ensures.value) ∙ sym c.is_said.ensures ∙ c.if-not-is_said.false)
