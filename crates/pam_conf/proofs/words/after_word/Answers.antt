use Rattle.std.proofs.Common.{◌∙◌, sym, arith}
use Rattle.std.proofs.lemmas.Bool.Decides.{Decides-eqb}
use Rattle.std.proofs.lemmas.Slice.Eq.{starts_is}
use Rattle.pam_conf.proofs.Splits.{after_first}
use Rattle.pam_conf.proofs.words.after_word.Goals as goal

pub returns : goal.returns
returns c = after_first c.args.line.now c.args.word.now _ c.requires.something c.requires.plain c.requires.bare
    ((starts_is Decides-eqb c.args.line.now c.args.word.now c.starts_with.result c.starts_with.ensures.value).0 c.if-not-starts_with.false)
    (omega (arith, c.if-line-len.false)) (sym c.is_text_blank.ensures ∙ c.if-not-is_text_blank.false) c.split_at.ensures.back
