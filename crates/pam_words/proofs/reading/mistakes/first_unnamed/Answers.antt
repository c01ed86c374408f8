use Rattle.std.proofs.Common.{is_none, rules, tests}
use Rattle.std.proofs.lemmas.Iterator.Search.{find_from_yields_List}
use Rattle.std.proofs.lemmas.Iterator.Splits.{YieldsList-from_slice_split}
use Rattle.pam_words.specs.Decisions.{code_named}
use Rattle.pam_words.proofs.Named.{is_comma}
use Rattle.pam_words.proofs.reading.mistakes.first_unnamed.Goals as goal

pub returns : goal.returns
unfolding code_named
returns c =
    find_from_yields_List (λ name. is_none (code_named name)) _ _ c.find.result c.find.ensures.ran
    (YieldsList-from_slice_split _ is_comma c.args.names.now (cc) (cc) (cc) (λ x b q k. search (rules, tests)))
    (λ x b q k. search (rules, tests))
