-- the set so far has the codes of the names so far
use Rattle.std.proofs.Common.{map}
use Rattle.pam_words.proofs.Named.{HasCodesOf}
use Rattle.pam_words.proofs.reading.decisions.codes_listed.Given as goal

abbrev pub invariant-loop-name : goal.invariant-loop-name
invariant-loop-name l = HasCodesOf l.set (map (λ name. name.now) l.yielded)
