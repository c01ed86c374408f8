-- the codes so far, then those of the remaining names
use Rattle.std.proofs.Common.{◌≡◌, map, drop, ◌++◌, option_map}
use Rattle.pam_words.specs.Decisions.{codes_named}
use Rattle.pam_words.proofs.reading.codes_named.Given as goal

abbrev pub invariant-loop-name : goal.invariant-loop-name
invariant-loop-name l =
    option_map (λ cs. l.codes.items ++ cs) (codes_named (map (λ s. s.now) (drop l.name-index l.names))) ≡ codes_named (map (λ s. s.now) l.names)
