use Rattle.std.proofs.Common.{◌≡◌, ℕ, ◌+◌, ◌<◌, List, [], ◌∷◌, ◌++◌, Option, Some, None, add-one, append_assoc, drop, drop-cons, get_or, length, map}
use Rattle.std.proofs.Common.{option_map, sym, ◌∙◌}
use Rattle.clap.specs.Words.{Text}
use Rattle.pam_words.specs.Decisions.{both, code_named, codes_named}
use Rattle.pam_words.proofs.reading.codes_named.Goals as goal

-- the codes with one more, before the same rest
one-more : (front items : List ℕ) (code : ℕ) (rest all : Option (List ℕ)) → items ≡ front ++ code ∷ []
    → option_map (λ cs. front ++ cs) (both (Some code) rest) ≡ all → option_map (λ cs. items ++ cs) rest ≡ all
one-more front items code (Some cs) all same e = rw (same, append_assoc front (code ∷ []) cs) e
one-more front items code None all same e = e

module _ {X : Type 0} (now : X → Text) (names : List X) (i : ℕ) (name : X) (front : List ℕ) (all : Option (List ℕ)) (within : i < length names)
    (before : option_map (λ cs. front ++ cs) (codes_named (map now (drop i names))) ≡ all) where
  added : (items : List ℕ) (code : ℕ) → Some code ≡ code_named (now (get_or names i name)) → items ≡ front ++ code ∷ []
      → option_map (λ cs. items ++ cs) (codes_named (map now (drop (i + 1) names))) ≡ all
  added items code found same = rw add-one (one-more front items code _ all same (rw (sym found) at (rw (drop-cons names i name) at before)))

  stopped : None ≡ code_named (now (get_or names i name)) → None ≡ all
  stopped found = rw (sym found) at (rw (drop-cons names i name) at before)

pub loop-name-preserved : goal.loop-name-preserved
loop-name-preserved c =
    added _ c.args.names.now c.loop-name.name-index _ _ _ c.loop-name-test.true c.loop-name.invariant _ c.in-Some.code (sym c.in-Some.is ∙ c.code_named.ensures)
    c.in_ok-push-in-Some.ensures.items

pub returns-in-None : goal.returns-in-None
returns-in-None c =
    stopped _ c.args.names.now c.loop-name.name-index _ _ _ c.loop-name-test.true c.loop-name.invariant (sym c.in-None.is ∙ c.code_named.ensures)
