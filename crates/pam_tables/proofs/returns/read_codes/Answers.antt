use Rattle.std.proofs.Common.{◌≡◌, ◌≢◌, ◌∙◌, [], Ok, true, false, sym, ap, refl}
use Rattle.pam_tables.proofs.ReturnSteps.{nothing_read, code_put, word_read, word_refused, words_end, bad_code, no_code, some_code}
use Rattle.pam_tables.proofs.returns.read_codes.Goals as goal

pub loop-word-init : goal.loop-word-init
loop-word-init c =
    record {
      can = tt;
      finite = tt;
      order = rw c.empty-set.ensures nothing_read;
      same = rw (c.into_iter-word-iterator.ensures.into_iter_gives, c.of-word-items.ensures, c.empty-set.ensures) refl;
    }

pub loop-word-preserved : goal.loop-word-preserved
loop-word-preserved c =
    record {
      can = tt;
      finite = tt;
      order = code_put c.loop-word.set _ _ c.insert.ensures;
      same = word_read c.loop-word.set _ _ c.insert.ensures _ _ _ c.in-Some.ensures.steps c.in-Some-from_name.ensures ∙ c.loop-word.invariant.same;
    }

pub returns-in-None-from_name-clause-value : goal.returns-in-None-from_name-clause-value
returns-in-None-from_name-clause-value c =
    sym (bad_code _ (sym c.loop-word.invariant.same ∙ word_refused c.loop-word.set _ _ _ c.in-Some.ensures.steps c.in-None-from_name.ensures))

pub returns-then-is_empty-clause-value : goal.returns-then-is_empty-clause-value
returns-then-is_empty-clause-value c =
    let all = sym c.loop-word.invariant.same ∙ words_end c.loop-word.set _ c.loop-word.invariant.order c.in-None.ensures.steps.0 in
    sym (no_code _ (all ∙ ap Ok (c.is_empty.ensures.0 c.if-is_empty.true)))

pub returns-clause-value : goal.returns-clause-value
returns-clause-value c =
    let some : c.loop-word.set ≢ [] = λ none.
    let wrong : false ≡ true = sym c.if-is_empty.false ∙ c.is_empty.ensures.1 none in
    absurd (cc) in
    sym (some_code _ c.loop-word.set some (sym c.loop-word.invariant.same ∙ words_end c.loop-word.set _ c.loop-word.invariant.order c.in-None.ensures.steps.0))
