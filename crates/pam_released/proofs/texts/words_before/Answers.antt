use Rattle.std.proofs.Common.{◌∙◌, ◌∷◌, ◌++◌, [], ℕ, List, ap, arith, sym}
use Rattle.std.proofs.lemmas.Bool.{ne_eqb}
use Rattle.pam_released.proofs.Assembling.{no_length}
use Rattle.pam_released.proofs.WordTexts.{some_bytes, words_blank, words_end, words_inside, words_plain}
use Rattle.pam_released.proofs.texts.words_before.Goals as goal

pub loop-first-preserved-then-is_space_or_tab : goal.loop-first-preserved-then-is_space_or_tab
loop-first-preserved-then-is_space_or_tab c =
    words_blank c.args.feed.now _ _ _ _ _ c.in-Some.ensures.cases.0 (sym c.is_space_or_tab.ensures ∙ c.if-is_space_or_tab.true) c.loop-first.invariant

pub loop-first-preserved-then-first-eq91 : goal.loop-first-preserved-then-first-eq91
loop-first-preserved-then-first-eq91 c =
    words_inside c.args.feed.now _ _ _ _ c.in_ok-text.text.items _ _ _ c.in-Some.ensures.cases.0 c.if-first-eq91.true c.in_ok-text.ensures.value
    (c.in_ok-push.ensures ∙ ap (λ (r : List ℕ). c.loop-first.texts ++ r ∷ []) c.deref.ensures.value) c.loop-first.invariant

pub loop-first-smaller : goal.loop-first-smaller
loop-first-smaller c =
    omega (
      arith,
      c.split_plain.ensures.shorter,
      some_bytes _ _ _ c.in-Some.ensures.cases.0 (sym c.is_space_or_tab.ensures ∙ c.if-is_space_or_tab.false),
    )

pub loop-first-preserved : goal.loop-first-preserved
loop-first-preserved c =
    words_plain c.args.feed.now _ _ _ _ _ _ c.in-Some.first.now _ c.in-Some.ensures.cases.0 (sym c.is_space_or_tab.ensures ∙ c.if-is_space_or_tab.false)
    (ne_eqb c.in-Some.first.now 91 c.if-first-eq91.false) (c.split_plain.ensures.value c.args.feed.now) c.in_ok-push-2.ensures c.loop-first.invariant

pub returns : goal.returns
returns c = words_end c.args.feed.now _ _ _ (no_length _ c.in_default.ensures.cases) c.loop-first.invariant
