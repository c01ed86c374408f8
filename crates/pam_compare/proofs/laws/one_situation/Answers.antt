use Rattle.std.proofs.Common.{◌≡◌, ◌∙◌, arith, inl, inr, sym}
use Rattle.std.proofs.lemmas.Bool.{cases_lt}
use Rattle.pam_compare.proofs.Few.{first-two, no-answers}
use Rattle.pam_compare.proofs.laws.one_situation.Goals as goal

pub returns : goal.returns
returns c old_allows new_allows old new partners limit no_old no_new many =
    elim (cases_lt limit 1) [
      | inl few ↦ few
      | inr more ↦
          let two = first-two many.standings (omega (arith, more, many.more)) in
          let none : 0 ≡ 1 = many.by_others 0 1 two.0 two.1 two.2 two.3
          (no-answers old_allows new_allows old new partners _ _ _ no_old no_new two.0 (many.reached 0 two.0 two.2)
          ∙ sym (no-answers old_allows new_allows old new partners _ _ _ no_old no_new two.1 (many.reached 1 two.1 two.3))) in
          absurd (omega (arith, none))
    ]
