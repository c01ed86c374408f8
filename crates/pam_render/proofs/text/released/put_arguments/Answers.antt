use Rattle.std.proofs.Common.{◌≡◌, ◌∙◌, ◌∷◌, ◌++◌, ℕ, List, ap, append_assoc, codes, sym}
use Rattle.pam_codes.proofs.Writing.{all-then, err-front, front-is, front-longer, front-then}
use Rattle.pam_render.specs.text.Released.{shown_words}
use Rattle.pam_render.specs.text.WordText.{shown_word_text}
use Rattle.pam_render.proofs.text.released.put_arguments.Goals as goal

-- what is written, the text of the next word and those of the words after it
next_word : (front word : List ℕ) (left after : List (List ℕ)) (text : List ℕ) → left ≡ word ∷ after → front ++ shown_words left ≡ text
    → (front ++ (codes " " ++ shown_word_text word)) ++ shown_words after ≡ text
next_word front word left after text e h =
    append_assoc front (codes " " ++ shown_word_text word) (shown_words after) ∙ ap (λ (ws : List (List ℕ)). front ++ shown_words ws) (sym e) ∙ h

pub returns-in_err-put_shown : goal.returns-in_err-put_shown
returns-in_err-put_shown g c =
    let l = c.loop-word.invariant in
    err-front _ c.from_residual.ensures.0
    (front-is (front-longer (shown_words c.next.new.self) (front-then l.took c.in_err-put_shown.ensures))
    (next_word l.front _ _ _ _ c.in-Some.ensures.steps l.parts))

pub loop-word-preserved : goal.loop-word-preserved
loop-word-preserved g c =
    let l = c.loop-word.invariant in
    record {
      front = l.front ++ (codes " " ++ shown_word_text c.in-Some.word.now);
      parts = next_word l.front _ _ _ _ c.in-Some.ensures.steps l.parts;
      took = all-then l.took c.in_ok-put_shown.ensures;
    }
