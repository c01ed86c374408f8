-- The rows of the table of arguments, written one after another.
use Rattle.std.proofs.Common.{◌≡◌, ◌∙◌, ◌++◌, ℕ, List, [], ◌∷◌, Option, Some, None, append_assoc, append-nil, ap, map, refl, sym}
use Rattle.pam_text.specs.Cut.{cut_at, is_among}
use Rattle.pam_facts.specs.arguments.Cuts.{parts_of}
use Rattle.pam_facts.specs.arguments.Modules.{module_of, rows_in}
use Rattle.pam_facts.specs.arguments.Rows.{Row, row_of}
use Rattle.pam_facts.specs.arguments.Table.{lines_of}
use Rattle.pam_facts.specs.arguments.Texts.{lines_text, module_text, row_line, rows_text}
use Rattle.pam_facts.specs.arguments.Verdicts.{Module}
use Rattle.pam_facts.specs.arguments.inner.Cuts.{parts_left}
use Rattle.pam_facts.proofs.ArgumentProofs.TableSteps.{named_lines}

-- ---- the arguments of a module

module _ (name kinds : List ℕ) where
  pub rows_start : (words : Option (List ℕ)) (left : List (List ℕ)) → left ≡ parts_left 32 words →
      rows_text name kinds (map row_of left) ≡ rows_text name kinds (rows_in words)
  rows_start None left e = ap (λ (ws : List (List ℕ)). rows_text name kinds (map row_of ws)) e
  rows_start (Some text) left e = ap (λ (ws : List (List ℕ)). rows_text name kinds (map row_of ws)) e

  module _ (front word : List ℕ) (left after : List (List ℕ)) (row : Row) (text : List ℕ) where
    pub next_row : left ≡ word ∷ after → row ≡ row_of word → front ++ rows_text name kinds (map row_of left) ≡ text →
        (front ++ row_line name kinds row) ++ rows_text name kinds (map row_of after) ≡ text
    next_row e is h =
        append_assoc front (row_line name kinds row) (rows_text name kinds (map row_of after))
        ∙ ap (λ (r : Row). front ++ (row_line name kinds r ++ rows_text name kinds (map row_of after))) is
        ∙ ap (λ (ws : List (List ℕ)). front ++ rows_text name kinds (map row_of ws)) (sym e) ∙ h

  pub rows_end : (front : List ℕ) (left : List (List ℕ)) (text : List ℕ) → left ≡ [] → front ++ rows_text name kinds (map row_of left) ≡ text → front ≡ text
  rows_end front left text e h =
      sym (append-nil front) ∙ ap (λ (ws : List (List ℕ)). front ++ rows_text name kinds (map row_of ws)) (sym e) ∙ h

-- ---- the modules of lines

pub lines_start : (text : List ℕ) (left : List (List ℕ)) → left ≡ parts_of 10 text → lines_text (named_lines left) ≡ lines_text (lines_of text)
unfolding lines_of
lines_start text left e = ap (λ (ls : List (List ℕ)). lines_text (named_lines ls)) e

module _ (front line : List ℕ) (left after : List (List ℕ)) (text : List ℕ) (e : left ≡ line ∷ after)
    (h : front ++ lines_text (named_lines left) ≡ text) where
  first_left : front ++ lines_text (named_lines (line ∷ after)) ≡ text
  first_left = ap (λ (ls : List (List ℕ)). front ++ lines_text (named_lines ls)) (sym e) ∙ h

  pub line_written : (a b : List ℕ) (known : Module) → Some (a, b) ≡ cut_at (is_among (32 ∷ [])) line → known ≡ module_of b →
      (front ++ module_text a known) ++ lines_text (named_lines after) ≡ text
  line_written a b known cuts is =
      let first : named_lines (line ∷ after) ≡ (a, b) ∷ named_lines after = rw (← cuts) refl in
      append_assoc front (module_text a known) (lines_text (named_lines after))
      ∙ ap (λ (m : Module). front ++ (module_text a m ++ lines_text (named_lines after))) is
      ∙ ap (λ (ls : List (List ℕ × List ℕ)). front ++ lines_text ls) (sym first) ∙ first_left

  pub line_without_name : None ≡ cut_at (is_among (32 ∷ [])) line → front ++ lines_text (named_lines after) ≡ text
  line_without_name cuts =
      let first : named_lines (line ∷ after) ≡ named_lines after = rw (← cuts) refl in
      ap (λ (ls : List (List ℕ × List ℕ)). front ++ lines_text ls) (sym first) ∙ first_left

pub lines_end : (front : List ℕ) (left : List (List ℕ)) (text : List ℕ) → left ≡ [] → front ++ lines_text (named_lines left) ≡ text → front ≡ text
lines_end front left text e h = sym (append-nil front) ∙ ap (λ (ls : List (List ℕ)). front ++ lines_text (named_lines ls)) (sym e) ∙ h
