-- The lines of the stacks that are compared.
use Rattle.std.proofs.Common.{◌≡◌, ◌∙◌, ℕ, ◌+◌, ◌<◌, List, ◌∷◌, ◌++◌, Option, Some, None, ap, ap₂, add-one, append_assoc}
use Rattle.std.proofs.Common.{drop, drop-cons, get_or, length, sym}
use Rattle.pam_changes.specs.Counts.{counts_of}
use Rattle.pam_changes.specs.declared.counts.Counts.{Counts}
use Rattle.pam_changes.specs.declared.stacks.ComparedStack.{ComparedStack}
use Rattle.pam_changes.specs.declared.stacks.StackChange.TheVariants.{NoStack}
use Rattle.pam_conf.specs.declared.rule.Kind.TheVariants.{Auth}
use Rattle.pam_report.specs.Reply.{CompareValue}
use Rattle.pam_render.specs.parts.Changes.{compared_count}
use Rattle.pam_render.specs.parts.Compared.{Last, Line, compared_lines, lines_after, next_stack}

-- what an index past the end would give
abbrev pub no-stack : ComparedStack
no-stack = record { service = 0; kind = Auth; change = NoStack }

-- the service of the stack at an index
abbrev pub next-service : List ComparedStack → ℕ → Option ℕ
next-service stacks i = Some (get_or stacks i no-stack).service

-- if this is the text of a line
module _ (line : Line → List ℕ) where
  -- the lines of the stacks before the i-th, of that stack and of the others
  pub lines-at : (value : CompareValue) (stacks : List ComparedStack) (before : Option ℕ) (front text : List ℕ) (i : ℕ) → i < length stacks
      → front ++ lines_after line value before (drop i stacks) ≡ text
      → (front ++ next_stack line value before (get_or stacks i no-stack)) ++ lines_after line value (next-service stacks i) (drop (i + 1) stacks) ≡ text
  lines-at value stacks before front text i h e =
      let at : drop i stacks ≡ get_or stacks i no-stack ∷ drop (i + 1) stacks = rw add-one (drop-cons stacks i no-stack h) in
      append_assoc front _ _ ∙ ap (λ (xs : List ComparedStack). front ++ lines_after line value before xs) (sym at) ∙ e

  -- the whole text
  pub all-lines-are : (value : CompareValue) (one other : List ComparedStack) (count : ℕ) (counts : Counts)
      → one ≡ value.changes.stacks.items → other ≡ value.changes.stacks.items → count ≡ compared_count other → counts ≡ counts_of value.changes
      → lines_after line value None one ++ line (Last count counts) ≡ compared_lines line value
  all-lines-are value one other count counts e f n c =
      ap₂ (λ xs t. lines_after line value None xs ++ t) e (ap₂ (λ n c. line (Last n c)) (n ∙ ap compared_count f) c)
