-- Lines that are added to those that are not written yet.
use Rattle.std.proofs.Common.{◌≡◌, ℕ, List, [], ◌++◌, Option, Result, Ok, Err, ap, sym, ◌∙◌, append_assoc, append-nil}
use Rattle.pam_codes.proofs.Writing.{all-is, all-then, front-is, front-then}
use Rattle.pam_codes.specs.Out.{Device, Out, TookAll, TookFront, Writes}
use Rattle.pam_page.specs.inner.Lines.{Adds, Holds}

module _ {W : Type 0} {contents : W → Option (List ℕ)} where
  -- the earlier lines are written, and then the line
  pub adds-after : {old mid : Out W} (new : Out W) (before after text : List ℕ) (r : Result (Unit {0}) Device) → TookAll contents old mid before
      → after ≡ [] → Writes contents mid new r text → Adds contents old new before after r text
  adds-after new before after text (Ok x) s none t =
      (before ++ text, (all-then s t, ap (λ (l : List ℕ). (before ++ text) ++ l) none ∙ append-nil (before ++ text)))
  adds-after new before after text (Err x) s none t = front-then s t

  pub holds-more : {old mid new : Out W} (kept after text line : List ℕ) → Holds contents old mid kept text
      → (written : List ℕ) × (TookAll contents mid new written × (written ++ after ≡ kept ++ line)) → Holds contents old new after (text ++ line)
  holds-more kept after text line h a = (
    h.0 ++ a.0,
    (
      all-then h.1.0 a.1.0,
      append_assoc h.0 a.0 after ∙ ap (λ (l : List ℕ). h.0 ++ l) a.1.1 ∙ sym (append_assoc h.0 kept line)
          ∙ ap (λ (l : List ℕ). l ++ line) h.1.1,
    ),
  )

  pub holds-is : {old new : Out W} (kept text other : List ℕ) → Holds contents old new kept text → text ≡ other → Holds contents old new kept other
  holds-is kept text other h same = (h.0, (h.1.0, h.1.1 ∙ same))

  pub holds-failed : {old mid new : Out W} (kept text line : List ℕ) → Holds contents old mid kept text
      → TookFront contents mid new (kept ++ line) → TookFront contents old new (text ++ line)
  holds-failed kept text line h t =
      front-is (front-then h.1.0 t) (sym (append_assoc h.0 kept line) ∙ ap (λ (l : List ℕ). l ++ line) h.1.1)

  pub holds-written : {old mid new : Out W} (kept text : List ℕ) → Holds contents old mid kept text
      → TookAll contents mid new kept → TookAll contents old new text
  holds-written kept text h t = all-is (all-then h.1.0 t) h.1.1

  pub holds-cut : {old mid new : Out W} (kept text : List ℕ) → Holds contents old mid kept text
      → TookFront contents mid new kept → TookFront contents old new text
  holds-cut kept text h t = front-is (front-then h.1.0 t) h.1.1

  -- no line was kept before
  pub holds-none : {old mid new : Out W} (before kept line text : List ℕ) → before ≡ [] → line ≡ text → Holds contents old mid kept (before ++ line)
      → TookAll contents mid new kept → TookAll contents old new text
  holds-none before kept line text none same h t = all-is (holds-written kept (before ++ line) h t) (ap (λ (l : List ℕ). l ++ line) none ∙ same)

  pub holds-none_cut : {old mid new : Out W} (before kept line text : List ℕ) → before ≡ [] → line ≡ text → Holds contents old mid kept (before ++ line)
      → TookFront contents mid new kept → TookFront contents old new text
  holds-none_cut before kept line text none same h t =
      front-is (holds-cut kept (before ++ line) h t) (ap (λ (l : List ℕ). l ++ line) none ∙ same)
