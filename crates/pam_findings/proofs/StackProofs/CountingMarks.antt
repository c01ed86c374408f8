-- Marks of the modules of nodes at which success counts, node by node.
use Rattle.std.proofs.Common.{◌≡◌, ℕ, ◌||◌, ◌&&◌, Bool, true, false, replicate, refl, sym, ◌∙◌, ap}
use Rattle.pam_findings.specs.stack.inner.Marks.{mark_of}
use Rattle.pam_findings.proofs.StackProofs.MarkLists.{none-marked, or-swap}

-- no module is marked, and all nodes are left
pub unmarked-left : (count number : ℕ) (left : Bool) → (mark_of (replicate count false) number || left) ≡ left
unmarked-left count number left = ap (λ (t : Bool). t || left) (none-marked count _)

and-true : (a : Bool) → (a && true) ≡ a
and-true true = refl
and-true false = refl

pub and-false : (a : Bool) → (a && false) ≡ false
and-false true = refl
and-false false = refl

-- success counts at a node: its module is marked. `here` says whether it is the module that is asked about
pub marked-more : (new old here counts left all : Bool) → new ≡ (here || old) → counts ≡ true → (old || ((here && counts) || left)) ≡ all →
    (new || left) ≡ all
marked-more new old here counts left all is e h =
    ap (λ (t : Bool). t || left) is
    ∙ or-swap here old left
    ∙ ap (λ (t : Bool). old || (t || left)) (sym (and-true here) ∙ ap (λ (t : Bool). here && t) (sym e))
    ∙ h

-- it does not count there
pub marked-same : (old here counts left all : Bool) → counts ≡ false → (old || ((here && counts) || left)) ≡ all → (old || left) ≡ all
marked-same old here counts left all e h =
    sym (ap (λ (t : Bool). old || ((here && t) || left)) e ∙ ap (λ (t : Bool). old || (t || left)) (and-false here)) ∙ h
