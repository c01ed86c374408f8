-- The texts of the items of an iterator, one after another.
use Rattle.std.proofs.Common.{◌≡◌, ◌∙◌, ℕ, List, [], ◌∷◌, ◌++◌, ap, append-nil, append_assoc, Option, Result, sym}
use Rattle.std.specs.List.{flat_map}
use Rattle.pam_codes.proofs.Writing.{all-is, all-none, all-then, front-is, front-longer, front-then, writes-is, writes-then}
use Rattle.pam_codes.specs.Out.{Device, Out, TookAll, TookFront, Writes}

-- the lines of a list are written, but for those that are left
pub record Partly {W A : Type 0} (contents : W → Option (List ℕ)) (line : A → List ℕ) (old new : Out W) (all left : List A) : Type 0 where
  pub front : List ℕ
  pub parts : front ++ flat_map line left ≡ flat_map line all
  pub took : TookAll contents old new front

module _ {W A : Type 0} {contents : W → Option (List ℕ)} (line : A → List ℕ) where
  pub partly-none : (old : Out W) (all left : List A) → left ≡ all → Partly contents line old old all left
  partly-none old all left e = record { front = []; parts = ap (flat_map line) e; took = all-none old }

  parts-more : {old new : Out W} {all left after : List A} (x : A) (p : Partly contents line old new all left) → left ≡ x ∷ after
      → (p.front ++ line x) ++ flat_map line after ≡ flat_map line all
  parts-more {after = after} x p e =
      append_assoc p.front (line x) (flat_map line after) ∙ ap (λ (xs : List A). p.front ++ flat_map line xs) (sym e) ∙ p.parts

  -- one more line
  pub partly-more : {old mid new : Out W} {all left after : List A} (x : A) → Partly contents line old mid all left → left ≡ x ∷ after
      → TookAll contents mid new (line x) → Partly contents line old new all after
  partly-more x p e t = record { front = p.front ++ line x; parts = parts-more x p e; took = all-then p.took t }

  -- a line that failed
  pub partly-failed : {old mid new : Out W} {all left after : List A} (x : A) → Partly contents line old mid all left → left ≡ x ∷ after
      → TookFront contents mid new (line x) → TookFront contents old new (flat_map line all)
  partly-failed {after = after} x p e t = front-is (front-longer (flat_map line after) (front-then p.took t)) (parts-more x p e)

  -- no line is left
  pub partly-all : {old new : Out W} {all left : List A} → Partly contents line old new all left → left ≡ [] → TookAll contents old new (flat_map line all)
  partly-all p e = all-is p.took (sym (append-nil p.front) ∙ ap (λ (xs : List A). p.front ++ flat_map line xs) (sym e) ∙ p.parts)

  -- the last line
  pub partly-last : {old mid : Out W} {all left : List A} (new : Out W) (result : Result (Unit {0}) Device) (x : A)
      → Partly contents line old mid all left → left ≡ x ∷ []
      → Writes contents mid new result (line x) → Writes contents old new result (flat_map line all)
  partly-last new result x p e w =
      writes-is _ _ _ _ _ _ (writes-then _ _ _ p.took w) (sym (append-nil (p.front ++ line x)) ∙ parts-more x p e)
