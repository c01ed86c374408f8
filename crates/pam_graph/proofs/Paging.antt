-- Pages of the paths that meet a goal.
use Rattle.std.proofs.Common.{◌≡◌, ℕ, Bool, true, false, List, [], ◌∷◌, ◌++◌, cond, refl, sym, ◌∙◌, ap, subst, inl}
use Rattle.std.proofs.Common.{append_assoc, filter, reverse}
use Rattle.std.proofs.lemmas.Bool.{false≢true}
use Rattle.std.proofs.lemmas.List.{reverse-append, reverse-reverse}
use Rattle.pam_graph.specs.declared.goal.Goal.{Goal}
use Rattle.pam_graph.specs.Goals.{meeting, meets}
use Rattle.pam_graph.proofs.Sides.{filter-reverse}
use Rattle.pam_graph.proofs.Turning.{filter-swap}
use Rattle.pam_text.specs.Members.{Member}
use Rattle.pam_paths.specs.Pages.{before}
use Rattle.pam_paths.specs.Paths.{IsRising, PathValue, key, precedes}
use Rattle.pam_paths.proofs.Alike.{Member-filter_back}
use Rattle.pam_paths.proofs.Keys.{Precedes-from, Precedes-to}
use Rattle.pam_paths.proofs.Listings.{Member-right, Precedes-trans}
use Rattle.pam_paths.proofs.PageProofs.{split_front}
use Rattle.pam_paths.proofs.Parts.{kept-rising}

-- a test that implies another
filter-inside : (p q : PathValue → Bool) → ((x : PathValue) → p x ≡ true → q x ≡ true) → (xs : List PathValue) → filter p (filter q xs) ≡ filter p xs
filter-inside p q h [] = refl
filter-inside p q h (x ∷ xs) = each (q x) (p x) refl refl (filter-inside p q h xs)
  where
    each : (a b : Bool) → q x ≡ a → p x ≡ b → filter p (filter q xs) ≡ filter p xs →
        filter p (cond (q x) (x ∷ filter q xs) (filter q xs)) ≡ cond (p x) (x ∷ filter p xs) (filter p xs)
    each true b k l again =
        ap (λ (t : Bool). filter p (cond t (x ∷ filter q xs) (filter q xs))) k ∙ ap (λ (ys : List PathValue). cond (p x) (x ∷ ys) ys) again
    each false true k l again = absurd (false≢true (sym k ∙ h x l))
    each false false k l again =
        ap (λ (t : Bool). filter p (cond t (x ∷ filter q xs) (filter q xs))) k ∙ again
        ∙ sym (ap (λ (t : Bool). cond t (x ∷ filter p xs) (filter p xs)) l)

-- the paths before a key that meet a goal are, of those that meet it, the ones before the key
pub meeting-back : (goal : Goal) (k : List ℕ) (all : List PathValue) → meeting goal (before k all) ≡ before k (meeting goal all)
meeting-back goal k all =
    filter-reverse (meets goal) (filter (λ q. precedes (key q) k) all) ∙ ap reverse (filter-swap (meets goal) (λ q. precedes (key q) k) all)

-- from a path before a key, the paths before it follow
pub goes-back : (all : List PathValue) (k : List ℕ) (front rest : List PathValue) (p : PathValue) → IsRising all → before k all ≡ front ++ p ∷ rest →
    before (key p) all ≡ rest
unfolding Member
goes-back all k front rest p rise e =
    let test : PathValue → Bool = λ q. precedes (key q) k in
    let some : List PathValue = filter test all in
    let turned : some ≡ reverse rest ++ p ∷ reverse front =
    sym (reverse-reverse some) ∙ ap reverse e ∙ reverse-append front (p ∷ rest)
    ∙ ap (λ (x : List PathValue). x ++ reverse front) (reverse-append (p ∷ []) rest) ∙ append_assoc (reverse rest) (p ∷ []) (reverse front) in
    let inside = (Member-filter_back test all p (subst (Member p) (sym turned) (Member-right p (reverse rest) (p ∷ reverse front) (inl refl)))).1 in
    ap reverse (sym (filter-inside (λ q. precedes (key q) (key p)) test (λ x h. Precedes-to (key x) k
    (Precedes-trans (key x) (key p) k (Precedes-from (key x) (key p) h) (Precedes-from (key p) k inside))) all)
    ∙ split_front some (reverse rest) p (reverse front) turned (kept-rising test all rise))
    ∙ reverse-reverse rest
