-- Classes, each once.
use Rattle.std.proofs.Common.{◌≡◌, ◌⊎◌, ℕ, Bool, true, false, List, [], ◌∷◌, ◌++◌, filter, fold, inl, inr, map, refl, subst, sym}
use Rattle.std.proofs.lemmas.Bool.{eqb-true}
use Rattle.std.specs.List.{list_any}
use Rattle.std.specs.Prelude.{if◌then◌else◌, nat_eq}
use Rattle.pam_paths.proofs.Alike.{Member-filter, Member-filter_back}
use Rattle.pam_paths.proofs.Listings.{Member-cases, Member-left, Member-map, Member-map_back, Member-right}
use Rattle.pam_text.specs.Members.{Member}
use Rattle.pam_policy.specs.host.Laws.{EachPlaceIsJudged, SpokenPlace}
use Rattle.pam_policy.specs.host.Places.{PlaceText, speaks_of, spoken_classes, with_class}
use Rattle.pam_policy.specs.text.Rules.{RuleText}
use Rattle.pam_policy.proofs.RulesProofs.Lists.{any-back}

-- one more class

step-back : (classes : List ℕ) (class x : ℕ) (b : Bool) → Member x (if b then classes else classes ++ class ∷ []) → Member x classes ⊎ (x ≡ class)
unfolding Member
step-back classes class x true h = inl h
step-back classes class x false h =
    elim (Member-cases x classes (class ∷ []) h) [ inl old ↦ inl old | inr new ↦ elim new [ inl e ↦ inr e | inr none ↦ absurd none ] ]

step-old : (classes : List ℕ) (class x : ℕ) (b : Bool) → Member x classes → Member x (if b then classes else classes ++ class ∷ [])
step-old classes class x true h = h
step-old classes class x false h = Member-left x classes (class ∷ []) h

step-new : (classes : List ℕ) (class : ℕ) (b : Bool) → list_any (nat_eq class) classes ≡ b → Member class (if b then classes else classes ++ class ∷ [])
unfolding Member
step-new classes class true is =
    let back = any-back (nat_eq class) classes is in subst (λ (x : ℕ). Member x classes) (sym (eqb-true class back.0 back.2)) back.1
step-new classes class false is = Member-right class classes (class ∷ []) (inl refl)

-- all classes

back : (xs classes : List ℕ) (x : ℕ) → Member x (fold with_class classes xs) → Member x classes ⊎ Member x xs
unfolding Member
back [] classes x h = inl h
back (class ∷ xs) classes x h =
    elim (back xs (with_class classes class) x h) [
      | inl stepped ↦ elim (step-back classes class x (list_any (nat_eq class) classes) stepped) [ inl old ↦ inl old | inr e ↦ inr (inl e) ]
      | inr later ↦ inr (inr later)
    ]

kept : (xs classes : List ℕ) (x : ℕ) → Member x classes → Member x (fold with_class classes xs)
kept [] classes x h = h
kept (class ∷ xs) classes x h = kept xs (with_class classes class) x (step-old classes class x (list_any (nat_eq class) classes) h)

there : (xs classes : List ℕ) (x : ℕ) → Member x xs → Member x (fold with_class classes xs)
unfolding Member
there [] classes x h = absurd h
there (class ∷ xs) classes x (inl e) =
    kept xs (with_class classes class) x
    (subst (λ (y : ℕ). Member y (with_class classes class)) (sym e) (step-new classes class (list_any (nat_eq class) classes) refl))
there (class ∷ xs) classes x (inr later) = there xs (with_class classes class) x later

-- those of the places of which a rule speaks

pub spoken-class : (rule : RuleText) (places : List PlaceText) (class : ℕ) → SpokenPlace rule places class → Member class (spoken_classes rule places)
unfolding spoken_classes
spoken-class rule places class of =
    let class_of : PlaceText → ℕ = λ place. place.class in
    there (map class_of (filter (speaks_of rule) places)) [] class
    (subst (λ (x : ℕ). Member x (map class_of (filter (speaks_of rule) places))) (sym of.is_class)
    (Member-map class_of of.place (filter (speaks_of rule) places) (Member-filter (speaks_of rule) places of.place of.there of.spoken)))

class-spoken : (rule : RuleText) (places : List PlaceText) (class : ℕ) → Member class (spoken_classes rule places) → SpokenPlace rule places class
unfolding spoken_classes Member
class-spoken rule places class h =
    let class_of : PlaceText → ℕ = λ place. place.class in
    elim (back (map class_of (filter (speaks_of rule) places)) [] class h) [
      | inl none ↦ absurd none
      | inr of ↦
          let place = Member-map_back class_of class (filter (speaks_of rule) places) of in
          let spoken = Member-filter_back (speaks_of rule) places place.0 place.1 in
          record { place = place.0; there = spoken.0; spoken = spoken.1; is_class = place.2 }
    ]

pub each-judged : EachPlaceIsJudged
each-judged rule places class = (class-spoken rule places class, spoken-class rule places class)
