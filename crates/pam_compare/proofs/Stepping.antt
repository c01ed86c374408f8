-- Steps from one node to another, of which no two from one node have one class.
use Rattle.std.proofs.Common.{◌≡◌, ◌<◌, ◌≤◌, ◌+◌, ◌∙◌, ◌⊎◌, inl, inr, ℕ, List, [], ◌∷◌, ◌++◌, Some, ap, arith, length, map, subst, sym}
use Rattle.std.specs.Prelude.{slice_get}
use Rattle.std.proofs.lemmas.Option.{slice_get_within}
use Rattle.pam_compare.specs.declared.held.HeldAnswer.{HeldAnswer}
use Rattle.pam_compare.specs.declared.nodes.Way.{Way}
use Rattle.pam_compare.specs.inner.Trails.{IsTrail}
use Rattle.pam_compare.specs.inner.Ways.{AreBelow, AreOrdered, AreRising, AreUnique, HasOneMore, IsFresh, step_of}
use Rattle.pam_compare.proofs.Growing.{append-cases, nothing}

unique-push : (ways : List Way) (way : Way) → AreUnique ways → IsFresh ways way.parent way.class → AreUnique (ways ++ way ∷ [])
unfolding AreUnique IsFresh
unique-push ways way unique fresh j k v w first second at there parent class =
    elim (append-cases ways way j v at) [
      | inl was ↦ elim (append-cases ways way k w there) [
        | inl before ↦ unique j k v w first second was before parent class
        | inr new ↦ absurd (fresh j v first was (parent ∙ ap (λ (x : Way). x.parent) (sym new.0)) (class ∙ ap (λ (x : Way). x.class) (sym new.0)))
      ]
      | inr new ↦ elim (append-cases ways way k w there) [
        | inl before ↦
            absurd (fresh k w second before (sym parent ∙ ap (λ (x : Way). x.parent) (sym new.0)) (sym class ∙ ap (λ (x : Way). x.class) (sym new.0)))
        | inr too ↦ new.1 ∙ sym too.1
      ]
    ]

pub unique-more : (before after : List Way) (way : Way) → HasOneMore before after way → AreUnique before → IsFresh before way.parent way.class →
    AreUnique after
unique-more before after way (inl same) unique fresh = subst AreUnique (sym same) unique
unique-more before after way (inr more) unique fresh = subst AreUnique (sym more) (unique-push before way unique fresh)

-- a step after is one that was there, or the new one
pub one-of : (before after : List Way) (way : Way) → HasOneMore before after way → (j : ℕ) (w : Way) → slice_get after j ≡ Some w →
    (slice_get before j ≡ Some w) ⊎ (way ≡ w)
one-of before after way (inl same) j w at = inl (sym (ap (λ (l : List Way). slice_get l j) same) ∙ at)
one-of before after way (inr more) j w at =
    elim (append-cases before way j w (sym (ap (λ (l : List Way). slice_get l j) more) ∙ at)) [ inl was ↦ inl was | inr new ↦ inr new.0 ]

-- at the start there is no step
pub ordered-first : (after : List Way) (way : Way) (before : List Way) → before ≡ [] → HasOneMore before after way → AreOrdered after 0
unfolding AreUnique AreBelow AreRising
ordered-first after way before none more = record {
  unique = λ j k v w first second at. absurd (no-step j v first at);
  below = λ j w first at. absurd (no-step j w first at);
  rising = λ j k v w first most at. absurd (no-step j v first at);
}
  where
    empty : (j : ℕ) (w : Way) → slice_get before j ≡ Some w → ⊥
    empty j w at = nothing w (sym (ap (λ (l : List Way). slice_get l j) none) ∙ at)

    no-step : (j : ℕ) (w : Way) → 0 < j → slice_get after j ≡ Some w → ⊥
    no-step j w first at = go more
      where
        go : HasOneMore before after way → ⊥
        go (inl same) = empty j w (sym (ap (λ (l : List Way). slice_get l j) same) ∙ at)
        go (inr one) =
            elim (append-cases before way j w (sym (ap (λ (l : List Way). slice_get l j) one) ∙ at)) [
              | inl was ↦ empty j w was
              | inr new ↦ let size = ap (λ (l : List Way). length l) none in omega (arith, first, new.1, size)
            ]

rising-push : (ways : List Way) (way : Way) → AreRising ways → AreBelow ways (way.parent + 1) → AreRising (ways ++ way ∷ [])
unfolding AreRising AreBelow
rising-push ways way rising below j k v w first most at there =
    elim (append-cases ways way k w there) [
      | inl before ↦ elim (append-cases ways way j v at) [
        | inl was ↦ rising j k v w first most was before
        | inr new ↦ let inside = slice_get_within ways k w before in absurd (omega (arith, inside, new.1, most))
      ]
      | inr last ↦
          let is : way.parent ≡ w.parent = ap (λ (x : Way). x.parent) last.0 in
          elim (append-cases ways way j v at) [
            | inl was ↦ let less = below j v first was in omega (arith, less, is)
            | inr new ↦ let same : way.parent ≡ v.parent = ap (λ (x : Way). x.parent) new.0 in omega (arith, is, same)
          ]
    ]

-- one more step, which is not from an earlier node
pub rising-more : (before after : List Way) (way : Way) → HasOneMore before after way → AreRising before → AreBelow before (way.parent + 1) → AreRising after
rising-more before after way (inl same) rising below = subst AreRising (sym same) rising
rising-more before after way (inr more) rising below = subst AreRising (sym more) (rising-push before way rising below)

-- later nodes are not reached by fewer steps
pub steps-rise : (ways : List Way) → AreRising ways → (trail other : List Way) (j k : ℕ) → IsTrail ways j trail → IsTrail ways k other → j ≤ k →
    length trail ≤ length other
unfolding IsTrail AreRising
steps-rise ways rising [] other j k t u most = omega arith
steps-rise ways rising (v ∷ trail) [] j k t u most = absurd (omega (arith, t.0, u, most))
steps-rise ways rising (v ∷ trail) (w ∷ other) j k t u most =
    let rest = steps-rise ways rising trail other v.parent w.parent t.3 u.3 (rising j k v w t.0 most t.1 u.1) in
    omega (arith, rest)

pub below-more : (ways : List Way) (index : ℕ) → AreBelow ways index → AreBelow ways (index + 1)
unfolding AreBelow
below-more ways index below j w first at = let less = below j w first at in omega (arith, less)

no-list : (x : HeldAnswer) (xs : List HeldAnswer) → [] ≡ x ∷ xs → ⊥
no-list x xs e = cc

first-is : (x y : HeldAnswer) (xs ys : List HeldAnswer) → x ∷ xs ≡ y ∷ ys → x ≡ y
first-is x y xs ys e = cc

rest-is : (x y : HeldAnswer) (xs ys : List HeldAnswer) → x ∷ xs ≡ y ∷ ys → xs ≡ ys
rest-is x y xs ys e = cc

-- two nodes to which answers of the same classes lead are one
pub one-node : (ways : List Way) → AreUnique ways → (j k : ℕ) (trail other : List Way) → IsTrail ways j trail → IsTrail ways k other →
    map step_of trail ≡ map step_of other → j ≡ k
unfolding IsTrail AreUnique
one-node ways unique j k [] [] t u e = t ∙ sym u
one-node ways unique j k [] (w ∷ other) t u e = absurd (no-list (step_of w) (map step_of other) e)
one-node ways unique j k (v ∷ trail) [] t u e = absurd (no-list (step_of v) (map step_of trail) (sym e))
one-node ways unique j k (v ∷ trail) (w ∷ other) t u e =
    let parents = one-node ways unique v.parent w.parent trail other t.3 u.3 (rest-is (step_of v) (step_of w) (map step_of trail) (map step_of other) e) in
    unique j k v w t.0 u.0 t.1 u.1 parents (ap (λ (h : HeldAnswer). h.codes) (first-is (step_of v) (step_of w) (map step_of trail) (map step_of other) e))
