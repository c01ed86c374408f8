use Rattle.std.proofs.Common.{◌≡◌, ◌∷◌, ◌++◌, ◌∙◌, [], ℕ, Bool, List, None, Option, Some, ap, cond, false, length, refl, slice_get, subst, sym, true}
use Rattle.std.specs.Option.{is_some}
use Rattle.std.specs.Prelude.{not}
use Rattle.std.proofs.lemmas.Bool.{false≢true}
use Rattle.pam_dispatch.specs.declared.place.Place.{Place}
use Rattle.pam_dispatch.specs.Keys.{KeyValue, rest_at}
use Rattle.pam_compare.specs.inner.Nodes.{AreEndsOf}
use Rattle.pam_compare.proofs.Ends.{push-asking, push-end}
use Rattle.pam_compare.proofs.Growing.{keeps-push, keeps-same, place-added, place-found, places-push}
use Rattle.pam_compare.proofs.nodes.Places.index_of.Goals as goal
use Rattle.pam_compare.proofs.nodes.Places.index_of.Goals.{then-is_end+in_default-end_like, else-is_end}

pub returns-in-Some-clause-keeps : goal.returns-in-Some-clause-keeps
returns-in-Some-clause-keeps c = keeps-same _

pub returns-in-Some-clause-found : goal.returns-in-Some-clause-found
returns-in-Some-clause-found c program are ends here =
    place-found program c.args.self.now.places.items c.args.self.now.keys c.args.place.now c.in-Some.index are
    (subst (λ (k : KeyValue). slice_get c.args.self.now.keys c.in-Some.index ≡ Some k) c.key-key.ensures.key c.in-Some.ensures.found)
    (ap (rest_at program) (sym c.key-key.ensures.key) ∙ c.key-key.ensures.rest program)

pub returns-clause-keeps : goal.returns-clause-keeps
returns-clause-keeps c = keeps-push c.args.self.now.places.items c.args.place.now _ c.in_ok-push_place.ensures

pub returns-clause-places : goal.returns-clause-places
returns-clause-places c program are here =
    places-push program c.args.self.now.places.items c.args.self.now.keys c.args.place.now _ _ c.in_ok-push_place.ensures
    (c.in_ok-push.ensures.added ∙ ap (λ (k : KeyValue). c.args.self.now.keys ++ k ∷ []) c.key-key.ensures.key) are here
    (ap (rest_at program) (sym c.key-key.ensures.key) ∙ c.key-key.ensures.rest program)

pub returns-clause-found : goal.returns-clause-found
returns-clause-found c program are ends here =
    place-added program c.args.self.now.places.items c.args.place.now _ _ c.in_ok-push_place.ensures (c.len-index.ensures.count ∙ sym are.count)

is-none : (o : Option ℕ) → is_some o ≡ false → o ≡ None
is-none None e = refl
is-none (Some i) e = absurd (false≢true (sym e))

is-some : (o : Option ℕ) → is_some o ≡ true → (i : ℕ) × (o ≡ Some i)
is-some None e = absurd (false≢true e)
is-some (Some i) e = (i, refl)

pub returns-in-Some-end_like-clause-keeps : goal.returns-in-Some-end_like-clause-keeps
returns-in-Some-end_like-clause-keeps c = keeps-same _

pub returns-in-Some-end_like-clause-found : goal.returns-in-Some-end_like-clause-found
returns-in-Some-end_like-clause-found c program are of here =
    let none : c.module.result ≡ None = is-none c.module.result (c.is_none-is_end.ensures ∙ ap not c.if-is_end.true) in
    c.in-Some-end_like.ensures.found program are of here (sym (c.module.ensures program here) ∙ none)

pub returns-clause-ends : goal.returns-clause-ends
returns-clause-ends c program are of here =
    let places = c.args.self.now.places.items in
    let known = c.args.self.now.ends.items in
    let place = c.args.place.now in
    let more = c.in_ok-push_place.ensures in
    let index : c.len-index.result ≡ length places = c.len-index.ensures.count ∙ sym are.count in
    let Ends : List Place → List ℕ → Type 0 = AreEndsOf program in
    elim c.if-is_end.branch [
      | then-is_end+in_default-end_like w ↦
          let none : c.module.result ≡ None = is-none c.module.result (c.is_none-is_end.ensures ∙ ap not w.if-is_end.true) in
          subst (λ (l : List Place). Ends l c.push_end.new.ends.items) (sym more)
          (subst (Ends (places ++ place ∷ []))
          (sym (c.in_ok-push_end.ensures ∙ ap (λ (b : Bool). cond b (known ++ c.len-index.result ∷ []) known) w.if-is_end.true
          ∙ ap (λ (n : ℕ). known ++ n ∷ []) index))
          (push-end program places known place of (sym (c.module.ensures program here) ∙ none) (w.in_default-end_like.ensures.none program are of here)))
      | else-is_end w ↦
          let some = is-some c.module.result (c.is_none-is_end.ensures ∙ ap not w.if-is_end.false) in
          subst (λ (l : List Place). Ends l c.push_end.new.ends.items) (sym more)
          (subst (Ends (places ++ place ∷ []))
          (sym (c.in_ok-push_end.ensures ∙ ap (λ (b : Bool). cond b (known ++ c.len-index.result ∷ []) known) w.if-is_end.false))
          (push-asking program places known place of some.0 (sym (c.module.ensures program here) ∙ some.1)))
    ]
