-- Keys of places: that of a module, or the one of the end.
use Rattle.std.proofs.Common.{◌≡◌, ◌∙◌, ℕ, List, [], ◌∷◌, Option, Some, None, ap, arith, drop, length, refl, subst, sym}
use Rattle.std.proofs.lemmas.List.{drop_all, length-take}
use Rattle.pam_dispatch.specs.declared.flat_item.FlatItem.{FlatItem}
use Rattle.pam_dispatch.specs.declared.flat_item.FlatItem.TheVariants.{Module, Substack}
use Rattle.pam_dispatch.specs.declared.place.Place.{Place}
use Rattle.pam_dispatch.specs.declared.state.State.{State}
use Rattle.pam_dispatch.specs.Flat.{IsAt, IsPlaceOf, resume}
use Rattle.pam_dispatch.specs.Keys.{KeyValue, key_of, rest_at}
use Rattle.pam_dispatch.specs.Runs.{Runs, ends, asks, asked_module, state_in}
use Rattle.pam_compare.specs.Situations.{IsKey, IsKeyAt}
use Rattle.pam_compare.proofs.Growing.{nothing}

-- the key of the end
abbrev pub end_key : List FlatItem → State → KeyValue
end_key program s = record { position = length program; depth = 0; state = s; entered = [] }

-- a key, or the one of the end where no module is asked
abbrev pub key_for : List FlatItem → KeyValue → Option ℕ → KeyValue
key_for program key None = end_key program (state_in (rest_at program key))
key_for program key (Some i) = key

abbrev pub key_in : List FlatItem → KeyValue → KeyValue
key_in program key = key_for program key (asked_module (rest_at program key))

at-end-of : (program : List FlatItem) → drop (length program) program ≡ []
at-end-of program = drop_all (length program) program (omega arith)

end-rest : (program : List FlatItem) (s : State) → rest_at program (end_key program s) ≡ ends s
unfolding rest_at resume
end-rest program s = ap (λ (items : List FlatItem). resume items 0 0 [] s) (at-end-of program)

ended : (runs : Runs) → asked_module runs ≡ None → ends (state_in runs) ≡ runs
ended (ends s) e = refl
ended (asks ask next) e = absurd (nothing _ (sym e))

-- the run goes on from it alike
pub same-rest : (program : List FlatItem) (key : KeyValue) → rest_at program (key_in program key) ≡ rest_at program key
same-rest program key = go (asked_module (rest_at program key)) refl
  where
    go : (o : Option ℕ) → asked_module (rest_at program key) ≡ o → rest_at program (key_for program key o) ≡ rest_at program key
    go None e = end-rest program (state_in (rest_at program key)) ∙ ended (rest_at program key) e
    go (Some i) e = refl

pub asking-key : (program : List FlatItem) (key : KeyValue) (i : ℕ) → asked_module (rest_at program key) ≡ Some i → key_in program key ≡ key
asking-key program key i e = ap (key_for program key) e

-- it is the key of a module or of the end
is-end_key : (program : List FlatItem) (s : State) → IsKey program (end_key program s)
unfolding IsKeyAt
is-end_key program s = subst (λ (items : List FlatItem). IsKeyAt program items (end_key program s)) (sym (at-end-of program)) (refl, refl, refl)

module _ (program : List FlatItem) (place : Place) where
  at-items : (items : List FlatItem) → IsAt items place.depth place.module_number → (i : ℕ) →
      asked_module (resume items place.depth 0 (key_of place).entered place.state) ≡ Some i → IsKeyAt program items (key_of place)
  unfolding IsKeyAt resume key_of
  at-items [] at i asked = absurd (nothing i asked)
  at-items (Module level number control after ∷ rest) at i asked = (at.0, omega (arith, length-take place.depth place.entered.states))
  at-items (Substack level ∷ rest) at i asked = absurd at

  pub place-key : IsPlaceOf program place → IsKey program (key_in program (key_of place))
  unfolding IsPlaceOf rest_at key_of
  place-key is = go (asked_module (rest_at program (key_of place))) refl
    where
      go : (o : Option ℕ) → asked_module (rest_at program (key_of place)) ≡ o → IsKey program (key_for program (key_of place) o)
      go None e = is-end_key program (state_in (rest_at program (key_of place)))
      go (Some i) e = at-items (drop place.position program) is i e
