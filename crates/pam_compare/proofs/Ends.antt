-- Places at the end of a run, one in each state.
use Rattle.std.proofs.Common.{◌≡◌, ◌≢◌, ◌∙◌, ℕ, List, [], ◌∷◌, ◌++◌, Some, None, length, ap, sym, inl, inr}
use Rattle.std.specs.Prelude.{slice_get}
use Rattle.pam_dispatch.specs.declared.flat_item.FlatItem.{FlatItem}
use Rattle.pam_dispatch.specs.declared.place.Place.{Place}
use Rattle.pam_dispatch.specs.declared.state.State.{State}
use Rattle.pam_dispatch.specs.Flat.{rest_of}
use Rattle.pam_dispatch.specs.Runs.{Runs, ends, asks, asked_module, state_in}
use Rattle.pam_compare.specs.inner.Nodes.{AreEndsOf}
use Rattle.pam_compare.proofs.Growing.{append-cases, append-left, at-end, nothing}

-- runs that end in one state are one
pub one-end : (one other : Runs) → asked_module one ≡ None → asked_module other ≡ None → state_in one ≡ state_in other → one ≡ other
one-end (ends s) (ends t) e f same = ap (λ (x : State). ends x) same
one-end (ends s) (asks ask next) e f same = absurd (nothing _ (sym f))
one-end (asks ask next) other e f same = absurd (nothing _ (sym e))

pub no-ends : (program : List FlatItem) (places : List Place) (last : List ℕ) → places ≡ [] → last ≡ [] → AreEndsOf program places last
no-ends program places last e f = record {
  sound = λ m k at. absurd (nothing k (sym (ap (λ (l : List ℕ). slice_get l m) f) ∙ at));
  listed = λ k p at. absurd (nothing p (sym (ap (λ (l : List Place). slice_get l k) e) ∙ at));
  single = λ j k p q at. absurd (nothing p (sym (ap (λ (l : List Place). slice_get l j) e) ∙ at));
}

module _ (program : List FlatItem) (places : List Place) (last : List ℕ) (place : Place) (are : AreEndsOf program places last) where
  -- one more place at the end, in a state in which none was
  pub push-end : asked_module (rest_of program place) ≡ None →
      ((k : ℕ) (p : Place) → slice_get places k ≡ Some p → asked_module (rest_of program p) ≡ None → rest_of program p ≢ rest_of program place) →
      AreEndsOf program (places ++ place ∷ []) (last ++ length places ∷ [])
  push-end ended none = record {
    sound = λ m k at. elim (append-cases last (length places) m k at) [
      | inl was ↦ let s = are.sound m k was in (s.0, append-left places (place ∷ []) k s.0 s.1, s.2)
      | inr new ↦ (place, ap (slice_get (places ++ place ∷ [])) (sym new.0) ∙ at-end places place, ended)
    ];
    listed = λ k p at asked. elim (append-cases places place k p at) [
      | inl was ↦ let l = are.listed k p was asked in (l.0, append-left last (length places ∷ []) l.0 k l.1)
      | inr new ↦ (length last, at-end last (length places) ∙ ap (λ (n : ℕ). Some n) (sym new.1))
    ];
    single = λ j k p q at there asked same. elim (append-cases places place j p at) [
      | inl was ↦ elim (append-cases places place k q there) [
        | inl first ↦ are.single j k p q was first asked same
        | inr new ↦ absurd (none j p was asked (same ∙ ap (rest_of program) (sym new.0)))
      ]
      | inr new ↦ elim (append-cases places place k q there) [
        | inl first ↦ absurd (none k q first (sym (ap asked_module same) ∙ asked) (sym same ∙ ap (rest_of program) (sym new.0)))
        | inr too ↦ new.1 ∙ sym too.1
      ]
    ];
  }

  -- one more place at which a module is asked
  pub push-asking : (i : ℕ) → asked_module (rest_of program place) ≡ Some i → AreEndsOf program (places ++ place ∷ []) last
  push-asking i asking = record {
    sound = λ m k at. let s = are.sound m k at in (s.0, append-left places (place ∷ []) k s.0 s.1, s.2);
    listed = λ k p at asked. elim (append-cases places place k p at) [
      | inl was ↦ are.listed k p was asked
      | inr new ↦ absurd (nothing i (sym asked ∙ ap (λ (x : Place). asked_module (rest_of program x)) (sym new.0) ∙ asking))
    ];
    single = λ j k p q at there asked same. elim (append-cases places place j p at) [
      | inl was ↦ elim (append-cases places place k q there) [
        | inl first ↦ are.single j k p q was first asked same
        | inr new ↦ absurd (nothing i (sym asked ∙ ap asked_module same ∙ ap (λ (x : Place). asked_module (rest_of program x)) (sym new.0) ∙ asking))
      ]
      | inr new ↦ absurd (nothing i (sym asked ∙ ap (λ (x : Place). asked_module (rest_of program x)) (sym new.0) ∙ asking))
    ];
  }
