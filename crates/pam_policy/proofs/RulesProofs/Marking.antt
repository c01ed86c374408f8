-- Marks of events, made one event and one module after another.
use Rattle.std.proofs.Common.{◌≡◌, ℕ, ◌+◌, ◌<◌, ◌≤◌, ◌||◌, ◌==◌, Bool, true, false}
use Rattle.std.proofs.Common.{List, [], ◌∷◌, ◌++◌, inl, inr, refl, sym, ◌∙◌, ap, subst, cond, arith, map}
use Rattle.std.proofs.lemmas.Bool.{cases_eq, eq-eqb, ne_eqb}
use Rattle.std.proofs.lemmas.List.{map-append}
use Rattle.std.proofs.lemmas.List.Folds.{list_any-append}
use Rattle.std.specs.List.{list_any}
use Rattle.pam_codes.specs.Code.{all_codes}
use Rattle.pam_codes.specs.Set.{codes_where, is_in}
use Rattle.pam_codes.specs.inner.SetBits.{codes_where-same, is_in-codes_where}
use Rattle.pam_conf.specs.Stack.{module_count}
use Rattle.pam_policy.specs.declared.search.marks.Marks.{Marks}
use Rattle.pam_policy.specs.rules.Happening.{event_answers}
use Rattle.pam_policy.specs.search.Marks.{codes_at}
use Rattle.pam_policy.specs.rules.Site.{SiteText}
use Rattle.pam_policy.specs.rules.inner.Marking.{AreMarks, AreMarksOf, singles}
use Rattle.pam_policy.specs.text.Events.{EventText}

pub any-map : {X Y : Type 0} (test : Y → Bool) (view : X → Y) (xs : List X) → list_any test (map view xs) ≡ list_any (λ x. test (view x)) xs
any-map test view [] = refl
any-map test view (x ∷ xs) = ap (λ (t : Bool). test (view x) || t) (any-map test view xs)

or-false : (a b : Bool) → (a || (b || false)) ≡ (a || b)
or-false true b = refl
or-false false true = refl
or-false false false = refl

-- ONE EVENT AFTER ANOTHER
module _ {X : Type 0} (has : ℕ → X → Bool) where
  abbrev pub codes_of_some : List X → List ℕ
  codes_of_some xs = codes_where (λ code. list_any (has code) xs)

  pub codes-none : (codes : List ℕ) → codes ≡ [] → codes ≡ codes_of_some []
  unfolding all_codes
  codes-none codes e = e

  pub codes-more : (some next : List X) (x : X) (codes more new : List ℕ) → next ≡ some ++ x ∷ [] → codes ≡ codes_of_some some →
      new ≡ codes_where (λ code. is_in code codes || is_in code more) → ((code : ℕ) → is_in code more ≡ has code x) → new ≡ codes_of_some next
  codes-more some next x codes more new is are put here =
      put ∙ codes_where-same _ _ (λ code low.
      ap (λ (t : Bool). t || is_in code more) (ap (is_in code) are ∙ is_in-codes_where (λ c. list_any (has c) some) code low)
      ∙ ap (λ (t : Bool). list_any (has code) some || t) (here code)
      ∙ sym (or-false (list_any (has code) some) (has code x))
      ∙ sym (list_any-append (has code) some (x ∷ []))
      ∙ ap (list_any (has code)) (sym is))

-- ONE MODULE AFTER ANOTHER
pub record AreBelow (any : ℕ → ℕ → Bool) (index : ℕ) (codes : ℕ → List ℕ) : Type 0 where
  pub done : (number code : ℕ) → 1 ≤ number → number ≤ index → code < 31 → is_in code (codes number) ≡ any number code
  pub rest : (number : ℕ) → index < number → codes number ≡ []

pub modules-more : (any : ℕ → ℕ → Bool) (index at : ℕ) (old new : ℕ → List ℕ) (more : List ℕ) → at ≡ index + 1 →
    more ≡ codes_where (any at) →
    ((number : ℕ) → 1 ≤ number → new number ≡ cond (number == at) (codes_where (λ c. is_in c (old number) || is_in c more)) (old number)) →
    AreBelow any index old → AreBelow any (index + 1) new
modules-more any index at old new more next are put h = record {
  done = λ number code first last low. elim (cases_eq number at) [
    | inl e ↦
        let none : old number ≡ [] = h.rest number (omega (arith, e, next)) in
        let chosen : new number ≡ codes_where (λ c. is_in c (old number) || is_in c more) =
        put number first
        ∙ ap (λ (t : Bool). cond t (codes_where (λ c. is_in c (old number) || is_in c more)) (old number)) (eq-eqb number at e) in
        ap (is_in code) chosen
        ∙ is_in-codes_where (λ c. is_in c (old number) || is_in c more) code low
        ∙ ap (λ (xs : List ℕ). is_in code xs || is_in code more) none
        ∙ ap (is_in code) are
        ∙ is_in-codes_where (any at) code low
        ∙ ap (λ (n : ℕ). any n code) (sym e)
    | inr ne ↦
        ap (is_in code) (put number first
        ∙ ap (λ (t : Bool). cond t (codes_where (λ c. is_in c (old number) || is_in c more)) (old number)) (ne_eqb number at ne))
        ∙ h.done number code first (omega (arith, last, ne, next)) low
  ];
  rest = λ number above.
      let first : 1 ≤ number = omega (arith, above) in
      let ne : number ≡ at → ⊥ = λ e. omega (arith, e, next, above) in
      put number first
      ∙ ap (λ (t : Bool). cond t (codes_where (λ c. is_in c (old number) || is_in c more)) (old number)) (ne_eqb number at ne)
      ∙ h.rest number (omega (arith, above));
}

-- ONE GROUP AFTER ANOTHER
module _ (site : SiteText) (is_strict : Bool) where
  groups-push : (groups : List (List EventText)) (others : List Marks) (events : List EventText) (marks : Marks) →
      AreMarksOf site is_strict groups others → AreMarks site is_strict events marks →
      AreMarksOf site is_strict (groups ++ events ∷ []) (others ++ marks ∷ [])
  unfolding AreMarksOf
  groups-push [] [] events marks h k = (k, tt)
  groups-push [] (other ∷ others) events marks h k = absurd h
  groups-push (group ∷ groups) [] events marks h k = absurd h
  groups-push (group ∷ groups) (other ∷ others) events marks h k = (h.0, groups-push groups others events marks h.1 k)

  pub group-one : (events : List EventText) (marks : Marks) (all : List Marks) → all ≡ marks ∷ [] → AreMarks site is_strict events marks →
      AreMarksOf site is_strict (events ∷ []) all
  unfolding AreMarksOf
  group-one events marks all is h = subst (AreMarksOf site is_strict (events ∷ [])) (sym is) (h, tt)

  pub groups-none : (all : List Marks) → all ≡ [] → AreMarksOf site is_strict [] all
  unfolding AreMarksOf
  groups-none all is = subst (AreMarksOf site is_strict []) (sym is) tt

  pub singles-more : (some next : List EventText) (event : EventText) (marks : Marks) (others new : List Marks) → next ≡ some ++ event ∷ [] →
      new ≡ others ++ marks ∷ [] → AreMarksOf site is_strict (singles some) others → AreMarks site is_strict (event ∷ []) marks →
      AreMarksOf site is_strict (singles next) new
  singles-more some next event marks others new is put h k =
      subst (λ (ms : List Marks). AreMarksOf site is_strict (singles next) ms) (sym put)
      (subst (λ (gs : List (List EventText)). AreMarksOf site is_strict gs (others ++ marks ∷ []))
      (sym (ap singles is ∙ map-append (λ e. e ∷ []) some (event ∷ [])))
      (groups-push (singles some) others (event ∷ []) marks h k))

  -- marks are none before the first module, and all after the last
  pub marks-all : (events : List EventText) (marks : Marks) (any : ℕ → ℕ → Bool) (index : ℕ) → module_count site.items ≤ index →
      ((number code : ℕ) → any number code ≡ list_any (λ event. is_in code (event_answers site is_strict event number)) events) →
      AreBelow any index (codes_at marks) → AreMarks site is_strict events marks
  marks-all events marks any index most same h number code first last low =
      h.done number code first (omega (arith, last, most)) low ∙ same number code
