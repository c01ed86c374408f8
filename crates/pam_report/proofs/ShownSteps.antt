-- What `show` finds for kinds, one after another.
use Rattle.std.proofs.Common.{◌≡◌, ◌∙◌, ◌<◌, ◌≤◌, ◌+◌, ℕ, List, [], ◌∷◌, ◌++◌, Result, Ok, Err, ap, append-nil, append_assoc, drop}
use Rattle.std.proofs.Common.{drop_of_length-le, get_or, length, refl, sym}
use Rattle.std.proofs.lemmas.List.{at_drop_more}
use Rattle.pam_conf.specs.declared.conf_error.ConfError.{ConfError}
use Rattle.pam_conf.specs.declared.rule.Kind.{Kind}
use Rattle.pam_report.specs.Show.{for_each, with_others}

-- the values before those of the others, or the fault of these
abbrev pub onto : {V : Type 0} → List V → Result (List V) ConfError → Result (List V) ConfError
onto values (Err e) = Err e
onto values (Ok others) = Ok (values ++ others)

onto-none : {V : Type 0} (others : Result (List V) ConfError) → others ≡ onto [] others
onto-none (Err e) = refl
onto-none (Ok others) = refl

onto-more : {V : Type 0} (values : List V) (value : V) (others : Result (List V) ConfError)
    → onto values (with_others (Ok value) others) ≡ onto (values ++ value ∷ []) others
onto-more values value (Err e) = refl
onto-more values value (Ok others) = ap Ok (sym (append_assoc values (value ∷ []) others))

module _ {V : Type 0} (find : Kind → Result V ConfError) (kinds : List Kind) where
  -- these values are found for the kinds before a position
  abbrev pub AreFound : List V → ℕ → Type 0
  AreFound values i = for_each find kinds ≡ onto values (for_each find (drop i kinds))

  pub none-found : AreFound [] 0
  none-found = onto-none (for_each find kinds)

  next : (values : List V) (i : ℕ) (d : Kind) → i < length kinds → AreFound values i
      → for_each find kinds ≡ onto values (with_others (find (get_or kinds i d)) (for_each find (drop (i + 1) kinds)))
  next values i d h so_far = so_far ∙ at_drop_more (λ left. onto values (for_each find left)) kinds i d h

  pub one-found : (values : List V) (i : ℕ) (d kind : Kind) (value : V) → i < length kinds → get_or kinds i d ≡ kind → AreFound values i
      → find kind ≡ Ok value → AreFound (values ++ value ∷ []) (i + 1)
  one-found values i d kind value h is so_far found =
      next values i d h so_far
      ∙ ap (λ (first : Result V ConfError). onto values (with_others first (for_each find (drop (i + 1) kinds)))) (ap find is ∙ found)
      ∙ onto-more values value (for_each find (drop (i + 1) kinds))

  pub one-faulty : (values : List V) (i : ℕ) (d kind : Kind) (e : ConfError) → i < length kinds → get_or kinds i d ≡ kind → AreFound values i
      → find kind ≡ Err e → for_each find kinds ≡ Err e
  one-faulty values i d kind e h is so_far fault =
      next values i d h so_far
      ∙ ap (λ (first : Result V ConfError). onto values (with_others first (for_each find (drop (i + 1) kinds)))) (ap find is ∙ fault)

  pub all-found : (values : List V) (i : ℕ) → length kinds ≤ i → AreFound values i → for_each find kinds ≡ Ok values
  all-found values i h so_far =
      so_far ∙ ap (λ (left : List Kind). onto values (for_each find left)) (drop_of_length-le kinds h) ∙ ap Ok (append-nil values)
