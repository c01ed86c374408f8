-- Which verdict is given, by the rows that are found.
use Rattle.std.proofs.Common.{◌≡◌, ◌∙◌, ◌&&◌, ◌||◌, ℕ, Bool, true, false, List, Option, Some, None, cond, if◌then◌else◌, refl, sym, ap, subst}
use Rattle.std.specs.Prelude.{find}
use Rattle.std.specs.List.{list_any}
use Rattle.std.specs.Option.{option_map_or}
use Rattle.pam_conf.specs.declared.rule.Kind.{Kind}
use Rattle.pam_facts.specs.arguments.Cuts.{after}
use Rattle.pam_facts.specs.arguments.Laws.{FitsNot, IsKnown, Listed, first, later}
use Rattle.pam_facts.specs.arguments.Rows.{Row, is_longer, is_whole}
use Rattle.pam_facts.specs.arguments.Values.{form_named, takes}
use Rattle.pam_facts.specs.arguments.Verdicts.{Meaning, Known, Free, Longer, OtherKind, BadValue, Weak, Unknown, Module, has_kind, is_read, is_weak}
use Rattle.pam_facts.specs.arguments.Verdicts.{known_value, meaning, or_else, unknown_meaning, whole_meaning}
use Rattle.pam_facts.specs.declared.arguments.verdict.Reaction.{Reaction}
use Rattle.pam_facts.specs.declared.arguments.verdict.Reaction.TheVariants.{Ignores}

-- where none is found, no row of the list passes
none_found : (test : Row → Bool) (row : Row) (rows : List Row) → find test rows ≡ None → Listed row rows → test row ≡ false
none_found test row rows none (first r rs) = go (test row) refl none
  where
    go : (t : Bool) → test r ≡ t → cond t (Some r) (find test rs) ≡ None → test r ≡ false
    go true e h = absurd (cc)
    go false e h = e
none_found test row rows none (later r before rs listed) = none_found test row rs (go (test before) none) listed
  where
    go : (t : Bool) → cond t (Some before) (find test rs) ≡ None → find test rs ≡ None
    go true h = absurd (cc)
    go false h = h

none_passes : (test : Row → Bool) (row : Row) (rows : List Row) → list_any test rows ≡ false → Listed row rows → test row ≡ false
none_passes test row rows none (first r rs) = go (test r) refl none
  where
    go : (t : Bool) → test r ≡ t → (t || list_any test rs) ≡ false → test r ≡ false
    go true e h = absurd (cc)
    go false e h = e
none_passes test row rows none (later r before rs listed) = none_passes test row rs (go (test before) none) listed
  where
    go : (t : Bool) → (t || list_any test rs) ≡ false → list_any test rs ≡ false
    go true h = absurd (cc)
    go false h = h

neither : (a b : Bool) → (a || b) ≡ false → (a ≡ false) × (b ≡ false)
neither true b h = absurd (cc)
neither false b h = (refl, h)

not_read : (a read : Bool) → (a && read) ≡ false → read ≡ true → a ≡ false
not_read true read h is = absurd (let e : true ≡ false = sym is ∙ h in cc)
not_read false read h is = refl

value_known : (form value : Option (List ℕ)) → IsKnown (known_value form value)
value_known None value = tt
value_known (Some form) None = tt
value_known (Some form) (Some value) =
    elim (takes (form_named form) value) as (λ (t : Bool). IsKnown (if t then Known else BadValue (form_named form))) [ true ↦ tt | false ↦ tt ]

whole_known : (kind : Kind) (row : Row) (word : List ℕ) → IsKnown (whole_meaning kind row word)
whole_known kind row word =
    elim (is_weak kind row) as (λ (t : Bool). IsKnown (if t then Weak else known_value row.value (after 61 word))) [
      | true ↦ tt
      | false ↦ value_known row.value (after 61 word)
    ]

module _ (known : Module) (kind : Kind) (word : List ℕ) where
  abbrev is_here : Row → Bool
  is_here row = is_whole row word && is_read known.kinds kind row

  abbrev begins_here : Row → Bool
  begins_here row = is_longer row word && is_read known.kinds kind row

  abbrev fits : Row → Bool
  fits row = is_whole row word || is_longer row word

  abbrev if_none : Bool → Meaning
  if_none t = if t then OtherKind else unknown_meaning known kind

  abbrev if_no_whole : Option Row → Bool → Meaning
  if_no_whole o t = option_map_or (λ row. Longer row.argument) o (if_none t)

  abbrev of_found : Option Row → Option Row → Bool → Meaning
  of_found whole longer t = option_map_or (λ row. whole_meaning kind row word) whole (if_no_whole longer t)

  pub arguments_known : (row : Row) → Listed row known.rows → is_whole row word ≡ true → is_read known.kinds kind row ≡ true →
      IsKnown (meaning known kind word)
  unfolding meaning
  arguments_known row listed whole read = go (find is_here known.rows) refl
    where
      go : (o : Option Row) → find is_here known.rows ≡ o → IsKnown (of_found o (find begins_here known.rows) (list_any fits known.rows))
      go (Some r) e = whole_known kind r word
      go None e =
          let here : is_here row ≡ true = ap (λ (t : Bool). t && is_read known.kinds kind row) whole ∙ read in
          let none : is_here row ≡ false = none_found is_here row known.rows e listed in
          absurd (let wrong : true ≡ false = sym here ∙ none in cc)

  -- a known word is not one that is not known
  not_known : (m other : Meaning) → IsKnown m → m ≡ other → IsKnown other
  not_known m other is e = subst IsKnown e is

  pub unknown_fits_none : (row : Row) (reaction : Reaction) → meaning known kind word ≡ Unknown reaction → Listed row known.rows → FitsNot row word
  unfolding meaning
  unknown_fits_none row reaction h listed = go (find is_here known.rows) (find begins_here known.rows) (list_any fits known.rows) refl h
    where
      go : (o p : Option Row) (t : Bool) → list_any fits known.rows ≡ t → of_found o p t ≡ Unknown reaction → FitsNot row word
      go (Some r) p t e g = absurd (not_known _ (Unknown reaction) (whole_known kind r word) g)
      go None (Some r) t e g = absurd (cc)
      go None None true e g = absurd (cc)
      go None None false e g = neither (is_whole row word) (is_longer row word) (none_passes fits row known.rows e listed)

  pub other_kind_fits_none : (row : Row) → meaning known kind word ≡ OtherKind → Listed row known.rows → is_read known.kinds kind row ≡ true → FitsNot row word
  unfolding meaning
  other_kind_fits_none row h listed read = go (find is_here known.rows) (find begins_here known.rows) refl refl h
    where
      go : (o p : Option Row) → find is_here known.rows ≡ o → find begins_here known.rows ≡ p →
          of_found o p (list_any fits known.rows) ≡ OtherKind → FitsNot row word
      go (Some r) p e f g = absurd (not_known _ OtherKind (whole_known kind r word) g)
      go None (Some r) e f g = absurd (cc)
      go None None e f g = (
        not_read (is_whole row word) (is_read known.kinds kind row) (none_found is_here row known.rows e listed) read,
        not_read (is_longer row word) (is_read known.kinds kind row) (none_found begins_here row known.rows f listed) read,
      )

  unknown_free : (o : Option Reaction) →
      option_map_or (λ reaction. Unknown (if has_kind kind (or_else known.reacts_in known.kinds) then reaction else Ignores)) o Free ≡ Free → o ≡ None
  unknown_free None h = refl
  unknown_free (Some reaction) h = absurd (cc)

  pub free_takes : meaning known kind word ≡ Free → known.reaction ≡ None
  unfolding meaning
  free_takes h = go (find is_here known.rows) (find begins_here known.rows) (list_any fits known.rows) h
    where
      go : (o p : Option Row) (t : Bool) → of_found o p t ≡ Free → known.reaction ≡ None
      go (Some r) p t g = absurd (not_known _ Free (whole_known kind r word) g)
      go None (Some r) t g = absurd (cc)
      go None None true g = absurd (cc)
      go None None false g = unknown_free known.reaction g
