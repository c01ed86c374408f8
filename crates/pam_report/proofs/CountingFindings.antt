-- Findings of a rule that count: those of its classes and words, one after another.
use Rattle.std.proofs.Common.{◌≡◌, ◌∙◌, ◌||◌, ◌++◌, Bool, true, false, List, [], ◌∷◌, Option, None, Some, ap, map, refl, sym}
use Rattle.std.proofs.lemmas.List.Folds.{list_any-append}
use Rattle.std.specs.List.{cons_option, list_any}
use Rattle.std.specs.Option.{option_map_or}
use Rattle.std.specs.Prelude.{filter_map}
use Rattle.pam_policy.specs.declared.host.report.RuleReport.{RuleReport}
use Rattle.pam_policy.specs.host.Findings.{FindingText, findings_of, not_known, not_upheld, of_argument, of_name, saying_nothing}
use Rattle.pam_policy.specs.names.Words.{MisnamedText, misnamed_view}
use Rattle.pam_words.specs.declared.wanted.LevelName.{LevelName}
use Rattle.pam_report.specs.PolicyLevels.{policy_level}
use Rattle.pam_report.specs.Reply.{any_counts, counts, has_counting_report}
use Rattle.pam_report.specs.inner.Policy.{counts_if_found}

swap : (a b c d : Bool) → ((a || b) || (c || d)) ≡ ((a || c) || (b || d))
swap true b c d = refl
swap false true true d = refl
swap false true false d = refl
swap false false c d = refl

module _ (fail_on : LevelName) where
  abbrev any : List FindingText → Bool
  any found = any_counts fail_on found

  abbrev of_one : Option FindingText → Bool
  of_one found = counts_if_found fail_on found

  more : (found : Option FindingText) (others : List FindingText) → any (cons_option found others) ≡ (of_one found || any others)
  more (Some finding) others = refl
  more None others = refl

  -- each of these gives two findings at most
  pub two-parts : {X : Type 0} (f g : X → Option FindingText) (xs : List X)
      → list_any (λ x. of_one (f x) || of_one (g x)) xs ≡ (any (filter_map f xs) || any (filter_map g xs))
  two-parts f g [] = refl
  two-parts f g (x ∷ xs) =
      ap (λ (b : Bool). (of_one (f x) || of_one (g x)) || b) (two-parts f g xs)
      ∙ swap (of_one (f x)) (of_one (g x)) (any (filter_map f xs)) (any (filter_map g xs))
      ∙ ap (λ (b : Bool). b || (of_one (g x) || any (filter_map g xs))) (sym (more (f x) (filter_map f xs)))
      ∙ ap (λ (b : Bool). any (filter_map f (x ∷ xs)) || b) (sym (more (g x) (filter_map g xs)))

  mapped : {X Y : Type 0} (view : X → Y) (f : Y → Option FindingText) (xs : List X) → filter_map f (map view xs) ≡ filter_map (λ x. f (view x)) xs
  mapped view f [] = refl
  mapped view f (x ∷ xs) = ap (λ (found : List FindingText). cons_option (f (view x)) found) (mapped view f xs)

  -- the same of views
  pub two-parts-of : {X Y : Type 0} (view : X → Y) (f g : Y → Option FindingText) (xs : List X)
      → list_any (λ x. of_one (f (view x)) || of_one (g (view x))) xs ≡ (any (filter_map f (map view xs)) || any (filter_map g (map view xs)))
  two-parts-of view f g xs =
      two-parts (λ x. f (view x)) (λ x. g (view x)) xs
      ∙ ap (λ (found : List FindingText). any found || any (filter_map (λ x. g (view x)) xs)) (sym (mapped view f xs))
      ∙ ap (λ (found : List FindingText). any (filter_map f (map view xs)) || any found) (sym (mapped view g xs))

  joined : (xs ys : List FindingText) → any (xs ++ ys) ≡ (any xs || any ys)
  joined xs ys = list_any-append (λ finding. counts fail_on (policy_level finding)) xs ys

  in-order : (a b c d e : Bool) → ((((a || b) || c) || d) || e) ≡ ((a || d) || ((b || e) || c))
  in-order true b c d e = refl
  in-order false true c true e = refl
  in-order false true c false e = refl
  in-order false false true true e = refl
  in-order false false false true e = refl
  in-order false false true false true = refl
  in-order false false true false false = refl
  in-order false false false false true = refl
  in-order false false false false false = refl

  -- the findings of a rule are those of its classes and words, and that it says nothing
  module _ (report : RuleReport) where
    abbrev words : List MisnamedText
    words = map misnamed_view report.misnamed.items

    abbrev of_classes : Bool
    of_classes = any (filter_map not_upheld report.classes.items) || any (filter_map not_known report.classes.items)

    abbrev of_words : Bool
    of_words = any (filter_map of_name words) || any (filter_map of_argument words)

    abbrev a : List FindingText
    a = filter_map not_upheld report.classes.items

    abbrev b : List FindingText
    b = filter_map of_name words

    abbrev c : List FindingText
    c = saying_nothing report.idle

    abbrev d : List FindingText
    d = filter_map not_known report.classes.items

    abbrev e : List FindingText
    e = filter_map of_argument words

    together : any (a ++ b ++ c ++ d ++ e) ≡ ((((any a || any b) || any c) || any d) || any e)
    together =
        joined (a ++ b ++ c ++ d) e
        ∙ ap (λ (t : Bool). t || any e)
        (joined (a ++ b ++ c) d ∙ ap (λ (t : Bool). t || any d) (joined (a ++ b) c ∙ ap (λ (t : Bool). t || any c) (joined a b)))

    all-parts : has_counting_report fail_on report ≡ (of_classes || (of_words || any c))
    unfolding findings_of
    all-parts = together ∙ in-order (any a) (any b) (any c) (any d) (any e)

    -- from what is said of the parts
    pub of-parts : (classes those idle : Bool)
        → classes ≡ list_any (λ class. of_one (not_upheld class) || of_one (not_known class)) report.classes.items
        → those ≡ list_any (λ word. of_one (of_name (misnamed_view word)) || of_one (of_argument (misnamed_view word))) report.misnamed.items
        → idle ≡ any (saying_nothing report.idle) → (classes || (those || idle)) ≡ has_counting_report fail_on report
    of-parts classes those idle same same-words same-idle =
        ap (λ (t : Bool). t || (those || idle)) (same ∙ two-parts not_upheld not_known report.classes.items)
        ∙ ap (λ (t : Bool). of_classes || (t || idle)) (same-words ∙ two-parts-of misnamed_view of_name of_argument report.misnamed.items)
        ∙ ap (λ (t : Bool). of_classes || (of_words || t)) same-idle ∙ sym all-parts
