-- Names that are services, or are not: what is answered, and the names of files so far.
use Rattle.std.proofs.Common.{◌≡◌, ◌∙◌, ◌+◌, ◌++◌, ℕ, Bool, true, false, List, [], ◌∷◌, Bor, Option, Some, Result, Err}
use Rattle.std.proofs.Common.{append_assoc, ap, drop, map, refl, slice_get, subst, sym}
use Rattle.std.proofs.lemmas.List.{map-append}
use Rattle.std.specs.Option.{option_map}
use Rattle.pam_conf.specs.Files.{Named}
use Rattle.pam_conf.proofs.ServiceSteps.{name-front}
use Rattle.pam_report.specs.Finds.{Finds, Refuses}
use Rattle.pam_report.specs.Memory.{IsWanting, Wants}
use Rattle.pam_report.specs.Reply.{Answer}
use Rattle.pam_report.specs.Services.{IfServices}
use Rattle.pam_report.specs.declared.fault.Fault.{Fault}
use Rattle.pam_report.specs.declared.fault.Fault.TheVariants as faults
use Rattle.pam_report.specs.declared.report.replies.Reply.{Reply}
use Rattle.pam_report.specs.inner.Services.{IsUnknown}

module _ (IsAnswer : Answer → Type 0) (known : Bool) where
  -- all that are named are services
  pub answered : (result : Result Reply Fault) → known ≡ true → Finds result IsAnswer → Finds result (IfServices known IsAnswer)
  answered result are h = subst (λ (b : Bool). Finds result (IfServices b IsAnswer)) (sym are) h

  -- one is not
  pub refused : (fault : Fault) → IsUnknown known fault → Refuses (IfServices known IsAnswer) fault
  refused faults.NoSuchService unknown = subst (λ (b : Bool). IfServices b IsAnswer (Err faults.NoSuchService)) (sym unknown) refl
  refused faults.Memory unknown = tt
  refused _ unknown = absurd unknown

-- memory may run out where the names are looked up
pub wanting : (wants : Wants) (known : Bool) (fault : Fault) → wants.work ≡ true → IsUnknown known fault → IsWanting wants fault
wanting wants known faults.NoSuchService works unknown = tt
wanting wants known faults.Memory works unknown = works
wanting wants known _ works unknown = absurd unknown

-- the names so far, and one more
module _ (entries : List Named) (n : ℕ) (names : List (Bor (List ℕ))) (name : Bor (List ℕ)) where
  abbrev text_of : Bor (List ℕ) → List ℕ
  text_of word = word.now

  abbrev rest : List (List ℕ)
  rest = map (λ f. f.0) (drop (n + 1) entries)

  pub name-more : (items : List (Bor (List ℕ))) (all : List (List ℕ)) → items ≡ names ++ name ∷ []
      → option_map (λ f. f.0) (slice_get entries n) ≡ Some name.now
      → map text_of names ++ map (λ f. f.0) (drop n entries) ≡ all → map text_of items ++ rest ≡ all
  name-more items all more is h =
      ap (λ words. map text_of words ++ rest) more
      ∙ ap (λ texts. texts ++ rest) (map-append text_of names (name ∷ []))
      ∙ append_assoc (map text_of names) (name.now ∷ []) rest
      ∙ ap (λ texts. map text_of names ++ texts) (sym (name-front entries n name.now is))
      ∙ h
