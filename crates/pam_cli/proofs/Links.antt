-- What is told of the files of a source: which are links that lead out of their folder.
use Rattle.std.proofs.Common.{◌≡◌, ◌∙◌, ◌++◌, ◌+◌, ◌<◌, ℕ, Bool, false, List, [], ◌∷◌, Some, ap, arith, inl, inr, length, length-append}
use Rattle.std.proofs.Common.{slice_get, slice_index_or, subst, sym}
use Rattle.std.proofs.Math.Seq.{get_or-append_seam}
use Rattle.std.proofs.lemmas.Bool.{cases_eq}
use Rattle.std.proofs.lemmas.List.{get_or_append_left}
use Rattle.std.specs.Option.{option_map}
use Rattle.clap.specs.Words.{Text}
use Rattle.pam_conf.specs.Files.{Named}
use Rattle.pam_cli.specs.Links.{AreOut, IsOut, folder_at, is_candidate}
use Rattle.pam_cli.specs.System.{Told}

-- the last of these
last-told : (outside : List Bool) (out : Bool) (n : ℕ) → length outside ≡ n → slice_index_or (outside ++ out ∷ []) n false ≡ out
last-told outside out n is = ap (λ k. slice_index_or (outside ++ out ∷ []) k false) (sym is) ∙ get_or-append_seam outside out [] false

module _ (told : Told) (candidates : List (Text × Text)) (folder vendor : Text) (vendor_start : ℕ) (files : List Named) where
  abbrev IsOutAt : ℕ → Text → Bool → Type 0
  IsOutAt position name out = IsOut told (is_candidate name candidates) (folder_at folder vendor vendor_start position) name out

  -- one file more
  pub more-out : (n : ℕ) (outside new : List Bool) (name : Text) (out : Bool) → AreOut told candidates folder vendor vendor_start files n outside →
      option_map (λ f. f.0) (slice_get files n) ≡ Some name → IsOutAt n name out → new ≡ outside ++ out ∷ [] →
      AreOut told candidates folder vendor vendor_start files (n + 1) new
  more-out n outside new name out before named one is = record {
    count =
        let long = ap length is ∙ length-append outside (out ∷ []) in
        let count = before.count in
        omega (arith, long, count);
    each = λ position file within there. elim (cases_eq position n) [
      | inl e ↦
          let here : slice_get files n ≡ Some file = ap (slice_get files) (sym e) ∙ there in
          let same : Some file.0 ≡ Some name = sym (ap (option_map (λ (f : Named). f.0)) here) ∙ named in
          let equal : name ≡ file.0 = cc in
          let at_end = ap (λ k. slice_index_or (outside ++ out ∷ []) k false) e ∙ last-told outside out n before.count in
          let told_out : out ≡ slice_index_or new position false = sym (ap (λ l. slice_index_or l position false) is ∙ at_end) in
          subst (IsOutAt position file.0) told_out (subst (λ k. IsOutAt k file.0 out) (sym e) (subst (λ t. IsOutAt n t out) equal one))
      | inr ne ↦
          let low : position < n = omega (arith, within, ne) in
          let count = before.count in
          let same : slice_index_or outside position false ≡ slice_index_or new position false =
          sym (ap (λ l. slice_index_or l position false) is ∙ get_or_append_left outside (out ∷ []) false position (omega (arith, low, count))) in
          subst (IsOutAt position file.0) same (before.each position file low there)
    ];
  }
