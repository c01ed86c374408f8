-- What is told of the files of a source: which cannot be read.
use Rattle.std.proofs.Common.{◌≡◌, ◌∙◌, ◌++◌, ◌+◌, ◌==◌, ◌<◌, ℕ, Bool, false, true, List, [], ◌∷◌, Option, Some, ap, arith, inl, inr, length, length-append}
use Rattle.std.proofs.Common.{refl, slice_get, slice_index_or, subst, sym}
use Rattle.std.specs.Prelude.{codes}
use Rattle.std.proofs.Math.Seq.{get_or-append_seam}
use Rattle.std.proofs.lemmas.Bool.{cases_eq, eqb-true}
use Rattle.std.proofs.lemmas.List.{get_or_append_left}
use Rattle.std.specs.Option.{option_map}
use Rattle.clap.specs.Words.{Text}
use Rattle.pam_conf.specs.Files.{Named}
use Rattle.pam_cli.specs.Links.{is_candidate}
use Rattle.pam_cli.specs.System.{PlaceText, Told}
use Rattle.pam_cli.specs.System as system
use Rattle.pam_cli.specs.UnreadFiles.{AreUnread, IsOneRead, IsReadAt, home_at}

-- the last of these
last-told : (unread : List Bool) (is : Bool) (n : ℕ) → length unread ≡ n → slice_index_or (unread ++ is ∷ []) n false ≡ is
last-told unread is n e = ap (λ k. slice_index_or (unread ++ is ∷ []) k false) (sym e) ∙ get_or-append_seam unread is [] false

module _ (told : Told) (candidates : List (Text × Text)) (folder vendor : PlaceText) (vendor_start : ℕ) (files : List Named) where
  abbrev IsReadThere : ℕ → Named → Bool → Type 0
  IsReadThere position file is = IsReadAt told (home_at folder vendor vendor_start position) file (is_candidate file.0 candidates) is

  -- one file more
  pub more-unread : (n : ℕ) (unread new : List Bool) (name bytes : Text) (is : Bool)
      → AreUnread told candidates folder vendor vendor_start files n unread
      → option_map (λ f. f.0) (slice_get files n) ≡ Some name → option_map (λ f. f.1) (slice_get files n) ≡ Some bytes
      → IsReadThere n (name, bytes) is → new ≡ unread ++ is ∷ [] → AreUnread told candidates folder vendor vendor_start files (n + 1) new
  more-unread n unread new name bytes is before named held one added = record {
    count =
        let long = ap length added ∙ length-append unread (is ∷ []) in
        let count = before.count in
        omega (arith, long, count);
    each = λ position file within there. elim (cases_eq position n) [
      | inl e ↦
          let here : slice_get files n ≡ Some file = ap (slice_get files) (sym e) ∙ there in
          let same_name : Some file.0 ≡ Some name = sym (ap (option_map (λ (f : Named). f.0)) here) ∙ named in
          let same_bytes : Some file.1 ≡ Some bytes = sym (ap (option_map (λ (f : Named). f.1)) here) ∙ held in
          let name_is : name ≡ file.0 = cc in
          let bytes_is : bytes ≡ file.1 = cc in
          let at_end = ap (λ k. slice_index_or (unread ++ is ∷ []) k false) e ∙ last-told unread is n before.count in
          let told_is : is ≡ slice_index_or new position false = sym (ap (λ l. slice_index_or l position false) added ∙ at_end) in
          subst (IsReadThere position file) told_is
          (subst (λ k. IsReadThere k file is) (sym e)
          (subst (λ (b : Text). IsReadThere n (file.0, b) is) bytes_is (subst (λ (t : Text). IsReadThere n (t, bytes) is) name_is one)))
      | inr ne ↦
          let low : position < n = omega (arith, within, ne) in
          let count = before.count in
          let same : slice_index_or unread position false ≡ slice_index_or new position false =
          sym (ap (λ l. slice_index_or l position false) added ∙ get_or_append_left unread (is ∷ []) false position (omega (arith, low, count))) in
          subst (IsReadThere position file) same (before.each position file low there)
    ];
  }

-- a text without a byte
pub no_byte : (bytes : Text) → (length bytes == 0) ≡ true → bytes ≡ []
no_byte [] h = refl
no_byte (b ∷ bytes) h = absurd (let none : length (b ∷ bytes) ≡ 0 = eqb-true _ _ h in omega (arith, none))

-- the one file of a system is read where the system says that it has no byte
pub one-read : (told : Told) (root : Text) (found : Option Text) (bytes : Text) → found ≡ Some bytes → bytes ≡ []
    → told.held (system.below root (codes "etc/pam.conf")) (system.bytes []) → IsOneRead told root found
one-read told root found bytes is empty held = subst (λ (o : Option Text). IsOneRead told root o) (sym (is ∙ ap Some empty)) held
