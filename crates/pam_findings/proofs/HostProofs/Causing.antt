-- The last file that has something by itself.
use Rattle.std.proofs.Common.{◌≡◌, ◌⊎◌, ◌∙◌, ℕ, ◌+◌, ◌<◌, ◌≤◌, List, [], ◌∷◌, ◌++◌, Option, Some, ap, append_assoc, get_or, inl, inr}
use Rattle.std.proofs.Common.{length, refl, subst, sym, take}
use Rattle.std.proofs.lemmas.List.{take_all, take_more}
use Rattle.pam_text.specs.Members.{Member}
use Rattle.pam_findings.specs.host.Causes.{IsLastOr}
use Rattle.pam_findings.proofs.HostProofs.Meeting.{from_both, from_one}
use Rattle.pam_findings.proofs.HostProofs.Passes.{none_yet, one_more}

module _ (Has Lacks : ℕ → Type 0) (home : Option ℕ) (files : List ℕ) where
  pub last-start : IsLastOr Has Lacks home (take 0 files) home
  last-start = inl (λ file m. absurd (none_yet file files m), refl)

  module _ (n file d : ℕ) (within : n < length files) (is : file ≡ get_or files n d) where
    front : take (n + 1) files ≡ take n files ++ file ∷ []
    front = take_more files n d within ∙ ap (λ z. take n files ++ z ∷ []) (sym is)

    pub last-has : Has file → IsLastOr Has Lacks home (take (n + 1) files) (Some file)
    unfolding Member
    last-has has = inr (file, refl, record { before = take n files; after = []; split = front; has = has; later = λ other m. absurd m })

    pub last-lacks : (cause : Option ℕ) → Lacks file → IsLastOr Has Lacks home (take n files) cause → IsLastOr Has Lacks home (take (n + 1) files) cause
    last-lacks cause lacks (inl all) =
        inl (
          λ other m. elim ((one_more other file d files n within is).1 m) [
            | inl k ↦ all.0 other k
            | inr e ↦ subst Lacks (sym e) lacks
          ],
          all.1,
        )
    last-lacks cause lacks (inr some) =
        let last = some.2 in
        inr (
          some.0,
          some.1,
          record {
            before = last.before;
            after = last.after ++ file ∷ [];
            split = front ∙ ap (λ l. l ++ file ∷ []) last.split ∙ append_assoc last.before (some.0 ∷ last.after) (file ∷ []);
            has = last.has;
            later = λ other m. elim (from_both other last.after (file ∷ []) m) [
              | inl k ↦ last.later other k
              | inr e ↦ subst Lacks (sym (from_one other file e)) lacks
            ];
          },
        )

  pub last-end : (n : ℕ) (cause : Option ℕ) → length files ≤ n → IsLastOr Has Lacks home (take n files) cause → IsLastOr Has Lacks home files cause
  last-end n cause h = subst (λ (l : List ℕ). IsLastOr Has Lacks home l cause) (take_all n files h)
