-- Passes over the problems that are found.
use Rattle.std.proofs.Common.{◌≡◌, ◌⊎◌, ◌↔◌, ℕ, ◌+◌, ◌<◌, ◌≤◌, cond, List, [], ◌∷◌, ◌++◌, map, take, length, get_or, refl, sym, ◌∙◌, ap}
use Rattle.std.proofs.Common.{subst, inl, inr, IfSome, Option, Some}
use Rattle.std.specs.BTreeMap.{Updates, get, is_at}
use Rattle.std.specs.Ordering.{is_eq}
use Rattle.std.proofs.lemmas.Bool.{cases_Bool, false≢true}
use Rattle.std.proofs.lemmas.Cmp.{tied_itself}
use Rattle.std.proofs.lemmas.List.{map-append, take_all, take_more}
use Rattle.std.proofs.lemmas.Map.Views.{tells_apart}
use Rattle.pam_text.specs.Members.{Member}
use Rattle.pam_paths.proofs.Listings.{Member-cases, Member-left, Member-right}
use Rattle.pam_findings.specs.tables.Needs.{Need}
use Rattle.pam_findings.specs.tables.inner.Passes.{Found, IsOfSome, Puts, finding_at, need_view}
use Rattle.pam_findings.specs.tables.Problems.{compare_places, place_of}
use Rattle.pam_findings.specs.tables.Tables.{TablesText, problems_for}
use Rattle.pam_findings.specs.declared.tables.needs.Needed.{Needed}
use Rattle.pam_findings.specs.declared.tables.problem.TableFinding.{TableFinding}
use Rattle.pam_findings.specs.declared.tables.problem.TablePlace.{TablePlace}
use Rattle.pam_findings.proofs.TablesProofs.Adding.{all_so_far, of-none, of-one, one_more}
use Rattle.pam_findings.proofs.TablesProofs.Places.{exact_places, finding-from_place, places_total}

-- ONE PROBLEM IS FOUND

pub put-one : (old new : Found) (finding : TableFinding) (key : TablePlace) → key ≡ place_of finding →
    Updates compare_places old new key (Some finding) → Puts (λ other. other ≡ finding) old new
put-one old new finding key at updates = record {
  each = λ other. elim (cases_Bool (is_at (compare_places key) (place_of other))) [
    | inl t ↦
        let same : other ≡ finding = sym (finding-from_place finding other (sym at ∙ tells_apart exact_places key (place_of other) t)) in
        let now : finding_at new other ≡ Some finding =
        updates.0 (place_of other) ∙ ap (λ b. cond b (Some finding) (finding_at old other)) t in
        (λ h. inl same, λ w. now ∙ ap (λ (f : TableFinding). Some f) (sym same))
    | inr f ↦
        let kept : finding_at new other ≡ finding_at old other = updates.2 (place_of other) f in (
          λ h. inr (sym kept ∙ h),
          λ w. elim w [
            | inl same ↦ absurd (false≢true (sym f ∙ ap (λ (x : TableFinding). is_at (compare_places key) (place_of x)) same
                ∙ ap (λ (k : TablePlace). is_at (compare_places key) k) (sym at) ∙ ap is_eq (tied_itself places_total key)))
            | inr h ↦ kept ∙ h
          ],
        )
  ];
  placed = λ were place. elim (cases_Bool (is_at (compare_places key) place)) [
    | inl t ↦
        let same : key ≡ place = tells_apart exact_places key place t in
        let now : get compare_places new place ≡ Some finding =
        updates.0 place ∙ ap (λ b. cond b (Some finding) (get compare_places old place)) t in
        let P : Option TableFinding → Type 0 = λ o. IfSome o (λ f. place ≡ place_of f) in
        subst P (sym now) (sym same ∙ at)
    | inr f ↦
        let P : Option TableFinding → Type 0 = λ o. IfSome o (λ x. place ≡ place_of x) in
        subst P (sym (updates.2 place f)) (were place)
  ];
}

-- PASSES

pub puts-none : (Holds : TableFinding → Type 0) (found : Found) → ((finding : TableFinding) → Holds finding → ⊥) → Puts Holds found found
puts-none Holds found none = record {
  each = λ finding. (λ h. inr h, λ w. elim w [ inl h ↦ absurd (none finding h) | inr h ↦ h ]);
  placed = λ h. h;
}

pub puts-iff : (A B : TableFinding → Type 0) (old new : Found) → ((finding : TableFinding) → A finding ↔ B finding) → Puts A old new → Puts B old new
puts-iff A B old new same h = record {
  each = λ finding. (
    λ k. elim ((h.each finding).0 k) [ inl a ↦ inl ((same finding).0 a) | inr o ↦ inr o ],
    λ w. (h.each finding).1 (elim w [ inl b ↦ inl ((same finding).1 b) | inr o ↦ inr o ]),
  );
  placed = h.placed;
}

pub puts-both : (A B : TableFinding → Type 0) (old middle new : Found) → Puts A old middle → Puts B middle new →
    Puts (λ finding. A finding ⊎ B finding) old new
puts-both A B old middle new h k = record {
  each = λ finding. (
    λ n. elim ((k.each finding).0 n) [
      | inl b ↦ inl (inr b)
      | inr m ↦ elim ((h.each finding).0 m) [ inl a ↦ inl (inl a) | inr o ↦ inr o ]
    ],
    λ w. (k.each finding).1 (elim w [
      | inl c ↦ elim c [ inl a ↦ inr ((h.each finding).1 (inl a)) | inr b ↦ inl b ]
      | inr o ↦ inr ((h.each finding).1 (inr o))
    ]),
  );
  placed = λ were. k.placed (h.placed were);
}

-- OVER A LIST OF PROBLEMS

pub puts-start : (findings : List TableFinding) (found : Found) → Puts (λ other. Member other (take 0 findings)) found found
puts-start findings found = puts-none (λ other. Member other (take 0 findings)) found (λ other. of-none other)

pub puts-more : (findings : List TableFinding) (n : ℕ) (finding d : TableFinding) (old middle new : Found) → n < length findings →
    finding ≡ get_or findings n d → Puts (λ other. Member other (take n findings)) old middle → Puts (λ other. other ≡ finding) middle new →
    Puts (λ other. Member other (take (n + 1) findings)) old new
puts-more findings n finding d old middle new h is so_far one =
    puts-iff (λ other. Member other (take n findings) ⊎ (other ≡ finding)) (λ other. Member other (take (n + 1) findings)) old new
    (λ other. one_more other finding d findings n h is)
    (puts-both (λ other. Member other (take n findings)) (λ other. other ≡ finding) old middle new so_far one)

pub puts-end : (findings : List TableFinding) (n : ℕ) (old new : Found) → length findings ≤ n →
    Puts (λ other. Member other (take n findings)) old new → Puts (λ other. Member other findings) old new
puts-end findings n old new h so_far =
    puts-iff (λ other. Member other (take n findings)) (λ other. Member other findings) old new (λ other. all_so_far other findings n h) so_far

-- OVER A LIST OF NEEDS

pub needs-start : (tables : TablesText) (needs : List Needed) (found : Found) → Puts (IsOfSome tables (map need_view (take 0 needs))) found found
needs-start tables needs found = puts-none (IsOfSome tables (map need_view (take 0 needs))) found (λ other k. of-none k.0 k.1)

pub needs-more : (tables : TablesText) (needs : List Needed) (n : ℕ) (need d : Needed) (old middle new : Found) → n < length needs →
    need ≡ get_or needs n d → Puts (IsOfSome tables (map need_view (take n needs))) old middle →
    Puts (λ other. Member other (problems_for tables (need_view need))) middle new → Puts (IsOfSome tables (map need_view (take (n + 1) needs))) old new
needs-more tables needs n need d old middle new h is so_far one =
    let value = need_view need in
    let all : map need_view (take (n + 1) needs) ≡ map need_view (take n needs) ++ value ∷ [] =
    ap (map need_view) (take_more needs n d h ∙ ap (λ (z : Needed). take n needs ++ z ∷ []) (sym is))
    ∙ map-append need_view (take n needs) (need ∷ []) in
    puts-iff (λ other. IsOfSome tables (map need_view (take n needs)) other ⊎ Member other (problems_for tables value))
    (IsOfSome tables (map need_view (take (n + 1) needs))) old new
    (λ other. (
      λ w. elim w [
        | inl k ↦ (k.0, subst (Member k.0) (sym all) (Member-left k.0 (map need_view (take n needs)) (value ∷ []) k.1), k.2)
        | inr m ↦ (value, subst (Member value) (sym all) (Member-right value (map need_view (take n needs)) (value ∷ []) ((of-one value value).1 refl)), m)
      ],
      λ k. elim (Member-cases k.0 (map need_view (take n needs)) (value ∷ []) (subst (Member k.0) all k.1)) [
        | inl i ↦ inl (k.0, i, k.2)
        | inr i ↦ inr (subst (λ (v : Need). Member other (problems_for tables v)) ((of-one k.0 value).0 i) k.2)
      ],
    ))
    (puts-both (IsOfSome tables (map need_view (take n needs))) (λ other. Member other (problems_for tables value)) old middle new so_far one)

pub needs-end : (tables : TablesText) (needs : List Needed) (n : ℕ) (old new : Found) → length needs ≤ n →
    Puts (IsOfSome tables (map need_view (take n needs))) old new → Puts (IsOfSome tables (map need_view needs)) old new
needs-end tables needs n old new h so_far =
    subst (λ (l : List Needed). Puts (IsOfSome tables (map need_view l)) old new) (take_all n needs h) so_far
