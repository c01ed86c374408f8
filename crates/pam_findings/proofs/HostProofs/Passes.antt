-- Passes over a table of findings, and over the files that are read.
use Rattle.std.proofs.Common.{◌≡◌, ◌⊎◌, ◌↔◌, ℕ, ◌+◌, ◌<◌, ◌≤◌, List, [], ◌∷◌, ◌++◌, take, length, refl, sym, ◌∙◌, ap, subst, inl, inr, arith, Option}
use Rattle.std.proofs.Common.{Some, None, slice_index_or, get_or}
use Rattle.std.proofs.lemmas.Bool.{cases_eq}
use Rattle.std.proofs.lemmas.List.{take_all, take_more}
use Rattle.std.specs.List.{range_with_len}
use Rattle.pam_conf.specs.declared.rule.Kind.{Kind}
use Rattle.pam_text.specs.Members.{Member}
use Rattle.pam_paths.proofs.Alike.{Member-codes}
use Rattle.pam_findings.specs.host.inner.Meeting.{also_met}
use Rattle.pam_findings.specs.host.inner.Table.{Notes, Puts, Table, finding_at, met_of, with_met, with_stack}
use Rattle.pam_findings.specs.declared.host.met.Met.{Met}
use Rattle.pam_findings.specs.declared.host.problem.Spot.{Spot}
use Rattle.pam_findings.specs.declared.host.report.Finding.{Finding}
use Rattle.pam_findings.proofs.HostProofs.Meeting.{also-twice, as-change, both-change, from_both, from_one, iff-change, no-change, to_back, to_front, to_one}

-- MEMBERS OF A LIST SO FAR

pub none_yet : {X : Type 0} (x : X) (xs : List X) → Member x (take 0 xs) → ⊥
unfolding Member
none_yet x xs h = h

pub one_more : {X : Type 0} (x y d : X) (xs : List X) (n : ℕ) → n < length xs → y ≡ get_or xs n d →
    (Member x (take n xs) ⊎ (x ≡ y)) ↔ Member x (take (n + 1) xs)
one_more x y d xs n h is =
    let front = take_more xs n d h ∙ ap (λ z. take n xs ++ z ∷ []) (sym is) in (
      λ w. subst (Member x) (sym front) (elim w [ inl k ↦ to_front x (take n xs) (y ∷ []) k | inr e ↦ to_back x (take n xs) (y ∷ []) (to_one x y e) ]),
      λ k. elim (from_both x (take n xs) (y ∷ []) (subst (Member x) front k)) [ inl i ↦ inl i | inr i ↦ inr (from_one x y i) ],
    )

pub all_so_far : {X : Type 0} (x : X) (xs : List X) (n : ℕ) → length xs ≤ n → Member x (take n xs) ↔ Member x xs
all_so_far x xs n h = (λ k. subst (Member x) (take_all n xs h) k, λ k. subst (Member x) (sym (take_all n xs h)) k)

-- WHAT A PASS PUTS IS PUT ONCE, however often it comes

abbrev pub Settles : (Spot → Option Finding → Finding) → Type 0
Settles value = (spot : Spot) (o : Option Finding) → value spot (Some (value spot o)) ≡ value spot o

pub settles-stack : (service : ℕ) (kind : Kind) → Settles (with_stack service kind)
settles-stack service kind spot o =
    ap (λ (m : Met). let f : Finding = record { problem = spot.problem; met = Some m } in f) (also-twice service kind (met_of o))

pub settles-met : (met : Option Met) → Settles (with_met met)
settles-met met spot o = refl

-- PASSES OVER THE TABLE

pub puts-none : (Holds : Spot → Type 0) (value : Spot → Option Finding → Finding) (table : Table) → ((spot : Spot) → Holds spot → ⊥) →
    Puts Holds value table table
puts-none Holds value table none = record {
  each = λ spot. no-change (Holds spot) (value spot (finding_at table spot)) (finding_at table spot) (none spot);
  placed = λ h. h;
}

pub puts-iff : (A B : Spot → Type 0) (value : Spot → Option Finding → Finding) (old new : Table) → ((spot : Spot) → A spot ↔ B spot) →
    Puts A value old new → Puts B value old new
puts-iff A B value old new same h = record {
  each = λ spot. iff-change (A spot) (B spot) (value spot (finding_at old spot)) (finding_at old spot) (finding_at new spot) (same spot) (h.each spot);
  placed = h.placed;
}

pub puts-as : (A : Spot → Type 0) (value other : Spot → Option Finding → Finding) (old new : Table) →
    ((spot : Spot) (o : Option Finding) → A spot → value spot o ≡ other spot o) → Puts A value old new → Puts A other old new
puts-as A value other old new same h = record {
  each = λ spot. as-change (A spot) (value spot (finding_at old spot)) (other spot (finding_at old spot)) (finding_at old spot) (finding_at new spot)
      (same spot (finding_at old spot)) (h.each spot);
  placed = h.placed;
}

-- a problem is put with one more stack
pub puts-stack : (service : ℕ) (kind : Kind) (met : Met) (spot : Spot) (old new : Table) → met ≡ also_met service kind (met_of (finding_at old spot)) →
    Puts (λ other. other ≡ spot) (with_met (Some met)) old new → Puts (λ other. other ≡ spot) (with_stack service kind) old new
puts-stack service kind met spot old new is h = record {
  each = λ other. as-change (other ≡ spot) (with_met (Some met) other (finding_at old other)) (with_stack service kind other (finding_at old other))
      (finding_at old other) (finding_at new other)
      (λ same. ap (λ (m : Met). let f : Finding = record { problem = other.problem; met = Some m } in f)
      (is ∙ ap (λ (s : Spot). also_met service kind (met_of (finding_at old s))) (sym same)))
      (h.each other);
  placed = h.placed;
}

pub puts-both : (A B : Spot → Type 0) (value : Spot → Option Finding → Finding) (old middle new : Table) → Settles value →
    Puts A value old middle → Puts B value middle new → Puts (λ spot. A spot ⊎ B spot) value old new
puts-both A B value old middle new settles h k = record {
  each = λ spot. both-change (value spot) (settles spot) (A spot) (B spot) (finding_at old spot) (finding_at middle spot) (finding_at new spot)
      (h.each spot) (k.each spot);
  placed = λ were. k.placed (h.placed were);
}

-- a loop's step over a list
pub puts-more : (value : Spot → Option Finding → Finding) (spots : List Spot) (n : ℕ) (spot d : Spot) (old middle new : Table) → Settles value →
    n < length spots → spot ≡ get_or spots n d →
    Puts (λ other. Member other (take n spots)) value old middle → Puts (λ other. other ≡ spot) value middle new →
    Puts (λ other. Member other (take (n + 1) spots)) value old new
puts-more value spots n spot d old middle new settles h is so_far one =
    puts-iff (λ other. Member other (take n spots) ⊎ (other ≡ spot)) (λ other. Member other (take (n + 1) spots)) value old new
    (λ other. one_more other spot d spots n h is)
    (puts-both (λ other. Member other (take n spots)) (λ other. other ≡ spot) value old middle new settles so_far one)

pub puts-start : (value : Spot → Option Finding → Finding) (spots : List Spot) (table : Table) →
    Puts (λ other. Member other (take 0 spots)) value table table
puts-start value spots table = puts-none (λ other. Member other (take 0 spots)) value table (λ other. none_yet other spots)

pub puts-end : (value : Spot → Option Finding → Finding) (spots : List Spot) (n : ℕ) (old new : Table) → length spots ≤ n →
    Puts (λ other. Member other (take n spots)) value old new → Puts (λ other. Member other spots) value old new
puts-end value spots n old new h so_far =
    puts-iff (λ other. Member other (take n spots)) (λ other. Member other spots) value old new (λ other. all_so_far other spots n h) so_far

-- PASSES OVER THE FILES

pub notes-none : (Holds : ℕ → Type 0) (service : ℕ) (kind : Kind) (readers : List (Option Met)) → ((file : ℕ) → Holds file → ⊥) →
    Notes Holds service kind readers readers
notes-none Holds service kind readers none = record {
  each = λ file h. no-change (Holds file) (also_met service kind (slice_index_or readers file None)) (slice_index_or readers file None) (none file);
  count = refl;
}

pub notes-iff : (A B : ℕ → Type 0) (service : ℕ) (kind : Kind) (old new : List (Option Met)) → ((file : ℕ) → file < length old → A file ↔ B file) →
    Notes A service kind old new → Notes B service kind old new
notes-iff A B service kind old new same h = record {
  each = λ file within. iff-change (A file) (B file) (also_met service kind (slice_index_or old file None)) (slice_index_or old file None)
      (slice_index_or new file None) (same file within) (h.each file within);
  count = h.count;
}

pub notes-both : (A B : ℕ → Type 0) (service : ℕ) (kind : Kind) (old middle new : List (Option Met)) →
    Notes A service kind old middle → Notes B service kind middle new → Notes (λ file. A file ⊎ B file) service kind old new
notes-both A B service kind old middle new h k = record {
  each = λ file within. both-change (also_met service kind) (also-twice service kind) (A file) (B file) (slice_index_or old file None)
      (slice_index_or middle file None) (slice_index_or new file None) (h.each file within)
      (k.each file (subst (λ n. file < n) (sym h.count) within));
  count = k.count ∙ h.count;
}

-- one list of files after another
pub notes-joined : (service : ℕ) (kind : Kind) (files others : List ℕ) (old middle new : List (Option Met)) →
    Notes (λ file. Member file files) service kind old middle → Notes (λ file. Member file others) service kind middle new →
    Notes (λ file. Member file (files ++ others)) service kind old new
notes-joined service kind files others old middle new h k =
    notes-iff (λ file. Member file files ⊎ Member file others) (λ file. Member file (files ++ others)) service kind old new
    (λ file _. (λ w. elim w [ inl m ↦ to_front file files others m | inr m ↦ to_back file files others m ], λ m. from_both file files others m))
    (notes-both (λ file. Member file files) (λ file. Member file others) service kind old middle new h k)

-- a loop's step over a list of files
pub notes-start : (service : ℕ) (kind : Kind) (files : List ℕ) (readers : List (Option Met)) →
    Notes (λ file. Member file (take 0 files)) service kind readers readers
notes-start service kind files readers = notes-none (λ file. Member file (take 0 files)) service kind readers (λ file. none_yet file files)

pub notes-more : (service : ℕ) (kind : Kind) (files : List ℕ) (n file d : ℕ) (old middle new : List (Option Met)) →
    n < length files → file ≡ get_or files n d →
    Notes (λ other. Member other (take n files)) service kind old middle → Notes (λ other. other ≡ file) service kind middle new →
    Notes (λ other. Member other (take (n + 1) files)) service kind old new
notes-more service kind files n file d old middle new h is so_far one =
    notes-iff (λ other. Member other (take n files) ⊎ (other ≡ file)) (λ other. Member other (take (n + 1) files)) service kind old new
    (λ other _. one_more other file d files n h is)
    (notes-both (λ other. Member other (take n files)) (λ other. other ≡ file) service kind old middle new so_far one)

pub notes-end : (service : ℕ) (kind : Kind) (files : List ℕ) (n : ℕ) (old new : List (Option Met)) → length files ≤ n →
    Notes (λ other. Member other (take n files)) service kind old new → Notes (λ other. Member other files) service kind old new
notes-end service kind files n old new h so_far =
    notes-iff (λ other. Member other (take n files)) (λ other. Member other files) service kind old new (λ other _. all_so_far other files n h) so_far

-- one more number below a bound
pub next_below : (n other : ℕ) → ((other < n) ⊎ (other ≡ n)) ↔ (other < n + 1)
next_below n other = (
  λ w. elim w [ inl h ↦ omega (arith, h) | inr e ↦ omega (arith, e) ],
  λ h. elim (cases_eq other n) [ inl e ↦ inr e | inr ne ↦ inl (omega (arith, h, ne)) ],
)

-- a loop's step over all files
pub notes-next : (service : ℕ) (kind : Kind) (n : ℕ) (old middle new : List (Option Met)) →
    Notes (λ other. other < n) service kind old middle → Notes (λ other. other ≡ n) service kind middle new →
    Notes (λ other. other < n + 1) service kind old new
notes-next service kind n old middle new so_far one =
    notes-iff (λ other. (other < n) ⊎ (other ≡ n)) (λ other. other < n + 1) service kind old new (λ other _. next_below n other)
    (notes-both (λ other. other < n) (λ other. other ≡ n) service kind old middle new so_far one)

pub notes-each : (service : ℕ) (kind : Kind) (n : ℕ) (old new : List (Option Met)) → length old ≤ n →
    Notes (λ other. other < n) service kind old new → Notes (λ other. Member other (range_with_len 0 (length old))) service kind old new
notes-each service kind n old new h so_far =
    notes-iff (λ other. other < n) (λ other. Member other (range_with_len 0 (length old))) service kind old new
    (λ other within. (λ _. Member-codes 0 (length old) other (omega arith) (omega (arith, within)), λ _. omega (arith, within, h)))
    so_far
