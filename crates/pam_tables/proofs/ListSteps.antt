-- A list with EXCEPTs, token by token.
use Rattle.std.proofs.Common.{◌≡◌, ◌∙◌, ◌+◌, ◌%◌, ℕ, not, Bool, true, false, List, [], ◌∷◌, cond, nat_eq, refl, sym, ap, arith}
use Rattle.std.specs.List.{slice_split, onto_first, prefix_len}
use mathlib.Core.Bool.{beq}
use Rattle.pam_tables.specs.Lists.{is_except, part_holds, list_matches}
use Rattle.pam_tables.specs.inner.Lists.{odd_after, odd_with, matches_after}
use Rattle.pam_tables.specs.declared.lists.Mark.{Mark}
use Rattle.pam_tables.specs.declared.lists.Mark.TheVariants.{Except, Match, Miss}
use Rattle.pam_tables.specs.declared.lists.ListState.{ListState}
use Rattle.pam_tables.proofs.Cutting.{split_parts}

odd_next : (n : ℕ) → nat_eq ((1 + n) % 2) 1 ≡ not (nat_eq (n % 2) 1)
odd_next n = grind arith

odd_after_next : (b : Bool) (n : ℕ) → odd_after b (1 + n) ≡ odd_after (not b) n
odd_after_next b n = ap (λ (t : Bool). cond t (not b) b) (odd_next n) ∙ turned (nat_eq (n % 2) 1) b
  where
    turned : (t b : Bool) → cond (not t) (not b) b ≡ cond t (not (not b)) (not b)
    turned true true = refl
    turned true false = refl
    turned false b = refl

odd_of : (n : ℕ) → odd_after false n ≡ nat_eq (n % 2) 1
odd_of n = elim (nat_eq (n % 2) 1) as (λ (t : Bool). cond t true false ≡ t) [ true ↦ refl | false ↦ refl ]

-- parts after an even or an odd number of parts that hold
parts_after : (b : Bool) (ps : List (List Mark)) → odd_with b false ps ≡ odd_after b (prefix_len part_holds ps)
parts_after b [] = refl
parts_after b (p ∷ ps) =
    elim (part_holds p) as (λ (t : Bool). cond t (odd_after (not b) (prefix_len part_holds ps)) b ≡ odd_after b (cond t (1 + prefix_len part_holds ps) 0)) [
      | true ↦ sym (odd_after_next b (prefix_len part_holds ps))
      | false ↦ refl
    ]

pub list_begins : (rest : List Mark) → matches_after record { is_odd = false; holds = false; is_decided = false } rest ≡ list_matches rest
unfolding matches_after list_matches
list_begins rest = parts_after false (slice_split is_except rest) ∙ odd_of _

pub decided : (s : ListState) (mark : Mark) → s.is_decided ≡ true → (rest : List Mark) → matches_after s rest ≡ matches_after s (mark ∷ rest)
unfolding matches_after
decided s mark e rest = rw e refl

-- a token that matches
pub list_match : (s : ListState) (mark : Mark) → s.is_decided ≡ false → mark ≡ Match → (rest : List Mark) →
    matches_after record { is_odd = s.is_odd; holds = true; is_decided = s.is_decided } rest ≡ matches_after s (mark ∷ rest)
unfolding matches_after
list_match s mark e m rest =
    let ps = split_parts is_except rest in
    rw (m, e) (ap (λ (qs : List (List Mark)). odd_with s.is_odd true qs) ps.are ∙ already s.is_odd s.holds ps.first ps.others
    ∙ ap (λ (qs : List (List Mark)). odd_with s.is_odd s.holds (onto_first Match qs)) (sym ps.are))
  where
    already : (o h : Bool) (p : List Mark) (ps : List (List Mark)) → odd_with o true (p ∷ ps) ≡ odd_with o h ((Match ∷ p) ∷ ps)
    already o true p ps = refl
    already o false p ps = refl

-- a token that does not match
pub list_miss : (s : ListState) (mark : Mark) → s.is_decided ≡ false → mark ≡ Miss → (rest : List Mark) → matches_after s rest ≡ matches_after s (mark ∷ rest)
unfolding matches_after
list_miss s mark e m rest =
    let ps = split_parts is_except rest in
    rw (m, e) (ap (λ (qs : List (List Mark)). odd_with s.is_odd s.holds qs) ps.are
    ∙ ap (λ (qs : List (List Mark)). odd_with s.is_odd s.holds (onto_first Miss qs)) (sym ps.are))

closed : (o h : Bool) (ps : List (List Mark)) → cond (not h) (not (beq o h)) (odd_with (not (beq o h)) false ps) ≡ odd_with o h ([] ∷ ps)
closed true true ps = parts_after false ps
closed false true ps = parts_after true ps
closed true false ps = refl
closed false false ps = refl

-- the word EXCEPT
pub list_except : (s : ListState) (mark : Mark) → s.is_decided ≡ false → mark ≡ Except → (rest : List Mark) →
    matches_after record { is_odd = not (beq s.is_odd s.holds); holds = false; is_decided = not s.holds } rest ≡ matches_after s (mark ∷ rest)
unfolding matches_after
list_except s mark e m rest = rw (m, e) (closed s.is_odd s.holds (slice_split is_except rest))

pub list_ends : (s : ListState) → s.is_decided ≡ false → not (beq s.is_odd s.holds) ≡ matches_after s []
unfolding matches_after
list_ends s e = rw e (last s.is_odd s.holds)
  where
    last : (o h : Bool) → not (beq o h) ≡ odd_with o h ([] ∷ [])
    last true true = refl
    last true false = refl
    last false true = refl
    last false false = refl

pub list_was_decided : (s : ListState) → s.is_decided ≡ true → s.is_odd ≡ matches_after s []
unfolding matches_after
list_was_decided s e = rw e refl
