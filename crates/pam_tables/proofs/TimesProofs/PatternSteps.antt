-- A name with a wildcard, and the texts that it matches.
use Rattle.std.proofs.Common.{◌≡◌, ◌∙◌, ◌+◌, ◌-◌, ◌&&◌, ◌++◌, ◌↔◌, ℕ, Bool, true, false, List, length, take, drop, position}
use Rattle.std.proofs.Common.{nat_eq, Option, Some, None, refl, []}
use Rattle.std.proofs.lemmas.Bool.{eqb-true}
use Rattle.std.proofs.Common.{◌∷◌, not, cond, eqb, nat_lt, count_by, suc, arith}
use Rattle.std.proofs.lemmas.List.Sums.{sum_by-cons}
use Rattle.std.proofs.lemmas.Bool.Decides.{nat_tests}
use Rattle.std.specs.List.{position_or_len}
use Rattle.std.proofs.Common.{sym, ap, ap₂}
use Rattle.std.specs.List.{ends_with}
use Rattle.std.specs.Option.{is_some, option_map_or}
use Rattle.std.specs.Str.{bytes_eq}
use Rattle.std.proofs.lemmas.List.{drop-drop, take-append-drop}
use Rattle.std.proofs.lemmas.Bool.Decides.{Decides-eqb}
use Rattle.std.proofs.lemmas.Slice.Eq.{bytes_eq-Decides, ends_is}
use Rattle.std.proofs.Math.Seq.{take-append_seam, drop-append_seam}
use Rattle.pam_tables.specs.times.Pattern.{has_two_stars, is_star, matches, is_framed}
use Rattle.pam_tables.specs.times.inner.Pattern.{Means, MeansAt}

both : (a b : Bool) → (a && b) ≡ true → (a ≡ true) × (b ≡ true)
both true b h = (refl, h)
both false b h = absurd (cc)

filled : (front back text : List ℕ) → is_framed front back text ≡ true → (filling : List ℕ) × (text ≡ front ++ (filling ++ back))
filled front back text h =
    let rest = drop (length front) text in
    let parts = both (bytes_eq (take (length front) text) front) (ends_with nat_eq rest back) h in
    let begin : take (length front) text ≡ front = (bytes_eq-Decides (take (length front) text) front).0 parts.0 in
    let end : rest ≡ take (length rest - length back) rest ++ back = (ends_is Decides-eqb rest back _ refl).0 parts.1 in
    (take (length rest - length back) rest, sym (take-append-drop (length front) text) ∙ ap₂ (λ (x y : List ℕ). x ++ y) begin end)

framed_if : (front back text filling : List ℕ) → text ≡ front ++ (filling ++ back) → is_framed front back text ≡ true
framed_if front back text filling h =
    let begin : take (length front) text ≡ front = ap (take (length front)) h ∙ take-append_seam front (filling ++ back) in
    let rest : drop (length front) text ≡ filling ++ back = ap (drop (length front)) h ∙ drop-append_seam front (filling ++ back) in
    let same : bytes_eq (take (length front) text) front ≡ true = (bytes_eq-Decides (take (length front) text) front).1 begin in
    let ends : ends_with nat_eq (drop (length front) text) back ≡ true = (ends_is Decides-eqb (drop (length front) text) back _ refl).1 filling rest in
    ap₂ (λ (x y : Bool). x && y) same ends

-- the definition means what it says
pub matches_means : (name text : List ℕ) → (matches name text ≡ true) ↔ Means name text
matches_means name text =
    elim (position is_star name) as (λ (o : Option ℕ). (option_map_or (λ i. is_framed (take i name) (drop (i + 1) name) text) o (bytes_eq name text) ≡ true)
    ↔ MeansAt o name text) [
      | None ↦ ((bytes_eq-Decides name text).0, (bytes_eq-Decides name text).1)
      | Some i ↦ (filled (take i name) (drop (i + 1) name) text, λ m. framed_if (take i name) (drop (i + 1) name) text m.0 m.1)
    ]

pub tested : (name text : List ℕ) (b : Bool) → b ≡ matches name text → (b ≡ true) ↔ Means name text
tested name text b e = let m = matches_means name text in (λ t. m.0 (sym e ∙ t), λ w. e ∙ m.1 w)

-- ---- a name and a text, byte by byte

less_next : (n m : ℕ) → nat_lt (1 + n) (1 + m) ≡ nat_lt n m
less_next n m = grind (arith, nat_tests)

none_less : (n : ℕ) → true ≡ nat_lt 0 (1 + n)
none_less n = grind (arith, nat_tests)

-- the meaning of a name, from the place of its first wildcard
abbrev placed : List ℕ → List ℕ → Option ℕ → Bool
placed name text o = option_map_or (λ i. is_framed (take i name) (drop (i + 1) name) text) o (bytes_eq name text)

module _ (b : ℕ) (bs : List ℕ) (plain : is_star b ≡ false) where
  star_later : position is_star (b ∷ bs) ≡ cond (nat_lt (position_or_len is_star bs) (length bs)) (Some (suc (position_or_len is_star bs))) None
  star_later =
      let n = position_or_len is_star bs in
      let len : length (b ∷ bs) ≡ 1 + length bs = omega arith in
      let next : 1 + n ≡ suc n = omega arith in
      ap (λ (t : Bool). let i = cond (not t) (1 + n) 0 in cond (nat_lt i (length (b ∷ bs))) (Some i) None) plain
      ∙ ap₂ (λ (t : Bool) (i : ℕ). cond t (Some i) None) (ap (nat_lt (1 + n)) len ∙ less_next n (length bs)) next

  next_byte : (c : ℕ) (cs : List ℕ) → matches (b ∷ bs) (c ∷ cs) ≡ (eqb b c && matches bs cs)
  next_byte c cs =
      ap (placed (b ∷ bs) (c ∷ cs)) star_later ∙ at (nat_lt (position_or_len is_star bs) (length bs)) (position_or_len is_star bs)
    where
      flip : (x y : ℕ) (s t : Bool) → ((eqb x y && s) && t) ≡ (eqb y x && (s && t))
      flip x y s t = grind (arith, nat_tests)

      at : (t : Bool) (n : ℕ) → placed (b ∷ bs) (c ∷ cs) (cond t (Some (suc n)) None) ≡ (eqb b c && placed bs cs (cond t (Some n) None))
      at false n = refl
      at true n =
          let place : suc n + 1 ≡ suc (n + 1) = omega arith in
          ap (λ (k : ℕ). is_framed (b ∷ take n bs) (drop k (b ∷ bs)) (c ∷ cs)) place
          ∙ flip c b (bytes_eq (take (length (take n bs)) cs) (take n bs)) (ends_with nat_eq (drop (length (take n bs)) cs) (drop (n + 1) bs))

  text_ended : (text : List ℕ) → length text ≡ 0 → matches (b ∷ bs) text ≡ false
  text_ended (c ∷ cs) h = absurd (omega arith)
  text_ended [] h = ap (placed (b ∷ bs) []) star_later ∙ at (nat_lt (position_or_len is_star bs) (length bs)) (position_or_len is_star bs)
    where
      at : (t : Bool) (n : ℕ) → placed (b ∷ bs) [] (cond t (Some (suc n)) None) ≡ false
      at false n = refl
      at true n = refl

star_first : (bs text : List ℕ) → matches (42 ∷ bs) text ≡ ends_with nat_eq text bs
star_first bs text = ap (placed (42 ∷ bs) text) first
  where
    len : 1 + length bs ≡ length (42 ∷ bs)
    len = omega arith

    first : position is_star (42 ∷ bs) ≡ Some 0
    first = ap (λ (t : Bool). cond t (Some 0) None) (sym (none_less (length bs) ∙ ap (nat_lt 0) len))

no_star_is : (b : ℕ) → (b ≡ 42 → ⊥) → is_star b ≡ false
no_star_is b h = elim (eqb b 42) as (λ (t : Bool). eqb b 42 ≡ t → t ≡ false) [ true ↦ λ e. absurd (h (eqb-true b 42 e)) | false ↦ λ e. refl ] refl

module _ (name text : List ℕ) (all : Bool) (same : matches name text ≡ all) where
  pub name_ended : length name ≡ 0 → eqb (length text) 0 ≡ all
  name_ended h = sym (empty name text h) ∙ same
    where
      filled : (n : ℕ) → eqb (suc n) 0 ≡ false
      filled n = grind (arith, nat_tests)

      empty : (n t : List ℕ) → length n ≡ 0 → matches n t ≡ eqb (length t) 0
      empty [] [] e = refl
      empty [] (c ∷ cs) e = sym (filled (length cs))
      empty (b ∷ bs) t e = absurd (omega arith)

  module _ (b : ℕ) (bs : List ℕ) (is : name ≡ b ∷ bs) where
    here : matches (b ∷ bs) text ≡ all
    here = sym (ap (λ (n : List ℕ). matches n text) is) ∙ same

    pub at_star : b ≡ 42 → ends_with nat_eq text bs ≡ all
    at_star e = sym (ap (λ (k : ℕ). matches (k ∷ bs) text) e ∙ star_first bs text) ∙ here

    pub at_end : (b ≡ 42 → ⊥) → length text ≡ 0 → false ≡ all
    at_end h e = sym (text_ended b bs (no_star_is b h) text e) ∙ here

    module _ (c : ℕ) (cs : List ℕ) (there : text ≡ c ∷ cs) (plain : b ≡ 42 → ⊥) where
      both_next : (eqb b c && matches bs cs) ≡ all
      both_next = sym (ap (matches (b ∷ bs)) there ∙ next_byte b bs (no_star_is b plain) c cs) ∙ here

      pub at_difference : (c ≡ b → ⊥) → false ≡ all
      at_difference h = sym (ap (λ (t : Bool). t && matches bs cs) (differs (eqb b c) refl)) ∙ both_next
        where
          differs : (t : Bool) → eqb b c ≡ t → t ≡ false
          differs true e = absurd (h (sym (eqb-true b c e)))
          differs false e = refl

      pub at_same : c ≡ b → matches bs cs ≡ all
      at_same e = sym (ap (λ (t : Bool). t && matches bs cs) (ap (eqb b) e ∙ alike b)) ∙ both_next
        where
          alike : (n : ℕ) → eqb n n ≡ true
          alike n = grind (arith, nat_tests)

-- ---- how many wildcards there are

one_less : (n : ℕ) → nat_lt 0 n ≡ nat_lt 1 (1 + n)
one_less n = grind (arith, nat_tests)

later : (x : ℕ) (xs : List ℕ) (n : ℕ) → cond (nat_lt (1 + n) (length (x ∷ xs))) (1 + count_by is_star (drop (1 + n + 1) (x ∷ xs))) 0
    ≡ cond (nat_lt n (length xs)) (1 + count_by is_star (drop (n + 1) xs)) 0
later x xs n =
    let len : length (x ∷ xs) ≡ 1 + length xs = omega arith in
    let place : 1 + n + 1 ≡ suc (n + 1) = omega arith in
    ap₂ (λ (t : Bool) (k : ℕ). cond t (1 + count_by is_star (drop k (x ∷ xs))) 0) (ap (nat_lt (1 + n)) len ∙ less_next n (length xs)) place

stars_from : (xs : List ℕ) → count_by is_star xs
    ≡ cond (nat_lt (position_or_len is_star xs) (length xs)) (1 + count_by is_star (drop (position_or_len is_star xs + 1) xs)) 0
stars_from [] = refl
stars_from (x ∷ xs) = elim (is_star x) as (λ (t : Bool). is_star x ≡ t → count_by is_star (x ∷ xs)
    ≡ cond (nat_lt (cond (not t) (1 + position_or_len is_star xs) 0) (length (x ∷ xs)))
    (1 + count_by is_star (drop (cond (not t) (1 + position_or_len is_star xs) 0 + 1) (x ∷ xs))) 0) [
      | true ↦ λ e.
          let len : 1 + length xs ≡ length (x ∷ xs) = omega arith in
          sum_by-cons (λ s. cond (is_star s) 1 0) x xs
          ∙ rw e (ap (λ (t : Bool). cond t (1 + count_by is_star xs) 0) (none_less (length xs) ∙ ap (nat_lt 0) len))
      | false ↦ λ e.
          let same : 0 + count_by is_star xs ≡ count_by is_star xs = omega arith in
          sum_by-cons (λ s. cond (is_star s) 1 0) x xs ∙ rw e (same ∙ stars_from xs ∙ sym (later x xs (position_or_len is_star xs)))
    ] refl

pub no_star : (xs : List ℕ) → None ≡ position is_star xs → false ≡ has_two_stars xs
no_star xs h = sym (ap (nat_lt 1) (stars_from xs ∙ none (nat_lt (position_or_len is_star xs) (length xs)) _ _ h))
  where
    none : (t : Bool) (i n : ℕ) → None ≡ cond t (Some i) None → cond t n 0 ≡ 0
    none true i n e = absurd (cc)
    none false i n e = refl

one_star : (xs : List ℕ) (i : ℕ) → Some i ≡ position is_star xs → count_by is_star xs ≡ 1 + count_by is_star (drop (i + 1) xs)
one_star xs i h =
    stars_from xs ∙ one (nat_lt (position_or_len is_star xs) (length xs)) (position_or_len is_star xs) (λ j. 1 + count_by is_star (drop (j + 1) xs)) h
  where
    one : (t : Bool) (j : ℕ) (f : ℕ → ℕ) → Some i ≡ cond t (Some j) None → cond t (f j) 0 ≡ f i
    one true j f e = let same : j ≡ i = cc in ap f same
    one false j f e = absurd (cc)

some_star : (xs : List ℕ) → is_some (position is_star xs) ≡ nat_lt 0 (count_by is_star xs)
some_star xs = some (nat_lt (position_or_len is_star xs) (length xs)) _ _ ∙ sym (ap (nat_lt 0) (stars_from xs))
  where
    some : (t : Bool) (i n : ℕ) → is_some (cond t (Some i) None) ≡ nat_lt 0 (cond t (1 + n) 0)
    some true i n = none_less n
    some false i n = refl

-- a name has two wildcards if there is one after the first
pub two_stars : (xs rest back : List ℕ) (i : ℕ) (o : Option ℕ) (b : Bool) → Some i ≡ position is_star xs → rest ≡ drop i xs → back ≡ drop 1 rest →
    o ≡ position is_star back → b ≡ is_some o → b ≡ has_two_stars xs
two_stars xs rest back i o b e g h k l =
    let after : back ≡ drop (i + 1) xs = h ∙ ap (drop 1) g ∙ drop-drop 1 i xs in
    l ∙ ap is_some k ∙ some_star back ∙ one_less (count_by is_star back)
    ∙ sym (ap (nat_lt 1) (one_star xs i e ∙ ap (λ (ys : List ℕ). 1 + count_by is_star ys) (sym after)))
