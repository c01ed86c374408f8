-- The branches at a module that are ahead of a bound.
use Rattle.std.proofs.Common.{◌≡◌, ℕ, ◌+◌, ◌-◌, ◌<◌, ◌≤◌, Bool, true, false, List, [], ◌∷◌, ◌++◌, map, reverse, cond, zero, suc, refl, sym, ◌∙◌, ap, arith}
use Rattle.std.proofs.Common.{Some, append_assoc, append-nil}
use Rattle.std.specs.List.{range_with_len}
use Rattle.std.proofs.lemmas.Bool.{cond-true}
use Rattle.std.proofs.lemmas.List.{map-append, reverse-append}
use Rattle.pam_codes.specs.Set.{is_in}
use Rattle.pam_codes.specs.inner.SetBits.{is_in-codes_where}
use Rattle.pam_dispatch.specs.declared.step.Outcome.{Outcome}
use Rattle.pam_dispatch.specs.Runs.{Ask, Runs, asks, ends, outcome_of, asked_module, after_answer, next_ask}
use Rattle.pam_paths.specs.declared.direction.Direction.{Direction}
use Rattle.pam_paths.specs.declared.direction.Direction.TheVariants.{Forward, Backward}
use Rattle.pam_paths.specs.Classes.{class_of}
use Rattle.pam_paths.specs.Computed.{after_step, branches, is_offered, listing}
use Rattle.pam_paths.specs.Directions.{ordered, past}
use Rattle.pam_paths.specs.inner.Directions.{IsAhead, IsNearer}
use Rattle.pam_paths.specs.Frames.{ahead_of, offered_at}
use Rattle.pam_paths.specs.Listing.{Allowance}
use Rattle.pam_paths.specs.Paths.{PathValue, step_of}

module _ (allows : Allowance) (ask : Ask) (below : Outcome → List PathValue) where
  branches_here : (first : ℕ) → List PathValue
  branches_here first = cond (is_offered allows ask first) (map (after_step (step_of ask first)) (below (outcome_of ask first))) []

  -- codes none of which begins a branch
  pub branches_none : (first n : ℕ) → ((k : ℕ) → first ≤ k → k < first + n → is_offered allows ask k ≡ false) →
      branches allows ask below (range_with_len first n) ≡ []
  unfolding branches
  branches_none first zero h = refl
  branches_none first (suc n) h =
      ap (λ (b : Bool). cond b (map (after_step (step_of ask first)) (below (outcome_of ask first))) [] ++ branches allows ask below
      (range_with_len (first + 1) n)) (h first (omega arith) (omega arith))
      ∙ branches_none (first + 1) n (λ k from to. h k (omega (arith, from)) (omega (arith, to)))

  -- a run of codes in two parts
  pub branches_split : (a first n b middle : ℕ) → n ≡ a + b → middle ≡ first + a →
      branches allows ask below (range_with_len first n)
      ≡ branches allows ask below (range_with_len first a) ++ branches allows ask below (range_with_len middle b)
  unfolding branches branches_here
  branches_split zero first n b middle e f =
      let k : n ≡ b = omega (arith, e) in
      let m : first ≡ middle = omega (arith, f) in
      ap (λ (x : ℕ). branches allows ask below (range_with_len first x)) k ∙ ap (λ (x : ℕ). branches allows ask below (range_with_len x b)) m
  branches_split (suc a) first n b middle e f =
      let k : n ≡ suc (a + b) = omega (arith, e) in
      ap (λ (x : ℕ). branches allows ask below (range_with_len first x)) k
      ∙ ap (λ (x : List PathValue). branches_here first ++ x) (branches_split a (first + 1) (a + b) b middle refl (omega (arith, f)))
      ∙ sym (append_assoc (branches_here first) (branches allows ask below (range_with_len (first + 1) a))
      (branches allows ask below (range_with_len middle b)))

  -- a code that begins one
  pub branches_one : (c : ℕ) → is_offered allows ask c ≡ true →
      branches allows ask below (range_with_len c 1) ≡ map (after_step (step_of ask c)) (below (outcome_of ask c))
  unfolding branches
  branches_one c h = append-nil _ ∙ cond-true (is_offered allows ask c) (map (after_step (step_of ask c)) (below (outcome_of ask c))) [] h

  pub from_first : (first c : ℕ) → first ≤ c → c < 31 → is_offered allows ask c ≡ true →
      ((k : ℕ) → first ≤ k → k < c → is_offered allows ask k ≡ false) →
      branches allows ask below (range_with_len first (31 - first))
      ≡ map (after_step (step_of ask c)) (below (outcome_of ask c)) ++ branches allows ask below (range_with_len (c + 1) (31 - (c + 1)))
  from_first first c low high h before =
      branches_split (c - first) first (31 - first) (31 - c) c (omega (arith, low, high)) (omega (arith, low))
      ∙ ap (λ (x : List PathValue). x ++ branches allows ask below (range_with_len c (31 - c)))
      (branches_none first (c - first) (λ k from to. before k from (omega (arith, to, low))))
      ∙ branches_split 1 c (31 - c) (31 - (c + 1)) (c + 1) (omega (arith, high)) refl
      ∙ ap (λ (x : List PathValue). x ++ branches allows ask below (range_with_len (c + 1) (31 - (c + 1)))) (branches_one c h)

  pub to_last : (c last : ℕ) → c < last → is_offered allows ask c ≡ true →
      ((k : ℕ) → c < k → k < last → is_offered allows ask k ≡ false) →
      branches allows ask below (range_with_len 0 last)
      ≡ branches allows ask below (range_with_len 0 c) ++ map (after_step (step_of ask c)) (below (outcome_of ask c))
  to_last c last low h after =
      branches_split c 0 last (last - c) c (omega (arith, low)) (omega arith)
      ∙ ap (λ (x : List PathValue). branches allows ask below (range_with_len 0 c) ++ x)
      (branches_split 1 c (last - c) (last - (c + 1)) (c + 1) (omega (arith, low)) refl
      ∙ ap (λ (x : List PathValue). branches allows ask below (range_with_len c 1) ++ x)
      (branches_none (c + 1) (last - (c + 1)) (λ k from to. after k (omega (arith, from)) (omega (arith, to, low))))
      ∙ append-nil _
      ∙ branches_one c h)

pub map-reverse : (f : PathValue → PathValue) (ps : List PathValue) → map f (reverse ps) ≡ reverse (map f ps)
map-reverse f [] = refl
map-reverse f (p ∷ ps) =
    ap (map f) (reverse-append (p ∷ []) ps) ∙ map-append f (reverse ps) (p ∷ [])
    ∙ ap (λ (x : List PathValue). x ++ f p ∷ []) (map-reverse f ps) ∙ sym (reverse-append (f p ∷ []) (map f ps))

-- the paths below a code, in the words of a caller
step_told : (d : Direction) (allows : Allowance) (ask : Ask) (next : Outcome → Runs) (q : Runs) (m c : ℕ) (class : List ℕ) →
    asked_module (asks ask next) ≡ Some m → class ≡ class_of ask c → q ≡ next (outcome_of ask c) →
    map (after_step (step_of ask c)) (ordered d (listing allows (next (outcome_of ask c))))
    ≡ map (after_step (record { module_number = m; class = class })) (ordered d (listing allows q))
step_told d allows ask next q m c class asking is at =
    let number : ask.module_number ≡ m = cc in
    ap (λ (x : ℕ). map (after_step (record { module_number = x; class = class_of ask c })) (ordered d (listing allows (next (outcome_of ask c))))) number
    ∙ ap (λ (x : List ℕ). map (after_step (record { module_number = m; class = x })) (ordered d (listing allows (next (outcome_of ask c))))) (sym is)
    ∙ ap (λ (x : Runs). map (after_step (record { module_number = m; class = class })) (ordered d (listing allows x))) (sym at)

-- the branches ahead of a bound, if the next one is known
pub branch-ahead : (d : Direction) (allows : Allowance) (r q : Runs) (m bound c : ℕ) (class : List ℕ) → asked_module r ≡ Some m →
    IsAhead d bound c → c < 31 → is_offered allows (next_ask r) c ≡ true →
    ((k : ℕ) → k < 31 → IsAhead d bound k → IsNearer d k c → is_offered allows (next_ask r) k ≡ false) →
    bound ≤ 31 → class ≡ class_of (next_ask r) c → q ≡ after_answer r c →
    ahead_of d allows r bound ≡ map (after_step (record { module_number = m; class = class })) (ordered d (listing allows q)) ++ ahead_of d allows r
    (past d c)
unfolding ahead_of
branch-ahead d allows (ends s) q m bound c class asking near low h before room is at = absurd (let k : ⊥ = cc in k)
branch-ahead Forward allows (asks ask next) q m bound c class asking near low h before room is at =
    let below : Outcome → List PathValue = λ o. listing allows (next o) in
    from_first allows ask below bound c near low h (λ k from to. before k (omega (arith, to, low)) from to)
    ∙ ap (λ (x : List PathValue). x ++ branches allows ask below (range_with_len (c + 1) (31 - (c + 1))))
    (step_told Forward allows ask next q m c class asking is at)
branch-ahead Backward allows (asks ask next) q m bound c class asking near low h before room is at =
    let below : Outcome → List PathValue = λ o. listing allows (next o) in
    let here = map (after_step (step_of ask c)) (below (outcome_of ask c)) in
    ap reverse (to_last allows ask below c bound near h (λ k from to. before k (omega (arith, to, room)) to from))
    ∙ reverse-append (branches allows ask below (range_with_len 0 c)) here
    ∙ ap (λ (x : List PathValue). x ++ reverse (branches allows ask below (range_with_len 0 c)))
    (sym (map-reverse (after_step (step_of ask c)) (below (outcome_of ask c))) ∙ step_told Backward allows ask next q m c class asking is at)

pub nothing-ahead : (d : Direction) (allows : Allowance) (r : Runs) (bound : ℕ) → bound ≤ 31 →
    ((k : ℕ) → k < 31 → IsAhead d bound k → is_offered allows (next_ask r) k ≡ false) → ahead_of d allows r bound ≡ []
unfolding ahead_of
nothing-ahead d allows (ends s) bound room h = refl
nothing-ahead Forward allows (asks ask next) bound room h =
    branches_none allows ask (λ o. listing allows (next o)) bound (31 - bound) (λ k from to. h k (omega (arith, to, room)) from)
nothing-ahead Backward allows (asks ask next) bound room h =
    ap reverse (branches_none allows ask (λ o. listing allows (next o)) 0 bound (λ k from to. h k (omega (arith, to, room)) (omega (arith, to))))

-- whether a code is offered, from the set of those that are
pub offered_is : (allows : Allowance) (r : Runs) (offered : List ℕ) (c : ℕ) → offered ≡ offered_at allows r → c < 31 →
    is_in c offered ≡ is_offered allows (next_ask r) c
offered_is allows r offered c e low = ap (is_in c) e ∙ is_in-codes_where (is_offered allows (next_ask r)) c low

pub ask_number : (r : Runs) (m : ℕ) → asked_module r ≡ Some m → m ≡ (next_ask r).module_number
ask_number (ends s) m e = absurd (let k : ⊥ = cc in k)
ask_number (asks ask next) m e = let k : ask.module_number ≡ m = cc in sym k
