use Rattle.std.proofs.Common.{◌≡◌, ℕ, ◌+◌, ◌<◌, ◌≤◌, max, List, [], ◌∷◌, ◌++◌, Option, Some, None, IsSome, is_some, ◌↔◌, option_map, eqb, zero, suc, refl, sym}
use Rattle.std.proofs.Common.{◌∙◌, ap, inl, inr, ◌⊎◌, ⊎_elim, arith, take, drop, length, get_or, append_assoc, add-one, eq-or-lt_of_le, drop-cons, eqb-true}
use Rattle.std.proofs.Common.{eq-eqb, subst, take-append-drop, Bor}
use Rattle.std.specs.Slice.{IsItemAt}
use Rattle.std.proofs.Math.Seq.{take-append_seam, drop-append_seam}
use Rattle.std.proofs.lemmas.List.{length-append}
use Rattle.std.proofs.lemmas.List.FromFn.{length-range_with_len}
use Rattle.std.proofs.lemmas.Bool.{cases_lt, cond-true, cond_both, false≢true}
use Rattle.std.specs.List.{range_with_len}
use Rattle.pam_conf.specs.declared.stack.Module.{Module}
use Rattle.pam_conf.specs.declared.stack.Item.{Item}
use Rattle.pam_conf.specs.declared.stack.Item.TheVariants.{Module as ModuleItem, Sub as SubItem}
use Rattle.pam_conf.specs.Stack.{ModuleText, SubText, SubList, Items, End, ThenModule, ThenSub, joined, module_count, depth, numbers_of, IsNumberedFrom}
use Rattle.pam_conf.specs.Stack.{first_there, module_at}
use Rattle.pam_conf.specs.ItemsOf.{items_of, module_text}

-- JOINING

pub joined-End : (items : Items) → joined items End ≡ items
joined-End End = refl
joined-End (ThenModule m rest) = ap (ThenModule m) (joined-End rest)
joined-End (ThenSub s inner rest) = ap (ThenSub s inner) (joined-End rest)

pub joined_assoc : (front middle back : Items) → joined (joined front middle) back ≡ joined front (joined middle back)
joined_assoc End middle back = refl
joined_assoc (ThenModule m rest) middle back = ap (ThenModule m) (joined_assoc rest middle back)
joined_assoc (ThenSub s inner rest) middle back = ap (ThenSub s inner) (joined_assoc rest middle back)

pub items_of-append : (xs ys : List Item) → items_of (xs ++ ys) ≡ joined (items_of xs) (items_of ys)
items_of-append [] ys = refl
items_of-append (ModuleItem m ∷ xs) ys = ap (ThenModule (module_text m)) (items_of-append xs ys)
items_of-append (SubItem s ∷ xs) ys = ap (ThenSub s.text s.inner) (items_of-append xs ys)

pub items_of-push_module : (xs : List Item) (m : Module) → items_of (xs ++ ModuleItem m ∷ []) ≡ joined (items_of xs) (ThenModule (module_text m) End)
items_of-push_module xs m = items_of-append xs (ModuleItem m ∷ [])

pub items_of-push_sub : (xs : List Item) (s : SubList) → items_of (xs ++ SubItem s ∷ []) ≡ joined (items_of xs) (ThenSub s.text s.inner End)
items_of-push_sub xs s = items_of-append xs (SubItem s ∷ [])

-- ONE STEP ALONG A LIST

pub items_of-drop_module : (xs : List Item) (i : ℕ) (d : Item) (m : Module) → i < length xs → get_or xs i d ≡ ModuleItem m →
    items_of (drop i xs) ≡ ThenModule (module_text m) (items_of (drop (suc i) xs))
items_of-drop_module xs i d m h e =
    ap items_of (drop-cons xs i d h) ∙ ap (λ (x : Item). items_of (x ∷ drop (suc i) xs)) e

pub items_of-drop_sub : (xs : List Item) (i : ℕ) (d : Item) (s : SubList) → i < length xs → get_or xs i d ≡ SubItem s →
    items_of (drop i xs) ≡ ThenSub s.text s.inner (items_of (drop (suc i) xs))
items_of-drop_sub xs i d s h e =
    ap items_of (drop-cons xs i d h) ∙ ap (λ (x : Item). items_of (x ∷ drop (suc i) xs)) e

-- COUNTS

pub module_count-joined : (front back : Items) → module_count (joined front back) ≡ module_count front + module_count back
module_count-joined End back = omega arith
module_count-joined (ThenModule m rest) back = omega (arith, module_count-joined rest back)
module_count-joined (ThenSub s inner rest) back = omega (arith, module_count-joined rest back)

pub depth-pos : (items : Items) → 1 ≤ depth items
depth-pos End = omega arith
depth-pos (ThenModule m rest) = depth-pos rest
depth-pos (ThenSub s inner rest) = omega (arith, depth-pos rest)

pub depth-joined : (front back : Items) → depth (joined front back) ≡ max (depth front) (depth back)
depth-joined End back = omega (arith, depth-pos back)
depth-joined (ThenModule m rest) back = depth-joined rest back
depth-joined (ThenSub s inner rest) back = omega (arith, depth-joined rest back)

-- NUMBERS

pub numbers_of-joined : (front back : Items) → numbers_of (joined front back) ≡ numbers_of front ++ numbers_of back
numbers_of-joined End back = refl
numbers_of-joined (ThenModule m rest) back = ap (λ (ns : List ℕ). m.number ∷ ns) (numbers_of-joined rest back)
numbers_of-joined (ThenSub s inner rest) back =
    ap (λ (ns : List ℕ). numbers_of inner ++ ns) (numbers_of-joined rest back)
    ∙ sym (append_assoc (numbers_of inner) (numbers_of rest) (numbers_of back))

pub length-numbers_of : (items : Items) → length (numbers_of items) ≡ module_count items
length-numbers_of End = refl
length-numbers_of (ThenModule m rest) = omega (arith, length-numbers_of rest)
length-numbers_of (ThenSub s inner rest) =
    length-append (numbers_of inner) (numbers_of rest) ∙ omega (arith, length-numbers_of inner, length-numbers_of rest)

range-more : (a n : ℕ) → range_with_len a (n + 1) ≡ a ∷ range_with_len (a + 1) n
range-more a n = ap (range_with_len a) (add-one n)

range-sum : (a m n : ℕ) → range_with_len a (m + n) ≡ range_with_len a m ++ range_with_len (a + m) n
range-sum a zero n =
    let none : a ≡ a + 0 = omega arith in
    let same : 0 + n ≡ n = omega arith in
    ap (range_with_len a) same ∙ ap (λ (b : ℕ). range_with_len b n) none
range-sum a (suc m) n =
    let sum : suc m + n ≡ suc (m + n) = omega arith in
    let from : a + 1 + m ≡ a + suc m = omega arith in
    ap (range_with_len a) sum
    ∙ ap (λ (ns : List ℕ). a ∷ ns) (range-sum (a + 1) m n)
    ∙ ap (λ (b : ℕ). a ∷ (range_with_len (a + 1) m ++ range_with_len b n)) from

pub numbered-End : (first : ℕ) → IsNumberedFrom first End
unfolding IsNumberedFrom
numbered-End first = refl

pub numbered-joined : (first : ℕ) (front back : Items) → IsNumberedFrom first front → IsNumberedFrom (first + module_count front) back →
    IsNumberedFrom first (joined front back)
unfolding IsNumberedFrom
numbered-joined first front back f b =
    numbers_of-joined front back
    ∙ ap (λ (ns : List ℕ). ns ++ numbers_of back) f
    ∙ ap (λ (ns : List ℕ). range_with_len first (module_count front) ++ ns) b
    ∙ sym (range-sum first (module_count front) (module_count back))
    ∙ ap (range_with_len first) (sym (module_count-joined front back))

pub numbered-module : (first : ℕ) (m : ModuleText) (rest : Items) → m.number ≡ first → IsNumberedFrom (first + 1) rest →
    IsNumberedFrom first (ThenModule m rest)
unfolding IsNumberedFrom
numbered-module first m rest e h =
    ap (λ (n : ℕ). n ∷ numbers_of rest) e
    ∙ ap (λ (ns : List ℕ). first ∷ ns) h
    ∙ sym (range-more first (module_count rest))

pub numbered-sub : (first : ℕ) (s : SubText) (inner rest : Items) → IsNumberedFrom first inner → IsNumberedFrom (first + module_count inner) rest →
    IsNumberedFrom first (ThenSub s inner rest)
unfolding IsNumberedFrom
numbered-sub first s inner rest i r =
    ap (λ (ns : List ℕ). ns ++ numbers_of rest) i
    ∙ ap (λ (ns : List ℕ). range_with_len first (module_count inner) ++ ns) r
    ∙ sym (range-sum first (module_count inner) (module_count rest))

pub numbered-module_parts : (first : ℕ) (m : ModuleText) (rest : Items) → IsNumberedFrom first (ThenModule m rest) →
    (m.number ≡ first) × IsNumberedFrom (first + 1) rest
unfolding IsNumberedFrom
numbered-module_parts first m rest h =
    let whole : m.number ∷ numbers_of rest ≡ first ∷ range_with_len (first + 1) (module_count rest) = h ∙ range-more first (module_count rest) in
    (ap (λ (ns : List ℕ). get_or ns 0 0) whole, ap (λ (ns : List ℕ). drop 1 ns) whole)

pub numbered-sub_parts : (first : ℕ) (s : SubText) (inner rest : Items) → IsNumberedFrom first (ThenSub s inner rest) →
    IsNumberedFrom first inner × IsNumberedFrom (first + module_count inner) rest
unfolding IsNumberedFrom
numbered-sub_parts first s inner rest h =
    let front = range_with_len first (module_count inner) in
    let back = range_with_len (first + module_count inner) (module_count rest) in
    let whole : numbers_of inner ++ numbers_of rest ≡ front ++ back = h ∙ range-sum first (module_count inner) (module_count rest) in
    let long : length (numbers_of inner) ≡ length front = length-numbers_of inner ∙ sym (length-range_with_len first (module_count inner)) in (
      sym (take-append_seam (numbers_of inner) (numbers_of rest)) ∙ ap (λ (ns : List ℕ). take (length (numbers_of inner)) ns) whole
          ∙ ap (λ (n : ℕ). take n (front ++ back)) long ∙ take-append_seam front back,
      sym (drop-append_seam (numbers_of inner) (numbers_of rest)) ∙ ap (λ (ns : List ℕ). drop (length (numbers_of inner)) ns) whole
          ∙ ap (λ (n : ℕ). drop n (front ++ back)) long ∙ drop-append_seam front back,
    )

-- A MODULE BY ITS NUMBER

some_first : (a b : Option ModuleText) → IsSome a → IsSome (first_there a b)
some_first None b h = absurd (false≢true h)
some_first (Some m) b h = refl

some_second : (a b : Option ModuleText) → IsSome b → IsSome (first_there a b)
some_second None b h = h
some_second (Some m) b h = refl

some_either : (a b : Option ModuleText) → IsSome (first_there a b) → IsSome a ⊎ IsSome b
some_either None b h = inr h
some_either (Some m) b h = inl refl

pub module_at-there : (first number : ℕ) (items : Items) → IsNumberedFrom first items → first ≤ number → number < first + module_count items →
    IsSome (module_at number items)
module_at-there first number End h low high = absurd (omega (arith, low, high))
module_at-there first number (ThenModule m rest) h low high =
    let parts = numbered-module_parts first m rest h in
    cond_both (eqb m.number number) (Some m) (module_at number rest) (λ (o : Option ModuleText). IsSome o) (λ _. refl)
    (λ other. ⊎_elim (λ same. absurd (false≢true (sym other ∙ eq-eqb m.number number (parts.0 ∙ same))))
    (λ less. module_at-there (first + 1) number rest parts.1 (omega (arith, less)) (omega (arith, high))) (eq-or-lt_of_le low))
module_at-there first number (ThenSub s inner rest) h low high =
    let parts = numbered-sub_parts first s inner rest h in
    ⊎_elim (λ within. some_first (module_at number inner) (module_at number rest) (module_at-there first number inner parts.0 low within))
    (λ later. some_second (module_at number inner) (module_at number rest)
    (module_at-there (first + module_count inner) number rest parts.1 later (omega (arith, high))))
    (cases_lt number (first + module_count inner))

pub module_at-range : (first number : ℕ) (items : Items) → IsNumberedFrom first items → IsSome (module_at number items) →
    (first ≤ number) × (number < first + module_count items)
module_at-range first number End h some = absurd (false≢true some)
module_at-range first number (ThenModule m rest) h some =
    let parts = numbered-module_parts first m rest h in
    cond_both (eqb m.number number) (Some m) (module_at number rest)
    (λ (o : Option ModuleText). IsSome o → (first ≤ number) × (number < first + (module_count rest + 1)))
    (λ same there. (omega (arith, eqb-true m.number number same, parts.0), omega (arith, eqb-true m.number number same, parts.0)))
    (λ other there. let r = module_at-range (first + 1) number rest parts.1 there in (omega (arith, r.0), omega (arith, r.1))) some
module_at-range first number (ThenSub s inner rest) h some =
    let parts = numbered-sub_parts first s inner rest h in
    ⊎_elim (λ there. let r = module_at-range first number inner parts.0 there in (r.0, omega (arith, r.1)))
    (λ there. let r = module_at-range (first + module_count inner) number rest parts.1 there in (omega (arith, r.0), omega (arith, r.1)))
    (some_either (module_at number inner) (module_at number rest) some)

-- a module of a whole stack
module_at-bounds : (number : ℕ) (items : Items) → IsNumberedFrom 1 items → IsSome (module_at number items) → (1 ≤ number) × (number ≤ module_count items)
module_at-bounds number items h some =
    let r = module_at-range 1 number items h some in
    (r.0, omega (arith, r.1))

module_at-found : (number : ℕ) (items : Items) → IsNumberedFrom 1 items → (1 ≤ number) × (number ≤ module_count items) → IsSome (module_at number items)
module_at-found number items h within = module_at-there 1 number items h within.0 (omega (arith, within.1))

mapped_some : {A B : Type 0} (f : A → B) (o : Option A) → is_some (option_map f o) ≡ is_some o
mapped_some f None = refl
mapped_some f (Some x) = refl

pub found_iff : {A : Type 0} (view : A → ModuleText) (found : Option A) (number : ℕ) (items : Items) → IsNumberedFrom 1 items →
    option_map view found ≡ module_at number items →
    IsSome found ↔ ((1 ≤ number) × (number ≤ module_count items))
found_iff view found number items h e =
    let same : is_some found ≡ is_some (module_at number items) = sym (mapped_some view found) ∙ ap is_some e in
    ((λ some. module_at-bounds number items h (sym same ∙ some)), (λ within. same ∙ module_at-found number items h within))

-- A MODULE AT ITS OWN PLACE

none_unless : (o : Option ModuleText) → ¬ (IsSome o) → o ≡ None
none_unless None h = refl
none_unless (Some m) h = absurd (h refl)

-- the number of a module is the number of no other
module_at-own : (first : ℕ) (front : Items) (m : ModuleText) (rest : Items) → IsNumberedFrom first (joined front (ThenModule m rest)) →
    module_at m.number (joined front (ThenModule m rest)) ≡ Some m
module_at-own first End m rest h = cond-true (eqb m.number m.number) (Some m) (module_at m.number rest) (eq-eqb m.number m.number refl)
module_at-own first (ThenModule a r) m rest h =
    let parts = numbered-module_parts first a (joined r (ThenModule m rest)) h in
    let own = module_at-own (first + 1) r m rest parts.1 in
    let range = module_at-range (first + 1) m.number (joined r (ThenModule m rest)) parts.1 (ap is_some own) in
    cond_both (eqb a.number m.number) (Some a) (module_at m.number (joined r (ThenModule m rest))) (λ (o : Option ModuleText). o ≡ Some m)
    (λ same. absurd (omega (arith, eqb-true a.number m.number same, parts.0, range.0)))
    (λ _. own)
module_at-own first (ThenSub s inner r) m rest h =
    let parts = numbered-sub_parts first s inner (joined r (ThenModule m rest)) h in
    let own = module_at-own (first + module_count inner) r m rest parts.1 in
    let range = module_at-range (first + module_count inner) m.number (joined r (ThenModule m rest)) parts.1 (ap is_some own) in
    let none : module_at m.number inner ≡ None =
    none_unless (module_at m.number inner) (λ some. let within = module_at-range first m.number inner parts.0 some in
    omega (arith, within.1, range.0)) in
    ap (λ (o : Option ModuleText). first_there o (module_at m.number (joined r (ThenModule m rest)))) none ∙ own

module_at-place : (xs : List Item) (i : ℕ) (d : Item) (m : Module) → IsNumberedFrom 1 (items_of xs) → i < length xs → get_or xs i d ≡ ModuleItem m →
    module_at m.number (items_of xs) ≡ Some (module_text m)
module_at-place xs i d m h within e =
    let whole : items_of xs ≡ joined (items_of (take i xs)) (ThenModule (module_text m) (items_of (drop (suc i) xs))) =
    sym (ap items_of (take-append-drop i xs)) ∙ items_of-append (take i xs) (drop i xs)
    ∙ ap (joined (items_of (take i xs))) (items_of-drop_module xs i d m within e) in
    ap (module_at m.number) whole
    ∙ module_at-own 1 (items_of (take i xs)) (module_text m) (items_of (drop (suc i) xs)) (subst (IsNumberedFrom 1) whole h)

-- a module that a list lends is the module of its number
pub module_at-lent : (xs slice : List Item) (i : ℕ) (item : Bor Item) (m : Module) (number : ℕ) → IsNumberedFrom 1 (items_of xs) → slice ≡ xs →
    IsItemAt slice i (Some item) → item.now ≡ ModuleItem m → m.number ≡ number → Some (module_text m) ≡ module_at number (items_of xs)
module_at-lent xs slice i item m number h same lends is own =
    let there = subst (λ (ys : List Item). IsItemAt ys i (Some item)) same lends in
    sym (module_at-place xs i item.now m h there.3.0 (sym there.1 ∙ is)) ∙ ap (λ (n : ℕ). module_at n (items_of xs)) own
