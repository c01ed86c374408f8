-- The flat list of a stack is a program's, with the stack's modules and controls.
use Rattle.std.proofs.Common.{◌≡◌, ℕ, ◌+◌, ◌-◌, ◌≤◌, Bool, List, [], ◌∷◌, ◌++◌, Option, Some, None, IsSome, IfSome, All, eqb, suc, refl, ◌∙◌, ap, subst}
use Rattle.std.proofs.Common.{arith, drop, length, get_or}
use Rattle.std.proofs.lemmas.Bool.{cond_both, eqb-true}
use Rattle.std.proofs.lemmas.List.{length-append, get_or-append_right, get_or_append_left}
use Rattle.std.proofs.lemmas.List.Elements.{All-append, All-cons, All-nil}
use Rattle.std.specs.List.{AllZip}
use Rattle.pam_codes.specs.declared.action.Action.{Action}
use Rattle.pam_codes.specs.declared.parts.Part.{Part}
use Rattle.pam_codes.specs.Parts.{IsParts}
use Rattle.pam_conf.specs.Stack.{Items, ModuleText, End, ThenModule, ThenSub, IsNumberedFrom, module_count, depth, first_there, module_at}
use Rattle.pam_conf.proofs.StackTree.{depth-pos, numbered-module_parts, numbered-sub_parts, module_at-range}
use Rattle.pam_conf.specs.declared.stack.TheConstants.{MAX_MODULES}
use Rattle.pam_dispatch.specs.declared.flat_item.FlatItem.{FlatItem}
use Rattle.pam_dispatch.specs.declared.flat_item.FlatItem.TheVariants.{Module, Substack}
use Rattle.pam_dispatch.specs.Tree.{count}
use Rattle.pam_dispatch.specs.inner.Tree.{controls_of}
use Rattle.pam_dispatch.specs.Flat.{controls_in, control_at, modules_of}
use Rattle.pam_dispatch.specs.inner.Flat.{flat_list, positions_from, IsBounded, IsNumbered}
use Rattle.pam_dispatch.specs.inner.Program.{IsProgram}
use Rattle.pam_dispatch.specs.inner.ReadLevels.{IsReadTable}
use Rattle.pam_dispatch.specs.inner.Settled.{KeepFailure}
use Rattle.pam_dispatch.specs.inner.Stretches.{IsStretchTable}

-- LEVELS AND NUMBERS

pub bounded-flat_list : (level first : ℕ) (items : Items) → level + depth items ≤ 16 → IsNumberedFrom first items → first + module_count items ≤ 257
    → All IsBounded (flat_list level items)
unfolding flat_list
bounded-flat_list level first End h numbered few = All-nil IsBounded
bounded-flat_list level first (ThenModule m rest) h numbered few =
    let parts = numbered-module_parts first m rest numbered in
    All-cons IsBounded (Module level m.number m.control (count rest)) (flat_list level rest)
    (omega (arith, h, depth-pos rest), omega (arith, parts.0, few))
    (bounded-flat_list level (first + 1) rest h parts.1 (omega (arith, few)))
bounded-flat_list level first (ThenSub sub inner rest) h numbered few =
    let parts = numbered-sub_parts first sub inner rest numbered in
    All-cons IsBounded (Substack level) (flat_list (level + 1) inner ++ flat_list level rest) (omega (arith, h, depth-pos inner))
    (All-append IsBounded (flat_list (level + 1) inner) (flat_list level rest)
    (bounded-flat_list (level + 1) first inner (omega (arith, h)) parts.0 (omega (arith, few)))
    (bounded-flat_list level (first + module_count inner) rest (omega (arith, h)) parts.1 (omega (arith, few))))

-- CONTROLS

controls_in-append : (xs ys : List FlatItem) → controls_in (xs ++ ys) ≡ controls_in xs ++ controls_in ys
unfolding controls_in
controls_in-append [] ys = refl
controls_in-append (Module level number control after ∷ xs) ys = ap (λ (cs : List (List Action)). control ∷ cs) (controls_in-append xs ys)
controls_in-append (Substack level ∷ xs) ys = controls_in-append xs ys

pub controls_in-flat_list : (level : ℕ) (items : Items) → controls_in (flat_list level items) ≡ controls_of items
unfolding flat_list controls_in controls_of
controls_in-flat_list level End = refl
controls_in-flat_list level (ThenModule m rest) = ap (λ (cs : List (List Action)). m.control ∷ cs) (controls_in-flat_list level rest)
controls_in-flat_list level (ThenSub sub inner rest) =
    controls_in-append (flat_list (level + 1) inner) (flat_list level rest)
    ∙ ap (λ (cs : List (List Action)). cs ++ controls_in (flat_list level rest)) (controls_in-flat_list (level + 1) inner)
    ∙ ap (λ (cs : List (List Action)). controls_of inner ++ cs) (controls_in-flat_list level rest)

length-controls_of : (items : Items) → length (controls_of items) ≡ module_count items
unfolding controls_of
length-controls_of End = refl
length-controls_of (ThenModule m rest) = omega (arith, length-controls_of rest)
length-controls_of (ThenSub sub inner rest) =
    length-append (controls_of inner) (controls_of rest) ∙ omega (arith, length-controls_of inner, length-controls_of rest)

pub modules_of-flat_list : (level : ℕ) (items : Items) → modules_of (flat_list level items) ≡ module_count items
modules_of-flat_list level items = ap length (controls_in-flat_list level items) ∙ length-controls_of items

-- NUMBERS

IsNumbered-append : (before : ℕ) (xs ys : List FlatItem) → IsNumbered before xs → IsNumbered (before + modules_of xs) ys → IsNumbered before (xs ++ ys)
unfolding IsNumbered controls_in
IsNumbered-append before [] ys a b =
    let none : before + 0 ≡ before = omega arith in
    subst (λ (n : ℕ). IsNumbered n ys) none b
IsNumbered-append before (Module level number control after ∷ xs) ys a b =
    let more : before + suc (modules_of xs) ≡ (before + 1) + modules_of xs = omega arith in
    (a.0, IsNumbered-append (before + 1) xs ys a.1 (subst (λ (n : ℕ). IsNumbered n ys) more b))
IsNumbered-append before (Substack level ∷ xs) ys a b = IsNumbered-append before xs ys a b

pub numbered-flat_list : (level before : ℕ) (items : Items) → IsNumberedFrom (before + 1) items → IsNumbered before (flat_list level items)
unfolding flat_list IsNumbered
numbered-flat_list level before End h = tt
numbered-flat_list level before (ThenModule m rest) h =
    let parts = numbered-module_parts (before + 1) m rest h in
    (parts.0, numbered-flat_list level (before + 1) rest parts.1)
numbered-flat_list level before (ThenSub sub inner rest) h =
    let parts = numbered-sub_parts (before + 1) sub inner rest h in
    let first : (before + 1) + module_count inner ≡ (before + module_count inner) + 1 = omega arith in
    let after : before + module_count inner ≡ before + modules_of (flat_list (level + 1) inner) = omega (arith, modules_of-flat_list (level + 1) inner) in
    IsNumbered-append before (flat_list (level + 1) inner) (flat_list level rest) (numbered-flat_list (level + 1) before inner parts.0)
    (subst (λ (n : ℕ). IsNumbered n (flat_list level rest)) after
    (numbered-flat_list level (before + module_count inner) rest (subst (λ (n : ℕ). IsNumberedFrom n rest) first parts.1)))

-- THE CONTROL OF A NUMBER

abbrev HasControl : List (List Action) → ℕ → ModuleText → Type 0
HasControl controls index m = get_or controls index [] ≡ m.control

either_has : (a b : Option ModuleText) (P : ModuleText → Type 0) → IfSome a P → (a ≡ None → IfSome b P) → IfSome (first_there a b) P
either_has None b P x y = y refl
either_has (Some m) b P x y = x

-- a fact about the module, if there is one
if_both : (o : Option ModuleText) (P Q : ModuleText → Type 0) → (IsSome o → (m : ModuleText) → P m → Q m) → IfSome o P → IfSome o Q
if_both None P Q h x = tt
if_both (Some m) P Q h x = h refl m x

control-module_at : (first number : ℕ) (items : Items) → IsNumberedFrom first items →
    IfSome (module_at number items) (HasControl (controls_of items) (number - first))
unfolding controls_of
control-module_at first number End h = tt
control-module_at first number (ThenModule m rest) h =
    let parts = numbered-module_parts first m rest h in
    let P = HasControl (m.control ∷ controls_of rest) (number - first) in
    cond_both (eqb m.number number) (Some m) (module_at number rest) (λ (o : Option ModuleText). IfSome o P)
    (λ same. let here : number - first ≡ 0 = omega (arith, eqb-true m.number number same, parts.0) in
    ap (λ (i : ℕ). get_or (m.control ∷ controls_of rest) i []) here)
    (λ other. if_both (module_at number rest) (HasControl (controls_of rest) (number - (first + 1))) P
    (λ some found is.
    let after : number - first ≡ suc (number - (first + 1)) = omega (arith, (module_at-range (first + 1) number rest parts.1 some).0) in
    ap (λ (i : ℕ). get_or (m.control ∷ controls_of rest) i []) after ∙ is)
    (control-module_at (first + 1) number rest parts.1))
control-module_at first number (ThenSub sub inner rest) h =
    let parts = numbered-sub_parts first sub inner rest h in
    let P = HasControl (controls_of inner ++ controls_of rest) (number - first) in
    either_has (module_at number inner) (module_at number rest) P
    (if_both (module_at number inner) (HasControl (controls_of inner) (number - first)) P
    (λ some found is.
    let range = module_at-range first number inner parts.0 some in
    get_or_append_left (controls_of inner) (controls_of rest) [] (number - first) (omega (arith, length-controls_of inner, range.0, range.1)) ∙ is)
    (control-module_at first number inner parts.0))
    (λ _. if_both (module_at number rest) (HasControl (controls_of rest) (number - (first + module_count inner))) P
    (λ some found is.
    let range = module_at-range (first + module_count inner) number rest parts.1 some in
    let after : (number - first) - module_count inner ≡ number - (first + module_count inner) = omega arith in
    get_or-append_right (controls_of inner) (controls_of rest) (module_count inner) (number - first) [] (length-controls_of inner) (omega (arith, range.0))
    ∙ ap (λ (i : ℕ). get_or (controls_of rest) i []) after ∙ is)
    (control-module_at (first + module_count inner) number rest parts.1))

pub control_at-flat_list : (items : Items) (number : ℕ) → IsNumberedFrom 1 items
    → IfSome (module_at number items) (λ m. control_at (flat_list 0 items) number ≡ m.control)
control_at-flat_list items number h =
    if_both (module_at number items) (HasControl (controls_of items) (number - 1)) (λ m. control_at (flat_list 0 items) number ≡ m.control)
    (λ some m is. ap (λ (cs : List (List Action)). get_or cs (number - 1) []) (controls_in-flat_list 0 items) ∙ is)
    (control-module_at 1 number items h)

-- A STACK'S PROGRAM

pub program-flat_list : (items : Items) (positions : List ℕ) (parts : List (List Part)) (stretches : List ℕ) (tail : ℕ) (table : List (List Bool)) →
    module_count items ≤ MAX_MODULES → depth items ≤ 16 → IsNumberedFrom 1 items →
    positions ≡ positions_from 0 (flat_list 0 items) → AllZip IsParts (controls_in (flat_list 0 items)) parts →
    IsStretchTable (flat_list 0 items) stretches → KeepFailure (drop tail (flat_list 0 items)) → IsReadTable (flat_list 0 items) table →
    IsProgram (flat_list 0 items) positions parts stretches tail table
program-flat_list items positions parts stretches tail table few shallow numbered found divided stretched settled read =
    let levels : 0 + depth items ≤ 16 = omega (arith, shallow) in
    let first : 1 ≡ 0 + 1 = omega arith in
    record {
      bounded = bounded-flat_list 0 1 items levels numbered (omega (arith, few));
      numbered = numbered-flat_list 0 0 items (subst (λ (n : ℕ). IsNumberedFrom n items) first numbered);
      few = omega (arith, few, modules_of-flat_list 0 items);
      found = found;
      divided = divided;
      stretched = stretched;
      settled = settled;
      read = read;
    }

-- the flat list, appended to an empty list
pub whole_list : (items list : Items) (front flat_items : List FlatItem) → front ≡ [] → list ≡ items → flat_items ≡ front ++ flat_list 0 list
    → flat_items ≡ flat_list 0 items
whole_list items list front flat_items f l e =
    e ∙ ap (λ (x : List FlatItem). x ++ flat_list 0 list) f ∙ ap (flat_list 0) l
