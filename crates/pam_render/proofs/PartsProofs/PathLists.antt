-- The paths of modules stand in the order of their numbers.
use Rattle.std.proofs.Common.{◌≡◌, ℕ, ◌+◌, ◌-◌, ◌<◌, ◌≤◌, List, [], ◌∷◌, ◌++◌, Option, Some, None, IsSome, eqb, suc, refl, sym, ◌∙◌, ap, arith}
use Rattle.std.proofs.Common.{⊎_elim, Bor, map, append_assoc, drop, eq-eqb, eq-or-lt_of_le, eqb-true, get_or, length}
use Rattle.std.proofs.lemmas.Bool.{cases_lt, cond_both, false≢true}
use Rattle.std.proofs.lemmas.List.{get_or-append_right, get_or_append_left, length-append}
use Rattle.std.specs.Option.{option_map_or}
use Rattle.pam_conf.proofs.StackTree.{items_of-drop_module, items_of-drop_sub, module_at-range, module_at-there, numbered-module_parts, numbered-sub_parts}
use Rattle.pam_conf.specs.ItemsOf.{items_of}
use Rattle.pam_conf.specs.declared.stack.Item.{Item}
use Rattle.pam_conf.specs.declared.stack.Item.TheVariants.{Module as ModuleItem, Sub as SubItem}
use Rattle.pam_conf.specs.declared.stack.Module.{Module}
use Rattle.pam_conf.specs.Stack.{End, IsNumberedFrom, Items, ModuleText, SubList, ThenModule, ThenSub, first_there, module_at, module_count}
use Rattle.pam_report.specs.Decide.{path_at}
use Rattle.pam_render.specs.parts.inner.ModulePaths.{paths_of}

pub length-paths_of : (items : Items) → length (paths_of items) ≡ module_count items
length-paths_of End = refl
length-paths_of (ThenModule m rest) = omega (arith, length-paths_of rest)
length-paths_of (ThenSub s inner rest) = length-append (paths_of inner) (paths_of rest) ∙ omega (arith, length-paths_of inner, length-paths_of rest)

abbrev path_in : Option ModuleText → List ℕ
path_in found = option_map_or (λ (m : ModuleText). m.path) found []

first-is : (a b : Option ModuleText) → IsSome a → a ≡ first_there a b
first-is None b h = absurd (false≢true h)
first-is (Some m) b h = refl

second-is : (a b : Option ModuleText) → (IsSome a → b ≡ first_there a b) → b ≡ first_there a b
second-is None b h = refl
second-is (Some m) b h = h refl

none-is : (found : Option ModuleText) → (IsSome found → path_in found ≡ []) → path_in found ≡ []
none-is None h = refl
none-is (Some m) h = h refl

-- the path of a module, by its number
pub path-there : (first number : ℕ) (items : Items) → IsNumberedFrom first items → first ≤ number →
    get_or (paths_of items) (number - first) [] ≡ path_at number items
unfolding path_at
path-there first number End h low = refl
path-there first number (ThenModule m rest) h low =
    let parts = numbered-module_parts first m rest h in
    cond_both (eqb m.number number) (Some m) (module_at number rest)
    (λ (found : Option ModuleText). get_or (m.path ∷ paths_of rest) (number - first) [] ≡ path_in found)
    (λ same. let here : number - first ≡ 0 = omega (arith, eqb-true m.number number same, parts.0) in
    ap (λ (k : ℕ). get_or (m.path ∷ paths_of rest) k []) here)
    (λ other. ⊎_elim (λ is. absurd (false≢true (sym other ∙ eq-eqb m.number number (parts.0 ∙ is))))
    (λ less. let next : number - first ≡ suc (number - (first + 1)) = omega (arith, less) in
    ap (λ (k : ℕ). get_or (m.path ∷ paths_of rest) k []) next ∙ path-there (first + 1) number rest parts.1 (omega (arith, less))) (eq-or-lt_of_le low))
path-there first number (ThenSub s inner rest) h low =
    let parts = numbered-sub_parts first s inner rest h in
    let long = length-paths_of inner in
    let later-first = first + module_count inner in
    ⊎_elim
    (λ within. let at : number - first < length (paths_of inner) = omega (arith, long, within, low) in
    get_or_append_left (paths_of inner) (paths_of rest) [] (number - first) at
    ∙ path-there first number inner parts.0 low
    ∙ ap path_in (first-is (module_at number inner) (module_at number rest) (module_at-there first number inner parts.0 low within)))
    (λ later. let at : number - first - module_count inner ≡ number - later-first = omega (arith, later) in
    get_or-append_right (paths_of inner) (paths_of rest) (module_count inner) (number - first) [] long (omega (arith, later))
    ∙ ap (λ (k : ℕ). get_or (paths_of rest) k []) at
    ∙ path-there later-first number rest parts.1 later
    ∙ ap path_in (second-is (module_at number inner) (module_at number rest)
    (λ there. absurd (omega (arith, later, (module_at-range first number inner parts.0 there).1)))))
    (cases_lt number later-first)

-- no module has the number 0
pub no-path : (items : Items) → IsNumberedFrom 1 items → [] ≡ path_at 0 items
unfolding path_at
no-path items h = sym (none-is (module_at 0 items) (λ there. absurd (omega (arith, (module_at-range 1 0 items h there).0))))

abbrev pub text_of : Bor (List ℕ) → List ℕ
text_of path = path.now

-- the path of a module, where all are collected
pub path-read : (xs : List (Bor (List ℕ))) (items : Items) (number i : ℕ) → map text_of xs ≡ paths_of items → IsNumberedFrom 1 items → 1 ≤ number →
    i ≡ number - 1 → get_or (map text_of xs) i [] ≡ path_at number items
path-read xs items number i texts h low e =
    ap (λ (k : ℕ). get_or (map text_of xs) k []) e ∙ ap (λ (l : List (List ℕ)). get_or l (number - 1) []) texts ∙ path-there 1 number items h low

-- ITEM BY ITEM

pub paths-module : (i : ℕ) (xs : List Item) (before : List (List ℕ)) (d : Item) (m : Module) → i < length xs → get_or xs i d ≡ ModuleItem m →
    (before ++ m.path.items ∷ []) ++ paths_of (items_of (drop (i + 1) xs)) ≡ before ++ paths_of (items_of (drop i xs))
paths-module i xs before d m h e =
    let next : i + 1 ≡ suc i = omega arith in
    append_assoc before (m.path.items ∷ []) (paths_of (items_of (drop (i + 1) xs)))
    ∙ ap (λ (k : ℕ). before ++ m.path.items ∷ paths_of (items_of (drop k xs))) next
    ∙ ap (λ (x : Items). before ++ paths_of x) (sym (items_of-drop_module xs i d m h e))

pub paths-sub : (i : ℕ) (xs : List Item) (before : List (List ℕ)) (d : Item) (s : SubList) → i < length xs → get_or xs i d ≡ SubItem s →
    (before ++ paths_of s.inner) ++ paths_of (items_of (drop (i + 1) xs)) ≡ before ++ paths_of (items_of (drop i xs))
paths-sub i xs before d s h e =
    let next : i + 1 ≡ suc i = omega arith in
    append_assoc before (paths_of s.inner) (paths_of (items_of (drop (i + 1) xs)))
    ∙ ap (λ (k : ℕ). before ++ (paths_of s.inner ++ paths_of (items_of (drop k xs)))) next
    ∙ ap (λ (x : Items). before ++ paths_of x) (sym (items_of-drop_sub xs i d s h e))

pub count-module : (i : ℕ) (xs : List Item) (d : Item) (m : Module) → i < length xs → get_or xs i d ≡ ModuleItem m →
    module_count (items_of (drop i xs)) ≡ module_count (items_of (drop (i + 1) xs)) + 1
count-module i xs d m h e =
    let next : suc i ≡ i + 1 = omega arith in
    ap module_count (items_of-drop_module xs i d m h e) ∙ ap (λ (k : ℕ). module_count (items_of (drop k xs)) + 1) next

pub count-sub : (i : ℕ) (xs : List Item) (d : Item) (s : SubList) → i < length xs → get_or xs i d ≡ SubItem s →
    module_count (items_of (drop i xs)) ≡ module_count s.inner + module_count (items_of (drop (i + 1) xs))
count-sub i xs d s h e =
    let next : suc i ≡ i + 1 = omega arith in
    ap module_count (items_of-drop_sub xs i d s h e) ∙ ap (λ (k : ℕ). module_count s.inner + module_count (items_of (drop k xs))) next
