-- Items that are the same, one by one.
use Rattle.std.proofs.Common.{◌≡◌, ℕ, ◌&&◌, suc, Bool, true, false, List, [], ◌∷◌, length, ap, sym, refl, inl, inr}
use Rattle.std.proofs.Common.{eqb, eq-eqb}
use Rattle.std.proofs.lemmas.Bool.{and_from, and_parts, cases_Bool, false≢true}
use Rattle.std.proofs.lemmas.Slice.Eq.{bytes_eq-Decides}
use Rattle.std.specs.Str.{bytes_eq}
use Rattle.pam_codes.specs.Action.{same_action}
use Rattle.pam_codes.specs.ControlText.{same_actions}
use Rattle.pam_codes.specs.declared.action.Action.{Action}
use Rattle.pam_codes.specs.declared.action.Action.TheVariants as actions
use Rattle.pam_compare.specs.Matching.{same_texts}
use Rattle.pam_conf.specs.ItemsOf.{items_of, module_text}
use Rattle.pam_conf.specs.Stack.{End, Items, ModuleText, SubList, ThenModule, ThenSub}
use Rattle.pam_conf.specs.declared.stack.Item.{Item}
use Rattle.pam_conf.specs.declared.stack.Item.TheVariants.{Module as ModuleItem, Sub as SubItem}
use Rattle.pam_conf.specs.declared.stack.Module.{Module}
use Rattle.pam_compare.specs.Same.{same_items, same_module}

and-true : (b : Bool) → b ≡ (b && true)
and-true true = refl
and-true false = refl

module _ (one other : Item) where
  pub both-modules : (m n : Module) → one ≡ ModuleItem m → other ≡ ModuleItem n →
      same_module (module_text m) (module_text n) ≡ same_items (items_of (one ∷ [])) (items_of (other ∷ []))
  unfolding same_items
  both-modules m n e f = rw (e, f) (and-true (same_module (module_text m) (module_text n)))

  pub both-subs : (s t : SubList) → one ≡ SubItem s → other ≡ SubItem t →
      same_items s.inner t.inner ≡ same_items (items_of (one ∷ [])) (items_of (other ∷ []))
  unfolding same_items
  both-subs s t e f = rw (e, f) (and-true (same_items s.inner t.inner))

  pub module-and-sub : (m : Module) (t : SubList) → one ≡ ModuleItem m → other ≡ SubItem t →
      false ≡ same_items (items_of (one ∷ [])) (items_of (other ∷ []))
  unfolding same_items
  module-and-sub m t e f = rw (e, f) refl

  pub sub-and-module : (s : SubList) (n : Module) → one ≡ SubItem s → other ≡ ModuleItem n →
      false ≡ same_items (items_of (one ∷ [])) (items_of (other ∷ []))
  unfolding same_items
  sub-and-module s n e f = rw (e, f) refl

-- lists with the same items are equally long
as-long : (xs ys : List Item) → same_items (items_of xs) (items_of ys) ≡ true → length xs ≡ length ys
unfolding same_items
as-long [] [] t = refl
as-long [] (ModuleItem n ∷ ys) t = absurd (false≢true t)
as-long [] (SubItem s ∷ ys) t = absurd (false≢true t)
as-long (ModuleItem m ∷ xs) [] t = absurd (false≢true t)
as-long (SubItem s ∷ xs) [] t = absurd (false≢true t)
as-long (ModuleItem m ∷ xs) (ModuleItem n ∷ ys) t =
    ap (λ (k : ℕ). suc k) (as-long xs ys (and_parts (same_module (module_text m) (module_text n)) (same_items (items_of xs) (items_of ys)) t).1)
as-long (ModuleItem m ∷ xs) (SubItem s ∷ ys) t = absurd (false≢true t)
as-long (SubItem s ∷ xs) (ModuleItem n ∷ ys) t = absurd (false≢true t)
as-long (SubItem s ∷ xs) (SubItem u ∷ ys) t =
    ap (λ (k : ℕ). suc k) (as-long xs ys (and_parts (same_items s.inner u.inner) (same_items (items_of xs) (items_of ys)) t).1)

pub other-length : (xs ys : List Item) → (length xs ≡ length ys → ⊥) → false ≡ same_items (items_of xs) (items_of ys)
other-length xs ys h = elim (cases_Bool (same_items (items_of xs) (items_of ys))) [
  | inl t ↦ absurd (h (as-long xs ys t))
  | inr f ↦ sym f
]

-- A STACK IS THE SAME AS ITSELF

action-self : (a : Action) → same_action a a ≡ true
action-self actions.Ignore = refl
action-self actions.Ok = refl
action-self actions.Done = refl
action-self actions.Bad = refl
action-self actions.Die = refl
action-self actions.Reset = refl
action-self (actions.Jump n) = eq-eqb n n refl

actions-self : (xs : List Action) → same_actions xs xs ≡ true
actions-self [] = refl
actions-self (x ∷ xs) = and_from (same_action x x) (same_actions xs xs) (action-self x) (actions-self xs)

bytes-self : (xs : List ℕ) → bytes_eq xs xs ≡ true
bytes-self xs = (bytes_eq-Decides xs xs).1 refl

texts-self : (xs : List (List ℕ)) → same_texts xs xs ≡ true
texts-self [] = refl
texts-self (x ∷ xs) = and_from (bytes_eq x x) (same_texts xs xs) (bytes-self x) (texts-self xs)

module-self : (m : ModuleText) → same_module m m ≡ true
module-self m =
    and_from (eqb m.number m.number) (same_actions m.control m.control && (bytes_eq m.path m.path && same_texts m.arguments m.arguments))
    (eq-eqb m.number m.number refl)
    (and_from (same_actions m.control m.control) (bytes_eq m.path m.path && same_texts m.arguments m.arguments) (actions-self m.control)
    (and_from (bytes_eq m.path m.path) (same_texts m.arguments m.arguments) (bytes-self m.path) (texts-self m.arguments)))

pub same-self : (items : Items) → same_items items items ≡ true
unfolding same_items
same-self End = refl
same-self (ThenModule m rest) = and_from (same_module m m) (same_items rest rest) (module-self m) (same-self rest)
same-self (ThenSub s inner rest) = and_from (same_items inner inner) (same_items rest rest) (same-self inner) (same-self rest)
