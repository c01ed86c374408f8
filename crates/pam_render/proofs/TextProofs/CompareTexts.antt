-- The texts of `compare`, part by part.
use Rattle.std.proofs.Common.{◌≡◌, ◌∙◌, ℕ, Bool, ◌||◌, true, List, [], ◌∷◌, ◌++◌, ap, ap₂, append-nil, append_assoc, codes, refl, sym}
use Rattle.std.specs.List.{flat_map}
use Rattle.pam_changes.specs.declared.pair.StackPair.{StackPair}
use Rattle.pam_changes.specs.declared.steps.AskedModule.{AskedModule}
use Rattle.pam_conf.specs.Stack.{Items}
use Rattle.pam_text.proofs.TextSteps.{unequal}
use Rattle.pam_render.specs.text.Check.{counted}
use Rattle.pam_render.specs.text.Compare.{asked_text, asked_texts, has_any, module_text, moved_text, next_asked, numbered, numbered_text, only_count}

-- the first and the others of a list
pub numbered-is : (place : List ℕ) (items : Items) (change : List ℕ) (more : Bool) (all : List ℕ) (first : ℕ) (others : List ℕ) → all ≡ first ∷ others
    → numbered_text place items change more first ++ flat_map (numbered_text place items change true) others ≡ numbered place items change more all
numbered-is place items change more all first others e = ap (numbered place items change more) (sym e)

pub asked-are : (pair : StackPair) (all : List AskedModule) (first : AskedModule) (others : List AskedModule) → all ≡ first ∷ others
    → asked_text pair first ++ flat_map (next_asked pair) others ≡ asked_texts pair all
asked-are pair all first others e = ap (asked_texts pair) (sym e)

-- a number of services that is not 0
pub only_count-is : (count : ℕ) (place : List ℕ) → (count ≡ 0 → ⊥) → codes "; " ++ counted count (codes "service") ++ place ≡ only_count count place
only_count-is count place h = rw (unequal count 0 h) refl

-- the place of a fault
pub place-is : (file line : List ℕ) → (codes " " ++ file) ++ (codes ":" ++ (line ++ [])) ≡ codes " " ++ file ++ codes ":" ++ line
place-is file line = simp (append_assoc, append-nil)

-- the parts of a line, one after another
pub parts-4 : (a b c d : List ℕ) → a ++ (b ++ (c ++ (d ++ []))) ≡ a ++ b ++ c ++ d
parts-4 a b c d = simp (append_assoc, append-nil)

pub parts-6 : (a b c d e f : List ℕ) → a ++ (b ++ (c ++ (d ++ (e ++ (f ++ []))))) ≡ a ++ b ++ c ++ d ++ e ++ f
parts-6 a b c d e f = simp (append_assoc, append-nil)

pub parts-8 : (a b c d e f g h : List ℕ) → a ++ (b ++ (c ++ (d ++ (e ++ (f ++ (g ++ (h ++ []))))))) ≡ a ++ b ++ c ++ d ++ e ++ f ++ g ++ h
parts-8 a b c d e f g h = simp (append_assoc, append-nil)

pub parts-10 : (a b c d e f g h i j : List ℕ)
    → a ++ (b ++ (c ++ (d ++ (e ++ (f ++ (g ++ (h ++ (i ++ (j ++ [])))))))))
    ≡ a ++ b ++ c ++ d ++ e ++ f ++ g ++ h ++ i ++ j
parts-10 a b c d e f g h i j = simp (append_assoc, append-nil)

pub parts-11 : (a b c d e f g h i j k : List ℕ)
    → a ++ (b ++ (c ++ (d ++ (e ++ (f ++ (g ++ (h ++ (i ++ (j ++ (k ++ []))))))))))
    ≡ a ++ b ++ c ++ d ++ e ++ f ++ g ++ h ++ i ++ j ++ k
parts-11 a b c d e f g h i j k = simp (append_assoc, append-nil)

pub parts-16 : (a b c d e f g h i j k l m n o p : List ℕ)
    → a ++ (b ++ (c ++ (d ++ (e ++ (f ++ (g ++ (h ++ (i ++ (j ++ (k ++ (l ++ (m ++ (n ++ (o ++ (p ++ [])))))))))))))))
    ≡ a ++ b ++ c ++ d ++ e ++ f ++ g ++ h ++ i ++ j ++ k ++ l ++ m ++ n ++ o ++ p
parts-16 a b c d e f g h i j k l m n o p = simp (append_assoc, append-nil)

-- a line of a change, with the names of its codes and its modules
pub change-parts : (head change first second asked old new all : List ℕ) → first ≡ old → second ≡ new → asked ≡ all
    → head ++ (codes " " ++ (change ++ (codes ": " ++ (first ++ (codes " becomes " ++ (second ++ (codes " where " ++ (asked ++ (codes "\n" ++ [])))))))))
    ≡ head ++ codes " " ++ change ++ codes ": " ++ old ++ codes " becomes " ++ new ++ codes " where " ++ all ++ codes "\n"
change-parts head change first second asked old new all e f g =
    rw (e, f, g) (parts-10 head (codes " ") change (codes ": ") old (codes " becomes ") new (codes " where ") all (codes "\n"))

-- a line of a module that guards a login, with the words for it
pub guard-parts : (items : Items) (number : ℕ) (head place change counted does name : List ℕ) (changed counting doing named : List ℕ)
    → change ≡ changed → counted ≡ counting → does ≡ doing → name ≡ named
    → head ++ (codes " " ++ (change ++ (codes ": " ++ (module_text counted items number ++ (codes ", which " ++ (does ++ (codes " (" ++ (name
    ++ (place ++ (codes ")\n" ++ []))))))))))
    ≡ head ++ codes " " ++ changed ++ codes ": " ++ module_text counting items number ++ codes ", which " ++ doing ++ codes " (" ++ named
    ++ place ++ codes ")\n"
guard-parts items number head place change counted does name changed counting doing named e f g h =
    rw (e, f, g, h)
    (parts-11 head (codes " ") changed (codes ": ") (module_text counting items number) (codes ", which ") doing (codes " (") named place (codes ")\n"))

-- which modules moved, and which got another control
pub moved-are : (pair : StackPair) (more any after : Bool) (moved controls : List ℕ) → any ≡ has_any moved → moved ≡ pair.modules.moved.items
    → after ≡ (more || any) → controls ≡ pair.modules.controls.items
    → numbered [] pair.old (codes "moved") more pair.modules.moved.items ++ numbered [] pair.old (codes "with another control") after controls
    ≡ moved_text pair more
moved-are pair more any after moved controls a m b n =
    ap (λ t. numbered [] pair.old (codes "moved") more pair.modules.moved.items ++ t)
    (ap₂ (numbered [] pair.old (codes "with another control")) (b ∙ ap (λ t. more || t) (a ∙ ap has_any m)) n)
