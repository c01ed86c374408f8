-- The kept texts, step by step.
use Rattle.std.proofs.Common.{◌≡◌, ℕ, ◌+◌, ◌-◌, ◌<◌, ◌≤◌, zero, suc, List, [], ◌∷◌, ◌++◌, length, take, drop, map, get_or, refl, sym, ap, subst, ◌∙◌, arith}
use Rattle.std.proofs.Common.{Some, None, slice_get, length-drop, codes, decimal, append_assoc, append-nil, length-append, min}
use Rattle.std.specs.List.{flat_map}
use Rattle.std.proofs.lemmas.Grind.{flat_map-append}
use Rattle.std.proofs.lemmas.List.{get_or-drop, length-map, map-append, take-append-drop, take-append-le, take-map, take-take}
use Rattle.std.proofs.lemmas.List.{length-take, take_all, take_at, take_more, take_rest}
use Rattle.std.proofs.lemmas.Option.{slice_get-get_or, slice_get_within}
use Rattle.pam_text.proofs.FlatTexts.{flat_map-push, flat_map-seen}
use Rattle.pam_page.specs.KeptSteps.{step_of}
use Rattle.pam_page.specs.inner.KeptSteps.{AreTexts, IsEnd, code_text, codes_of, steps_of, undotted}
use Rattle.pam_page.specs.Page.{code_name, path_line, step_text}
use Rattle.pam_page.specs.declared.texts.KeptStep.{KeptStep}
use Rattle.pam_paths.specs.Classes.{least}
use Rattle.pam_paths.specs.CursorText.{cursor_text}
use Rattle.pam_paths.specs.Paths.{PathValue, StepValue, key, key_of}
use Rattle.pam_paths.specs.Steps.{step_seen}
use Rattle.pam_paths.specs.declared.path.PathStep.{PathStep}

-- ---- a list that is cut

record Found {A : Type 0} (xs : List A) (n i : ℕ) (x : A) : Type 0 where
  within : i < n
  found : slice_get xs i ≡ Some x

get_front : {A : Type 0} (xs : List A) (n i : ℕ) (x : A) → slice_get (take n xs) i ≡ Some x → Found xs n i x
get_front xs zero i x e = cc
get_front [] (suc n) i x e = cc
get_front (y ∷ xs) (suc n) zero x e = record { within = omega arith; found = e }
get_front (y ∷ xs) (suc n) (suc i) x e = let f = get_front xs n i x e in record { within = omega (arith, f.within); found = f.found }

no_last : {A : Type 0} (xs : List A) → slice_get xs (length xs - 1) ≡ None → xs ≡ []
no_last [] e = refl
no_last (x ∷ xs) e =
    let found = slice_get-get_or (x ∷ xs) (length (x ∷ xs) - 1) x (omega arith) in
    cc

-- a text is cut together with its list
text_cut : {A : Type 0} (text : A → List ℕ) (xs : List A) (n end : ℕ) (all : List ℕ) → all ≡ flat_map text xs → end ≡ length (flat_map text (take n xs))
    → take end all ≡ flat_map text (take n xs)
text_cut text xs n end all e l =
    let parts = sym (flat_map-append text (take n xs) (drop n xs)) ∙ ap (flat_map text) (take-append-drop n xs) in
    ap (take end) (e ∙ sym parts) ∙ take_at (flat_map text (take n xs)) (flat_map text (drop n xs)) end (sym l)

-- ---- the first kept steps

module _ (kept : List KeptStep) (dotted text : List ℕ) (whole : AreTexts kept dotted text) where
  ends_cut : (n i : ℕ) (one : KeptStep) → slice_get (take n kept) i ≡ Some one → IsEnd (take (i + 1) (take n kept)) one
  ends_cut n i one e =
      let f = get_front kept n i one e in
      let same : take (i + 1) (take n kept) ≡ take (i + 1) kept = take-take (i + 1) n kept (omega (arith, f.within)) in
      subst (λ (ms : List KeptStep). IsEnd ms one) (sym same) (whole.ends i one f.found)

  pub texts_cut : (n : ℕ) (one : KeptStep) → slice_get (take n kept) (length (take n kept) - 1) ≡ Some one
      → AreTexts (take n kept) (take one.cursor_end dotted) (take one.steps_end text)
  texts_cut n one e =
      let front = take n kept in
      let inside : length front - 1 < length front = slice_get_within front (length front - 1) one e in
      let count : length front - 1 + 1 ≡ length front = omega (arith, inside) in
      let last : IsEnd front one = subst (λ (ms : List KeptStep). IsEnd ms one)
      (ap (λ (k : ℕ). take k front) count ∙ take_all (length front) front (omega arith)) (ends_cut n (length front - 1) one e) in
      record {
        cursor = text_cut (λ (m : KeptStep). code_text (step_of m)) kept n one.cursor_end dotted (whole.cursor ∙ flat_map-seen code_text step_of kept)
            (last.cursor ∙ ap length (flat_map-seen code_text step_of front)) ∙ sym (flat_map-seen code_text step_of front);
        steps = text_cut (λ (m : KeptStep). step_text (step_of m)) kept n one.steps_end text (whole.steps ∙ flat_map-seen step_text step_of kept)
            (last.steps ∙ ap length (flat_map-seen step_text step_of front)) ∙ sym (flat_map-seen step_text step_of front);
        ends = ends_cut n;
      }

  pub texts_none : (n : ℕ) → slice_get (take n kept) (length (take n kept) - 1) ≡ None → AreTexts (take n kept) (take 0 dotted) (take 0 text)
  texts_none n e =
      let none = no_last (take n kept) e in
      record {
        cursor = sym (ap codes_of none);
        steps = sym (ap steps_of none);
        ends = ends_cut n;
      }

pub cut_some : (kept : List KeptStep) (dotted text : List ℕ) (n : ℕ) (items shown : List KeptStep) (one : KeptStep) (codes_left steps_left : List ℕ)
    → AreTexts kept dotted text → items ≡ take n kept → shown ≡ items → Some one ≡ slice_get shown (length shown - 1)
    → codes_left ≡ take one.cursor_end dotted → steps_left ≡ take one.steps_end text → AreTexts items codes_left steps_left
cut_some kept dotted text n items shown one codes_left steps_left whole is_items is_shown is_last is_codes is_steps =
    let last = sym (is_last ∙ ap (λ (l : List KeptStep). slice_get l (length l - 1)) (is_shown ∙ is_items)) in
    rw (is_codes, is_steps, is_items) (texts_cut kept dotted text whole n one last)

pub cut_none : (kept : List KeptStep) (dotted text : List ℕ) (n : ℕ) (items shown : List KeptStep) (codes_left steps_left : List ℕ) → AreTexts kept dotted text
    → items ≡ take n kept → shown ≡ items → None ≡ slice_get shown (length shown - 1) → codes_left ≡ [] → steps_left ≡ []
    → AreTexts items codes_left steps_left
cut_none kept dotted text n items shown codes_left steps_left whole is_items is_shown is_last is_codes is_steps =
    let last = sym (is_last ∙ ap (λ (l : List KeptStep). slice_get l (length l - 1)) (is_shown ∙ is_items)) in
    rw (is_codes, is_steps, is_items) (texts_none kept dotted text whole n last)

pub no_texts : (kept : List KeptStep) (dotted text : List ℕ) → kept ≡ [] → dotted ≡ [] → text ≡ [] → AreTexts kept dotted text
no_texts kept dotted text m d t = rw (m, d, t) (record { cursor = refl; steps = refl; ends = λ i one e. cc })

-- ---- one more kept step

data Place {A : Type 0} (xs : List A) (y : A) (i : ℕ) (x : A) : Type 0 where
  Earlier : slice_get xs i ≡ Some x → Place xs y i x
  Final : i ≡ length xs → x ≡ y → Place xs y i x

get_push : {A : Type 0} (xs : List A) (y : A) (i : ℕ) (x : A) → slice_get (xs ++ y ∷ []) i ≡ Some x → Place xs y i x
get_push [] y zero x e = Final refl cc
get_push [] y (suc i) x e = cc
get_push (z ∷ xs) y zero x e = Earlier e
get_push (z ∷ xs) y (suc i) x e = elim (get_push xs y i x e) [ Earlier f ↦ Earlier f | Final at same ↦ Final (omega (arith, at)) same ]

codes_push : (kept : List KeptStep) (one : KeptStep) → codes_of (kept ++ one ∷ []) ≡ codes_of kept ++ code_text (step_of one)
codes_push kept one = ap (flat_map code_text) (map-append step_of kept (one ∷ [])) ∙ flat_map-push code_text (map step_of kept) (step_of one)

steps_push : (kept : List KeptStep) (one : KeptStep) → steps_of (kept ++ one ∷ []) ≡ steps_of kept ++ step_text (step_of one)
steps_push kept one = ap (flat_map step_text) (map-append step_of kept (one ∷ [])) ∙ flat_map-push step_text (map step_of kept) (step_of one)

pub texts_push : (kept : List KeptStep) (dotted text : List ℕ) (one : KeptStep) (longer_dotted longer : List ℕ) → AreTexts kept dotted text
    → longer_dotted ≡ dotted ++ code_text (step_of one) → longer ≡ text ++ step_text (step_of one)
    → one.cursor_end ≡ length longer_dotted → one.steps_end ≡ length longer → AreTexts (kept ++ one ∷ []) longer_dotted longer
texts_push kept dotted text one longer_dotted longer whole d t cursor_end steps_end =
    let is_cursor = d ∙ ap (λ (l : List ℕ). l ++ code_text (step_of one)) whole.cursor ∙ sym (codes_push kept one) in
    let is_steps = t ∙ ap (λ (l : List ℕ). l ++ step_text (step_of one)) whole.steps ∙ sym (steps_push kept one) in
    let all = kept ++ one ∷ [] in
    record {
      cursor = is_cursor;
      steps = is_steps;
      ends = λ i m e. elim (get_push kept one i m e) [
        | Earlier f ↦
            let inside : i < length kept = slice_get_within kept i m f in
            subst (λ (ms : List KeptStep). IsEnd ms m) (sym (take-append-le (i + 1) kept (one ∷ []) (omega (arith, inside)))) (whole.ends i m f)
        | Final at same ↦
            let full : length all ≤ i + 1 = omega (arith, at, length-append kept (one ∷ [])) in
            let both : IsEnd all one = record { cursor = cursor_end ∙ ap length is_cursor; steps = steps_end ∙ ap length is_steps } in
            rw (same, take_all (i + 1) all full) both
      ];
    }

-- ---- steps that are shared, and those that are added

map_more : {A B : Type 0} (f : A → B) (xs : List A) (i : ℕ) (x : A) → i < length xs → x ≡ get_or xs i x
    → take (i + 1) (map f xs) ≡ take i (map f xs) ++ f x ∷ []
map_more f xs i x inside e =
    take-map f (i + 1) xs ∙ ap (map f) (take_more xs i x inside ∙ ap (λ y. take i xs ++ y ∷ []) (sym e)) ∙ map-append f (take i xs) (x ∷ [])
    ∙ ap (λ l. l ++ f x ∷ []) (sym (take-map f i xs))

pub same_more : (kept : List KeptStep) (steps : List PathStep) (i j : ℕ) (one : KeptStep) (step : PathStep) → i ≡ j → j < length kept → i < length steps
    → one ≡ get_or kept j one → step ≡ get_or steps i step → step_of one ≡ step_seen step
    → take i (map step_of kept) ≡ take i (map step_seen steps) → take (i + 1) (map step_of kept) ≡ take (i + 1) (map step_seen steps)
same_more kept steps i j one step index inside within is_one is_step same before =
    let at : i < length kept = omega (arith, index, inside) in
    let here : one ≡ get_or kept i one = is_one ∙ ap (λ (k : ℕ). get_or kept k one) (sym index) in
    map_more step_of kept i one at here ∙ ap (λ (l : List StepValue). l ++ step_of one ∷ []) before
    ∙ ap (λ (s : StepValue). take i (map step_seen steps) ++ s ∷ []) same ∙ sym (map_more step_seen steps i step within is_step)

pub added_more : (steps : List PathStep) (shared i : ℕ) (step : PathStep) (before : List StepValue) → shared ≤ length steps
    → i < length (take (length steps - shared) (drop shared steps)) → step ≡ get_or (take (length steps - shared) (drop shared steps)) i step
    → before ≡ take (shared + i) (map step_seen steps) → before ++ step_seen step ∷ [] ≡ take (shared + (i + 1)) (map step_seen steps)
added_more steps shared i step before within inside is_step e =
    let rest = take_rest steps shared in
    let at : shared + i < length steps = omega (arith, inside, ap length rest, length-drop shared steps) in
    let here : step ≡ get_or steps (shared + i) step = is_step ∙ ap (λ (l : List PathStep). get_or l i step) rest ∙ get_or-drop shared steps i step in
    let count : shared + i + 1 ≡ shared + (i + 1) = omega arith in
    ap (λ (l : List StepValue). l ++ step_seen step ∷ []) e ∙ sym (map_more step_seen steps (shared + i) step at here)
    ∙ ap (λ (k : ℕ). take k (map step_seen steps)) count

-- the kept steps that a path shares with the one before it
pub kept_shared : (kept before steps : List StepValue) (shared : ℕ) → kept ≡ take (length kept) before
    → take shared steps ≡ take shared before → take shared kept ≡ take (length (take shared kept)) steps
kept_shared kept before steps shared first same =
    let front = take shared kept in
    let count = length-take shared kept in
    let cut = λ (l : List StepValue). take (length front) l in
    sym (take_all (length front) front (omega arith)) ∙ take-take (length front) shared kept (omega (arith, count))
    ∙ ap cut first ∙ take-take (length front) (length kept) before (omega (arith, count))
    ∙ sym (take-take (length front) shared before (omega (arith, count))) ∙ ap cut (sym same)
    ∙ take-take (length front) shared steps (omega (arith, count))

-- the same of the steps before the tail
pub kept_own : (kept before : List StepValue) (steps : List PathStep) (shared own least : ℕ) → take shared kept ≡ take (length (take shared kept)) before
    → map step_seen steps ≡ before → least ≡ min shared own
    → take least kept ≡ take (length (take least kept)) (map step_seen (take own steps))
kept_own kept before steps shared own least same seen is_least =
    let front = take least kept in
    let all = take shared kept in
    let count = length-take least kept in
    let whole = length-take shared kept in
    let cut = λ (l : List StepValue). take (length front) l in
    let inside : least ≤ shared = omega (arith, is_least) in
    let within : length front ≤ own = omega (arith, is_least, count) in
    sym (take_all (length front) front (omega arith)) ∙ take-take (length front) least kept (omega (arith, count))
    ∙ sym (take-take (length front) shared kept (omega (arith, count, inside))) ∙ ap cut same
    ∙ take-take (length front) (length all) before (omega (arith, count, whole, inside)) ∙ ap cut (sym seen)
    ∙ sym (take-take (length front) own (map step_seen steps) within) ∙ ap cut (take-map step_seen own steps)

pub own_kept : (kept before : List StepValue) (steps : List PathStep) (own : ℕ) → kept ≡ take (length kept) (map step_seen (take own steps))
    → map step_seen steps ≡ before → kept ≡ take (length kept) before
own_kept kept before steps own is seen =
    let within : length kept ≤ length (map step_seen (take own steps)) =
    omega (arith, ap length is, length-take (length kept) (map step_seen (take own steps))) in
    let fits : length kept ≤ own =
    omega (arith, within, length-map (take own steps) step_seen, length-take own steps) in
    is ∙ ap (take (length kept)) (sym (take-map step_seen own steps)) ∙ take-take (length kept) own (map step_seen steps) fits
    ∙ ap (take (length kept)) seen

-- the texts of the kept steps and of the tail are those of the path
pub whole_text : (text : StepValue → List ℕ) (kept : List KeptStep) (viewed steps : List StepValue) (tail : List PathStep) (texts : List ℕ)
    → texts ≡ flat_map text (map step_of kept) → map step_of kept ≡ viewed → viewed ≡ take (length viewed) steps
    → map step_seen tail ≡ drop (length steps - length tail) steps → length viewed ≡ length steps - length tail
    → texts ++ flat_map text (map step_seen tail) ≡ flat_map text steps
whole_text text kept viewed steps tail texts is seen first last own =
    let front = is ∙ ap (flat_map text) (seen ∙ first) in
    ap (λ (l : List ℕ). l ++ flat_map text (map step_seen tail)) front
    ∙ ap (λ (l : List StepValue). flat_map text (take (length viewed) steps) ++ flat_map text l) last
    ∙ ap (λ (n : ℕ). flat_map text (take (length viewed) steps) ++ flat_map text (drop n steps)) (sym own)
    ∙ sym (flat_map-append text (take (length viewed) steps) (drop (length viewed) steps))
    ∙ ap (flat_map text) (take-append-drop (length viewed) steps)

-- as many steps are kept as the path has before its tail
pub own_count : (kept : List KeptStep) (viewed steps : List StepValue) (shown tail : List PathStep) (count : ℕ) → map step_of kept ≡ viewed
    → map step_seen shown ≡ steps → count ≡ length kept → count ≡ length shown - length tail → length viewed ≡ length steps - length tail
own_count kept viewed steps shown tail count seen is is_count own =
    omega (arith, ap length seen, length-map kept step_of, is_count, own, ap length is, length-map shown step_seen)

-- ---- the line

dotted_rest : (steps : List StepValue) → flat_map code_text steps ≡ flat_map (λ (code : ℕ). codes "." ++ decimal code) (key_of steps)
unfolding key_of code_text
dotted_rest [] = refl
dotted_rest (step ∷ steps) = ap (λ (l : List ℕ). code_text step ++ l) (dotted_rest steps)

undotted-is : (steps : List StepValue) → undotted (flat_map code_text steps) ≡ cursor_text (key_of steps)
unfolding key_of code_text
undotted-is [] = refl
undotted-is (step ∷ steps) = ap (λ (l : List ℕ). decimal (least step.class) ++ l) (dotted_rest steps)

regrouped : (old a b c d e f : List ℕ) → (((((old ++ a) ++ b) ++ c) ++ d) ++ e) ++ f ≡ old ++ (((a ++ (b ++ (c ++ []))) ++ (d ++ e)) ++ f)
regrouped old a b c d e f = simp (append_assoc, append-nil)

-- the line after earlier lines, part by part
pub line_parts : (path : PathValue) (old longer first_codes last_codes first_steps last_steps : List ℕ)
    → longer ≡ (((((old ++ undotted (first_codes ++ last_codes)) ++ codes " ") ++ code_name path.decision) ++ first_steps) ++ last_steps) ++ codes "\n"
    → first_codes ++ last_codes ≡ flat_map code_text path.steps → first_steps ++ last_steps ≡ flat_map step_text path.steps → longer ≡ old ++ path_line path
unfolding path_line
line_parts path old longer first_codes last_codes first_steps last_steps is is_codes is_steps =
    let name = code_name path.decision in
    let shown = ap undotted is_codes ∙ undotted-is path.steps in
    is ∙ regrouped old (undotted (first_codes ++ last_codes)) (codes " ") name first_steps last_steps (codes "\n")
    ∙ ap (λ (l : List ℕ). old ++ (((l ++ (codes " " ++ (name ++ []))) ++ (first_steps ++ last_steps)) ++ codes "\n")) shown
    ∙ ap (λ (l : List ℕ). old ++ (((cursor_text (key path) ++ (codes " " ++ (name ++ []))) ++ l) ++ codes "\n")) is_steps
