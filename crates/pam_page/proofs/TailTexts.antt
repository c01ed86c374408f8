-- The texts of steps that have every code.
use Rattle.std.proofs.Common.{◌≡◌, ℕ, ◌+◌, ◌-◌, ◌*◌, ◌<◌, ◌≤◌, zero, suc}
use Rattle.std.proofs.Common.{List, [], ◌∷◌, ◌++◌, length, take, drop, get_or, refl, sym, ap, ◌∙◌, arith, inl, inr}
use Rattle.std.proofs.Common.{None, Some, append-nil, append_assoc, codes, decimal, length-append, length-drop, map, slice_get}
use Rattle.std.specs.Fmt.{digits}
use Rattle.std.specs.List.{concat, flat_map}
use Rattle.std.proofs.Math.ListN.{get_or-append}
use Rattle.std.proofs.Math.Seq.{drop-append_seam, get_or-append_seam}
use Rattle.std.proofs.lemmas.Bool.{cases_eq}
use Rattle.std.proofs.lemmas.Grind.{flat_map-append}
use Rattle.std.proofs.lemmas.List.{length-map, length-take, take-append-drop, take-take, take_at}
use Rattle.pam_codes.specs.Code.{all_codes}
use Rattle.pam_text.proofs.FlatTexts.{flat_map-push}
use Rattle.pam_page.proofs.LineParts.{set_text-all}
use Rattle.pam_page.specs.inner.TailTexts.{AreTailTexts, codes_to, steps_to}
use Rattle.pam_page.specs.inner.KeptSteps.{code_text}
use Rattle.pam_page.specs.Page.{step_text}
use Rattle.pam_paths.specs.Paths.{StepValue}
use Rattle.pam_paths.specs.Steps.{step_seen}
use Rattle.pam_paths.specs.Tail.{IsTail, tail_from}
use Rattle.pam_paths.specs.declared.path.PathStep.{PathStep}
use Rattle.pam_paths.proofs.Tails.{tail_from-drop, tail_from-push, tail_from-take}

-- the texts of the first modules, and of the others
alike-parts : (text : StepValue → List ℕ) (before last : ℕ) → before ≤ last →
    flat_map text (tail_from 1 last) ≡ flat_map text (tail_from 1 before) ++ flat_map text (tail_from (before + 1) (last - before))
alike-parts text before last within =
    let all = tail_from 1 last in
    let next : 1 + before ≡ before + 1 = omega arith in
    ap (flat_map text) (sym (take-append-drop before all)) ∙ flat_map-append text (take before all) (drop before all)
    ∙ ap (λ (l : List StepValue). flat_map text l ++ flat_map text (drop before all)) (tail_from-take before 1 last within)
    ∙ ap (λ (l : List StepValue). flat_map text (tail_from 1 before) ++ flat_map text l) (tail_from-drop before 1 last)
    ∙ ap (λ (n : ℕ). flat_map text (tail_from 1 before) ++ flat_map text (tail_from n (last - before))) next

code-alike : (number : ℕ) → code_text (record { module_number = number; class = all_codes }) ≡ codes ".0"
unfolding code_text all_codes digits
code-alike number = refl

step-alike : (number : ℕ) →
    step_text (record { module_number = number; class = all_codes }) ≡ concat (codes " " ∷ decimal number ∷ codes "=" ∷ []) ++ codes "any"
unfolding step_text all_codes
step-alike number = ap (λ (l : List ℕ). concat (codes " " ∷ decimal number ∷ codes "=" ∷ []) ++ l) (sym (set_text-all all_codes refl))

-- each code takes two bytes
codes-long : (first count : ℕ) → length (flat_map code_text (tail_from first count)) ≡ 2 * count
unfolding tail_from
codes-long first zero = refl
codes-long first (suc count) =
    let rest = flat_map code_text (tail_from (first + 1) count) in
    let here = ap length (code-alike first) in
    omega (arith, here, codes-long (first + 1) count, length-append (code_text (record { module_number = first; class = all_codes })) rest)

-- whatever the numbers of the modules
pub codes-same : (first other count : ℕ) → flat_map code_text (tail_from first count) ≡ flat_map code_text (tail_from other count)
unfolding tail_from
codes-same first other zero = refl
codes-same first other (suc count) =
    ap (λ (l : List ℕ). l ++ flat_map code_text (tail_from (first + 1) count)) (code-alike first ∙ sym (code-alike other))
    ∙ ap (λ (l : List ℕ). code_text (record { module_number = other; class = all_codes }) ++ l) (codes-same (first + 1) (other + 1) count)

-- THE FIRST CODES

pub codes-first : (all count : ℕ) (dotted shown : List ℕ) → dotted ≡ codes_to all → shown ≡ dotted → count ≤ all →
    (take (2 * count) shown ≡ flat_map code_text (tail_from 1 count)) × (2 * count ≤ length shown)
codes-first all count dotted shown is same within =
    let parts = same ∙ is ∙ alike-parts code_text count all within in
    let long = codes-long 1 count in
    let rest = flat_map code_text (tail_from (count + 1) (all - count)) in (
      ap (take (2 * count)) parts ∙ take_at (codes_to count) rest (2 * count) long,
      omega (arith, ap length parts, length-append (codes_to count) rest, long),
    )

-- THE STEPS BETWEEN TWO ENDS

pub steps-within : (all count : ℕ) → count ≤ all → length (steps_to count) ≤ length (steps_to all)
steps-within all count within =
    let rest = flat_map step_text (tail_from (count + 1) (all - count)) in
    omega (arith, ap length (alike-parts step_text count all within), length-append (steps_to count) rest)

pub steps-none : (count : ℕ) → count ≡ 0 → length (steps_to count) ≡ 0
unfolding tail_from
steps-none count none = ap (λ (n : ℕ). length (steps_to n)) none

pub steps-between : (all before last start end : ℕ) (text shown : List ℕ) → text ≡ steps_to all → shown ≡ text → before ≤ last → last ≤ all →
    start ≡ length (steps_to before) → end ≡ length (steps_to last) →
    take (end - start) (drop start shown) ≡ flat_map step_text (tail_from (before + 1) (last - before))
steps-between all before last start end text shown is same order within is_start is_end =
    let front = steps_to before in
    let part = flat_map step_text (tail_from (before + 1) (last - before)) in
    let rest = flat_map step_text (tail_from (last + 1) (all - last)) in
    let parts : shown ≡ front ++ (part ++ rest) =
    same ∙ is ∙ alike-parts step_text last all within ∙ ap (λ (l : List ℕ). l ++ rest) (alike-parts step_text before last order)
    ∙ append_assoc front part rest in
    let long : length part ≡ end - start =
    omega (arith, is_start, is_end, ap length (alike-parts step_text before last order), length-append front part) in
    ap (λ (n : ℕ). take (end - start) (drop n shown)) is_start ∙ ap (λ (l : List ℕ). take (end - start) (drop (length front) l)) parts
    ∙ ap (take (end - start)) (drop-append_seam front (part ++ rest)) ∙ take_at part rest (end - start) long

-- ` NUMBER=` alone

pub number-shown : (number : ℕ) (text : List ℕ) → 1 ≤ number → text ≡ flat_map step_text (tail_from (number - 1 + 1) (number - (number - 1))) →
    (take (length text - 3) text ≡ concat (codes " " ∷ decimal number ∷ codes "=" ∷ [])) × (3 ≤ length text)
unfolding tail_from
number-shown number text some is =
    let numbered = concat (codes " " ∷ decimal number ∷ codes "=" ∷ []) in
    let at : number - 1 + 1 ≡ number = omega (arith, some) in
    let one : number - (number - 1) ≡ 1 = omega (arith, some) in
    let whole : text ≡ numbered ++ codes "any" =
    is ∙ ap (λ (n : ℕ). flat_map step_text (tail_from n (number - (number - 1)))) at ∙ ap (λ (n : ℕ). flat_map step_text (tail_from number n)) one
    ∙ append-nil (step_text (record { module_number = number; class = all_codes })) ∙ step-alike number in
    let count : length text ≡ length numbered + 3 = ap length whole ∙ length-append numbered (codes "any") in (
      ap (take (length text - 3)) whole ∙ take_at numbered (codes "any") (length text - 3) (omega (arith, count)),
      omega (arith, count),
    )

pub number-between : (all number start end : ℕ) (text : List ℕ) → text ≡ steps_to all → 1 ≤ number → number ≤ all →
    start ≡ length (steps_to (number - 1)) → end ≡ length (steps_to number) →
    (take (end - 3 - start) (drop start text) ≡ concat (codes " " ∷ decimal number ∷ codes "=" ∷ [])) × (start + 3 ≤ end)
number-between all number start end text is some within is_start is_end =
    let rest = drop start text in
    let whole = take (end - start) rest in
    let between = steps-between all (number - 1) number start end text text is refl (omega arith) within is_start is_end in
    let shown = number-shown number whole some between in
    let count : length whole ≡ end - start =
    omega (arith, length-take (end - start) rest, length-drop start text, ap length is, is_end, steps-within all number within) in
    let short : end - 3 - start ≡ length whole - 3 = omega (arith, count) in (
      sym (take-take (end - 3 - start) (end - start) rest (omega arith)) ∙ ap (λ (n : ℕ). take n whole) short ∙ shown.0,
      omega (arith, shown.1, count),
    )

-- ONE MORE MODULE

pub no-alike : (ends dotted text : List ℕ) → ends ≡ [] → dotted ≡ [] → text ≡ [] → AreTailTexts ends dotted text
unfolding tail_from
no-alike ends dotted text e d t = rw (e, d, t) (record { cursor = refl; steps = refl; ends = λ i within. absurd (omega (arith, within)) })

pub one-alike : (ends dotted text new_ends new_dotted with_number new_text : List ℕ) (number end : ℕ) → AreTailTexts ends dotted text →
    number ≡ length ends + 1 → new_dotted ≡ dotted ++ codes ".0" → with_number ≡ text ++ concat (codes " " ∷ decimal number ∷ codes "=" ∷ []) →
    new_text ≡ with_number ++ codes "any" → end ≡ length new_text → new_ends ≡ ends ++ end ∷ [] → AreTailTexts new_ends new_dotted new_text
one-alike ends dotted text new_ends new_dotted with_number new_text number end whole is_number is_dotted is_numbered is_text is_end is_ends =
    let n = length ends in
    let count : length new_ends ≡ n + 1 = omega (arith, ap length is_ends, length-append ends (end ∷ [])) in
    let next : number ≡ 1 + n = omega (arith, is_number) in
    let last : StepValue = record { module_number = 1 + n; class = all_codes } in
    let numbered = concat (codes " " ∷ decimal number ∷ codes "=" ∷ []) in
    let more_codes : codes_to (n + 1) ≡ codes_to n ++ codes ".0" =
    ap (flat_map code_text) (tail_from-push 1 n) ∙ flat_map-push code_text (tail_from 1 n) last
    ∙ ap (λ (l : List ℕ). codes_to n ++ l) (code-alike (1 + n)) in
    let more_steps : steps_to (n + 1) ≡ new_text =
    ap (flat_map step_text) (tail_from-push 1 n) ∙ flat_map-push step_text (tail_from 1 n) last
    ∙ ap (λ (l : List ℕ). steps_to n ++ l) (step-alike (1 + n))
    ∙ ap (λ (k : ℕ). steps_to n ++ (concat (codes " " ∷ decimal k ∷ codes "=" ∷ []) ++ codes "any")) (sym next)
    ∙ sym (append_assoc (steps_to n) numbered (codes "any"))
    ∙ ap (λ (l : List ℕ). (l ++ numbered) ++ codes "any") (sym whole.steps)
    ∙ ap (λ (l : List ℕ). l ++ codes "any") (sym is_numbered) ∙ sym is_text in
    record {
      cursor = is_dotted ∙ ap (λ (l : List ℕ). l ++ codes ".0") whole.cursor ∙ sym more_codes ∙ ap codes_to (sym count);
      steps = sym more_steps ∙ ap steps_to (sym count);
      ends = λ i within. elim (cases_eq i n) [
        | inl e ↦
            ap (λ (l : List ℕ). get_or l i 0) is_ends ∙ ap (λ (k : ℕ). get_or (ends ++ end ∷ []) k 0) e ∙ get_or-append_seam ends end [] 0
            ∙ is_end ∙ ap length (sym more_steps) ∙ ap (λ (k : ℕ). length (steps_to (k + 1))) (sym e)
        | inr other ↦
            let inside : i < n = omega (arith, within, count, other) in
            ap (λ (l : List ℕ). get_or l i 0) is_ends ∙ get_or-append ends (end ∷ []) 0 i inside ∙ whole.ends i inside
      ];
    }

-- THE TAIL OF A PATH

head_number : List StepValue → ℕ
head_number [] = 0
head_number (step ∷ steps) = step.module_number

first-number : (tail : List PathStep) (first : PathStep) (alike : IsTail (map step_seen tail)) → Some first ≡ slice_get tail 0 → first.number ≡ alike.0
unfolding head_number tail_from
first-number [] first alike is = absurd (let x : ⊥ = cc in x)
first-number (step ∷ tail) first alike is =
    let same : first ≡ step = cc in
    ap (λ (s : PathStep). s.number) same ∙ ap head_number alike.1

pub no-tail : (tail : List PathStep) → None ≡ slice_get tail 0 → map step_seen tail ≡ tail_from 1 (length tail)
unfolding tail_from
no-tail [] none = refl
no-tail (step ∷ tail) none = absurd (let x : ⊥ = cc in x)

pub tail-from : (tail : List PathStep) (alike : IsTail (map step_seen tail)) (first : PathStep) (number before : ℕ) → Some first ≡ slice_get tail 0 →
    number ≡ first.number → 1 ≤ number → before ≡ number - 1 → map step_seen tail ≡ tail_from (before + 1) (length tail)
tail-from tail alike first number before head at above less =
    let start : before + 1 ≡ alike.0 = omega (arith, at, above, less, first-number tail first alike head) in
    alike.1 ∙ ap (tail_from alike.0) (length-map tail step_seen) ∙ ap (λ (n : ℕ). tail_from n (length tail)) (sym start)
