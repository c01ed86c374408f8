-- Logical lines that are appended one after another.
use Rattle.std.proofs.Common.{◌≡◌, ◌+◌, ◌++◌, ◌&&◌, ◌∙◌, ℕ, Bool, true, false, not, List, [], ◌∷◌, cond, ap, sym, refl, Option, Some, None, append_assoc}
use Rattle.std.specs.Option.{option_map}
use Rattle.pam_released.specs.Lines.{before_hash, front_part, goes_on, has_hash, without_start_blanks}
use Rattle.pam_released.specs.Numbered.{NumberedLine, is_fed_before, numbered_152, numbered_170, numbered_end, with_line}
use Rattle.pam_released.specs.inner.Numbered.{with_front}

front_one : (front : List NumberedLine) (x : NumberedLine) (o : Option (List NumberedLine)) →
    with_front (front ++ x ∷ []) o ≡ with_front front (option_map (λ more. x ∷ more) o)
front_one front x None = refl
front_one front x (Some more) = ap (λ (r : List NumberedLine). Some r) (append_assoc front (x ∷ []) more)

-- 1.5.2

pub pieces_end : (line start : ℕ) (got bytes : List ℕ) (inside : Bool) → bytes ≡ [] → numbered_152 line start got [] inside bytes ≡ numbered_end inside
unfolding numbered_152
pieces_end line start got bytes inside none = rw none refl

pub finished : (front : List NumberedLine) (inside : Bool) (read whole found : Option (List NumberedLine)) → found ≡ with_front front (numbered_end inside) →
    read ≡ numbered_end inside → with_front front read ≡ whole → found ≡ whole
finished front inside read whole found is end h = is ∙ ap (with_front front) (sym end) ∙ h

-- 1.7.0

-- the text of a logical line, after the text of the lines that go on, and whether a line feed ends it
abbrev last_text : List ℕ → List ℕ → List ℕ
last_text got text = got ++ without_start_blanks (before_hash text)

abbrev last_fed : Bool → List ℕ → List (List ℕ) → Bool
last_fed closed text rest = is_fed_before closed rest && not (has_hash text)

line_step : (closed : Bool) (line start : ℕ) (got : List ℕ) (inside : Bool) (text : List ℕ) (lines : List (List ℕ)) →
    numbered_170 closed line start got inside (text ∷ lines) ≡
    cond (goes_on text) (numbered_170 closed (line + 1) start (got ++ without_start_blanks (front_part text)) true lines)
    (option_map (with_line start (last_text got text) (last_fed closed text lines)) (numbered_170 closed (line + 1) (line + 1) [] false lines))
unfolding numbered_170
line_step closed line start got inside text lines = refl

pub line_goes : (closed : Bool) (front : List NumberedLine) (line start : ℕ) (got : List ℕ) (inside : Bool) (text : List ℕ)
    (lines rest : List (List ℕ)) (whole : Option (List NumberedLine)) → lines ≡ text ∷ rest → goes_on text ≡ true →
    with_front front (numbered_170 closed line start got inside lines) ≡ whole →
    with_front front (numbered_170 closed (line + 1) start (got ++ without_start_blanks (front_part text)) true rest) ≡ whole
line_goes closed front line start got inside text lines rest whole split goes h =
    ap (with_front front) (sym (ap (numbered_170 closed line start got inside) split ∙ line_step closed line start got inside text rest
    ∙ ap (λ (t : Bool). cond t (numbered_170 closed (line + 1) start (got ++ without_start_blanks (front_part text)) true rest)
    (option_map (with_line start (last_text got text) (last_fed closed text rest)) (numbered_170 closed (line + 1) (line + 1) [] false rest))) goes)) ∙ h

line_ended : (closed : Bool) (line start : ℕ) (got : List ℕ) (inside : Bool) (text : List ℕ) (lines rest : List (List ℕ)) → lines ≡ text ∷ rest →
    goes_on text ≡ false → numbered_170 closed line start got inside lines ≡
    option_map (with_line start (last_text got text) (last_fed closed text rest)) (numbered_170 closed (line + 1) (line + 1) [] false rest)
line_ended closed line start got inside text lines rest split goes =
    ap (numbered_170 closed line start got inside) split ∙ line_step closed line start got inside text rest
    ∙ ap (λ (t : Bool). cond t (numbered_170 closed (line + 1) start (got ++ without_start_blanks (front_part text)) true rest)
    (option_map (with_line start (last_text got text) (last_fed closed text rest)) (numbered_170 closed (line + 1) (line + 1) [] false rest))) goes

passed_over : (start : ℕ) (fed : Bool) (o : Option (List NumberedLine)) → option_map (with_line start [] fed) o ≡ o
passed_over start fed None = refl
passed_over start fed (Some more) = refl

line_passed : (closed : Bool) (front : List NumberedLine) (line start : ℕ) (got : List ℕ) (inside : Bool) (text : List ℕ) (lines rest : List (List ℕ))
    (whole : Option (List NumberedLine)) → lines ≡ text ∷ rest → goes_on text ≡ false → last_text got text ≡ [] →
    with_front front (numbered_170 closed line start got inside lines) ≡ whole →
    with_front front (numbered_170 closed (line + 1) (line + 1) [] false rest) ≡ whole
line_passed closed front line start got inside text lines rest whole split goes none h =
    let fed : Bool = last_fed closed text rest in
    ap (with_front front) (sym (line_ended closed line start got inside text lines rest split goes
    ∙ ap (λ (r : List ℕ). option_map (with_line start r fed) (numbered_170 closed (line + 1) (line + 1) [] false rest)) none
    ∙ passed_over start fed (numbered_170 closed (line + 1) (line + 1) [] false rest))) ∙ h

one_line : (start : ℕ) (text : List ℕ) (fed : Bool) (o : Option (List NumberedLine)) → (text ≡ [] → ⊥) → option_map (with_line start text fed) o ≡
    option_map (λ more. record { start = start; text = text; is_fed = fed } ∷ more) o
one_line start [] fed o some = absurd (some refl)
one_line start (b ∷ text) fed o some = refl

line_ends : (closed : Bool) (front : List NumberedLine) (line start : ℕ) (got : List ℕ) (inside : Bool) (text : List ℕ) (lines rest : List (List ℕ))
    (whole : Option (List NumberedLine)) → lines ≡ text ∷ rest → goes_on text ≡ false → (last_text got text ≡ [] → ⊥) →
    with_front front (numbered_170 closed line start got inside lines) ≡ whole →
    with_front (front ++ record { start = start; text = last_text got text; is_fed = last_fed closed text rest } ∷ [])
    (numbered_170 closed (line + 1) (line + 1) [] false rest) ≡ whole
line_ends closed front line start got inside text lines rest whole split goes some h =
    let fed : Bool = last_fed closed text rest in
    front_one front record { start = start; text = last_text got text; is_fed = fed } (numbered_170 closed (line + 1) (line + 1) [] false rest)
    ∙ ap (with_front front) (sym (line_ended closed line start got inside text lines rest split goes
    ∙ one_line start (last_text got text) fed (numbered_170 closed (line + 1) (line + 1) [] false rest) some)) ∙ h

pub line_kept : (closed fed : Bool) (front pushed : List NumberedLine) (line start : ℕ) (got joined new : List ℕ) (inside : Bool) (text : List ℕ)
    (all rest : List (List ℕ)) (whole : Option (List NumberedLine)) →
    pushed ≡ front ++ record { start = start; text = joined; is_fed = fed && not (has_hash text) } ∷ [] → fed ≡ is_fed_before closed rest →
    joined ≡ got ++ without_start_blanks (before_hash text) → (joined ≡ [] → ⊥) → new ≡ [] → all ≡ text ∷ rest → goes_on text ≡ false →
    with_front front (numbered_170 closed line start got inside all) ≡ whole →
    with_front pushed (numbered_170 closed (line + 1) (line + 1) new false rest) ≡ whole
line_kept closed fed front pushed line start got joined new inside text all rest whole push feeds join some none split goes h =
    let next : Option (List NumberedLine) = numbered_170 closed (line + 1) (line + 1) [] false rest in
    let kept : record { start = start; text = joined; is_fed = fed && not (has_hash text) }
    ≡ record { start = start; text = last_text got text; is_fed = last_fed closed text rest } =
    ap (λ (t : Bool). record { start = start; text = joined; is_fed = t && not (has_hash text) }) feeds
    ∙ ap (λ (r : List ℕ). record { start = start; text = r; is_fed = last_fed closed text rest }) join in
    ap (λ (r : List ℕ). with_front pushed (numbered_170 closed (line + 1) (line + 1) r false rest)) none
    ∙ ap (λ (r : List NumberedLine). with_front r next) push
    ∙ ap (λ (r : NumberedLine). with_front (front ++ r ∷ []) next) kept
    ∙ line_ends closed front line start got inside text all rest whole split goes (λ e. some (join ∙ e)) h

pub line_gone : (closed : Bool) (front : List NumberedLine) (line start : ℕ) (got joined : List ℕ) (inside : Bool) (text : List ℕ)
    (all rest : List (List ℕ)) (whole : Option (List NumberedLine)) → joined ≡ got ++ without_start_blanks (before_hash text) → joined ≡ [] →
    all ≡ text ∷ rest → goes_on text ≡ false → with_front front (numbered_170 closed line start got inside all) ≡ whole →
    with_front front (numbered_170 closed (line + 1) (line + 1) joined false rest) ≡ whole
line_gone closed front line start got joined inside text all rest whole join none split goes h =
    ap (λ (r : List ℕ). with_front front (numbered_170 closed (line + 1) (line + 1) r false rest)) none
    ∙ line_passed closed front line start got inside text all rest whole split goes (sym join ∙ none) h

pub lines_end : (closed : Bool) (line start : ℕ) (got : List ℕ) (inside : Bool) (lines : List (List ℕ)) → lines ≡ [] →
    numbered_170 closed line start got inside lines ≡ numbered_end inside
unfolding numbered_170
lines_end closed line start got inside lines none = rw none refl
