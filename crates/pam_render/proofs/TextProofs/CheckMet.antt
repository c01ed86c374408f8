-- The stacks that meet a problem, part by part.
use Rattle.std.proofs.Common.{◌≡◌, ℕ, ◌-◌, ◌<◌, ◌≤◌, ◌||◌, Bool, true, false, List, [], ◌++◌, codes, refl, sym, ap, ◌∙◌}
use Rattle.std.proofs.Common.{append_assoc, append-nil}
use Rattle.std.proofs.lemmas.Bool.{le-ltb, lt-ltb}
use Rattle.std.specs.Prelude.{decimal, if◌then◌else◌}
use Rattle.pam_facts.specs.declared.kinds.Kinds.{Kinds}
use Rattle.pam_findings.specs.declared.host.met.Met.{Met}
use Rattle.pam_render.specs.text.Check.{after_comma, if_kind, kinds_text, met_text, others_if_any, others_text}
use Rattle.pam_render.specs.parts.Check.{text_at}
use Rattle.pam_render.specs.sentences.Shown.{shown_name}

-- KINDS

comma-before : (more : Bool) (name : List ℕ) → (if more then codes ", " else []) ++ name ≡ after_comma more name
comma-before true name = refl
comma-before false name = refl

-- the name of a kind that is meant
pub kind-named : (is_named more : Bool) {bytes : List ℕ} (name : List ℕ) → is_named ≡ true → bytes ≡ name
    → (if more then codes ", " else []) ++ bytes ≡ if_kind is_named more name
kind-named is_named more name h e =
    ap (λ (l : List ℕ). (if more then codes ", " else []) ++ l) e ∙ comma-before more name ∙ sym (ap (λ (b : Bool). if b then after_comma more name else []) h)

-- the same, after another kind
pub kind-later : (is_named more : Bool) (name : List ℕ) → is_named ≡ true → more ≡ true → codes ", " ++ name ≡ if_kind is_named more name
kind-later is_named more name h m = ap (λ (b : Bool). (if b then codes ", " else []) ++ name) (sym m) ∙ kind-named is_named more name h refl

-- the value of `a || b`, where `a` gave it, and where `b` did
pub or-then : {a r : Bool} (b : Bool) → a ≡ true → r ≡ a → r ≡ (a || b)
or-then b e f = f ∙ e ∙ sym (ap (λ (t : Bool). t || b) e)

pub or-else : {a b r : Bool} → a ≡ false → r ≡ b → r ≡ (a || b)
or-else {b} e f = f ∙ sym (ap (λ (t : Bool). t || b) e)

-- the four kinds, by the values of the tests for a comma
pub kinds-are : (k : Kinds) (two three : Bool) → two ≡ (k.auth || k.account) → three ≡ (k.auth || k.account || k.password)
    → if_kind k.auth false (codes "auth") ++ if_kind k.account k.auth (codes "account") ++ if_kind k.password two (codes "password")
    ++ if_kind k.session three (codes "session") ≡ kinds_text k
unfolding kinds_text
kinds-are k two three e f = rw (e, f) refl

-- SERVICES

-- the second service, by whether there are more
abbrev others_by : List ℕ → ℕ → Bool → List ℕ
others_by named count more = if more then codes ", " ++ named ++ codes " and " ++ decimal (count - 2) ++ codes " more" else codes " and " ++ named

-- two services
pub others-few : (services : List (List ℕ)) (second count : ℕ) (name : List ℕ) → count ≤ 2 → name ≡ text_at services second
    → codes " and " ++ shown_name name ≡ others_text services second count
others-few services second count name few e =
    ap (λ (l : List ℕ). codes " and " ++ shown_name l) e ∙ sym (ap (others_by (shown_name (text_at services second)) count) (le-ltb 2 count few))

regrouped : (a b c d e : List ℕ) → (a ++ b) ++ (c ++ (d ++ (e ++ []))) ≡ a ++ b ++ c ++ d ++ e
regrouped a b c d e = simp (append_assoc, append-nil)

-- the number of the services that are not named, as a line of pieces
abbrev pub last_text : ℕ → List ℕ
last_text count = codes " and " ++ (decimal (count - 2) ++ (codes " more" ++ []))

-- more than two services
pub others-many : (services : List (List ℕ)) (second count : ℕ) (name : List ℕ) → 2 < count → name ≡ text_at services second
    → (codes ", " ++ shown_name name) ++ last_text count ≡ others_text services second count
others-many services second count name many e =
    let named : List ℕ = shown_name (text_at services second) in
    ap (λ (l : List ℕ). (codes ", " ++ shown_name l) ++ last_text count) e
    ∙ regrouped (codes ", ") named (codes " and ") (decimal (count - 2)) (codes " more") ∙ sym (ap (others_by named count) (lt-ltb 2 count many))

-- STACKS

-- the kinds, the first service and the others
pub met-is : (services : List (List ℕ)) (met : Met) (first : List ℕ) → first ≡ text_at services met.first
    → codes " (" ++ kinds_text met.kinds ++ codes "; " ++ shown_name first ++ others_if_any services met ++ codes ")" ≡ met_text services met
unfolding met_text
met-is services met first e = rw e refl
