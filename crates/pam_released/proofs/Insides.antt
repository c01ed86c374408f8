-- A control in brackets that has no fault: its inside has no `]` and is no keyword.
use Rattle.std.proofs.Common.{◌≡◌, ◌+◌, ◌&&◌, ◌||◌, ◌++◌, ◌∙◌, ℕ, Bool, true, false, not, List, [], ◌∷◌, map, take, length, cond, eqb, ap, sym, refl}
use Rattle.std.proofs.Common.{Option, Some, None, Result, Ok, Err, arith, add-one, codes}
use Rattle.std.specs.Prelude.{if◌then◌else◌, ◌==◌, nat_le, nat_lt}
use Rattle.std.specs.List.{list_all, list_any, onto_first, position}
use Rattle.std.specs.Option.{option_map, option_map_or}
use Rattle.std.specs.Char.{is_ascii_digit, is_ascii_uppercase, to_ascii_lowercase}
use Rattle.std.proofs.lemmas.Bool.{agree_below, agree_below_at, and_parts, or_parts, eqb-true, le-leb, ltb-true, ltb-false}
use Rattle.std.proofs.lemmas.List.{length_push}
use Rattle.std.proofs.lemmas.Slice.Eq.{bytes_eq-Decides}
use Rattle.pam_text.specs.Blanks.{is_text_blank}
use Rattle.pam_codes.specs.Action.{action_named, decimal_value, is_jump_text}
use Rattle.pam_codes.specs.Code.{all_codes, code_names, same_name}
use Rattle.pam_codes.specs.Control.{◌>>=◌, Pairs, actions_of, bracket_actions, closed_actions, closing_at, control_of, pairs_of, token_actions}
use Rattle.pam_codes.specs.Subject.{subject_of, other_subject}
use Rattle.pam_codes.specs.Tokens.{begins_word, tokens_of}
use Rattle.pam_codes.specs.declared.action.Action.{Action}
use Rattle.pam_codes.specs.declared.action.Action.TheVariants.{Ignore, Ok as Accept, Done, Bad, Die, Reset, Jump}
use Rattle.pam_codes.specs.declared.error.ControlError.{ControlError}
use Rattle.pam_codes.specs.declared.error.ControlError.TheVariants.{BadAction, BadControl, BadValue, OpenBracket, ZeroJump}
use Rattle.pam_codes.specs.declared.subject.Subject.{Subject}
use Rattle.pam_codes.specs.declared.subject.Subject.TheVariants.{Named, Incomplete, Default}
use Rattle.pam_codes.proofs.CodeNames.{first_code, has_name}
use Rattle.pam_codes.proofs.CodeSets.{all_codes-within}
use Rattle.pam_conf.specs.Words.{is_inside, unescaped}
use Rattle.pam_released.specs.Control.{name_of}
use Rattle.pam_released.proofs.ControlNames.{found, lower_is}
use Rattle.pam_released.proofs.Controls.{one_fails, parts_of, two_fail}

-- BYTES

abbrev pub has : ℕ → List ℕ → Bool
has k bs = list_any (λ b. eqb b k) bs

differs : (b k : ℕ) → is_text_blank b ≡ true → is_text_blank k ≡ false → eqb b k ≡ false
differs b k h n =
    elim (eqb b k) as (λ (t : Bool). eqb b k ≡ t → t ≡ false) [
      | true ↦ λ e. let is : b ≡ k = eqb-true b k e in let wrong : true ≡ false = sym h ∙ ap is_text_blank is ∙ n in absurd (cc)
      | false ↦ λ e. refl
    ] refl

or_grouped : (t u v : Bool) → ((t || u) || v) ≡ (t || (u || v))
or_grouped true u v = refl
or_grouped false u v = refl

has_onto : (k b : ℕ) (ts : List (List ℕ)) → list_any (has k) (onto_first b ts) ≡ (eqb b k || list_any (has k) ts)
has_onto k b [] = or_grouped (eqb b k) false false
has_onto k b (t ∷ ts) = or_grouped (eqb b k) (has k t) (list_any (has k) ts)

-- a byte that is no blank is in a text if it is in one of its tokens
pub token_bytes : (k : ℕ) → is_text_blank k ≡ false → (t : List ℕ) → list_any (has k) (tokens_of t) ≡ has k t
unfolding tokens_of
token_bytes k n [] = refl
token_bytes k n (b ∷ bs) =
    elim (is_text_blank b) as (λ (u : Bool). is_text_blank b ≡ u → list_any (has k) (cond u (tokens_of bs)
    (cond (eqb b 61) ((61 ∷ []) ∷ tokens_of bs) (cond (begins_word bs) (onto_first b (tokens_of bs)) ((b ∷ []) ∷ tokens_of bs))))
    ≡ (eqb b k || has k bs)) [
      | true ↦ λ e. token_bytes k n bs ∙ ap (λ (u : Bool). u || has k bs) (sym (differs b k e n))
      | false ↦ λ e. elim (eqb b 61) as (λ (u : Bool). eqb b 61 ≡ u → list_any (has k)
          (cond u ((61 ∷ []) ∷ tokens_of bs) (cond (begins_word bs) (onto_first b (tokens_of bs)) ((b ∷ []) ∷ tokens_of bs)))
          ≡ (eqb b k || has k bs)) [
            | true ↦ λ f. or_grouped (eqb 61 k) false (list_any (has k) (tokens_of bs)) ∙ ap (λ (u : Bool). eqb 61 k || u) (token_bytes k n bs)
                ∙ ap (λ (c : ℕ). eqb c k || has k bs) (sym (eqb-true b 61 f))
            | false ↦ λ f. elim (begins_word bs) as (λ (u : Bool). list_any (has k) (cond u (onto_first b (tokens_of bs)) ((b ∷ []) ∷ tokens_of bs))
                ≡ (eqb b k || has k bs)) [
                  | true ↦ has_onto k b (tokens_of bs) ∙ ap (λ (u : Bool). eqb b k || u) (token_bytes k n bs)
                  | false ↦ or_grouped (eqb b k) false (list_any (has k) (tokens_of bs)) ∙ ap (λ (u : Bool). eqb b k || u) (token_bytes k n bs)
                ]
          ] refl
    ] refl

-- `]` and `=` are no letters
lower_bracket : (b : ℕ) → eqb (to_ascii_lowercase b) 93 ≡ eqb b 93
lower_bracket b =
    elim (nat_lt b 65) as (λ (t : Bool). nat_lt b 65 ≡ t → eqb (cond t b (cond (nat_lt b 91) (b + 32) b)) 93 ≡ eqb b 93) [
      | true ↦ λ e. refl
      | false ↦ λ e. elim (nat_lt b 91) as (λ (t : Bool). nat_lt b 91 ≡ t → eqb (cond t (b + 32) b) 93 ≡ eqb b 93) [
        | true ↦ λ f. no_number (b + 32) 93 (omega (arith, ltb-false b 65 e)) ∙ sym (no_number b 93 (omega (arith, ltb-true b 91 f)))
        | false ↦ λ f. refl
      ] refl
    ] refl
  where
    no_number : (x y : ℕ) → (x ≡ y → ⊥) → eqb x y ≡ false
    no_number x y n = elim (eqb x y) as (λ (t : Bool). eqb x y ≡ t → t ≡ false) [ true ↦ λ e. absurd (n (eqb-true x y e)) | false ↦ λ e. refl ] refl

bracket_lower : (bs : List ℕ) → has 93 (map to_ascii_lowercase bs) ≡ has 93 bs
bracket_lower [] = refl
bracket_lower (b ∷ bs) =
    ap (λ (t : Bool). t || has 93 (map to_ascii_lowercase bs)) (lower_bracket b) ∙ ap (λ (t : Bool). eqb b 93 || t) (bracket_lower bs)

same_has : (n w : List ℕ) → same_name n w ≡ true → has 93 w ≡ has 93 n
same_has n w h =
    let same : map to_ascii_lowercase n ≡ map to_ascii_lowercase w = (bytes_eq-Decides (map to_ascii_lowercase n) (map to_ascii_lowercase w)).0 h in
    sym (bracket_lower w) ∙ ap (has 93) (sym same) ∙ bracket_lower n

-- NAMES AND ACTIONS WITHOUT `]`

no_brackets : agree_below (λ c. has 93 (name_of c)) (λ c. false) 31 ≡ true
unfolding code_names
no_brackets = refl

code_plain : (w : List ℕ) (k : ℕ) → position (λ n. same_name n w) code_names ≡ Some k → has 93 w ≡ false
code_plain w k h =
    let at = found (has_name w) all_codes k all_codes-within (first_code w ∙ h) in
    same_has (name_of k) w at.0 ∙ agree_below_at (λ c. has 93 (name_of c)) (λ c. false) 31 k no_brackets at.1

subject_plain : (w : List ℕ) (s : Subject) → subject_of w ≡ Ok s → has 93 w ≡ false
unfolding subject_of
subject_plain w s h =
    elim (position (λ n. same_name n w) code_names) as (λ (o : Option ℕ). position (λ n. same_name n w) code_names ≡ o →
    option_map_or (λ n. Ok (Named n)) o (other_subject w) ≡ Ok s → has 93 w ≡ false) [
      | None ↦ λ e f. elim (same_name (codes "incomplete") w) as (λ (t : Bool). same_name (codes "incomplete") w ≡ t →
          cond t (Ok Incomplete) (cond (same_name (codes "default") w) (Ok Default) (Err BadValue)) ≡ Ok s → has 93 w ≡ false) [
            | true ↦ λ i g. same_has (codes "incomplete") w i
            | false ↦ λ i g. elim (same_name (codes "default") w) as (λ (t : Bool). same_name (codes "default") w ≡ t →
                cond t (Ok Default) (Err BadValue) ≡ Ok s → has 93 w ≡ false) [
                  | true ↦ λ j k. same_has (codes "default") w j
                  | false ↦ λ j k. absurd (cc)
                ] refl g
          ] refl f
      | Some n ↦ λ e f. code_plain w n e
    ] refl h

plain_or : (n w : List ℕ) (y x : Action) (more : Result Action ControlError) → has 93 n ≡ false →
    (if same_name n w then Ok y else more) ≡ Ok x → (more ≡ Ok x → has 93 w ≡ false) → has 93 w ≡ false
plain_or n w y x more none h f =
    elim (same_name n w) as (λ (t : Bool). same_name n w ≡ t → cond t (Ok y) more ≡ Ok x → has 93 w ≡ false) [
      | true ↦ λ e g. same_has n w e ∙ none
      | false ↦ λ e g. f g
    ] refl h

digit_plain : (d : ℕ) → is_ascii_digit d ≡ true → eqb d 93 ≡ false
digit_plain d h =
    elim (eqb d 93) as (λ (t : Bool). eqb d 93 ≡ t → t ≡ false) [
      | true ↦ λ e. let is : d ≡ 93 = eqb-true d 93 e in let wrong : false ≡ true = rw is at h in absurd (cc)
      | false ↦ λ e. refl
    ] refl

digits_plain : (w : List ℕ) → list_all is_ascii_digit w ≡ true → has 93 w ≡ false
digits_plain [] h = refl
digits_plain (d ∷ w) h = let two = and_parts (is_ascii_digit d) (list_all is_ascii_digit w) h in rw (digit_plain d two.0) (digits_plain w two.1)

jump_plain : (w : List ℕ) (x : Action) →
    (if not (is_jump_text w) then Err BadAction else if decimal_value w == 0 then Err ZeroJump else Ok (Jump (decimal_value w))) ≡ Ok x → has 93 w ≡ false
jump_plain w x h =
    elim (is_jump_text w) as (λ (t : Bool). is_jump_text w ≡ t →
    cond (not t) (Err BadAction) (cond (eqb (decimal_value w) 0) (Err ZeroJump) (Ok (Jump (decimal_value w)))) ≡ Ok x → has 93 w ≡ false) [
      | false ↦ λ e f. absurd (cc)
      | true ↦ λ e f. digits_plain w (and_parts (nat_lt 0 (length w) && nat_lt (length w) 10) (list_all is_ascii_digit w) e).1
    ] refl h

action_plain : (w : List ℕ) (x : Action) → action_named w ≡ Ok x → has 93 w ≡ false
unfolding action_named
action_plain w x h =
    plain_or (codes "ignore") w Ignore x _ refl h (λ h1.
    plain_or (codes "bad") w Bad x _ refl h1 (λ h2.
    plain_or (codes "die") w Die x _ refl h2 (λ h3.
    plain_or (codes "ok") w Accept x _ refl h3 (λ h4.
    plain_or (codes "done") w Done x _ refl h4 (λ h5.
    plain_or (codes "reset") w Reset x _ refl h5 (λ h6. jump_plain w x h6))))))

pairs_plain : (ts : List (List ℕ)) (ps : Pairs) → pairs_of ts ≡ Ok ps → list_any (has 93) ts ≡ false
unfolding pairs_of
pairs_plain [] ps h = refl
pairs_plain (a ∷ []) ps h = absurd (one_fails (subject_of a) ps h)
pairs_plain (a ∷ b ∷ []) ps h = absurd (two_fail (subject_of a) _ ps h)
pairs_plain (a ∷ b ∷ c ∷ rest) ps h =
    let p = parts_of a b c rest ps h in
    rw (subject_plain a p.subject p.named, p.equals, action_plain c p.action p.acts) (pairs_plain rest p.others p.more)

-- THE INSIDE

unescaped_plain : (t : List ℕ) → has 93 t ≡ false → unescaped t ≡ t
unfolding unescaped
unescaped_plain [] h = refl
unescaped_plain (b ∷ []) h = refl
unescaped_plain (b ∷ c ∷ bs) h =
    let rest = or_parts (eqb b 93) (has 93 (c ∷ bs)) h in
    let next = or_parts (eqb c 93) (has 93 bs) rest.1 in
    ap (λ (t : Bool). cond (eqb b 92 && t) (93 ∷ unescaped bs) (b ∷ unescaped (c ∷ bs))) next.0
    ∙ ap (λ (t : Bool). cond t (93 ∷ unescaped bs) (b ∷ unescaped (c ∷ bs))) (never (eqb b 92))
    ∙ ap (λ (r : List ℕ). b ∷ r) (unescaped_plain (c ∷ bs) rest.1)
  where
    never : (t : Bool) → (t && false) ≡ false
    never true = refl
    never false = refl

pairs_read : (ts : List (List ℕ)) (actions : List Action) → token_actions ts ≡ Ok actions → (ps : Pairs) × (pairs_of ts ≡ Ok ps)
pairs_read ts actions h =
    elim (pairs_of ts) as (λ (r : Result Pairs ControlError). pairs_of ts ≡ r → (r >>= λ ps. Ok (actions_of ps)) ≡ Ok actions →
    (ps : Pairs) × (pairs_of ts ≡ Ok ps)) [
      | Ok ps ↦ λ e f. (ps, e)
      | Err e ↦ λ e f. absurd (cc)
    ] refl h

pub inside_plain : (inside : List ℕ) (actions : List Action) → token_actions (tokens_of inside) ≡ Ok actions → unescaped inside ≡ inside
inside_plain inside actions h =
    let read = pairs_read (tokens_of inside) actions h in
    unescaped_plain inside (sym (token_bytes 93 refl inside) ∙ pairs_plain (tokens_of inside) read.0 read.1)

-- no pairs, or an `=`
pairs_equal : (ts : List (List ℕ)) (ps : Pairs) → pairs_of ts ≡ Ok ps → (k : ℕ) → list_any (has k) ts ≡ true → list_any (has 61) ts ≡ true
unfolding pairs_of
pairs_equal [] ps h k some = absurd (cc)
pairs_equal (a ∷ []) ps h k some = absurd (one_fails (subject_of a) ps h)
pairs_equal (a ∷ b ∷ []) ps h k some = absurd (two_fail (subject_of a) _ ps h)
pairs_equal (a ∷ b ∷ c ∷ rest) ps h k some =
    let p = parts_of a b c rest ps h in
    rw p.equals (elim (has 61 a) as (λ (t : Bool). (t || (true || (has 61 c || list_any (has 61) rest))) ≡ true) [ true ↦ refl | false ↦ refl ])

-- a name without `=` is not the inside
pub no_keyword : (inside : List ℕ) (actions : List Action) → token_actions (tokens_of inside) ≡ Ok actions → map to_ascii_lowercase inside ≡ inside →
    (n : List ℕ) (k : ℕ) → is_text_blank k ≡ false → has k n ≡ true → has 61 n ≡ false → map to_ascii_lowercase n ≡ n → same_name n inside ≡ false
no_keyword inside actions h low n k dark some none lower =
    elim (same_name n inside) as (λ (t : Bool). same_name n inside ≡ t → t ≡ false) [
      | true ↦ λ e.
          let is : n ≡ inside = lower_is n inside low lower e in
          let read = pairs_read (tokens_of inside) actions h in
          let there : list_any (has k) (tokens_of inside) ≡ true = token_bytes k dark inside ∙ ap (has k) (sym is) ∙ some in
          let equal : list_any (has 61) (tokens_of inside) ≡ true = pairs_equal (tokens_of inside) read.0 read.1 k there in
          let wrong : true ≡ false = sym equal ∙ token_bytes 61 refl inside ∙ ap (has 61) (sym is) ∙ none in absurd (cc)
      | false ↦ λ e. refl
    ] refl

-- READ BY THE MANUAL PAGES

closes : (e : Bool) (inside : List ℕ) → is_inside e inside ≡ true → closing_at e (inside ++ 93 ∷ []) ≡ Some (length inside)
unfolding is_inside closing_at
closes true [] h = absurd (cc)
closes false [] h = refl
closes e (b ∷ bs) h =
    let two = and_parts (not (eqb b 93) || e) (is_inside (eqb b 92) bs) h in
    ap (λ (t : Bool). cond t (Some 0) (option_map (λ n. n + 1) (closing_at (eqb b 92) (bs ++ 93 ∷ [])))) (goes_past (eqb b 93) e two.0)
    ∙ ap (option_map (λ n. n + 1)) (closes (eqb b 92) bs two.1) ∙ ap (λ (n : ℕ). Some n) (add-one (length bs))
  where
    goes_past : (t u : Bool) → (not t || u) ≡ true → (t && not u) ≡ false
    goes_past true true k = refl
    goes_past true false k = sym k
    goes_past false u k = refl

taken : (bs rest : List ℕ) → take (length bs) (bs ++ rest) ≡ bs
taken [] rest = refl
taken (c ∷ bs) rest = ap (λ (r : List ℕ). c ∷ r) (taken bs rest)

pub bracket_read : (inside : List ℕ) (actions : List Action) → is_inside false inside ≡ true → control_of (91 ∷ inside ++ 93 ∷ []) ≡ Ok actions →
    token_actions (tokens_of inside) ≡ Ok actions
unfolding control_of bracket_actions
bracket_read inside actions i h =
    let whole : nat_lt (length inside + 1) (length (inside ++ 93 ∷ [])) ≡ false = not_less (length inside + 1) _ (length_push inside 93) in
    sym (ap (λ (o : Option ℕ). option_map_or (λ n. closed_actions n (inside ++ 93 ∷ [])) o (Err OpenBracket)) (closes false inside i)
    ∙ ap (λ (t : Bool). cond t (Err BadControl) (token_actions (tokens_of (take (length inside) (inside ++ 93 ∷ []))))) whole
    ∙ ap (λ (r : List ℕ). token_actions (tokens_of r)) (taken inside (93 ∷ []))) ∙ h
  where
    not_less : (m n : ℕ) → n ≡ m → nat_lt m n ≡ false
    not_less m n e = elim (nat_lt m n) as (λ (t : Bool). nat_lt m n ≡ t → t ≡ false) [
      | true ↦ λ f. absurd (omega (arith, ltb-true m n f))
      | false ↦ λ f. refl
    ] refl

-- WITHOUT CAPITALS

lower_byte : (b : ℕ) → is_ascii_uppercase b ≡ false → to_ascii_lowercase b ≡ b
lower_byte b h =
    elim (nat_lt b 65) as (λ (t : Bool). nat_lt b 65 ≡ t → cond t b (cond (nat_lt b 91) (b + 32) b) ≡ b) [
      | true ↦ λ e. refl
      | false ↦ λ e. elim (nat_lt b 91) as (λ (t : Bool). nat_lt b 91 ≡ t → cond t (b + 32) b ≡ b) [
        | true ↦ λ f.
            let low : nat_le 65 b ≡ true = le-leb 65 b (ltb-false b 65 e) in
            let high : nat_le b 90 ≡ true = le-leb b 90 (omega (arith, ltb-true b 91 f)) in
            let wrong : true ≡ false = sym (rw (low, high) refl) ∙ h in absurd (cc)
        | false ↦ λ f. refl
      ] refl
    ] refl

lower_text : (bs rest : List ℕ) → list_any is_ascii_uppercase (bs ++ rest) ≡ false → map to_ascii_lowercase bs ≡ bs
lower_text [] rest h = refl
lower_text (b ∷ bs) rest h =
    let two = or_parts (is_ascii_uppercase b) (list_any is_ascii_uppercase (bs ++ rest)) h in
    ap (λ (c : ℕ). c ∷ map to_ascii_lowercase bs) (lower_byte b two.0) ∙ ap (λ (r : List ℕ). b ∷ r) (lower_text bs rest two.1)

pub inside_lower : (inside : List ℕ) → list_any is_ascii_uppercase (inside ++ 93 ∷ []) ≡ false → map to_ascii_lowercase inside ≡ inside
inside_lower inside h = lower_text inside (93 ∷ []) h
