-- A line whose rule has no fault and no difference is read as that rule.
use Rattle.std.proofs.Common.{◌≡◌, ◌&&◌, ◌++◌, ◌∙◌, ℕ, Bool, true, false, not, List, [], ◌∷◌, map, cond, eqb, ap, sym, refl}
use Rattle.std.proofs.Common.{Option, Some, None, Result, Ok, Err, codes}
use Rattle.std.specs.List.{list_any}
use Rattle.std.specs.Option.{option_map_or}
use Rattle.std.specs.Char.{is_ascii_uppercase, to_ascii_lowercase}
use Rattle.pam_codes.specs.Code.{same_name}
use Rattle.pam_codes.specs.Control.{Pairs, actions_of, bracket_actions, control_of, keyword_actions, keyword_pairs, keywords, token_actions}
use Rattle.pam_codes.specs.Tokens.{tokens_of}
use Rattle.pam_codes.specs.declared.action.Action.{Action}
use Rattle.pam_codes.specs.declared.error.ControlError.{ControlError}
use Rattle.pam_codes.specs.declared.error.ControlError.TheVariants.{BadControl}
use Rattle.pam_conf.specs.Rule.{◌>>=◌, RuleBody, Module, Include, Sub, body_of, control_body_of, control_or_fault, file_name_of}
use Rattle.pam_conf.specs.Rule.{in_rule, module_of, target_of, without_folder_of}
use Rattle.pam_conf.specs.Words.{is_inside, text_of_word, unescaped}
use Rattle.pam_conf.specs.declared.error.FaultKind.{FaultKind}
use Rattle.pam_conf.specs.declared.error.FaultKind.TheVariants as faults
use Rattle.pam_conf.specs.declared.rule.Form.{Form}
use Rattle.pam_conf.specs.declared.rule.Form.TheVariants.{Dir, Single}
use Rattle.pam_released.specs.Control.{released_actions}
use Rattle.pam_released.specs.Findings.{has_capital, has_empty_name, is_no_name, module_name}
use Rattle.pam_released.specs.Rules.{Body, at_include_reading, control_actions, control_body, include_body, module_body, reads, substack_body}
use Rattle.pam_released.proofs.Controls.{controls_alike}
use Rattle.pam_released.proofs.Insides.{bracket_read, inside_lower, inside_plain, no_keyword}
use Rattle.pam_released.proofs.Words.{bracket_text, plain_text}
use Rattle.pam_released.specs.declared.release.Release.{Release}

-- a word as it is written
pub data Spelled : List ℕ → Type 0 where
  brackets : (inside : List ℕ) → is_inside false inside ≡ true → Spelled (91 ∷ inside ++ 93 ∷ [])
  bare : (b : ℕ) (bs : List ℕ) → eqb b 91 ≡ false → Spelled (b ∷ bs)

abbrev pub AllSpelled : List (List ℕ) → Type 0
AllSpelled [] = Unit {0}
AllSpelled (word ∷ words) = Spelled word × AllSpelled words

-- a value that comes after another one
pub record After {A B : Type 0} (r : Result A FaultKind) (f : A → Result B FaultKind) (y : B) : Type 0 where
  pub x : A
  pub is : r ≡ Ok x
  pub then : f x ≡ Ok y

pub bound : {A B : Type 0} (r : Result A FaultKind) (f : A → Result B FaultKind) (y : B) → (r >>= f) ≡ Ok y → After r f y
bound (Ok x) f y h = record { x = x; is = refl; then = h }
bound (Err e) f y h = absurd (cc)

-- TARGETS

name_is : (text name : List ℕ) → file_name_of text ≡ Ok name → text ≡ name
name_is [] name h = absurd (cc)
name_is (b ∷ bs) name h =
    elim (list_any (λ c. eqb c 47) (b ∷ bs)) as (λ (t : Bool). cond t (Err faults.BadTarget) (Ok (b ∷ bs)) ≡ Ok name → (b ∷ bs) ≡ name) [
      | true ↦ λ e. absurd (cc)
      | false ↦ λ e. cc
    ] h

pub include_alike : (form : Form) (words : List (List ℕ)) (t : List ℕ) → target_of form words ≡ Ok t →
    include_body (map text_of_word words) ≡ Body (Include t)
unfolding target_of
include_alike Single words t h = absurd (cc)
include_alike Dir [] t h = absurd (cc)
include_alike Dir (word ∷ words) t h = ap (λ (n : List ℕ). Body (Include n)) (name_is (without_folder_of (text_of_word word)) t h)

pub at_include_alike : (form : Form) (words : List (List ℕ)) (t : List ℕ) → target_of form words ≡ Ok t →
    at_include_reading None false (map text_of_word words) ≡ reads None None false (Include t)
unfolding target_of
at_include_alike Single words t h = absurd (cc)
at_include_alike Dir [] t h = absurd (cc)
at_include_alike Dir (word ∷ words) t h =
    ap (λ (n : List ℕ). reads None None false (Include n)) (name_is (without_folder_of (text_of_word word)) t h)

-- MODULES, AND SUBSTACKS

last_false : (t u : Bool) → t ≡ false → (not t && u) ≡ false → u ≡ false
last_false true u e h = absurd (cc)
last_false false u e h = h

module_alike : (actions : List Action) (control : List ℕ) (words : List (List ℕ)) (body : RuleBody) →
    module_of actions words ≡ Ok body → same_name (codes "include") control ≡ false → has_empty_name (control ∷ words) ≡ false →
    module_body actions (map text_of_word words) ≡ Body body
module_alike actions control [] body h n e = absurd (cc)
module_alike actions control (path ∷ arguments) body h n e =
    let named : is_no_name (module_name (text_of_word path)) ≡ false =
    last_false (same_name (codes "include") control) (is_no_name (module_name (text_of_word path))) n e in
    let is : Module actions (text_of_word path) (map text_of_word arguments) ≡ body = cc in
    rw named (ap Body is)

substack_alike : (form : Form) (control : List ℕ) (words : List (List ℕ)) (t : List ℕ) →
    target_of form words ≡ Ok t → same_name (codes "include") control ≡ false → has_empty_name (control ∷ words) ≡ false →
    substack_body (map text_of_word words) ≡ Body (Sub t)
unfolding target_of
substack_alike Single control words t h n e = absurd (cc)
substack_alike Dir control [] t h n e = absurd (cc)
substack_alike Dir control (target ∷ words) t h n e =
    let named : is_no_name (module_name (text_of_word target)) ≡ false =
    last_false (same_name (codes "include") control) (is_no_name (module_name (text_of_word target))) n e in
    rw named (ap (λ (n : List ℕ). Body (Sub n)) (name_is (without_folder_of (text_of_word target)) t h))

-- CONTROLS

checked : (r : Result (List Action) ControlError) (actions : List Action) → in_rule r ≡ Ok actions → r ≡ Ok actions
checked (Ok a) actions h = let is : a ≡ actions = cc in ap Ok is
checked (Err e) actions h = absurd (cc)

keyword_is : (o : Option Pairs) (actions other : List Action) → option_map_or (λ ps. Ok (actions_of ps)) o (Err BadControl) ≡ Ok actions →
    option_map_or actions_of o other ≡ actions
keyword_is None actions other h = absurd (cc)
keyword_is (Some ps) actions other h = cc

bare_actions : (release : Release) (b : ℕ) (bs : List ℕ) (actions : List Action) → eqb b 91 ≡ false → control_of (b ∷ bs) ≡ Ok actions →
    control_actions release (b ∷ bs) ≡ actions
unfolding control_of
bare_actions release b bs actions n h =
    keyword_is (keyword_pairs (b ∷ bs)) actions (released_actions release (b ∷ bs))
    (sym (ap (λ (t : Bool). cond t (bracket_actions bs) (keyword_actions (b ∷ bs))) n) ∙ h)

no_keyword_pairs : (w : List ℕ) → same_name (codes "required") w ≡ false → same_name (codes "requisite") w ≡ false →
    same_name (codes "sufficient") w ≡ false → same_name (codes "optional") w ≡ false → keyword_pairs w ≡ None
unfolding keyword_pairs keywords
no_keyword_pairs w a b c d = rw (a, b, c, d) refl

pub record Inside (release : Release) (inside : List ℕ) (actions : List Action) : Type 0 where
  pub text : unescaped inside ≡ inside
  pub acts : control_actions release inside ≡ actions
  pub include : same_name (codes "include") inside ≡ false
  pub substack : same_name (codes "substack") inside ≡ false

inside_read : (release : Release) (inside : List ℕ) (actions : List Action) → is_inside false inside ≡ true → control_of (91 ∷ inside ++ 93 ∷ []) ≡ Ok actions →
    list_any is_ascii_uppercase (inside ++ 93 ∷ []) ≡ false → Inside release inside actions
inside_read release inside actions i h capital =
    let read : token_actions (tokens_of inside) ≡ Ok actions = bracket_read inside actions i h in
    let low : map to_ascii_lowercase inside ≡ inside = inside_lower inside capital in
    record {
      text = inside_plain inside actions read;
      acts = ap (λ (o : Option Pairs). option_map_or actions_of o (released_actions release inside)) (no_keyword_pairs inside
          (no_keyword inside actions read low (codes "required") 114 refl refl refl refl)
          (no_keyword inside actions read low (codes "requisite") 114 refl refl refl refl)
          (no_keyword inside actions read low (codes "sufficient") 115 refl refl refl refl)
          (no_keyword inside actions read low (codes "optional") 111 refl refl refl refl)) ∙ controls_alike release inside actions low read;
      include = no_keyword inside actions read low (codes "include") 105 refl refl refl refl;
      substack = no_keyword inside actions read low (codes "substack") 115 refl refl refl refl;
    }

-- the words after the kind, where the control is not `include` or `substack`
other_control : (release : Release) (text : List ℕ) (words : List (List ℕ)) → same_name (codes "include") text ≡ false →
    same_name (codes "substack") text ≡ false → control_body release (text ∷ words) ≡ module_body (control_actions release text) words
unfolding control_body
other_control release text words i u = rw (i, u) refl

is_include : (release : Release) (text : List ℕ) (words : List (List ℕ)) → same_name (codes "include") text ≡ true →
    control_body release (text ∷ words) ≡ include_body words
unfolding control_body
is_include release text words i = rw i refl

is_substack : (release : Release) (text : List ℕ) (words : List (List ℕ)) → same_name (codes "include") text ≡ false →
    same_name (codes "substack") text ≡ true → control_body release (text ∷ words) ≡ substack_body words
unfolding control_body
is_substack release text words i u = rw (i, u) refl

-- the same by the manual pages
other_body : (form : Form) (control : List ℕ) (words : List (List ℕ)) → same_name (codes "include") control ≡ false →
    same_name (codes "substack") control ≡ false → body_of form (control ∷ words) ≡ control_body_of control words
unfolding body_of
other_body form control words i u = rw (i, u) refl

body_of_include : (form : Form) (control : List ℕ) (words : List (List ℕ)) → same_name (codes "include") control ≡ true →
    body_of form (control ∷ words) ≡ (target_of form words >>= λ t. Ok (Include t))
unfolding body_of
body_of_include form control words i = rw i refl

body_of_substack : (form : Form) (control : List ℕ) (words : List (List ℕ)) → same_name (codes "include") control ≡ false →
    same_name (codes "substack") control ≡ true → body_of form (control ∷ words) ≡ (target_of form words >>= λ t. Ok (Sub t))
unfolding body_of
body_of_substack form control words i u = rw (i, u) refl

-- a control in brackets is no keyword as it is written
bracket_name : (n b : ℕ) (ns inside : List ℕ) → eqb (to_ascii_lowercase n) 91 ≡ false → same_name (n ∷ ns) (91 ∷ inside) ≡ false
bracket_name n b ns inside h = rw h refl

bracket_alike : (release : Release) (form : Form) (inside : List ℕ) (words : List (List ℕ)) (body : RuleBody) →
    is_inside false inside ≡ true → body_of form ((91 ∷ inside ++ 93 ∷ []) ∷ words) ≡ Ok body →
    has_capital ((91 ∷ inside ++ 93 ∷ []) ∷ words) ≡ false → has_empty_name ((91 ∷ inside ++ 93 ∷ []) ∷ words) ≡ false →
    control_body release (text_of_word (91 ∷ inside ++ 93 ∷ []) ∷ map text_of_word words) ≡ Body body
bracket_alike release form inside words body i h capital empty =
    let raw : List ℕ = 91 ∷ inside ++ 93 ∷ [] in
    let b = bound (control_or_fault (91 ∷ inside ++ 93 ∷ [])) (λ a. module_of a words) body
    (sym (other_body form (91 ∷ inside ++ 93 ∷ []) words refl refl) ∙ h) in
    let r = inside_read release inside b.x i (checked (control_of (91 ∷ inside ++ 93 ∷ [])) b.x b.is) capital in
    ap (λ (t : List ℕ). control_body release (t ∷ map text_of_word words)) (bracket_text inside ∙ r.text)
    ∙ other_control release inside (map text_of_word words) r.include r.substack
    ∙ ap (λ (a : List Action). module_body a (map text_of_word words)) r.acts
    ∙ module_alike b.x (91 ∷ inside ++ 93 ∷ []) words body b.then refl empty

bare_alike : (release : Release) (form : Form) (c : ℕ) (cs : List ℕ) (words : List (List ℕ)) (body : RuleBody) →
    eqb c 91 ≡ false → body_of form ((c ∷ cs) ∷ words) ≡ Ok body → has_empty_name ((c ∷ cs) ∷ words) ≡ false →
    control_body release ((c ∷ cs) ∷ map text_of_word words) ≡ Body body
bare_alike release form c cs words body n h empty =
    elim (same_name (codes "include") (c ∷ cs)) as (λ (t : Bool). same_name (codes "include") (c ∷ cs) ≡ t →
    control_body release ((c ∷ cs) ∷ map text_of_word words) ≡ Body body) [
      | true ↦ λ i.
          let b = bound (target_of form words) (λ t. Ok (Include t)) body (sym (body_of_include form (c ∷ cs) words i) ∙ h) in
          let is : Include b.x ≡ body = cc b.then in
          is_include release (c ∷ cs) (map text_of_word words) i ∙ include_alike form words b.x b.is
          ∙ ap Body is
      | false ↦ λ i. elim (same_name (codes "substack") (c ∷ cs)) as (λ (t : Bool). same_name (codes "substack") (c ∷ cs) ≡ t →
          control_body release ((c ∷ cs) ∷ map text_of_word words) ≡ Body body) [
            | true ↦ λ u.
                let b = bound (target_of form words) (λ t. Ok (Sub t)) body (sym (body_of_substack form (c ∷ cs) words i u) ∙ h) in
                let is : Sub b.x ≡ body = cc b.then in
                is_substack release (c ∷ cs) (map text_of_word words) i u ∙ substack_alike form (c ∷ cs) words b.x b.is i empty
                ∙ ap Body is
            | false ↦ λ u.
                let b = bound (control_or_fault (c ∷ cs)) (λ a. module_of a words) body (sym (other_body form (c ∷ cs) words i u) ∙ h) in
                other_control release (c ∷ cs) (map text_of_word words) i u
                ∙ ap (λ (a : List Action). module_body a (map text_of_word words)) (bare_actions release c cs b.x n (checked (control_of (c ∷ cs)) b.x b.is))
                ∙ module_alike b.x (c ∷ cs) words body b.then i empty
          ] refl
    ] refl

pub control_alike : (release : Release) (form : Form) (words : List (List ℕ)) (body : RuleBody) → AllSpelled words →
    body_of form words ≡ Ok body → has_capital words ≡ false → has_empty_name words ≡ false →
    control_body release (map text_of_word words) ≡ Body body
unfolding body_of
control_alike release form [] body sp h c e = absurd (cc)
control_alike release form (control ∷ words) body sp h c e = by_spelling control sp.0 h c e
  where
    by_spelling : (w : List ℕ) → Spelled w → body_of form (w ∷ words) ≡ Ok body → has_capital (w ∷ words) ≡ false → has_empty_name (w ∷ words) ≡ false →
        control_body release (text_of_word w ∷ map text_of_word words) ≡ Body body
    by_spelling w (brackets inside i) g cap emp = bracket_alike release form inside words body i g cap emp
    by_spelling w (bare b bs n) g cap emp =
        ap (λ (t : List ℕ). control_body release (t ∷ map text_of_word words)) (plain_text b bs n) ∙ bare_alike release form b bs words body n g emp
