-- Rules that are not wanted.
use Rattle.std.proofs.Common.{◌≡◌, ◌∷◌, ◌||◌, [], ℕ, Bool, true, false, List, Result, Ok, Err, Option, Some, None, IsOk, get_or, codes, map, refl, ap, sym, ◌∙◌}
use Rattle.std.proofs.Common.{append-nil, arith, cond, eqb, IsSome}
use Rattle.std.specs.Prelude.{IsOkAnd}
use Rattle.std.specs.Option.{option_map, option_map_or}
use Rattle.std.proofs.lemmas.Bool.{false≢true, eqb-true}
use Rattle.std.proofs.lemmas.Slice.Eq.{bytes_eq-Decides}
use Rattle.std.proofs.lemmas.Str.Ascii.{lowercase-lowercase}
use Rattle.std.specs.Char.{to_ascii_lowercase}
use Rattle.std.specs.Str.{bytes_eq}
use Rattle.pam_codes.specs.Code.{same_name}
use Rattle.pam_codes.specs.Control.{Pairs, actions_of, bracket_actions, control_of, fault_of, keyword_actions, keyword_pairs, keywords}
use Rattle.pam_codes.specs.declared.action.Action.{Action}
use Rattle.pam_codes.specs.declared.error.ControlError.{ControlError}
use Rattle.pam_codes.specs.declared.error.ControlError.TheVariants.{BadControl}
use Rattle.pam_conf.specs.inner.FirstWord.{words_from}
use Rattle.pam_text.proofs.TextSteps.{unequal}
use Rattle.pam_conf.specs.Lines.{at_line, line_rule_of}
use Rattle.pam_conf.specs.Rule.{RuleText, RuleBody, body_of, in_rule, kind_named, module_of, ◌>>=◌}
use Rattle.pam_conf.specs.Rule.{dashed_kind_of, rule_of, first_rule_of, plain_rule_of, kind_rule_of}
use Rattle.pam_conf.specs.Walk.{carries, same_kind}
use Rattle.pam_conf.specs.inner.Wanted.{kind_name, wants, with_rule}
use Rattle.pam_conf.specs.Words.{or_open, text_of_word, words_of, words_or_fault}
use Rattle.pam_conf.specs.declared.error.FaultKind.{FaultKind}
use Rattle.pam_conf.specs.declared.rule.Form.{Form}
use Rattle.pam_conf.specs.declared.rule.Form.TheVariants.{Dir, Single}
use Rattle.pam_conf.specs.declared.rule.Kind.{Kind}
use Rattle.pam_conf.specs.declared.rule.Kind.TheVariants.{Auth, Account, Password, Session}
use Rattle.pam_conf.specs.declared.wanted.Wanted.{Wanted}
use Rattle.pam_conf.specs.declared.wanted.Wanted.TheVariants.{OfKind}

no_fault : (read : Result (List Action) ControlError) (p : List ℕ) (args : List (List ℕ)) → fault_of read ≡ Ok tt →
    IsOk (in_rule read >>= λ actions. module_of actions (p ∷ args))
no_fault (Ok actions) p args h = refl
no_fault (Err e) p args h = absurd (cc)

-- a control that can be read is neither `include` nor `substack`
nothing_read : (o : Option Pairs) → o ≡ None → fault_of (option_map_or (λ ps. Ok (actions_of ps)) o (Err BadControl)) ≡ Ok tt → ⊥
nothing_read None e h = cc
nothing_read (Some ps) e h = cc

module _ (n : List ℕ) (other : (c : List ℕ) → map to_ascii_lowercase c ≡ map to_ascii_lowercase n → keyword_pairs c ≡ None)
    (plain : get_or (map to_ascii_lowercase n) 0 0 ≡ 91 → ⊥) where
  not_read : (c : List ℕ) → map to_ascii_lowercase c ≡ map to_ascii_lowercase n → fault_of (control_of c) ≡ Ok tt → ⊥
  unfolding control_of
  not_read [] e h = nothing_read (keyword_pairs []) (other [] e) h
  not_read (b ∷ bs) e h = elim (eqb b 91) as (λ (t : Bool). eqb b 91 ≡ t → fault_of (cond t (bracket_actions bs) (keyword_actions (b ∷ bs))) ≡ Ok tt → ⊥) [
    | true ↦ λ g k. plain (sym (ap (λ (xs : List ℕ). get_or xs 0 0) e) ∙ ap to_ascii_lowercase (eqb-true b 91 g))
    | false ↦ λ g k. nothing_read (keyword_pairs (b ∷ bs)) (other (b ∷ bs) e) k
  ] refl h

  other_word : (c : List ℕ) → fault_of (control_of c) ≡ Ok tt → same_name n c ≡ false
  other_word c h = elim (same_name n c) as (λ (t : Bool). same_name n c ≡ t → t ≡ false) [
    | true ↦ λ e. absurd (not_read c (sym ((bytes_eq-Decides (map to_ascii_lowercase n) (map to_ascii_lowercase c)).0 e)) h)
    | false ↦ λ e. refl
  ] refl

no_include : (c : List ℕ) → fault_of (control_of c) ≡ Ok tt → same_name (codes "include") c ≡ false
unfolding keyword_pairs keywords
no_include c h = other_word (codes "include") (λ d e. rw e refl) (λ g. omega (arith, g)) c h

no_substack : (c : List ℕ) → fault_of (control_of c) ≡ Ok tt → same_name (codes "substack") c ≡ false
unfolding keyword_pairs keywords
no_substack c h = other_word (codes "substack") (λ d e. rw e refl) (λ g. omega (arith, g)) c h

-- words that call a module
calls_with : (o : Option (List (List ℕ))) (c p : List ℕ) → IsSome o → fault_of (control_of c) ≡ Ok tt → (form : Form) →
    IsOkAnd (or_open (option_map (λ ws. c ∷ ws) (option_map (λ ws. p ∷ ws) o))) (λ words. IsOk (body_of form words))
unfolding body_of
calls_with (Some args) c p s k form = rw (no_include c k, no_substack c k) (no_fault (control_of c) p args k)
calls_with None c p s k form = absurd (false≢true s)

pub calls : (line rest after : List ℕ) (c p : List ℕ) → words_of line ≡ words_from (Some (c, rest)) → words_of rest ≡ words_from (Some (p, after)) →
    IsSome (words_of after) → fault_of (control_of c) ≡ Ok tt → (form : Form) → IsOkAnd (words_or_fault line) (λ words. IsOk (body_of form words))
calls line rest after c p e f s k form = rw (e, f) (calls_with (words_of after) c p s k form)

pub plain_text : (k : List ℕ) → (get_or k 0 0 ≡ 91 → ⊥) → text_of_word k ≡ k
plain_text [] h = refl
plain_text (b ∷ bs) h = rw (unequal b 91 h) refl

-- a rule that is not wanted, with a body that has no fault
module _ (wanted : Wanted) (n : ℕ) (rules : List RuleText) (x : RuleBody → RuleText) (out : (b : RuleBody) → wants wanted (x b) ≡ false) where
  pub left_out : (r : Result RuleBody FaultKind) → IsOk r →
      with_rule wanted rules (at_line n ((r >>= λ body. Ok (x body)) >>= λ y. Ok (Some y))) ≡ Ok rules
  left_out (Ok body) ok = rw (out body) (ap Ok (append-nil rules))
  left_out (Err e) ok = absurd (false≢true ok)

-- a rule of another kind that has no fault
module _ (wanted kind : Kind) (dashed : Bool) (k : List ℕ) (text : text_of_word k ≡ k) (plain : same_name (codes "@include") k ≡ false)
    (named : dashed_kind_of k ≡ Ok (dashed, kind)) (other : same_kind wanted kind ≡ false) where
  other_words : (o : Option (List (List ℕ))) → ((form : Form) → IsOkAnd (or_open o) (λ words. IsOk (body_of form words))) → (n : ℕ) (rules : List RuleText) →
      with_rule (OfKind wanted) rules (at_line n (or_open (option_map (λ ws. k ∷ ws) o) >>= rule_of Dir n)) ≡ Ok rules
  unfolding rule_of first_rule_of plain_rule_of kind_rule_of
  other_words (Some ws) ok n rules =
      let x : RuleBody → RuleText = λ body. record { line = n; service = None; kind = Some kind; dashed = dashed; body = body } in
      rw (text, plain, named) (left_out (OfKind wanted) n rules x (λ body. other) (body_of Dir ws) (ok Dir))
  other_words None ok n rules = absurd (ok Dir)

  pub other_kind : (line rest : List ℕ) → words_of line ≡ words_from (Some (k, rest)) →
      ((form : Form) → IsOkAnd (words_or_fault rest) (λ words. IsOk (body_of form words))) → (n : ℕ) (rules : List RuleText) →
      with_rule (OfKind wanted) rules (at_line n (line_rule_of Dir n line)) ≡ Ok rules
  unfolding line_rule_of
  other_kind line rest e ok n rules = rw e (other_words (words_of rest) ok n rules)

-- the same, where the kind is written as most are
named_text : (kind : Kind) → text_of_word (kind_name kind) ≡ kind_name kind
named_text Auth = refl
named_text Account = refl
named_text Password = refl
named_text Session = refl

named_plain : (kind : Kind) → same_name (codes "@include") (kind_name kind) ≡ false
named_plain Auth = refl
named_plain Account = refl
named_plain Password = refl
named_plain Session = refl

named_kind : (kind : Kind) → dashed_kind_of (kind_name kind) ≡ Ok (false, kind)
unfolding dashed_kind_of kind_named
named_kind Auth = refl
named_kind Account = refl
named_kind Password = refl
named_kind Session = refl

pub other_named : (wanted kind : Kind) → same_kind wanted kind ≡ false → (line rest : List ℕ) → words_of line ≡ words_from (Some (kind_name kind, rest)) →
    ((form : Form) → IsOkAnd (words_or_fault rest) (λ words. IsOk (body_of form words))) → (n : ℕ) (rules : List RuleText) →
    with_rule (OfKind wanted) rules (at_line n (line_rule_of Dir n line)) ≡ Ok rules
other_named wanted kind other = other_kind wanted kind false (kind_name kind) (named_text kind) (named_plain kind) (named_kind kind) other

-- a service in lowercase that is not that of a rule
lower_twice : (bs : List ℕ) → map to_ascii_lowercase (map to_ascii_lowercase bs) ≡ map to_ascii_lowercase bs
lower_twice [] = refl
lower_twice (b ∷ bs) = rw (lowercase-lowercase b, lower_twice bs) refl

eq_self : (xs : List ℕ) → bytes_eq xs xs ≡ true
eq_self xs = (bytes_eq-Decides xs xs).1 refl

pub other_name : (s f : List ℕ) → same_name s f ≡ false → bytes_eq s (map to_ascii_lowercase f) ≡ false
other_name s f h = elim (bytes_eq s (map to_ascii_lowercase f)) as (λ (t : Bool). bytes_eq s (map to_ascii_lowercase f) ≡ t → t ≡ false) [
  | true ↦ λ e.
      let same : s ≡ map to_ascii_lowercase f = (bytes_eq-Decides s (map to_ascii_lowercase f)).0 e in
      let twice : map to_ascii_lowercase s ≡ map to_ascii_lowercase f = ap (map to_ascii_lowercase) same ∙ lower_twice f in
      absurd (false≢true (sym h ∙ ap (λ (a : List ℕ). bytes_eq a (map to_ascii_lowercase f)) twice ∙ eq_self (map to_ascii_lowercase f)))
  | false ↦ λ e. refl
] refl

-- a rule of another service that has no fault
module _ (wanted : Wanted) (kind : Kind) (dashed : Bool) (f k : List ℕ) (text : text_of_word f ≡ f) (plain : same_name (codes "@include") f ≡ false)
    (kind_text : text_of_word k ≡ k) (named : dashed_kind_of k ≡ Ok (dashed, kind))
    (other : (x : RuleText) → x.service ≡ Some (map to_ascii_lowercase f) → wants wanted x ≡ false) where
  served_words : (o : Option (List (List ℕ))) → ((form : Form) → IsOkAnd (or_open o) (λ words. IsOk (body_of form words))) → (n : ℕ) (rules : List RuleText) →
      with_rule wanted rules (at_line n (or_open (option_map (λ ws. f ∷ ws) (option_map (λ ws. k ∷ ws) o)) >>= rule_of Single n)) ≡ Ok rules
  unfolding rule_of first_rule_of plain_rule_of kind_rule_of
  served_words (Some ws) ok n rules =
      let x : RuleBody → RuleText = λ body. record { line = n; service = Some (map to_ascii_lowercase f); kind = Some kind; dashed = dashed; body = body } in
      rw (text, plain, kind_text, named) (left_out wanted n rules x (λ body. other (x body) refl) (body_of Single ws) (ok Single))
  served_words None ok n rules = absurd (ok Single)

  pub other_service : (line rest after : List ℕ) → words_of line ≡ words_from (Some (f, rest)) → words_of rest ≡ words_from (Some (k, after)) →
      ((form : Form) → IsOkAnd (words_or_fault after) (λ words. IsOk (body_of form words))) → (n : ℕ) (rules : List RuleText) →
      with_rule wanted rules (at_line n (line_rule_of Single n line)) ≡ Ok rules
  unfolding line_rule_of
  other_service line rest after e g ok n rules = rw (e, g) (served_words (words_of after) ok n rules)

-- neither of two services
pub neither : (s o f : List ℕ) (x : RuleText) → same_name s f ≡ false → same_name o f ≡ false → x.service ≡ Some (map to_ascii_lowercase f) →
    (carries s x || carries o x) ≡ false
neither s o f x h k e = rw (e, other_name s f h, other_name o f k) refl
