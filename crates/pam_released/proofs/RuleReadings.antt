-- A line whose words have no fault and no difference is read as the rule of the manual pages.
use Rattle.std.proofs.Common.{◌≡◌, ◌∙◌, ℕ, Bool, true, false, List, [], ◌∷◌, map, cond, eqb, ap, sym, refl, Option, Some, None, Ok, Err, codes}
use Rattle.std.specs.Option.{option_map_or}
use Rattle.std.specs.Char.{to_ascii_lowercase}
use Rattle.std.specs.Str.{bytes_eq}
use Rattle.std.proofs.lemmas.Bool.{eqb-true}
use Rattle.std.proofs.lemmas.Slice.Eq.{bytes_eq-Decides}
use Rattle.pam_codes.specs.Code.{same_name}
use Rattle.pam_conf.specs.Rule.{◌>>=◌, RuleText, Include, body_of, dashed_kind_of, first_rule_of, include_rule_of, kind_named, kind_or_fault_of}
use Rattle.pam_conf.specs.Rule.{kind_rule_of, plain_rule_of, target_of}
use Rattle.pam_conf.specs.Words.{text_of_word}
use Rattle.pam_conf.specs.declared.error.FaultKind.TheVariants as faults
use Rattle.pam_conf.specs.declared.rule.Form.{Form}
use Rattle.pam_conf.specs.declared.rule.Form.TheVariants.{Dir, Single}
use Rattle.pam_conf.specs.declared.rule.Kind.{Kind}
use Rattle.pam_conf.specs.declared.rule.Kind.TheVariants.{Auth, Account, Password, Session}
use Rattle.pam_released.specs.Findings.{from_control, has_capital, has_empty_name, past_kind}
use Rattle.pam_released.specs.Rules.{at_include_reading, control_body, kind_reading, line_reading, reading_of, rule_reading, typed_reading, undashed}
use Rattle.pam_released.proofs.RuleSteps.{AllSpelled, at_include_alike, bound, control_alike}
use Rattle.pam_released.specs.declared.release.Release.{Release}

-- KINDS

not_include : (n t : List ℕ) → same_name n t ≡ true → bytes_eq (map to_ascii_lowercase (codes "@include")) (map to_ascii_lowercase n) ≡ false →
    same_name (codes "@include") t ≡ false
not_include n t h none =
    let same : map to_ascii_lowercase n ≡ map to_ascii_lowercase t = (bytes_eq-Decides (map to_ascii_lowercase n) (map to_ascii_lowercase t)).0 h in
    ap (bytes_eq (map to_ascii_lowercase (codes "@include"))) (sym same) ∙ none

-- the name of a kind is not `@include`
kind_or : (n t : List ℕ) (k : Kind) (o : Option Kind) (m : Kind) → bytes_eq (map to_ascii_lowercase (codes "@include")) (map to_ascii_lowercase n) ≡ false →
    cond (same_name n t) (Some m) o ≡ Some k → (o ≡ Some k → same_name (codes "@include") t ≡ false) → same_name (codes "@include") t ≡ false
kind_or n t k o m none h f =
    elim (same_name n t) as (λ (u : Bool). same_name n t ≡ u → cond u (Some m) o ≡ Some k → same_name (codes "@include") t ≡ false) [
      | true ↦ λ e g. not_include n t e none
      | false ↦ λ e g. f g
    ] refl h

kind_no_include : (t : List ℕ) (k : Kind) → kind_named t ≡ Some k → same_name (codes "@include") t ≡ false
unfolding kind_named
kind_no_include t k h =
    kind_or (codes "auth") t k _ Auth refl h (λ h1.
    kind_or (codes "account") t k _ Account refl h1 (λ h2.
    kind_or (codes "password") t k _ Password refl h2 (λ h3.
    kind_or (codes "session") t k None Session refl h3 (λ h4. absurd (cc h4)))))

pub record Dashed (kind : List ℕ) (d : Bool) (k : Kind) : Type 0 where
  pub name : List ℕ
  pub split : undashed kind ≡ (d, name)
  pub named : kind_named name ≡ Some k

kind_read : (d : Bool) (name : List ℕ) (p : Bool × Kind) → kind_or_fault_of d name ≡ Ok p → (d ≡ p.0) × (kind_named name ≡ Some p.1)
kind_read d name p h =
    elim (kind_named name) as (λ (o : Option Kind). kind_named name ≡ o → option_map_or (λ k. Ok (d, k)) o (Err faults.BadKind) ≡ Ok p →
    (d ≡ p.0) × (kind_named name ≡ Some p.1)) [
      | None ↦ λ e f. absurd (cc f)
      | Some k ↦ λ e f. let is : (d, k) ≡ p = cc f in (ap (λ (q : Bool × Kind). q.0) is, e ∙ ap (λ (q : Bool × Kind). Some q.1) is)
    ] refl h

dashed : (kind : List ℕ) (p : Bool × Kind) → dashed_kind_of kind ≡ Ok p → Dashed kind p.0 p.1
unfolding dashed_kind_of
dashed [] p h = absurd (cc)
dashed (b ∷ bs) p h =
    elim (eqb b 45) as (λ (t : Bool). eqb b 45 ≡ t → cond t (kind_or_fault_of true bs) (kind_or_fault_of false (b ∷ bs)) ≡ Ok p →
    Dashed (b ∷ bs) p.0 p.1) [
      | true ↦ λ e f. let r = kind_read true bs p f in
          record { name = bs; split = rw e (ap (λ (d : Bool). (d, bs)) r.0); named = r.1 }
      | false ↦ λ e f. let r = kind_read false (b ∷ bs) p f in
          record { name = b ∷ bs; split = rw e (ap (λ (d : Bool). (d, b ∷ bs)) r.0); named = r.1 }
    ] refl h

include_undashed : (t : List ℕ) → same_name (codes "@include") t ≡ true → undashed t ≡ (false, t)
include_undashed [] h = refl
include_undashed (b ∷ bs) h =
    elim (eqb b 45) as (λ (u : Bool). eqb b 45 ≡ u →
    ◌≡◌ {A = Bool × List ℕ} (cond u (true, bs) (false, b ∷ bs)) (false, b ∷ bs)) [
      | true ↦ λ e.
          let is : b ≡ 45 = eqb-true b 45 e in
          let wrong : true ≡ false = sym h ∙ ap (λ (c : ℕ). same_name (codes "@include") (c ∷ bs)) is in absurd (cc)
      | false ↦ λ e. refl
    ] refl

-- the words after a kind, and after `@include`
typed : (release : Release) (s : Option (List ℕ)) (d : Bool) (name : List ℕ) (k : Kind) (words : List (List ℕ)) → kind_named name ≡ Some k →
    typed_reading release s d name words ≡ kind_reading s k d (control_body release words)
unfolding typed_reading
typed release s d name k words h = rw (kind_no_include name k h, h) refl

typed_include : (release : Release) (s : Option (List ℕ)) (d : Bool) (name : List ℕ) (words : List (List ℕ)) → same_name (codes "@include") name ≡ true →
    typed_reading release s d name words ≡ at_include_reading s d words
unfolding typed_reading
typed_include release s d name words h = rw h refl

-- RULES

kind_alike : (release : Release) (form : Form) (n : ℕ) (s : Option (List ℕ)) (kind : List ℕ) (words : List (List ℕ)) (rule : RuleText) →
    kind_rule_of form n s kind words ≡ Ok rule → AllSpelled words → has_capital words ≡ false → has_empty_name words ≡ false →
    rule_reading release s (kind ∷ map text_of_word words) ≡ reading_of rule
unfolding kind_rule_of
kind_alike release form n s kind words rule h sp capital empty =
    let b = bound (dashed_kind_of kind) (λ k. body_of form words >>= λ body.
    Ok record { line = n; service = s; kind = Some k.1; dashed = k.0; body = body }) rule h in
    let c = bound (body_of form words) (λ body. Ok record { line = n; service = s; kind = Some b.x.1; dashed = b.x.0; body = body }) rule b.then in
    let is : record { line = n; service = s; kind = Some b.x.1; dashed = b.x.0; body = c.x } ≡ rule = cc c.then in
    let d = dashed kind b.x b.is in
    ap (λ (p : Bool × List ℕ). typed_reading release s p.0 p.1 (map text_of_word words)) d.split
    ∙ typed release s b.x.0 d.name b.x.1 (map text_of_word words) d.named
    ∙ ap (kind_reading s b.x.1 b.x.0) (control_alike release form words c.x sp c.is capital empty)
    ∙ ap reading_of is

include_alike : (release : Release) (form : Form) (n : ℕ) (t : List ℕ) (words : List (List ℕ)) (rule : RuleText) → same_name (codes "@include") t ≡ true →
    include_rule_of form n words ≡ Ok rule → line_reading release form (t ∷ map text_of_word words) ≡ reading_of rule
unfolding include_rule_of target_of
include_alike release Single n t words rule i h = absurd (cc)
include_alike release Dir n t words rule i h =
    let b = bound (target_of Dir words) (λ target.
    Ok record { line = n; service = None; kind = None; dashed = false; body = Include target }) rule h in
    let is : record { line = n; service = None; kind = None; dashed = false; body = Include b.x } ≡ rule = cc b.then in
    ap (λ (p : Bool × List ℕ). typed_reading release None p.0 p.1 (map text_of_word words)) (include_undashed t i)
    ∙ typed_include release None false t (map text_of_word words) i
    ∙ at_include_alike Dir words b.x b.is
    ∙ ap reading_of is

plain_alike : (release : Release) (form : Form) (n : ℕ) (t : List ℕ) (words : List (List ℕ)) (rule : RuleText) → plain_rule_of form n t words ≡ Ok rule →
    AllSpelled words → has_capital (past_kind form words) ≡ false → has_empty_name (past_kind form words) ≡ false →
    line_reading release form (t ∷ map text_of_word words) ≡ reading_of rule
unfolding plain_rule_of
plain_alike release Dir n t words rule h sp capital empty = kind_alike release Dir n None t words rule h sp capital empty
plain_alike release Single n t [] rule h sp capital empty = absurd (cc)
plain_alike release Single n t (kind ∷ words) rule h sp capital empty =
    kind_alike release Single n (Some (map to_ascii_lowercase t)) (text_of_word kind) words rule h sp.1 capital empty

pub first_alike : (release : Release) (form : Form) (n : ℕ) (w : List ℕ) (words : List (List ℕ)) (rule : RuleText) → AllSpelled words →
    first_rule_of form n (text_of_word w) words ≡ Ok rule → has_capital (from_control form (w ∷ words)) ≡ false →
    has_empty_name (from_control form (w ∷ words)) ≡ false → line_reading release form (map text_of_word (w ∷ words)) ≡ reading_of rule
unfolding first_rule_of from_control
first_alike release form n w words rule sp h capital empty =
    elim (same_name (codes "@include") (text_of_word w)) as (λ (t : Bool). same_name (codes "@include") (text_of_word w) ≡ t →
    cond t (include_rule_of form n words) (plain_rule_of form n (text_of_word w) words) ≡ Ok rule →
    has_capital (cond t [] (past_kind form words)) ≡ false → has_empty_name (cond t [] (past_kind form words)) ≡ false →
    line_reading release form (text_of_word w ∷ map text_of_word words) ≡ reading_of rule) [
      | true ↦ λ i r c e. include_alike release form n (text_of_word w) words rule i r
      | false ↦ λ i r c e. plain_alike release form n (text_of_word w) words rule r sp c e
    ] refl h capital empty
