-- What the answers of modules have, and have not.
use Rattle.std.proofs.Common.{◌≡◌, ◌∙◌, ◌<◌, ◌==◌, ◌&&◌, ◌||◌, ℕ, Bool, true, false, not, List, [], ◌∷◌, Option, refl, ap, lit<}
use Rattle.std.proofs.lemmas.Bool.{cond-true, cond_both, eqb-true}
use Rattle.pam_codes.specs.Code.{all_codes}
use Rattle.pam_codes.specs.Set.{codes_where, is_in}
use Rattle.pam_codes.specs.inner.SetBits.{is_in-codes_where}
use Rattle.pam_conf.specs.Stack.{ModuleText}
use Rattle.pam_conf.specs.declared.rule.Kind.{Kind}
use Rattle.pam_facts.specs.Answers.{answers_of, called_answers, is_there, left_out, module_answers, or_failure, or_failures, refused_answers}
use Rattle.pam_facts.specs.Facts.{codes_in, has_function, is_unknown_alone}
use Rattle.pam_facts.specs.Failing.{always_fails, failures}
use Rattle.pam_facts.specs.Fitting.{fact_of}
use Rattle.pam_facts.specs.Laws.{ArgumentsFail, CheckingModulesFail, FunctionlessIsUnknown, MissingIsUnknown}
use Rattle.pam_facts.specs.Rows.{Row}
use Rattle.pam_facts.specs.declared.answers.Checks.{Checks}
use Rattle.pam_facts.specs.declared.answers.Checks.TheVariants.{Fail, MaySucceed}
use Rattle.pam_facts.specs.declared.row.Class.{Class}
use Rattle.pam_facts.specs.declared.row.Class.TheVariants as classes
use Rattle.pam_facts.specs.declared.row.Fact.{Fact}

and_false : (b : Bool) → (b && false) ≡ false
and_false true = refl
and_false false = refl

without : (code : ℕ) (codes : List ℕ) → (7 == code) ≡ false → is_in code codes ≡ false → is_in code (or_failure codes) ≡ false
without code [] other h = ap (λ (b : Bool). b || false) other
without code (c ∷ cs) other h = h

no_failure : (code : ℕ) → code < 31 → is_in code (0 ∷ 12 ∷ 25 ∷ []) ≡ true → is_in code failures ≡ false
no_failure code small success = is_in-codes_where (λ c. not (is_in c (0 ∷ 12 ∷ 25 ∷ []))) code small ∙ ap not success

no_failures : (code : ℕ) (codes : List ℕ) → code < 31 → is_in code (0 ∷ 12 ∷ 25 ∷ []) ≡ true → is_in code codes ≡ false → is_in code (or_failures codes) ≡ false
no_failures code [] small success h = no_failure code small success
no_failures code (c ∷ cs) small success h = h

-- a success is none of the answers of a module that fails by what its arguments are
none_refused : (kind : Kind) (fact : Fact) (code : ℕ) → code < 31 → is_in code (0 ∷ 12 ∷ 25 ∷ []) ≡ true → is_in code (refused_answers kind fact) ≡ false
unfolding refused_answers
none_refused kind fact code small success = no_failures code _ small success
    (is_in-codes_where (λ c. is_in c (codes_in kind fact) && not (is_in c (0 ∷ 12 ∷ 25 ∷ []))) code small
    ∙ ap (λ (b : Bool). is_in code (codes_in kind fact) && not b) success ∙ and_false (is_in code (codes_in kind fact)))

module _ (kind : Kind) (fact : Fact) (code : ℕ) (small : code < 31) (other : (7 == code) ≡ false) where
  -- a code that is left out is no answer
  none_of : is_in code (left_out Fail fact.class) ≡ true → is_in code (answers_of Fail kind fact) ≡ false
  unfolding answers_of
  none_of left = without code _ other
      (is_in-codes_where (λ c. is_in c (codes_in kind fact) && not (is_in c (left_out Fail fact.class))) code small
      ∙ ap (λ (b : Bool). is_in code (codes_in kind fact) && not b) left ∙ and_false (is_in code (codes_in kind fact)))

  module _ (rows : List Row) (there : Option (List (List ℕ))) (m : ModuleText) (is : fact_of rows m.path m.arguments ≡ fact) where
    pub no_answer :
        is_in code (28 ∷ []) ≡ false → is_in code (0 ∷ 12 ∷ 25 ∷ []) ≡ true → is_in code (left_out Fail fact.class) ≡ true →
        is_in code (module_answers Fail kind rows there m) ≡ false
    unfolding module_answers
    no_answer known success left =
        let of_row = ap (λ (f : Fact). is_in code (answers_of Fail kind f)) is ∙ none_of left in
        let row = fact_of rows m.path m.arguments in
        cond_both (is_there there m.path) (called_answers Fail kind rows m) (28 ∷ []) (λ (codes : List ℕ). is_in code codes ≡ false)
        (λ _. cond_both (always_fails rows kind m) (refused_answers kind row) (answers_of Fail kind row) (λ (codes : List ℕ). is_in code codes ≡ false)
        (λ _. none_refused kind row code small success) (λ _. of_row)) (λ _. known)

pub checking_modules_fail : CheckingModulesFail
checking_modules_fail kind rows there m =
    let fact = fact_of rows m.path m.arguments in
    record {
      checks = λ e. record {
        success = no_answer kind fact 0 (lit< tt) refl rows there m refl refl refl (rw e refl);
        new_token = no_answer kind fact 12 (lit< tt) refl rows there m refl refl refl (rw e refl);
      };
      ignored = λ e. no_answer kind fact 25 (lit< tt) refl rows there m refl refl refl (rw e refl);
      ignores = λ e. record {
        success = no_answer kind fact 0 (lit< tt) refl rows there m refl refl refl (rw e refl);
        new_token = no_answer kind fact 12 (lit< tt) refl rows there m refl refl refl (rw e refl);
      };
    }

pub missing_is_unknown : MissingIsUnknown
unfolding module_answers
missing_is_unknown checks kind rows there m h = rw h refl

-- one code alone, which no class leaves out
alone : (checks : Checks) (class : Class) → or_failure (codes_where (λ code. is_in code (28 ∷ []) && not (is_in code (left_out checks class)))) ≡ 28 ∷ []
unfolding all_codes
alone MaySucceed classes.Checks = refl
alone MaySucceed classes.Ignores = refl
alone MaySucceed classes.Passes = refl
alone MaySucceed classes.Fails = refl
alone Fail classes.Checks = refl
alone Fail classes.Ignores = refl
alone Fail classes.Passes = refl
alone Fail classes.Fails = refl

unknown_alone : (codes : List ℕ) → not (is_unknown_alone codes) ≡ false → codes ≡ 28 ∷ []
unknown_alone [] h = absurd (cc)
unknown_alone (code ∷ []) h = go (code == 28) refl h
  where
    go : (t : Bool) → (code == 28) ≡ t → not t ≡ false → code ∷ [] ≡ 28 ∷ []
    go true e f = ap (λ (n : ℕ). n ∷ []) (eqb-true code 28 e)
    go false e f = absurd (cc)
unknown_alone (code ∷ other ∷ codes) h = absurd (cc)

functionless : (checks : Checks) (kind : Kind) (fact : Fact) → has_function kind fact ≡ false → answers_of checks kind fact ≡ 28 ∷ []
unfolding answers_of
functionless checks kind fact h =
    ap (λ (codes : List ℕ). or_failure (codes_where (λ code. is_in code codes && not (is_in code (left_out checks fact.class)))))
    (unknown_alone (codes_in kind fact) h) ∙ alone checks fact.class

refused_alone : or_failures (codes_where (λ code. is_in code (28 ∷ []) && not (is_in code (0 ∷ 12 ∷ 25 ∷ [])))) ≡ 28 ∷ []
unfolding all_codes
refused_alone = refl

functionless_refused : (kind : Kind) (fact : Fact) → has_function kind fact ≡ false → refused_answers kind fact ≡ 28 ∷ []
unfolding refused_answers
functionless_refused kind fact h =
    ap (λ (codes : List ℕ). or_failures (codes_where (λ code. is_in code codes && not (is_in code (0 ∷ 12 ∷ 25 ∷ [])))))
    (unknown_alone (codes_in kind fact) h) ∙ refused_alone

pub functionless_is_unknown : FunctionlessIsUnknown
unfolding module_answers
functionless_is_unknown checks kind rows there m h =
    let fact = fact_of rows m.path m.arguments in
    cond_both (is_there there m.path) (called_answers checks kind rows m) (28 ∷ []) (λ (codes : List ℕ). codes ≡ 28 ∷ [])
    (λ _. cond_both (always_fails rows kind m) (refused_answers kind fact) (answers_of checks kind fact) (λ (codes : List ℕ). codes ≡ 28 ∷ [])
    (λ _. functionless_refused kind fact h) (λ _. functionless checks kind fact h)) (λ _. refl)

module _ (checks : Checks) (kind : Kind) (rows : List Row) (there : Option (List (List ℕ))) (m : ModuleText) (fails : always_fails rows kind m ≡ true) where
  no_success : (code : ℕ) → code < 31 → is_in code (0 ∷ 12 ∷ 25 ∷ []) ≡ true → is_in code (28 ∷ []) ≡ false →
      is_in code (module_answers checks kind rows there m) ≡ false
  unfolding module_answers
  no_success code small success known =
      let fact = fact_of rows m.path m.arguments in
      cond_both (is_there there m.path) (called_answers checks kind rows m) (28 ∷ []) (λ (codes : List ℕ). is_in code codes ≡ false)
      (λ _. ap (is_in code) (cond-true (always_fails rows kind m) (refused_answers kind fact) (answers_of checks kind fact) fails)
      ∙ none_refused kind fact code small success) (λ _. known)

pub arguments_fail : ArgumentsFail
arguments_fail checks kind rows there m fails = record {
  success = no_success checks kind rows there m fails 0 (lit< tt) refl refl;
  new_token = no_success checks kind rows there m fails 12 (lit< tt) refl refl;
  ignored = no_success checks kind rows there m fails 25 (lit< tt) refl refl;
}
