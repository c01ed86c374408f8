-- Access tables, one after another.
use Rattle.std.proofs.Common.{◌≡◌, ℕ, ◌+◌, Bool, true, false, List, [], ◌∷◌, ◌++◌, cond, refl, sym, ◌∙◌, ap}
use Rattle.std.specs.Prelude.{Option, Some, None, Result, Ok, Err}
use Rattle.std.specs.List.{enumerate_from, find}
use Rattle.std.specs.Option.{option_map, option_or, unwrap_or}
use Rattle.pam_tables.specs.Access.{TableText, access_answer, table_of}
use Rattle.pam_tables.specs.Groups.{Group}
use Rattle.pam_tables.specs.Login.{LoginText}
use Rattle.pam_tables.specs.Options.{Options, options_of}
use Rattle.pam_tables.specs.declared.access.AccessAnswer.{AccessAnswer}
use Rattle.pam_tables.specs.declared.access.AccessAnswer.TheVariants.{Denied, Granted}
use Rattle.pam_tables.specs.declared.error.Table.TheVariants.{Access}
use Rattle.pam_tables.specs.declared.error.TableFault.{TableFault}
use Rattle.pam_facts.specs.known.Access.{FailsAs, answer_at, answers_from, decision_at, decision_of, first_by_line, is_by_line, no_line, numbered}
use Rattle.pam_facts.specs.known.Access.{onto_answers, result_map, tables_decide}
use Rattle.pam_facts.specs.known.Answers.{access_code, access_told, among_known}
use Rattle.pam_facts.specs.known.Laws.{LaterTablesChangeNothing, OneTableAlone}
use Rattle.pam_facts.specs.declared.known.access.AccessDecision.{AccessDecision}
use Rattle.pam_facts.specs.declared.known.error.NumberedError.{NumberedError}
use Rattle.pam_facts.proofs.KnownProofs.FaultSteps.{table_fault_of}

abbrev pub ok_of : {A : Type 0} → A → Result A NumberedError
ok_of value = Ok value

-- one more answer, after those of earlier tables
one_more : (before : Option AccessDecision) (index : ℕ) (answer : AccessAnswer) (answers : List AccessAnswer) →
    option_or before (first_by_line index (answer ∷ answers))
    ≡ option_or (option_or before (first_by_line index (answer ∷ []))) (first_by_line (index + 1) answers)
one_more (Some decision) index answer answers = refl
one_more None index answer answers =
    let later = find (λ (p : ℕ × AccessAnswer). is_by_line p.1) (enumerate_from (index + 1) answers) in
    elim (is_by_line answer) as (λ (b : Bool). option_map decision_at (cond b (Some (index, answer)) later)
    ≡ option_or (option_map decision_at (cond b (Some (index, answer)) None)) (option_map decision_at later)) [
      | true ↦ refl
      | false ↦ refl
    ]

-- the decision of answers from a table on, after those of earlier tables
abbrev decision_after : ℕ → Option AccessDecision → List AccessAnswer → AccessDecision
decision_after index before answers = unwrap_or (option_or before (first_by_line index answers)) no_line

onto_more : (before : Option AccessDecision) (index : ℕ) (answer : AccessAnswer) (others : Result (List AccessAnswer) NumberedError) →
    result_map (decision_after index before) (onto_answers (Ok answer) others)
    ≡ result_map (decision_after (index + 1) (option_or before (first_by_line index (answer ∷ [])))) others
onto_more before index answer (Err e) = refl
onto_more before index answer (Ok answers) =
    ap (λ (o : Option AccessDecision). ok_of (unwrap_or o no_line)) (one_more before index answer answers)

module _ (login : LoginText) (groups : List Group) (options : Options) where
  -- what tables decide from one of them on, after earlier ones
  abbrev pub decide_after : ℕ → Option AccessDecision → List (List ℕ) → Result AccessDecision NumberedError
  decide_after index before contents = result_map (decision_after index before) (answers_from login groups options (index + 1) contents)

  pub decide_all : (contents : List (List ℕ)) → decide_after 0 None contents ≡ tables_decide login groups options contents
  unfolding tables_decide
  decide_all contents = refl

  pub decide_next : (index : ℕ) (before after : Option AccessDecision) (bytes : List ℕ) (all rest : List (List ℕ)) (answer : AccessAnswer)
      (told : Result AccessDecision NumberedError) → all ≡ bytes ∷ rest → answer_at login groups options (index + 1) bytes ≡ Ok answer →
      after ≡ option_or before (first_by_line index (answer ∷ [])) → decide_after index before all ≡ told → decide_after (index + 1) after rest ≡ told
  unfolding answers_from
  decide_next index before after bytes all rest answer told more read then so_far =
      ap (λ (o : Option AccessDecision). decide_after (index + 1) o rest) then
      ∙ sym (onto_more before index answer (answers_from login groups options (index + 1 + 1) rest))
      ∙ sym (ap (λ (r : Result AccessAnswer NumberedError). result_map (decision_after index before)
      (onto_answers r (answers_from login groups options (index + 1 + 1) rest))) read)
      ∙ sym (ap (decide_after index before) more) ∙ so_far

  pub decide_fails : (index : ℕ) (before : Option AccessDecision) (bytes : List ℕ) (all rest : List (List ℕ)) (e : NumberedError)
      (told : Result AccessDecision NumberedError) → all ≡ bytes ∷ rest → FailsAs e (answer_at login groups options (index + 1) bytes) →
      decide_after index before all ≡ told → FailsAs e told
  unfolding answers_from
  decide_fails index before bytes all rest e told more fails so_far =
      table_fault_of {A = answer_at login groups options (index + 1) bytes ≡ Err e} {B = told ≡ Err e} e.error.fault e.error.line
      (λ is. sym so_far ∙ ap (decide_after index before) more
      ∙ ap (λ (r : Result AccessAnswer NumberedError). result_map (decision_after index before)
      (onto_answers r (answers_from login groups options (index + 1 + 1) rest))) is) fails

  pub decide_done : (index : ℕ) (before : Option AccessDecision) (rest : List (List ℕ)) (told : Result AccessDecision NumberedError) → rest ≡ [] →
      decide_after index before rest ≡ told → told ≡ Ok (unwrap_or before no_line)
  unfolding answers_from
  decide_done index before rest told end so_far =
      sym so_far ∙ ap (decide_after index before) end
      ∙ ap (λ (o : Option AccessDecision). ok_of (unwrap_or o no_line)) (nothing_more before)
    where
      nothing_more : (o : Option AccessDecision) → option_or o None ≡ o
      nothing_more None = refl
      nothing_more (Some d) = refl

-- ---- laws

answer_alone : (answer : AccessAnswer) → (decision_of (answer ∷ [])).answer ≡ answer
answer_alone (Granted None) = refl
answer_alone (Granted (Some line)) = refl
answer_alone (Denied line) = refl

code_alone : (f : TableText → AccessAnswer) (read : Result TableText (TableFault × ℕ)) →
    among_known (result_map (λ (d : AccessDecision). access_code d.answer)
    (result_map decision_of (onto_answers (result_map f (numbered Access 1 read)) (Ok []))))
    ≡ result_map (λ table. access_code (f table)) (among_known (numbered Access 1 read))
code_alone f (Err e) = refl
code_alone f (Ok table) = ap (λ (a : AccessAnswer). Ok (access_code a)) (answer_alone (f table))

pub one_table_alone : OneTableAlone
unfolding access_told tables_decide answers_from
one_table_alone login groups arguments bytes = code_alone (λ table. access_answer table login groups) (table_of (options_of arguments) bytes)

-- the parts of answers that are read
onto_ok : (first : Result AccessAnswer NumberedError) (others : Result (List AccessAnswer) NumberedError) (all : List AccessAnswer) →
    onto_answers first others ≡ Ok all →
    (answer : AccessAnswer) × (answers : List AccessAnswer) × (first ≡ Ok answer) × (others ≡ Ok answers) × (answer ∷ answers ≡ all)
onto_ok (Err e) others all is = absurd (cc)
onto_ok (Ok answer) (Err e) all is = absurd (cc)
onto_ok (Ok answer) (Ok answers) all is = (answer, answers, refl, refl, cc)

map_ok : (answers : Result (List AccessAnswer) NumberedError) (decision : AccessDecision) → result_map decision_of answers ≡ Ok decision →
    (all : List AccessAnswer) × (answers ≡ Ok all) × (decision_of all ≡ decision)
map_ok (Err e) decision is = absurd (cc)
map_ok (Ok all) decision is = (all, refl, cc)

-- an answer that a line gives stays the first
first_stays : (index : ℕ) (answers more : List AccessAnswer) (decision : AccessDecision) → first_by_line index answers ≡ Some decision →
    first_by_line index (answers ++ more) ≡ Some decision
first_stays index [] more decision is = absurd (cc)
first_stays index (answer ∷ answers) more decision is =
    let first = λ (all : List AccessAnswer). find (λ (p : ℕ × AccessAnswer). is_by_line p.1) (enumerate_from (index + 1) all) in
    elim (is_by_line answer) as (λ (b : Bool). option_map decision_at (cond b (Some (index, answer)) (first answers)) ≡ Some decision →
    option_map decision_at (cond b (Some (index, answer)) (first (answers ++ more))) ≡ Some decision) [
      | true ↦ λ e. e
      | false ↦ λ e. first_stays (index + 1) answers more decision e
    ] is

some_line : (found : Option AccessDecision) (decision : AccessDecision) → unwrap_or found no_line ≡ decision → is_by_line decision.answer ≡ true →
    found ≡ Some decision
some_line None decision e by = absurd (let wrong : false ≡ true = ap (λ (d : AccessDecision). is_by_line d.answer) e ∙ by in cc)
some_line (Some found) decision e by = ap Some e

module _ (login : LoginText) (groups : List Group) (options : Options) where
  first_ones : (number : ℕ) (tables later : List (List ℕ)) (answers all : List AccessAnswer) →
      answers_from login groups options number tables ≡ Ok answers → answers_from login groups options number (tables ++ later) ≡ Ok all →
      (more : List AccessAnswer) × (all ≡ answers ++ more)
  unfolding answers_from
  first_ones number [] later answers all read whole =
      let none : [] ≡ answers = cc in
      (all, ap (λ (a : List AccessAnswer). a ++ all) none)
  first_ones number (bytes ∷ tables) later answers all read whole =
      let first = onto_ok (answer_at login groups options number bytes) (answers_from login groups options (number + 1) tables) answers read in
      let both = onto_ok (answer_at login groups options number bytes) (answers_from login groups options (number + 1) (tables ++ later)) all whole in
      let rest = first_ones (number + 1) tables later first.1 both.1 first.3 both.3 in
      let same : both.0 ≡ first.0 = let read_once : ok_of both.0 ≡ ok_of first.0 = sym both.2 ∙ first.2 in cc in (
        rest.0,
        sym both.4 ∙ ap (λ (a : AccessAnswer). a ∷ both.1) same ∙ ap (λ (a : List AccessAnswer). first.0 ∷ a) rest.1
            ∙ ap (λ (a : List AccessAnswer). a ++ rest.0) first.4,
      )

pub later_tables : LaterTablesChangeNothing
unfolding tables_decide
later_tables login groups options tables later first decision read by whole =
    let one = map_ok (answers_from login groups options 1 tables) first read in
    let all = map_ok (answers_from login groups options 1 (tables ++ later)) decision whole in
    let more = first_ones login groups options 1 tables later one.0 all.0 one.1 all.1 in
    let kept = first_stays 0 one.0 more.0 first (some_line (first_by_line 0 one.0) first one.2 by) in
    sym all.2 ∙ ap decision_of more.1 ∙ ap (λ (o : Option AccessDecision). unwrap_or o no_line) kept
