-- Which table tells the code of a module.
use Rattle.std.proofs.Common.{◌≡◌, ◌<◌, ◌&&◌, ℕ, Bool, true, false, not, List, [], refl, ap, subst, arith}
use Rattle.std.specs.Prelude.{Option, Some, None, Result, Ok, Err, is_some, if◌then◌else◌}
use Rattle.std.specs.Option.{option_and_then, option_map, option_or}
use Rattle.pam_conf.specs.Stack.{Items, ModuleText, module_at}
use Rattle.pam_conf.specs.declared.rule.Kind.{Kind}
use Rattle.pam_tables.specs.Groups.{Group}
use Rattle.pam_tables.specs.Login.{LoginText}
use Rattle.pam_tables.specs.Options.{options_of}
use Rattle.pam_tables.specs.Returns.{codes_for}
use Rattle.pam_tables.specs.declared.access.AccessAnswer.{AccessAnswer}
use Rattle.pam_tables.specs.declared.access.AccessAnswer.TheVariants as access
use Rattle.pam_facts.specs.declared.known.access.AccessDecision.{AccessDecision}
use Rattle.pam_facts.specs.declared.known.error.KnownError.{KnownError}
use Rattle.pam_facts.specs.declared.known.error.NumberedError.{NumberedError}
use Rattle.pam_tables.specs.times.Times.{answer_of}
use Rattle.pam_tables.specs.declared.times.table.TimeAnswer.{TimeAnswer}
use Rattle.pam_tables.specs.declared.times.table.TimeAnswer.TheVariants as times
use Rattle.pam_facts.specs.known.Access.{result_map, tables_decide}
use Rattle.pam_facts.specs.known.Answers.{access_code, access_read, access_told, among_known, if_any, name_of_path, table_answer, time_code, time_read}
use Rattle.pam_facts.specs.known.Answers.{time_told}
use Rattle.pam_facts.specs.known.Knowledge.{line_at, told_at}
use Rattle.pam_facts.specs.known.inner.Sets.{Adds}
use Rattle.pam_facts.specs.known.Tables.{TablesText, TimedText}

pub reader_is : (named keyed any : Bool) → named ≡ true → keyed ≡ any → not keyed ≡ (named && not any)
reader_is true keyed any e f = ap not f
reader_is false keyed any e f = absurd (cc)

-- a table that is read is the one that is given
given_of : {A : Type 0} (b : Bool) (given : Option A) (table : A) → (if b then given else None) ≡ Some table → given ≡ Some table
given_of true given table e = e
given_of false given table e = absurd (cc)

pub access_is_given : (tables : TablesText) (m : ModuleText) (contents : List (List ℕ)) → access_read tables m ≡ Some contents →
    if_any tables.access ≡ Some contents
unfolding access_read
access_is_given tables m contents e = given_of _ (if_any tables.access) contents e

pub time_is_given : (kind : Kind) (tables : TablesText) (m : ModuleText) (table : TimedText) → time_read kind tables m ≡ Some table → tables.time ≡ Some table
unfolding time_read
time_is_given kind tables m table e = given_of _ tables.time table e

-- a line changes nothing if a table tells the code
pub told_alone : (told : Option (Result ℕ KnownError)) (line : Option (List ℕ)) → is_some told ≡ true → Adds None told line
told_alone None line e said = absurd (cc)
told_alone (Some (Ok code)) line e said = refl
told_alone (Some (Err fault)) line e said = refl

pub untold : (told : Option (Result ℕ KnownError)) → is_some told ≡ false → told ≡ None
untold None e = refl
untold (Some r) e = absurd (cc)

-- ---- the codes that tables tell

access_small : (answer : AccessAnswer) → access_code answer < 31
access_small (access.Granted line) = omega arith
access_small (access.Denied line) = omega arith

time_small : (answer : TimeAnswer) → time_code answer < 31
time_small times.Granted = omega arith
time_small (times.Denied line) = omega arith

decision_small : (told : Result AccessDecision NumberedError) (code : ℕ) → among_known (result_map (λ d. access_code d.answer) told) ≡ Ok code → code < 31
decision_small (Ok d) code e = let same : access_code d.answer ≡ code = cc in subst (λ (k : ℕ). k < 31) same (access_small d.answer)
decision_small (Err fault) code e = absurd (cc)

told_small : {T : Type 0} (f : T → ℕ) (read : Result T KnownError) (code : ℕ) → ((t : T) → f t < 31) → result_map f read ≡ Ok code → code < 31
told_small f (Ok t) code small e = let same : f t ≡ code = cc in subst (λ (k : ℕ). k < 31) same (small t)
told_small f (Err fault) code small e = absurd (cc)

either_small : (by_access : List (List ℕ) → Result ℕ KnownError) (by_time : TimedText → Result ℕ KnownError) (a : Option (List (List ℕ)))
    (t : Option TimedText) (code : ℕ) →
    ((contents : List (List ℕ)) → by_access contents ≡ Ok code → code < 31) → ((timed : TimedText) → by_time timed ≡ Ok code → code < 31) →
    option_or (option_map by_access a) (option_map by_time t) ≡ Some (Ok code) → code < 31
either_small by_access by_time (Some contents) t code f g e = f contents (cc)
either_small by_access by_time None (Some timed) code f g e = g timed (cc)
either_small by_access by_time None None code f g e = absurd (cc)

pub code_small : (kind : Kind) (login : LoginText) (tables : TablesText) (groups : List Group) (m : ModuleText) (code : ℕ) →
    table_answer kind login tables groups m ≡ Some (Ok code) → code < 31
unfolding table_answer access_told time_told
code_small kind login tables groups m code e =
    either_small (access_told login groups m.arguments) (time_told login) (access_read tables m) (time_read kind tables m) code
    (λ contents is. decision_small (tables_decide login groups (options_of m.arguments) contents) code is)
    (λ timed is. told_small (λ rules. time_code (answer_of rules login timed.moment)) _ code (λ rules. time_small (answer_of rules login timed.moment)) is)
    e

pub code_small_at : (kind : Kind) (login : LoginText) (tables : TablesText) (groups : List Group) (items : Items) (number code : ℕ) →
    told_at kind login tables groups items number ≡ Some (Ok code) → code < 31
unfolding told_at
code_small_at kind login tables groups items number code e =
    elim (module_at number items) as (λ (o : Option ModuleText). option_and_then (table_answer kind login tables groups) o ≡ Some (Ok code) → code < 31) [
      | None ↦ λ f. absurd (cc)
      | Some m ↦ λ f. code_small kind login tables groups m code f
    ] e

-- without lines, no module has one
pub no_lines : (items : Items) (number : ℕ) → line_at [] items number ≡ None
unfolding line_at
no_lines items number =
    elim (module_at number items) as (λ (o : Option ModuleText). option_and_then (λ m. codes_for [] (name_of_path m.path)) o ≡ None) [
      | None ↦ refl
      | Some m ↦ refl
    ]
