-- The codes that are known of a module: at least one.
use Rattle.std.proofs.Common.{◌≡◌, ◌≢◌, ◌<◌, ◌==◌, ℕ, true, All, List, [], ◌∷◌, ◌++◌, codes, nat_eq, is_some, refl, ◌∙◌, subst, ap, arith, eq-eqb, unwrap_or}
use Rattle.std.specs.Prelude.{IfSome, Option, Some, None, Result, Ok, Err}
use Rattle.std.specs.List.{list_all, list_any, starts_with}
use Rattle.std.specs.Option.{option_and_then, option_map_or}
use Rattle.std.specs.Str.{bytes_eq}
use Rattle.std.proofs.lemmas.Bool.{cond_both, or_left}
use Rattle.std.proofs.lemmas.List.Elements.{All-cons, All-filter, All-head, All-nil}
use Rattle.pam_codes.specs.Code.{all_codes, module_unknown}
use Rattle.pam_codes.specs.Set.{codes_where, is_in}
use Rattle.pam_codes.proofs.CodeSets.{all_codes-within, set-within}
use Rattle.pam_conf.specs.Stack.{Items, ModuleText, module_at}
use Rattle.pam_conf.specs.declared.rule.Kind.{Kind}
use Rattle.pam_facts.specs.Answers.{is_there}
use Rattle.pam_facts.specs.Missing.{if_missing, missing_at, where_there}
use Rattle.pam_facts.specs.Rows.{Row}
use Rattle.pam_facts.specs.declared.answers.Checks.TheVariants.{MaySucceed}
use Rattle.pam_tables.specs.Error.{onto_lines, read_lines}
use Rattle.pam_tables.specs.Groups.{Group}
use Rattle.pam_tables.specs.Lines.{fault_of_bytes, lines_from}
use Rattle.pam_tables.specs.Login.{LoginText}
use Rattle.pam_tables.specs.Named.{first_of_each, first_of_each_read}
use Rattle.pam_tables.specs.Returns.{ReturnLine, code_named, codes_for, codes_of_words, line_of_words, names_code, return_at, returns_of, some_codes, words_of}
use Rattle.pam_tables.specs.declared.error.Table.TheVariants.{Returns}
use Rattle.pam_tables.specs.declared.error.TableFault.{TableFault}
use Rattle.pam_tables.specs.declared.error.TableFault.TheVariants.{BadCode, BadModule}
use Rattle.pam_tables.proofs.ReturnSteps.{no_code}
use Rattle.pam_facts.specs.known.Answers.{name_of_path, read_as}
use Rattle.pam_facts.specs.known.Knowledge.{◌>>=◌, codes_by, first_fault, groups_read, knowledge, line_at, numbers, returns_read}
use Rattle.pam_facts.specs.known.Knowledge.{said_at, told_at, told_knowledge, unless}
use Rattle.pam_facts.specs.known.Laws.{AreSomeCodes, KnowledgeIsLawful, KnownCodesAreSome}
use Rattle.pam_facts.specs.known.Tables.{TablesText}
use Rattle.pam_facts.specs.declared.known.error.KnownError.{KnownError}
use Rattle.pam_facts.proofs.AnswerSteps.{at_some}
use Rattle.pam_facts.proofs.KnownProofs.KnowledgeSteps.{codes_with}
use Rattle.pam_facts.proofs.KnownProofs.ReaderSteps.{code_small_at}

abbrev IsCode : ℕ → Type 0
IsCode code = code < 31

-- ---- a returns file

-- the codes of words
words_some : (words : List (List ℕ)) (set : List ℕ) → codes_of_words words ≡ Ok set → AreSomeCodes set
unfolding codes_of_words
words_some [] set h = absurd (cc)
words_some (word ∷ words) set h = (is_some_set, all_codes_of)
  where
    is_some_set : set ≢ []
    is_some_set none = absurd (let none_read = no_code (word ∷ words) (h ∙ ap Ok none) in cc)

    all_codes_of : All IsCode set
    all_codes_of =
        cond_both (list_all (λ w. is_some (code_named w)) (word ∷ words)) (Ok (codes_where (λ code. list_any (names_code code) (word ∷ words)))) (Err BadCode)
        (λ (r : Result (List ℕ) TableFault). r ≡ Ok set → All IsCode set)
        (λ named e. let same : codes_where (λ code. list_any (names_code code) (word ∷ words)) ≡ set = cc in
        subst (All IsCode) same (All-filter (λ code. list_any (names_code code) (word ∷ words)) IsCode all_codes all_codes-within))
        (λ unnamed e. absurd (cc)) h

-- of a line
named_some : (name : List ℕ) (entry : ReturnLine) (read : Result (List ℕ) TableFault) → ((set : List ℕ) → read ≡ Ok set → AreSomeCodes set) →
    some_codes name read ≡ Ok (Some entry) → AreSomeCodes entry.1
named_some name entry (Ok set) some e =
    let same : (name, set) ≡ entry = cc in
    subst (λ (line : ReturnLine). AreSomeCodes line.1) same (some set refl)
named_some name entry (Err fault) some e = absurd (cc)

line_some : (words : List (List ℕ)) (entry : ReturnLine) → line_of_words words ≡ Ok (Some entry) → AreSomeCodes entry.1
line_some [] entry e = absurd (cc)
line_some (name ∷ words) entry e =
    cond_both (list_any (λ b. b == 47) name) (Err BadModule) (some_codes name (codes_of_words words))
    (λ (r : Result (Option ReturnLine) TableFault). r ≡ Ok (Some entry) → AreSomeCodes entry.1)
    (λ slash f. absurd (cc)) (λ plain f. named_some name entry (codes_of_words words) (words_some words) f) e

entry_some : (line : List ℕ) (entry : ReturnLine) → return_at line ≡ Ok (Some entry) → AreSomeCodes entry.1
unfolding return_at
entry_some line entry e =
    cond_both (starts_with nat_eq line (codes "#")) (Ok None) (line_of_words (words_of line))
    (λ (r : Result (Option ReturnLine) TableFault). r ≡ Ok (Some entry) → AreSomeCodes entry.1)
    (λ comment f. absurd (cc)) (λ other f. line_some (words_of line) entry f) e

-- of each line
abbrev HaveSome : List ReturnLine → Type 0
HaveSome [] = Unit {0}
HaveSome (line ∷ lines) = AreSomeCodes line.1 × HaveSome lines

onto_some : (number : ℕ) (first : Result (Option ReturnLine) TableFault) (others : Result (List ReturnLine) (TableFault × ℕ)) (entries : List ReturnLine) →
    ((entry : ReturnLine) → first ≡ Ok (Some entry) → AreSomeCodes entry.1) → ((rest : List ReturnLine) → others ≡ Ok rest → HaveSome rest) →
    onto_lines number first others ≡ Ok entries → HaveSome entries
onto_some number (Err fault) others entries some rest e = absurd (cc)
onto_some number (Ok None) others entries some rest e = rest entries e
onto_some number (Ok (Some x)) (Ok xs) entries some rest e =
    let same : x ∷ xs ≡ entries = cc in
    subst HaveSome same (some x refl, rest xs refl)
onto_some number (Ok (Some x)) (Err fault) entries some rest e = absurd (cc)

read_some : (lines : List (ℕ × List ℕ)) (entries : List ReturnLine) → read_lines (λ _ line. return_at line) lines ≡ Ok entries → HaveSome entries
unfolding read_lines
read_some [] entries e = let same : [] ≡ entries = cc in subst HaveSome same tt
read_some (line ∷ lines) entries e =
    onto_some line.0 (return_at line.1) (read_lines (λ _ text. return_at text) lines) entries (entry_some line.1) (read_some lines) e

firsts_some : (names : List (List ℕ)) (entries : List ReturnLine) → HaveSome entries → HaveSome (first_of_each names entries)
firsts_some names [] h = tt
firsts_some names (entry ∷ entries) h =
    cond_both (list_any (λ name. bytes_eq entry.0 name) names) (first_of_each names entries) (entry ∷ first_of_each (names ++ entry.0 ∷ []) entries) HaveSome
    (λ known. firsts_some names entries h.1) (λ new. (h.0, firsts_some (names ++ entry.0 ∷ []) entries h.1))

checked_some : (fault : Option (TableFault × ℕ)) (read : Result (List ReturnLine) (TableFault × ℕ)) (lines : List ReturnLine) →
    ((entries : List ReturnLine) → read ≡ Ok entries → HaveSome entries) → option_map_or Err fault (first_of_each_read read) ≡ Ok lines → HaveSome lines
checked_some (Some fault) read lines some e = absurd (cc)
checked_some None (Err fault) lines some e = absurd (cc)
checked_some None (Ok entries) lines some e =
    let same : first_of_each [] entries ≡ lines = cc in
    subst HaveSome same (firsts_some [] entries (some entries refl))

file_some : (bytes : List ℕ) (lines : List ReturnLine) → returns_of bytes ≡ Ok lines → HaveSome lines
unfolding returns_of
file_some bytes lines e =
    checked_some (fault_of_bytes bytes) (read_lines (λ _ line. return_at line) (lines_from 1 bytes)) lines (read_some (lines_from 1 bytes)) e

read_as_some : (read : Result (List ReturnLine) (TableFault × ℕ)) (lines : List ReturnLine) →
    ((entries : List ReturnLine) → read ≡ Ok entries → HaveSome entries) → read_as Returns read ≡ Ok lines → HaveSome lines
read_as_some (Err fault) lines some e = absurd (cc)
read_as_some (Ok entries) lines some e = let same : entries ≡ lines = cc in subst HaveSome same (some entries refl)

returns_some : (returns : Option (List ℕ)) (lines : List ReturnLine) → returns_read returns ≡ Ok lines → HaveSome lines
returns_some None lines e = let same : [] ≡ lines = cc in subst HaveSome same tt
returns_some (Some bytes) lines e = read_as_some (returns_of bytes) lines (file_some bytes) e

-- ---- the codes of a module

found_some : (lines : List ReturnLine) (name : List ℕ) → HaveSome lines → IfSome (codes_for lines name) AreSomeCodes
found_some [] name h = tt
found_some (line ∷ lines) name h =
    cond_both (bytes_eq name line.0) (Some line.1) (codes_for lines name) (λ (o : Option (List ℕ)). IfSome o AreSomeCodes)
    (λ here. h.0) (λ later. found_some lines name h.1)

line_at-some : (lines : List ReturnLine) (items : Items) (number : ℕ) → HaveSome lines → IfSome (line_at lines items number) AreSomeCodes
unfolding line_at
line_at-some lines items number h =
    elim (module_at number items) as (λ (o : Option ModuleText). IfSome (option_and_then (λ m. codes_for lines (name_of_path m.path)) o) AreSomeCodes) [
      | None ↦ tt
      | Some m ↦ found_some lines (name_of_path m.path) h
    ]

any_some : AreSomeCodes all_codes
unfolding all_codes
any_some = ((λ none. absurd (cc)), all_codes-within)

said_some : (kind : Kind) (facts : Option (List Row)) (items : Items) (number : ℕ) → AreSomeCodes (said_at kind facts items number)
unfolding said_at
said_some kind None items number = any_some
said_some kind (Some rows) items number = let is = at_some MaySucceed kind rows None items number in (is.some, set-within _ is.order)

by_some : (told : Option (Result ℕ KnownError)) (line : Option (List ℕ)) (said : List ℕ) → ((code : ℕ) → told ≡ Some (Ok code) → IsCode code) →
    IfSome line AreSomeCodes → AreSomeCodes said → AreSomeCodes (codes_by told line said)
by_some (Some (Ok code)) line said small some left = ((λ none. absurd (cc)), All-cons IsCode code [] (small code refl) (All-nil IsCode))
by_some (Some (Err fault)) line said small some left = any_some
by_some None (Some set) said small some left = some
by_some None None said small some left = left

-- ---- all that is known

module _ (kind : Kind) (login : LoginText) (tables : TablesText) (items : Items) (allowed : ℕ → List ℕ) where
  lines_some : (groups : List Group) (read : Result (List ReturnLine) KnownError) → ((lines : List ReturnLine) → read ≡ Ok lines → HaveSome lines) →
      (read >>= λ lines. Ok (codes_with kind login tables items groups lines)) ≡ Ok allowed → (number : ℕ) → AreSomeCodes (allowed number)
  lines_some groups (Err fault) some e number = absurd (cc)
  lines_some groups (Ok lines) some e number =
      let same : codes_with kind login tables items groups lines ≡ allowed = cc in
      subst (λ (known : ℕ → List ℕ). AreSomeCodes (known number)) same
      (by_some (told_at kind login tables groups items number) (line_at lines items number) (said_at kind tables.facts items number)
      (code_small_at kind login tables groups items number) (line_at-some lines items number (some lines refl)) (said_some kind tables.facts items number))

  unless_none : (fault : Option KnownError) (told : Result (ℕ → List ℕ) KnownError) → unless fault told ≡ Ok allowed → told ≡ Ok allowed
  unless_none None told e = e
  unless_none (Some fault) told e = absurd (cc)

  abbrev after_groups : List Group → Result (ℕ → List ℕ) KnownError
  after_groups groups =
      unless (first_fault (told_at kind login tables groups items) (numbers items))
      (returns_read tables.returns >>= λ lines. Ok (codes_with kind login tables items groups lines))

  groups_some : (read : Result (List Group) KnownError) → (read >>= after_groups) ≡ Ok allowed → (number : ℕ) → AreSomeCodes (allowed number)
  groups_some (Err fault) e number = absurd (cc)
  groups_some (Ok groups) e number =
      lines_some groups (returns_read tables.returns) (returns_some tables.returns)
      (unless_none (first_fault (told_at kind login tables groups items) (numbers items)) _ e) number

told_some : (kind : Kind) (login : LoginText) (tables : TablesText) (items : Items) (allowed : ℕ → List ℕ) →
    told_knowledge kind login tables items ≡ Ok allowed → (number : ℕ) → AreSomeCodes (allowed number)
unfolding told_knowledge
told_some kind login tables items allowed e number = groups_some kind login tables items allowed (groups_read tables items) e number

unknown_some : AreSomeCodes (module_unknown ∷ [])
unknown_some = ((λ none. absurd (cc)), All-cons IsCode module_unknown [] (omega arith) (All-nil IsCode))

-- the codes of a module that may not be there
by_place : (o : Option ModuleText) (there : Option (List (List ℕ))) (codes : List ℕ) → AreSomeCodes codes →
    AreSomeCodes (unwrap_or (option_map_or (if_missing there) o None) codes)
by_place None there codes some = some
by_place (Some m) there codes some =
    cond_both (is_there there m.path) None (Some (module_unknown ∷ [])) (λ (o : Option (List ℕ)). AreSomeCodes (unwrap_or o codes))
    (λ here. some) (λ missing. unknown_some)

there_some : (there : Option (List (List ℕ))) (items : Items) (codes : ℕ → List ℕ) (number : ℕ) → AreSomeCodes (codes number) →
    AreSomeCodes (where_there there items codes number)
unfolding where_there missing_at
there_some there items codes number some = by_place (module_at number items) there (codes number) some

all_some : (there : Option (List (List ℕ))) (items : Items) (told : Result (ℕ → List ℕ) KnownError) (allowed : ℕ → List ℕ) →
    ((codes : ℕ → List ℕ) → told ≡ Ok codes → (number : ℕ) → AreSomeCodes (codes number)) →
    (told >>= λ codes. Ok (where_there there items codes)) ≡ Ok allowed → (number : ℕ) → AreSomeCodes (allowed number)
all_some there items (Err fault) allowed some e number = absurd (cc)
all_some there items (Ok codes) allowed some e number =
    let same : where_there there items codes ≡ allowed = cc in
    subst (λ (known : ℕ → List ℕ). AreSomeCodes (known number)) same (there_some there items codes number (some codes refl number))

pub known_some : KnownCodesAreSome
unfolding knowledge
known_some kind login tables items allowed e number =
    all_some tables.there items (told_knowledge kind login tables items) allowed (told_some kind login tables items) e number

one_allowed : (set : List ℕ) → AreSomeCodes set → (code : ℕ) × (code < 31) × (is_in code set ≡ true)
one_allowed [] some = absurd (some.0 refl)
one_allowed (code ∷ rest) some =
    (code, All-head IsCode code rest some.1, or_left (code == code) (list_any (λ c. c == code) rest) (eq-eqb code code refl))

pub known_lawful : KnowledgeIsLawful
known_lawful kind login tables items allowed e number first last =
    one_allowed (allowed number) (known_some kind login tables items allowed e number)
