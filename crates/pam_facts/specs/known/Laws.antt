-- Laws of knowledge, and of the paths of a service for what is known: pam.conf(5), DESCRIPTION.
use Rattle.std.specs.Prelude.{◌≡◌, ◌≢◌, ℕ, ◌<◌, All, List, [], ◌∷◌, ◌++◌, filter, Ok, true}
use Rattle.pam_codes.specs.declared.code.TheConstants.{CODES}
use Rattle.pam_conf.specs.Files.{Folder}
use Rattle.pam_conf.specs.Resolution.{resolved}
use Rattle.pam_conf.specs.Stack.{Items, module_count}
use Rattle.pam_conf.specs.declared.rule.Kind.{Kind}
use Rattle.pam_dispatch.specs.Runs.{Assignment}
use Rattle.pam_dispatch.specs.Tree.{decided}
use Rattle.pam_text.specs.Members.{Member}
use Rattle.pam_paths.specs.Cursor.{HasVerdict, Verdict}
use Rattle.pam_paths.specs.Listing.{Allowance, IsAllowed, IsLawful, IsListing, IsListingAfter, IsListingBefore, anything, can_follow}
use Rattle.pam_paths.specs.Paths.{Agrees, PathValue, path_through}
use Rattle.pam_tables.specs.Access.{access_answer, table_of}
use Rattle.pam_tables.specs.Groups.{Group}
use Rattle.pam_tables.specs.Login.{LoginText}
use Rattle.pam_tables.specs.Options.{Options, options_of}
use Rattle.pam_tables.specs.declared.error.Table.TheVariants.{Access}
use Rattle.pam_facts.specs.known.Access.{is_by_line, result_map, tables_decide}
use Rattle.pam_facts.specs.known.Answers.{access_code, access_told, read_as}
use Rattle.pam_facts.specs.declared.known.access.AccessDecision.{AccessDecision}
use Rattle.pam_facts.specs.known.Knowledge.{Agree, allows_codes, knowledge}
use Rattle.pam_facts.specs.known.Tables.{TablesText}

-- KNOWLEDGES THAT AGREE

-- a listing under one knowledge is one under any other that allows each module the same codes
abbrev pub SameListing : Type 0
SameListing =
    (n : ℕ) (one other : Allowance) (path_by : Assignment → PathValue) (paths : List PathValue) →
    Agree n one other → IsListing one n path_by paths → IsListing other n path_by paths

-- the same, for the part after a key
abbrev pub SameListingAfter : Type 0
SameListingAfter =
    (n : ℕ) (one other : Allowance) (path_by : Assignment → PathValue) (key : List ℕ) (paths : List PathValue) →
    Agree n one other → IsListingAfter one n path_by key paths → IsListingAfter other n path_by key paths

-- the same, for the part before a key
abbrev pub SameListingBefore : Type 0
SameListingBefore =
    (n : ℕ) (one other : Allowance) (path_by : Assignment → PathValue) (key : List ℕ) (paths : List PathValue) →
    Agree n one other → IsListingBefore one n path_by key paths → IsListingBefore other n path_by key paths

-- SEVERAL ACCESS TABLES

-- one access table alone tells what it answers, or its fault
abbrev pub OneTableAlone : Type 0
OneTableAlone =
    (login : LoginText) (groups : List Group) (arguments : List (List ℕ)) (bytes : List ℕ) →
    access_told login groups arguments (bytes ∷ [])
    ≡ result_map (λ table. access_code (access_answer table login groups)) (read_as Access (table_of (options_of arguments) bytes))

-- where a line of some tables decides, the tables after them change nothing, unless one of them has a fault
abbrev pub LaterTablesChangeNothing : Type 0
LaterTablesChangeNothing =
    (login : LoginText) (groups : List Group) (options : Options) (tables later : List (List ℕ)) (first decision : AccessDecision) →
    tables_decide login groups options tables ≡ Ok first → is_by_line first.answer ≡ true →
    tables_decide login groups options (tables ++ later) ≡ Ok decision → decision ≡ first

-- EVERY MODULE MAY RETURN SOMETHING

-- at least one, and all of them codes
abbrev pub AreSomeCodes : List ℕ → Type 0
AreSomeCodes codes = (codes ≢ []) × All (λ code. code < CODES) codes

-- what tables tell leaves each module at least one code
abbrev pub KnownCodesAreSome : Type 0
KnownCodesAreSome =
    (kind : Kind) (login : LoginText) (tables : TablesText) (items : Items) (allowed : ℕ → List ℕ) →
    knowledge kind login tables items ≡ Ok allowed → (number : ℕ) → AreSomeCodes (allowed number)

abbrev pub KnowledgeIsLawful : Type 0
KnowledgeIsLawful =
    (kind : Kind) (login : LoginText) (tables : TablesText) (items : Items) (allowed : ℕ → List ℕ) →
    knowledge kind login tables items ≡ Ok allowed → IsLawful (allows_codes allowed) (module_count items)

-- THE PATHS OF A SERVICE

-- a law of each service: if files give it a stack of items for a kind, and tables tell that the modules of this stack may
-- return the codes `allowed`, then `Holds` of both
abbrev pub OfEachService : (Items → (ℕ → List ℕ) → Type 0) → Type 0
OfEachService Holds =
    (files : Folder) (service : List ℕ) (kind : Kind) (login : LoginText) (tables : TablesText) (items : Items) (allowed : ℕ → List ℕ) →
    resolved files service kind ≡ Ok items → knowledge kind login tables items ≡ Ok allowed → Holds items allowed

-- each module returns one of the codes that it may return
abbrev pub MayReturn : Items → (ℕ → List ℕ) → Assignment → Type 0
MayReturn items allowed answers = IsAllowed (allows_codes allowed) (module_count items) answers

-- the listing of the paths that such assignments take
abbrev pub IsListingOf : Items → (ℕ → List ℕ) → List PathValue → Type 0
IsListingOf items allowed paths = IsListing (allows_codes allowed) (module_count items) (path_through items) paths

-- an assignment agrees with exactly one of the paths, and the decision there is that of the run with the assignment
pub record AgreesWithOne (items : Items) (answers : Assignment) (paths : List PathValue) : Type 0 where
  pub path : PathValue
  pub listed : Member path paths
  pub agrees : Agrees answers path
  pub alone : (other : PathValue) → Member other paths → Agrees answers other → other ≡ path
  pub decides : path.decision ≡ decided items answers

-- there is exactly one listing
abbrev pub ServiceHasOneListing : Type 0
ServiceHasOneListing =
    OfEachService (λ items allowed.
    (paths : List PathValue) × IsListingOf items allowed paths × ((other : List PathValue) → IsListingOf items allowed other → other ≡ paths))

-- EVERY PATH: each assignment of codes that the modules may return agrees with exactly one path of the listing, and the
-- decision there is that of the run with the assignment
abbrev pub EveryAssignmentHasOnePath : Type 0
EveryAssignmentHasOnePath =
    OfEachService (λ items allowed.
    (paths : List PathValue) (answers : Assignment) → IsListingOf items allowed paths → MayReturn items allowed answers → AgreesWithOne items answers paths)

-- the listing is that of all codes, without the paths that the modules' codes cannot follow
abbrev pub ListingIsNarrowed : Type 0
ListingIsNarrowed =
    OfEachService (λ items allowed.
    (paths all : List PathValue) → IsListingOf items allowed paths → IsListing anything (module_count items) (path_through items) all →
    paths ≡ filter (can_follow (allows_codes allowed)) all)

-- whatever tables tell, codes are a cursor of the service, or are refused as a cursor, in exactly one way
abbrev pub CursorHasOneVerdict : Type 0
CursorHasOneVerdict =
    (files : Folder) (service : List ℕ) (kind : Kind) (items : Items) (codes : List ℕ) →
    resolved files service kind ≡ Ok items → All (λ code. code < CODES) codes →
    (verdict : Verdict) × HasVerdict (module_count items) (path_through items) codes verdict
    × ((other : Verdict) → HasVerdict (module_count items) (path_through items) codes other → other ≡ verdict)
