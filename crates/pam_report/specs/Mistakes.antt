-- What the line of a refusal says of words that are wrong: the word, and the nearest right one, or else what to write.
use Rattle.std.specs.Prelude.{ℕ, Bool, List, [], ◌∷◌, ◌++◌, bytes_eq, codes, find, length, map, nat_lt, option_map, take}
use Rattle.std.specs.Prelude.{if◌then◌else◌, Option, Some, None}
use Rattle.std.specs.Char.{to_ascii_lowercase}
use Rattle.std.specs.List.{concat}
use Rattle.pam_codes.specs.Code.{code_names}
use Rattle.pam_explain.specs.Explanation.{Explanation}
use Rattle.pam_explain.specs.Explanations.{explanations}
use Rattle.pam_report.specs.Fault.{line_of}
use Rattle.pam_report.specs.FaultTable.{usage_row}
use Rattle.pam_report.specs.declared.fault.naming.Meant.{Meant}
use Rattle.pam_report.specs.declared.fault.naming.Meant.TheVariants as meant
use Rattle.pam_spelling.specs.Nearest.{nearest}
use Rattle.pam_words.specs.Mistakes.{MistakeText, answers, beside_conf, beside_json, both_forms, candidate, code, drawing, folder, form, kind, level}
use Rattle.pam_words.specs.Mistakes.{many_sources, no_moment, no_user, setting, vendor_alone}
use Rattle.pam_words.specs.declared.wanted.Usage.{Usage}

-- ---- a word that is wrong, by what is meant

-- what is said of it
unfoldable pub said_of : Meant → List ℕ
said_of meant.Kind = codes "is no kind"
said_of meant.Code = codes "is no return code"
said_of meant.Drawing = codes "is no format"
said_of meant.Form = codes "is no format"
said_of meant.Level = codes "is no level"
said_of meant.Answers = codes "is no value of --answers"
said_of meant.Setting = codes "is not KEY=CODES"
said_of meant.Candidate = codes "is not NAME=FILE, or its NAME has a slash"
said_of meant.File = codes "is a folder"
said_of meant.Number = codes "is the number of no fault or finding"
said_of meant.Key = codes "of --set names no module"
said_of meant.NoCode = codes "of --set has no code"

-- what to write where no right word is near
unfoldable pub mending_of : Meant → List ℕ
mending_of meant.Kind = codes "write auth, account, password or session"
mending_of meant.Code = codes "write one as success"
mending_of meant.Drawing = codes "write dot, mermaid or svg"
mending_of meant.Form = codes "write short, full, json, sarif or patch"
mending_of meant.Level = codes "write error, warning or note"
mending_of meant.Answers = codes "write any or possible"
mending_of meant.Setting = codes "write one as pam_unix.so=success"
mending_of meant.Candidate = codes "write one as sshd=candidate"
mending_of meant.File = codes "write the file of a service, or --dir before it"
mending_of meant.Number = codes "write one as S2, or none to list all"
mending_of meant.Key = codes "write the name of one as pam_unix.so, with its ending"
mending_of meant.NoCode = codes "write one as success"

-- the words that are right, where they are few
unfoldable pub right_words : Meant → List (List ℕ)
right_words meant.Kind = codes "auth" ∷ codes "account" ∷ codes "password" ∷ codes "session" ∷ []
right_words meant.Code = code_names
right_words meant.Drawing = codes "dot" ∷ codes "mermaid" ∷ codes "svg" ∷ []
right_words meant.Form = codes "short" ∷ codes "full" ∷ codes "json" ∷ codes "sarif" ∷ codes "patch" ∷ []
right_words meant.Level = codes "error" ∷ codes "warning" ∷ codes "note" ∷ []
right_words meant.Answers = codes "any" ∷ codes "possible" ∷ []
right_words meant = []

-- `; did you mean "NAME"?`, if there is one
abbrev pub hint : Option (List ℕ) → List ℕ
hint None = []
hint (Some name) = concat (codes "; did you mean \"" ∷ name ∷ codes "\"?" ∷ [])

-- the same, or else `; ` and how to mend it
abbrev pub hint_or : Option (List ℕ) → List ℕ → List ℕ
hint_or None mending = codes "; " ++ mending
hint_or (Some name) mending = hint (Some name)

-- of a long word the first 64 bytes, and `..`
abbrev pub front_of : List ℕ → List ℕ
front_of word = if nat_lt 64 (length word) then take 64 word else word

abbrev pub dots_after : List ℕ → List ℕ
dots_after word = if nat_lt 64 (length word) then codes ".." else []

abbrev pub text_with : List ℕ → List ℕ → List ℕ → List ℕ
text_with word said hinted = concat (codes ": \"" ∷ front_of word ∷ dots_after word ∷ codes "\" " ∷ said ∷ hinted ∷ [])

-- `: "WORD" SAID`, and the nearest right word, or else how to mend it
abbrev pub named_text : Meant → Option (List ℕ) → List ℕ → List ℕ
named_text meant near word = text_with word (said_of meant) (hint_or near (mending_of meant))

-- the same of one of few words, which are compared without case
abbrev pub word_text : Meant → List ℕ → List ℕ
word_text meant word = named_text meant (nearest (right_words meant) (map to_ascii_lowercase word)) word

-- ---- the words of the command line

-- where no single word is wrong
unfoldable pub plain_text : MistakeText → List ℕ
plain_text many_sources = codes ": more than one source is named; write one of --dir DIR, --conf FILE and --root DIR"
plain_text vendor_alone = codes ": --vendor-dir is given without --dir; write --dir DIR too, and neither --conf nor --root"
plain_text both_forms = codes ": both --conf and --root are given; write one of them, or neither to compare folders"
plain_text beside_conf = codes ": a file of a folder is given beside --conf; write the rules that it has into the FILE of --conf"
plain_text beside_json = codes ": another form is named beside --json; write one of them"
plain_text no_user = codes ": a table is given without a user; write --user USER"
plain_text no_moment = codes ": not one moment is given; write --at as 2024-05-06T10:00, or --at-unix SECONDS, alone or with --zone RULE"
plain_text mistake = []

-- WHAT IS SAID of a mistake, after the name of the refusal
abbrev pub mistake_text : MistakeText → List ℕ
mistake_text (kind word) = word_text meant.Kind word
mistake_text (code word) = word_text meant.Code word
mistake_text (drawing word) = word_text meant.Drawing word
mistake_text (form word) = word_text meant.Form word
mistake_text (level word) = word_text meant.Level word
mistake_text (answers word) = word_text meant.Answers word
mistake_text (setting word) = named_text meant.Setting None word
mistake_text (candidate word) = named_text meant.Candidate None word
mistake_text (folder word) = named_text meant.File None word
mistake_text mistake = plain_text mistake

-- THE LINE of words that are refused, with what is wrong with them
abbrev pub mistaken_line : Usage → MistakeText → List ℕ
mistaken_line usage mistake = line_of (usage_row usage) (mistake_text mistake)

-- ---- the number that is to be explained

-- the explanation has this name, whatever the case of its letters
abbrev pub has_name : List ℕ → Explanation → Bool
has_name name e = bytes_eq (map to_ascii_lowercase e.name) (map to_ascii_lowercase name)

-- the number of the first fault or finding with this name
abbrev pub number_of_name : List ℕ → Option (List ℕ)
number_of_name name = option_map (λ e. e.number) (find (has_name name) explanations)

-- what U14 says of a word: the number of the fault or finding with this name, or else what to write
abbrev pub number_text : List ℕ → List ℕ
number_text word = named_text meant.Number (number_of_name word) word
