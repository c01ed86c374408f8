-- time.conf(5): each line of a table is a rule, `services;terminals;users;times`. `#` begins a comment.
use Rattle.std.specs.Prelude.{ℕ, ◌==◌, ◌||◌, Bool, false, List, [], ◌∷◌, codes, if◌then◌else◌, Option, Some, None, Result, Ok, Err}
use Rattle.std.specs.List.{list_all}
use Rattle.std.specs.Option.{option_map_or}
use Rattle.pam_codes.specs.Tokens.{is_blank}
use Rattle.pam_text.specs.Cut.{cut_at, is_among}
use Rattle.pam_text.specs.Source.{source_fault}
use Rattle.pam_text.specs.Text.{text_lines, text_of}
use Rattle.pam_tables.specs.times.Entry.{entry_of}
use Rattle.pam_tables.specs.times.Error.{source_error}
use Rattle.pam_tables.specs.times.Logic.{ItemOf, items_of}
use Rattle.pam_tables.specs.times.Pattern.{has_two_stars}
use Rattle.pam_tables.specs.times.Times.{NameList, TimeList, Rule}
use Rattle.pam_tables.specs.declared.times.entry.TimeEntry.{TimeEntry}
use Rattle.pam_tables.specs.declared.times.error.TimeError.{TimeError}
use Rattle.pam_tables.specs.declared.times.error.TimeFault.{TimeFault}
use Rattle.pam_tables.specs.declared.times.error.TimeFault.TheVariants.{MissingField, Netgroup, BadTimes, TwoWildcards}
use Rattle.pam_tables.specs.declared.times.reading.Field.{Field}
use Rattle.pam_tables.specs.declared.times.reading.Field.TheVariants.{Services, Terminals, Users}
use Rattle.pam_tables.specs.declared.times.reading.Fields.{Fields}

-- ---- fields

-- the meanings of all tokens, or the first fault
abbrev pub onto_list : {A : Type 0} → Result A TimeFault → Result (List A) TimeFault → Result (List A) TimeFault
onto_list (Err fault) others = Err fault
onto_list (Ok x) (Ok xs) = Ok (x ∷ xs)
onto_list (Ok x) (Err fault) = Err fault

abbrev pub with_meaning : {A B : Type 0} → ItemOf A → Result B TimeFault → Result (ItemOf B) TimeFault
with_meaning item (Ok x) = Ok (item.0, item.1, x)
with_meaning item (Err fault) = Err fault

abbrev pub each : {A B : Type 0} → (A → Result B TimeFault) → List (ItemOf A) → Result (List (ItemOf B)) TimeFault
each meaning [] = Ok []
each meaning (item ∷ items) = onto_list (with_meaning item (meaning item.2)) (each meaning items)

abbrev pub each_of : {A B : Type 0} → (A → Result B TimeFault) → Result (List (ItemOf A)) TimeFault → Result (List (ItemOf B)) TimeFault
each_of meaning (Ok items) = each meaning items
each_of meaning (Err fault) = Err fault

abbrev pub begins_with_at : List ℕ → Bool
begins_with_at [] = false
begins_with_at (b ∷ bs) = b == 64

abbrev pub is_netgroup : Field → List ℕ → Bool
is_netgroup Users name = begins_with_at name
is_netgroup _ name = false

-- a name has at most one wildcard, and a user is no netgroup
abbrev pub name_of : Field → List ℕ → Result (List ℕ) TimeFault
name_of field name = if is_netgroup field name then Err Netgroup else if has_two_stars name then Err TwoWildcards else Ok name

abbrev pub entry_or_fault : Option TimeEntry → Result TimeEntry TimeFault
entry_or_fault (Some entry) = Ok entry
entry_or_fault None = Err BadTimes

unfoldable pub names_of : Field → List ℕ → Result NameList TimeFault
names_of field text = each_of (name_of field) (items_of text)

unfoldable pub times_of : List ℕ → Result TimeList TimeFault
times_of text = each_of (λ token. entry_or_fault (entry_of token)) (items_of text)

-- ---- lines

abbrev pub is_blank_text : List ℕ → Bool
is_blank_text text = list_all is_blank text

-- the four fields of a line, the last of which is its rest
pub record FieldTexts : Type 0 where
  pub services : List ℕ
  pub terminals : List ℕ
  pub users : List ℕ
  pub times : List ℕ

abbrev pub fields_view : Fields → FieldTexts
fields_view f = record { services = f.services.now; terminals = f.terminals.now; users = f.users.now; times = f.times.now }

abbrev pub semicolon_cut : List ℕ → Option (List ℕ × List ℕ)
semicolon_cut text = cut_at (is_among (codes ";")) text

abbrev pub and_then : {A B : Type 0} → Option A → (A → Option B) → Option B
and_then None f = None
and_then (Some x) f = f x

abbrev pub cut_fields : List ℕ → Option FieldTexts
cut_fields line =
    and_then (semicolon_cut line) (λ a. and_then (semicolon_cut a.1) (λ b. and_then (semicolon_cut b.1) (λ c.
    Some (record { services = a.0; terminals = b.0; users = c.0; times = c.1 }))))

abbrev pub has_empty : FieldTexts → Bool
has_empty f = is_blank_text f.services || (is_blank_text f.terminals || (is_blank_text f.users || is_blank_text f.times))

abbrev pub full_fields : Option FieldTexts → Option FieldTexts
full_fields None = None
full_fields (Some f) = if has_empty f then None else Some f

unfoldable pub fields_of : List ℕ → Option FieldTexts
fields_of line = full_fields (cut_fields line)

abbrev pub rule_from : ℕ → Result NameList TimeFault → Result NameList TimeFault → Result NameList TimeFault → Result TimeList TimeFault →
    Result (Option Rule) TimeFault
rule_from line (Err fault) terminals users times = Err fault
rule_from line (Ok services) (Err fault) users times = Err fault
rule_from line (Ok services) (Ok terminals) (Err fault) times = Err fault
rule_from line (Ok services) (Ok terminals) (Ok users) (Err fault) = Err fault
rule_from line (Ok services) (Ok terminals) (Ok users) (Ok times) =
    Ok (Some (record { line = line; services = services; terminals = terminals; users = users; times = times }))

abbrev pub rule_of_fields : ℕ → Option FieldTexts → Result (Option Rule) TimeFault
rule_of_fields line None = Err MissingField
rule_of_fields line (Some f) = rule_from line (names_of Services f.services) (names_of Terminals f.terminals) (names_of Users f.users) (times_of f.times)

-- the rule of a line, or its first fault. A blank line has none
unfoldable pub rule_of : ℕ → List ℕ → Result (Option Rule) TimeFault
rule_of number line = if is_blank_text line then Ok None else rule_of_fields number (fields_of line)

-- ---- tables

-- the rule of a line, if it has one, before those of the other lines; its fault comes before theirs
abbrev pub onto_rules : ℕ → Result (Option Rule) TimeFault → Result (List Rule) TimeError → Result (List Rule) TimeError
onto_rules number (Err fault) others = Err (record { fault = fault; line = number })
onto_rules number (Ok None) others = others
onto_rules number (Ok (Some rule)) (Ok rules) = Ok (rule ∷ rules)
onto_rules number (Ok (Some rule)) (Err error) = Err error

-- the rules of numbered lines, or their first fault, with the number of its line
unfoldable pub rules_in : List (ℕ × List ℕ) → Result (List Rule) TimeError
rules_in [] = Ok []
rules_in (line ∷ lines) = onto_rules line.0 (rule_of line.0 line.1) (rules_in lines)

-- THE RULES OF A TABLE, or its first fault, with its line
unfoldable pub rules_of : List ℕ → Result (List Rule) TimeError
rules_of bytes = option_map_or (λ fault. Err (source_error fault)) (source_fault bytes) (rules_in (text_lines (text_of 1 bytes)))
