-- Where released Linux-PAM reads a table of access.conf(5) otherwise than the manual page says: A1 to A7.
use Rattle.std.specs.Prelude.{ℕ, ◌+◌, ◌*◌, ◌^◌, ◌==◌, ◌&&◌, ◌||◌, not, Bool, true, false, List, [], ◌∷◌, codes, count_by, length, nat_eq, nat_le, nat_lt}
use Rattle.std.specs.Prelude.{if◌then◌else◌, Option, Some, None, Result, Ok, Err}
use Rattle.std.specs.List.{list_all, list_any, slice_split, starts_with}
use Rattle.std.specs.Option.{option_map_or}
use Rattle.std.specs.Str.{bytes_eq}
use Rattle.pam_tables.specs.Access.{fields_of, is_passed_over}
use Rattle.pam_tables.specs.Address.{address_of}
use Rattle.pam_tables.specs.Lines.{cut_at, is_among, is_blank_line, lines_from}
use Rattle.pam_tables.specs.Network.{network_of}
use Rattle.pam_tables.specs.Options.{Options}
use Rattle.pam_tables.specs.Tokens.{tokens_of}
use Rattle.pam_tables.specs.declared.address.Address.{Address}
use Rattle.pam_tables.specs.declared.address.Address.TheVariants.{V4, V6}
use Rattle.pam_tables.specs.declared.error.TableFault.{TableFault}
use Rattle.pam_tables.specs.declared.network.Network.{Network}
use Rattle.pam_released.specs.Bracket.{begins_in_blank}
use Rattle.pam_released.specs.Findings.{ends_in_blank}
use Rattle.pam_released.specs.tables.Findings.{found_in}
use Rattle.pam_released.specs.declared.tables.difference.TableDifference.{TableDifference}
use Rattle.pam_released.specs.declared.tables.difference.TableDifference.TheVariants.{ZeroMask, AccessNoLineFeed, LeadingBlank, BlankInToken, MaskDigits, Loopback}
use Rattle.pam_released.specs.declared.tables.finding.TableFinding.{TableFinding}

-- ---- tokens of origins

abbrev pub is_network : Result (Option Network) TableFault → Bool
is_network (Ok (Some network)) = true
is_network (Ok None) = false
is_network (Err fault) = false

-- the text after the first slash; none where there is no slash
abbrev pub after_slash : List ℕ → List ℕ
after_slash token = option_map_or (λ p. p.1) (cut_at (is_among (codes "/")) token) []

-- the text before the first slash; all of it where there is no slash
abbrev pub before_slash : List ℕ → List ℕ
before_slash token = option_map_or (λ p. p.0) (cut_at (is_among (codes "/")) token) token

-- A1: an address, a slash and a mask of one or more digits that are all 0
abbrev pub has_zero_mask : List ℕ → Bool
has_zero_mask token = list_all (λ b. b == 48) (after_slash token) && is_network (network_of token)

abbrev pub is_decimal_digit : ℕ → Bool
is_decimal_digit b = nat_le 48 b && nat_le b 57

-- several digits, of which the first is 0
abbrev pub has_leading_zero : List ℕ → Bool
has_leading_zero mask = nat_lt 1 (length mask) && starts_with nat_eq mask (codes "0") && list_all is_decimal_digit mask

-- A6: an address, a slash and a mask of several digits, of which the first is 0
abbrev pub has_mask_digits : List ℕ → Bool
has_mask_digits token = has_leading_zero (after_slash token) && is_network (network_of token)

-- 127.0.0.1 or ::1, which 1.7.0 takes for each other
abbrev pub is_loopback_address : Option Address → Bool
is_loopback_address None = false
is_loopback_address (Some (V4 number)) = number == 127 * 2 ^ 24 + 1
is_loopback_address (Some (V6 number)) = number == 1

-- A7: the address of a token, also before a mask, is one of these two
abbrev pub is_loopback : List ℕ → Bool
is_loopback token = is_loopback_address (address_of (before_slash token))

-- ---- lists

-- a text with another byte than blanks, and a blank at its start or its end
abbrev pub has_outer_blank : List ℕ → Bool
has_outer_blank text = not (is_blank_line text) && (begins_in_blank text || ends_in_blank text)

-- A4: between list separators, a token with a blank at an end
abbrev pub has_blank_in_token : List ℕ → List ℕ → Bool
has_blank_in_token separators list = list_any has_outer_blank (slice_split (is_among separators) list)

-- ---- lines

-- the users and the origins of a line, if it has a rule
abbrev pub rule_fields : Options → List ℕ → Option (List ℕ × List ℕ × List ℕ)
rule_fields options line = if is_passed_over line then None else fields_of options.field_separators line

abbrev pub users_of : Option (List ℕ × List ℕ × List ℕ) → List ℕ
users_of None = []
users_of (Some fields) = fields.1

abbrev pub origins_of : Option (List ℕ × List ℕ × List ℕ) → List ℕ
origins_of None = []
origins_of (Some fields) = fields.2

-- the number of the line that no line feed ends
abbrev pub last_line : List ℕ → ℕ
last_line bytes = count_by (λ b. b == 10) bytes + 1

-- A2: the line that no line feed ends is neither blank nor a comment
abbrev pub lacks_line_feed : ℕ → ℕ → List ℕ → Bool
lacks_line_feed last number line = number == last && not (is_passed_over line)

-- A3: a line with a rule begins with a blank
abbrev pub has_leading_blank : List ℕ → Bool
has_leading_blank line = begins_in_blank line && not (is_passed_over line)

abbrev pub field_tests : Options → ℕ → ℕ → List ℕ → List ℕ → List ℕ → List (Bool × TableDifference)
field_tests options last number line users origins =
    (list_any has_zero_mask (tokens_of options.list_separators origins), ZeroMask)
    ∷ (lacks_line_feed last number line, AccessNoLineFeed)
    ∷ (has_leading_blank line, LeadingBlank)
    ∷ (has_blank_in_token options.list_separators users || has_blank_in_token options.list_separators origins, BlankInToken)
    ∷ (list_any has_mask_digits (tokens_of options.list_separators origins), MaskDigits)
    ∷ (list_any is_loopback (tokens_of options.list_separators origins), Loopback)
    ∷ []

-- the rows, at a line of a table whose last line has this number
abbrev pub access_tests : Options → ℕ → ℕ → List ℕ → List (Bool × TableDifference)
access_tests options last number line =
    field_tests options last number line (users_of (rule_fields options line)) (origins_of (rule_fields options line))

-- THE FINDINGS OF A TABLE: A1 to A4, A6 and A7, in the order of line and number
unfoldable pub access_findings : Options → List ℕ → List TableFinding
access_findings options bytes = found_in (access_tests options (last_line bytes)) (lines_from 1 bytes)

-- ---- the rule of the module

-- A5: an argument `fieldsep=` or `listsep=` without a value
abbrev pub is_empty_separator : List ℕ → Bool
is_empty_separator argument = bytes_eq argument (codes "fieldsep=") || bytes_eq argument (codes "listsep=")

abbrev pub has_empty_separator : List (List ℕ) → Bool
has_empty_separator arguments = list_any is_empty_separator arguments
