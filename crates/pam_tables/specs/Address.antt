-- Addresses and networks: RFC 4291 section 2.2, access.conf(5).
use Rattle.std.specs.Prelude.{ℕ, codes, nat_eq, ◌+◌, ◌-◌, ◌*◌, ◌/◌, ◌%◌, ◌==◌, ◌&&◌, Bool, true, false, List, [], ◌∷◌, ◌++◌, length, drop, map, fold, replicate}
use Rattle.std.specs.Prelude.{nat_lt, nat_le, slice_index, if◌then◌else◌, Option, Some, None, option_and_then}
use Rattle.std.specs.List.{list_all, slice_split, starts_with}
use Rattle.std.specs.Char.{digit_value, is_digit}
use Rattle.std.specs.Option.{option_map, option_map_or}
use Rattle.pam_tables.specs.Lines.{is_among}
use Rattle.pam_tables.specs.declared.address.Address.{Address}
use Rattle.pam_tables.specs.declared.address.Address.TheVariants.{V4, V6}

-- a number with more digits of a base after it
abbrev pub number_from : ℕ → ℕ → List ℕ → ℕ
number_from base number digits = fold (λ n d. n * base + d) number digits

-- the number written by digits of a base
abbrev pub number_in : ℕ → List ℕ → ℕ
number_in base digits = number_from base 0 digits

-- the number written by a text of 1 to `most` digits of a base
unfoldable pub numeral : ℕ → ℕ → List ℕ → Option ℕ
numeral base most text =
    if nat_lt 0 (length text) && nat_le (length text) most && list_all (λ c. is_digit c base) text
    then Some (number_in base (map digit_value text)) else None

-- ---- IPv4

-- a number from 0 to 255, without leading zeros
unfoldable pub octet_of : List ℕ → Option ℕ
octet_of text =
    if nat_lt 1 (length text) && slice_index text 0 == 48 then None
    else option_and_then (λ n. if nat_lt n 256 then Some n else None) (numeral 10 3 text)

abbrev pub all_four : Option ℕ → Option ℕ → Option ℕ → Option ℕ → Option ℕ
all_four (Some a) (Some b) (Some c) (Some d) = Some (number_in 256 (a ∷ b ∷ c ∷ d ∷ []))
all_four _ _ _ _ = None

abbrev pub four_octets : List (List ℕ) → Option ℕ
four_octets (a ∷ b ∷ c ∷ d ∷ []) = all_four (octet_of a) (octet_of b) (octet_of c) (octet_of d)
four_octets _ = None

-- an IPv4 address: four octets joined by dots
unfoldable pub v4_of : List ℕ → Option ℕ
v4_of text = four_octets (slice_split (is_among (codes ".")) text)

-- ---- IPv6

-- the text after the last colon: a piece of hexadecimal digits, or an IPv4 address as two pieces
abbrev pub last_pieces : Bool → List ℕ → Option (List ℕ)
last_pieces ends_in_v4 text = option_map_or (λ piece. Some (piece ∷ []))
    (numeral 16 4 text)
    (if ends_in_v4 then option_map (λ v. v / 65536 ∷ v % 65536 ∷ []) (v4_of text) else None)

abbrev pub with_piece : Option ℕ → Option (List ℕ) → Option (List ℕ)
with_piece (Some piece) (Some pieces) = Some (piece ∷ pieces)
with_piece (Some piece) None = None
with_piece None pieces = None

abbrev pub pieces_in : Bool → List (List ℕ) → Option (List ℕ)
pieces_in ends_in_v4 [] = Some []
pieces_in ends_in_v4 (text ∷ []) = last_pieces ends_in_v4 text
pieces_in ends_in_v4 (text ∷ next ∷ texts) = with_piece (numeral 16 4 text) (pieces_in ends_in_v4 (next ∷ texts))

-- the 16-bit pieces of a text, joined by colons. An empty text has none
unfoldable pub pieces_of : Bool → List ℕ → Option (List ℕ)
pieces_of ends_in_v4 [] = Some []
pieces_of ends_in_v4 (b ∷ bs) = pieces_in ends_in_v4 (slice_split (is_among (codes ":")) (b ∷ bs))

-- the text before and after the first `::`
unfoldable pub double_colon : List ℕ → Option (List ℕ × List ℕ)
double_colon [] = None
double_colon (b ∷ bs) =
    if starts_with nat_eq (b ∷ bs) (codes "::") then Some ([], drop 2 (b ∷ bs))
    else option_map (λ p. (b ∷ p.0, p.1)) (double_colon bs)

-- eight pieces are an address
abbrev pub eight_pieces : Option (List ℕ) → Option ℕ
eight_pieces None = None
eight_pieces (Some pieces) = if length pieces == 8 then Some (number_in 65536 pieces) else None

-- `::` is one or more pieces of zero
abbrev pub around_zeros : Option (List ℕ) → Option (List ℕ) → Option ℕ
around_zeros None back = None
around_zeros (Some front) None = None
around_zeros (Some front) (Some back) =
    if nat_lt (length front + length back) 8
    then Some (number_in 65536 (front ++ replicate (8 - (length front + length back)) 0 ++ back)) else None

unfoldable pub v6_of : List ℕ → Option ℕ
v6_of text = option_map_or (λ p. around_zeros (pieces_of false p.0) (pieces_of true p.1))
    (double_colon text)
    (eight_pieces (pieces_of true text))

-- ---- either family

-- the address written by a text
unfoldable pub address_of : List ℕ → Option Address
address_of text = option_map_or (λ v. Some (V4 v)) (v4_of text) (option_map V6 (v6_of text))
