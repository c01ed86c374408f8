-- Names and words, in which no byte can end or change a line.
use Rattle.std.specs.Prelude.{ℕ, ◌+◌, ◌-◌, ◌*◌, ◌/◌, ◌%◌, ◌==◌, ◌&&◌, ◌||◌, nat_le, nat_lt, max, Bool, true, false, if◌then◌else◌}
use Rattle.std.specs.Prelude.{List, [], ◌∷◌, ◌++◌, codes, length, slice_index_or, take}
use Rattle.pam_render.specs.declared.sentences.shown.TheConstants.{MAX_SHOWN}

-- the two digits of a byte
abbrev pub hex_digit : ℕ → List ℕ
hex_digit digit = (if nat_lt digit 10 then 48 + digit else 87 + digit) ∷ []

-- a control byte, and the backslash of one
abbrev pub is_escaped : ℕ → Bool
is_escaped byte = nat_lt byte 32 || (byte == 127) || (byte == 92)

-- from one number to another
abbrev pub is_between : ℕ → ℕ → ℕ → Bool
is_between least most n = nat_le least n && nat_le n most

-- HIDDEN CHARACTERS cannot be seen, or change how those beside them are seen: the control characters from U+0080 to U+009F, the
-- no-break space, the soft hyphen, the other spaces and zero-width characters, the separators of lines, the marks of direction, and
-- the byte order mark
abbrev pub is_hidden : ℕ → Bool
is_hidden character =
    is_between 128 160 character || (character == 173) || (character == 1564) || is_between 8192 8207 character
    || is_between 8232 8239 character || is_between 8287 8303 character || (character == 12288) || (character == 65279)

-- a byte that continues a character in UTF-8
abbrev pub continues : ℕ → Bool
continues byte = nat_le 128 byte && nat_lt byte 192

-- the character of two bytes in UTF-8, and of three; 0 where they are none
abbrev pub two_bytes : ℕ → ℕ → ℕ
two_bytes first second =
    if (nat_le 192 first && nat_lt first 224) && continues second then (first - 192) * 64 + (second - 128) else 0

abbrev pub three_bytes : ℕ → ℕ → ℕ → ℕ
three_bytes first second third =
    if (nat_le 224 first && nat_lt first 240) && continues second && continues third
    then (first - 224) * 4096 + (second - 128) * 64 + (third - 128) else 0

-- the number of bytes of the hidden character at the front, or 0 where there is none
abbrev pub hidden_len : List ℕ → ℕ
hidden_len bytes =
    if is_hidden (two_bytes (slice_index_or bytes 0 0) (slice_index_or bytes 1 0)) then 2
    else if is_hidden (three_bytes (slice_index_or bytes 0 0) (slice_index_or bytes 1 0) (slice_index_or bytes 2 0)) then 3
    else 0

-- the hidden character at the front, or 0 where there is none, and the first one of a word
abbrev pub hidden_at : List ℕ → ℕ
hidden_at bytes =
    if is_hidden (two_bytes (slice_index_or bytes 0 0) (slice_index_or bytes 1 0)) then two_bytes (slice_index_or bytes 0 0) (slice_index_or bytes 1 0)
    else if is_hidden (three_bytes (slice_index_or bytes 0 0) (slice_index_or bytes 1 0) (slice_index_or bytes 2 0))
    then three_bytes (slice_index_or bytes 0 0) (slice_index_or bytes 1 0) (slice_index_or bytes 2 0)
    else 0

unfoldable pub first_hidden : List ℕ → ℕ
first_hidden [] = 0
first_hidden (byte ∷ rest) = if hidden_at (byte ∷ rest) == 0 then first_hidden rest else hidden_at (byte ∷ rest)

-- what it is
unfoldable pub hidden_name : ℕ → List ℕ
hidden_name character =
    if character == 65279 then codes ": the word has a byte order mark"
    else if character == 160 then codes ": the word has a no-break space"
    else if character == 8203 then codes ": the word has a zero-width space"
    else if character == 8204 then codes ": the word has a zero-width non-joiner"
    else if character == 8205 then codes ": the word has a zero-width joiner"
    else if character == 173 then codes ": the word has a soft hyphen"
    else codes ": the word has a character that cannot be seen"

-- WHAT IS SAID of a word with a hidden character, after what is wrong with it
abbrev pub hidden_text : List ℕ → List ℕ
hidden_text word = if first_hidden word == 0 then [] else hidden_name (first_hidden word)

-- whether a byte is shown by its number; the number given is that of the bytes, from this one on, of a hidden character
abbrev pub is_numbered : ℕ → ℕ → Bool
is_numbered hidden byte = is_escaped byte || nat_lt 0 hidden

-- a byte: `\x0a` for a line feed
abbrev pub shown_byte : Bool → ℕ → List ℕ
shown_byte numbered byte = if numbered then codes "\\x" ++ hex_digit (byte / 16) ++ hex_digit (byte % 16) else byte ∷ []

-- the same, but within brackets a backslash before a closing one
abbrev pub byte_within : Bool → Bool → ℕ → List ℕ
byte_within brackets numbered byte = if brackets && (byte == 93) then codes "\\]" else shown_byte numbered byte

-- bytes, maybe within brackets; the number given is that of the bytes at the front that belong to a hidden character
unfoldable pub shown_bytes : Bool → ℕ → List ℕ → List ℕ
shown_bytes brackets hidden [] = []
shown_bytes brackets hidden (byte ∷ rest) =
    byte_within brackets (is_numbered (max hidden (hidden_len (byte ∷ rest))) byte) byte
    ++ shown_bytes brackets (max hidden (hidden_len (byte ∷ rest)) - 1) rest

-- A NAME, in which no control character and no hidden one is left
abbrev pub shown_name : List ℕ → List ℕ
shown_name name = shown_bytes false 0 name

-- a name within brackets, which ends them nowhere
abbrev pub name_within : List ℕ → List ℕ
name_within name = shown_bytes true 0 name

-- of a long word the first bytes
abbrev pub shown_word : List ℕ → List ℕ
shown_word word = if nat_lt MAX_SHOWN (length word) then shown_name (take MAX_SHOWN word) ++ codes ".." else shown_name word

-- `"WORD"`
unfoldable pub quoted : List ℕ → List ℕ
quoted word = codes "\"" ++ shown_word word ++ codes "\""
