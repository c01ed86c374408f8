-- The line at a place: pam.conf(5), a rule is "a single line", and a backslash continues it.
use Rattle.std.specs.Prelude.{ℕ, ◌==◌, List, [], Option, None, Some, find, unwrap_or}
use Rattle.std.specs.Option.{option_map, option_map_or}
use Rattle.pam_conf.specs.Files.{Folder, bytes_at}
use Rattle.pam_text.specs.Source.{source_fault}
use Rattle.pam_text.specs.Text.{text_lines, text_of}

-- numbers and bytes of lines
abbrev pub Lines : Type 0
Lines = List (ℕ × List ℕ)

-- of a file that is too long or has a NUL byte no line is read
abbrev pub readable : List ℕ → List ℕ
readable bytes = option_map_or (λ fault. []) (source_fault bytes) bytes

-- a configuration as a whole has no bytes
abbrev pub bytes_of : Folder → Option ℕ → List ℕ
bytes_of files None = []
bytes_of files (Some file) = unwrap_or (option_map readable (bytes_at file files.entries)) []

abbrev pub lines_in : Folder → Option ℕ → Lines
lines_in files file = text_lines (text_of 1 (bytes_of files file))

-- the bytes of the line with a number
abbrev pub line_at : Lines → ℕ → Option (List ℕ)
line_at lines number = option_map (λ line. line.1) (find (λ line. line.0 == number) lines)

-- THE LINE of a file; a file as a whole, which has number 0, has none
abbrev pub line_of : Folder → Option ℕ → ℕ → Option (List ℕ)
line_of files file number = line_at (lines_in files file) number
