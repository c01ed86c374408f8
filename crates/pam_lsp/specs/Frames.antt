-- Frames: a message after its length.
use Rattle.std.specs.Prelude.{◌++◌, codes, decimal, length}
use Rattle.clap.specs.Words.{Text}

-- THE FRAME of a message
abbrev pub frame : Text → Text
frame message = codes "Content-Length: " ++ decimal (length message) ++ codes "\r\n\r\n" ++ message
