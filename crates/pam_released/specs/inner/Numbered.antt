-- For private contracts and proofs alone: the logical lines of released Linux-PAM, each with the number of the physical line at
-- which it begins.
use Rattle.std.specs.Prelude.{List, ◌++◌, Option}
use Rattle.std.specs.Option.{option_map}
use Rattle.pam_released.specs.declared.assembly.LogicalLine.{LogicalLine}
use Rattle.pam_released.specs.Numbered.{NumberedLine}

-- a logical line, as the code keeps it
abbrev pub line_view : LogicalLine → NumberedLine
line_view line = record { start = line.number; text = line.text.items; is_fed = line.is_fed }

-- lines, and then those of the rest of a file, if it is read
abbrev pub with_front : List NumberedLine → Option (List NumberedLine) → Option (List NumberedLine)
with_front front read = option_map (λ more. front ++ more) read
