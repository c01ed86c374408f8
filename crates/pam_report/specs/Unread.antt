-- What is said of an input that cannot be read, after its name: why, and how to mend it.
use Rattle.std.specs.Prelude.{List, ℕ, [], codes}
use Rattle.pam_report.specs.declared.inputs.InputError.{InputError}
use Rattle.pam_report.specs.declared.inputs.InputError.TheVariants as inputs
use Rattle.pam_report.specs.declared.inputs.ReadFault.{ReadFault}
use Rattle.pam_report.specs.declared.inputs.ReadFault.TheVariants as reads

unfoldable pub read_sentence : ReadFault → List ℕ
read_sentence reads.NotFound = codes "there is no such file or folder; mend the name"
read_sentence reads.NotPermitted = codes "the system does not permit it; run pamcheck as a user who may read it"
read_sentence reads.NotFolder = codes "it is no folder, or a part of its path is none; write the name of a folder"
read_sentence reads.IsFolder = codes "it is a folder; write the name of a file"
read_sentence reads.NotFile = codes "it is no regular file; put one in its place"
read_sentence reads.Looping = codes "its links lead back to themselves; mend one of them"
read_sentence reads.TooLong = codes "it is longer than 1 MiB; name a shorter one"
read_sentence reads.NulByte = codes "it has a NUL byte; remove it"
read_sentence reads.Failed = codes "it cannot be read; look what it is"

-- THE SENTENCE. A failed allocation has none
abbrev pub input_sentence : InputError → List ℕ
input_sentence (inputs.Read name why) = read_sentence why
input_sentence inputs.Memory = []
