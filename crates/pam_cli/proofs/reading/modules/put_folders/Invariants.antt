-- it is known which modules are there once one of the folders is read
use Rattle.std.proofs.Common.{◌≡◌, take}
use Rattle.pam_cli.specs.inner.Reading.{known_with}
use Rattle.pam_cli.proofs.reading.modules.put_folders.Given as goal

abbrev pub invariant-loop-folder : goal.invariant-loop-folder
invariant-loop-folder g l = l.found.is_known ≡ known_with (take l.folder-index l.folders) l.initial.found.is_known
