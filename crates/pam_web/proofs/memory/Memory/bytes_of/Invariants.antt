-- the files that are left have the path as all do
use Rattle.std.proofs.Common.{◌≡◌, drop, map}
use Rattle.pam_web.specs.Files.{bytes_of, file_view}
use Rattle.pam_web.proofs.memory.Memory.bytes_of.Given as goal

abbrev pub invariant-loop-file : goal.invariant-loop-file
invariant-loop-file l = bytes_of (map file_view (drop l.file-index l.self.files.now)) l.path ≡ bytes_of (map file_view l.self.files.now) l.path
