-- the codes so far are those of the parts so far
use Rattle.std.proofs.Common.{◌≡◌, ◌≤◌, decimal, length, map}
use Rattle.pam_conf.specs.declared.stack.TheConstants.{MAX_MODULES}
use Rattle.pam_paths.proofs.CursorTexts.{AreCodes}
use Rattle.pam_paths.proofs.cursor.Cursor.read.Given as goal

abbrev pub invariant-loop-digits : goal.invariant-loop-digits
invariant-loop-digits l = record {
  numbers : map decimal l.codes.items ≡ map (λ part. part.now) l.yielded;
  codes : AreCodes l.codes.items;
  few : length l.codes.items ≤ MAX_MODULES;
}
