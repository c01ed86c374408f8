use Rattle.std.proofs.Common.{◌≡◌, ◌<◌, ℕ, Some, length, true}
use Rattle.std.specs.Prelude.{slice_index_or}
use Rattle.pam_codes.specs.Code.{all_codes}
use Rattle.pam_codes.specs.Set.{is_in}
use Rattle.pam_compare.specs.Usual.{first_usual}
use Rattle.pam_compare.specs.inner.Naming.{by_code}
use Rattle.pam_compare.proofs.witness.usual_codes.Given as goal

abbrev pub invariant-loop-name : goal.invariant-loop-name
invariant-loop-name l = record {
  count : length l.codes.items ≡ l.name;
  low : (n : ℕ) → by_code l.codes.items n < 31;
  first : (n : ℕ) → n < l.name → first_usual (slice_index_or l.naming.possible.items n all_codes) ≡ Some (by_code l.codes.items n);
  member : (n : ℕ) → n < l.name → is_in (by_code l.codes.items n) (slice_index_or l.naming.possible.items n all_codes) ≡ true;
}
