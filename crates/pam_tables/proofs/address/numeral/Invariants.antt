use Rattle.std.proofs.Common.{◌≡◌, ◌<◌, ◌^◌, take, map, true}
use Rattle.std.specs.List.{list_all}
use Rattle.std.specs.Char.{digit_value, is_digit}
use Rattle.pam_tables.specs.Address.{number_in}
use Rattle.pam_tables.proofs.address.numeral.Given as goal

abbrev pub invariant-loop-byte : goal.invariant-loop-byte
invariant-loop-byte l = record {
  digits : list_all (λ c. is_digit c l.base) (take l.byte-index l.text) ≡ true;
  value : l.number ≡ number_in l.base (map digit_value (take l.byte-index l.text));
  bound : l.number < 16 ^ l.byte-index;
}
