use Rattle.std.proofs.Common.{◌≡◌, ◌||◌}
use Rattle.std.specs.List.{list_any}
use Rattle.pam_tables.specs.Tokens.{tokens_of}
use Rattle.pam_released.specs.tables.Access.{has_mask_digits, has_zero_mask, is_loopback}
use Rattle.pam_released.proofs.tables.access.origin_rows.Given as goal

abbrev pub invariant-loop-token : goal.invariant-loop-token
invariant-loop-token l =
    let left = tokens_of l.token-iterator.separators.now.bytes.now l.token-iterator.rest.now in
    let all = tokens_of l.fn.separators.bytes.now l.fn.origins in
    record {
      can : (goal.iterator-loop-token).can_next l.token-iterator;
      finite : (goal.iterator-loop-token).is_finite l.token-iterator;
      zero_mask : (l.rows.zero_mask || list_any has_zero_mask left) ≡ list_any has_zero_mask all;
      mask_digits : (l.rows.mask_digits || list_any has_mask_digits left) ≡ list_any has_mask_digits all;
      loopback : (l.rows.loopback || list_any is_loopback left) ≡ list_any is_loopback all;
    }
