-- Line feeds, passed one by one.
use Rattle.std.proofs.Common.{◌≡◌, ◌+◌, List, add-one, ap, sym, ℕ}
use Rattle.pam_findings.specs.misspelled.Spots.{after_feed, after_feeds}

pub one_more : (passed : ℕ) (bytes : List ℕ) → after_feed (after_feeds passed bytes) ≡ after_feeds (passed + 1) bytes
unfolding after_feeds
one_more passed bytes = ap (λ (n : ℕ). after_feeds n bytes) (sym (add-one passed))
