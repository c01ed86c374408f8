use Rattle.std.proofs.Common.{◌≡◌, ◌<◌, ℕ, true, take}
use Rattle.std.specs.List.{list_any}
use Rattle.pam_codes.specs.Set.{codes_where, is_in}
use Rattle.pam_paths.specs.Classes.{class_of}
use Rattle.pam_paths.specs.inner.Sharing.{is_shared, past_parts}
use Rattle.pam_paths.proofs.Alone.{IsAlone}
use Rattle.pam_paths.proofs.classes.Classes.by_parts.Given as goal

abbrev pub invariant-loop-part : goal.invariant-loop-part
invariant-loop-part l =
    let ask = l.asked in
    record {
      offered : l.offered ≡ codes_where (past_parts l.initial.offered ask (take l.part-index l.parts));
      seen : l.seen ≡ codes_where (λ d. list_any (is_shared ask d) (take l.part-index l.parts));
      alone : IsAlone ask l.seen l.shared;
      whole : (d : ℕ) → d < 31 → is_in d l.known ≡ true → class_of ask d ≡ l.known;
      earlier : (d : ℕ) → d < 31 → is_in d l.earlier ≡ true → class_of ask d ≡ l.earlier;
    }
