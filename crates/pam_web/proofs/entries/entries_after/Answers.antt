use Rattle.std.proofs.Common.{List, Bor, ℕ, map}
use Rattle.std.proofs.lemmas.List.Filters.{dedup_is}
use Rattle.std.specs.Str.{bytes_eq}
use Rattle.pam_web.specs.Files.{file_view, names_after}
use Rattle.pam_web.proofs.Names.{rising, those}
use Rattle.pam_web.proofs.entries.entries_after.Goals as goal

pub returns-clause-rising : goal.returns-clause-rising
returns-clause-rising c =
    rising (λ (n : Bor (List ℕ)). n.now) c.sort.new.self.items c.dedup.new.self.items c.in_ok-sort.ensures.sorted
    (dedup_is (λ (x y : Bor (List ℕ)). bytes_eq x.now y.now) c.sort.new.self.items c.dedup.new.self.items c.dedup.ensures.filtered)

pub returns-clause-those : goal.returns-clause-those
returns-clause-those c =
    those (λ (n : Bor (List ℕ)). n.now) (names_after c.args.start.now (map file_view c.args.files.now)) c.in_ok-names.names.items c.sort.new.self.items
    c.dedup.new.self.items c.in_ok-names.ensures c.in_ok-sort.ensures.permutation
    (dedup_is (λ (x y : Bor (List ℕ)). bytes_eq x.now y.now) c.sort.new.self.items c.dedup.new.self.items c.dedup.ensures.filtered)
