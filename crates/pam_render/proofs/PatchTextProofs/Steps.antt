-- Steps of the loops over findings and lines.
use Rattle.std.proofs.Common.{◌≡◌, ◌∙◌, ◌+◌, ℕ, List, Option, add-one, ap, arith, refl, sym}
use Rattle.pam_conf.specs.Files.{Folder}
use Rattle.pam_findings.specs.declared.host.problem.Place.{Place}
use Rattle.pam_findings.specs.declared.host.report.Finding.{Finding}
use Rattle.pam_findings.specs.misspelled.Misspelled.{MisspelledText}
use Rattle.pam_findings.specs.misspelled.Spots.{after_feed, after_feeds}
use Rattle.pam_render.specs.parts.Check.{word_at}
use Rattle.pam_render.specs.patch_text.Hunk.{first_line, pair_text, row}
use Rattle.pam_render.specs.patch_text.Mendings.{if_any, mending_of, numbered_mending}

-- the mending of a finding with its word, by its position
pub numbered_is : (files other : Folder) (words : List (Option MisspelledText)) (position : ℕ) (entry : Place × Finding) (word : Option MisspelledText)
    → other ≡ files → word ≡ word_at words position → if_any (mending_of other entry word) ≡ numbered_mending files words (position, entry)
numbered_is files other words position entry word e f = rw (e, f) refl

-- the bytes after one line more
after_one : (n : ℕ) (bytes : List ℕ) → after_feed (after_feeds n bytes) ≡ after_feeds (n + 1) bytes
unfolding after_feeds
after_one n bytes = ap (λ (m : ℕ). after_feeds m bytes) (sym (add-one n))

after_first : (bytes : List ℕ) → after_feeds 1 bytes ≡ after_feed bytes
unfolding after_feeds
after_first bytes = refl

pub feeds_more : (passed count : ℕ) (bytes left : List ℕ) → left ≡ after_feeds (passed + count) bytes
    → after_feeds 1 left ≡ after_feeds (passed + (count + 1)) bytes
feeds_more passed count bytes left e =
    let sum : passed + count + 1 ≡ passed + (count + 1) = omega arith in
    after_first left ∙ ap after_feed e ∙ after_one (passed + count) bytes ∙ ap (λ (n : ℕ). after_feeds n bytes) sum

-- a row, by what is left of both
pub row_is : (old new left right one other : List ℕ) (passed : ℕ) → one ≡ first_line left → other ≡ first_line right
    → left ≡ after_feeds passed old → right ≡ after_feeds passed new → pair_text one other ≡ row old new passed
row_is old new left right one other passed a b c d = rw (a, b, c, d) refl
