use Rattle.std.proofs.Common.{◌≡◌, ◌+◌, ◌≤◌, ◌-◌, ◌∙◌, ◌++◌, List, None, refl, ℕ, drop, sym, subst, ap, arith, length, take}
use Rattle.std.specs.List.{flat_map}
use Rattle.std.specs.Prelude.{OnOk}
use Rattle.std.proofs.lemmas.List.{drop-drop}
use Rattle.pam_codes.proofs.Writing.{err-front, front-is, front-longer, writes-is, writes-then}
use Rattle.pam_page.proofs.AddedLines.{holds-cut, holds-failed, holds-is, holds-more, holds-written}
use Rattle.pam_text.proofs.FlatTexts.{flat_map-push}
use Rattle.pam_page.proofs.KeptTexts.{kept_shared}
use Rattle.pam_page.proofs.ListingSteps.{goes_more, none_left, when_ok}
use Rattle.pam_page.proofs.PageTexts.{goes, page_front, page_none, page_rest}
use Rattle.pam_page.specs.Coming.{coming, followed, side}
use Rattle.pam_page.specs.Page.{first_page, last_line, path_line, text_after}
use Rattle.pam_paths.specs.Paths.{PathValue, StepValue}
use Rattle.pam_page.proofs.page.put_lines.Goals as goal

pub returns-in_default-clause-written : goal.returns-in_default-clause-written
returns-in_default-clause-written g c =
    let l = c.loop-count in
    writes-is _ _ _ _ _ _ (writes-then _ _ _ (holds-written _ _ l.invariant.written c.in_ok-write.ensures.written) c.put_end.ensures)
    (page_none path_line last_line (side c.args.listing.now) _ (coming c.args.listing.now) l.count _ c.args.limit
    (omega (arith, c.loop-count-test.true)) l.invariant.within (sym l.invariant.left ∙ c.in_default.ensures.path)
    (c.side.ensures ∙ c.in_default.ensures.side ∙ l.invariant.listing.same_side) c.from.ensures)

pub returns-in_err-add-clause-written : goal.returns-in_err-add-clause-written
returns-in_err-add-clause-written g c =
    let l = c.loop-count in
    let page = page_front path_line last_line (side c.args.listing.now) (coming c.args.listing.now) l.count c.args.limit (followed c.follow.new.self)
    (coming c.follow.new.self) (omega (arith, c.loop-count-test.true)) (sym l.invariant.left ∙ c.in-Some.ensures.path) in
    let line = ap path_line c.path-path.ensures in
    err-front _ c.from_residual-in_err-add.ensures.0
    (front-is (front-longer page.0 (front-is (holds-failed _ _ _ l.invariant.written c.in_err-add.ensures.added)
    (ap (λ (text : List ℕ). flat_map path_line (take l.count (coming c.args.listing.now)) ++ text) line))) page.1)

pub returns-in_err-write-clause-written : goal.returns-in_err-write-clause-written
returns-in_err-write-clause-written g c =
    let l = c.loop-count in
    let at = side c.args.listing.now in
    err-front _ c.from_residual.ensures.0
    (front-is (front-longer (last_line at l.count None) (holds-cut _ _ l.invariant.written c.in_err-write.ensures.written))
    (page_none path_line last_line at at (coming c.args.listing.now) l.count l.count c.args.limit (omega (arith, c.loop-count-test.true)) l.invariant.within
    (sym l.invariant.left ∙ c.in_default.ensures.path) refl refl))

pub returns-in_err-write-2-clause-written : goal.returns-in_err-write-2-clause-written
returns-in_err-write-2-clause-written g c =
    let l = c.loop-count in
    let at = side c.args.listing.now in
    let all = coming c.args.listing.now in
    let left = drop l.count all in
    err-front _ c.from_residual-in_err-write-2.ensures.0
    (front-is
    (front-longer (text_after at (c.args.limit - 1) (first_page 1 left)) (holds-cut _ _ l.invariant.written c.in_err-write-2.ensures.written))
    (page_rest path_line last_line at at all left l.count (c.args.limit - 1) c.args.limit (omega (arith, c.requires.some))
    (omega (arith, c.loop-count-test.false, l.auto.count-end)) l.invariant.within refl refl))

pub loop-count-preserved : goal.loop-count-preserved
loop-count-preserved g c =
    let l = c.loop-count in
    let all = coming c.args.listing.now in
    let next = goes all l.count (followed c.follow.new.self) (coming c.follow.new.self) (sym l.invariant.left ∙ c.in-Some.ensures.path) in
    let lines = ap (flat_map path_line) next.before ∙ flat_map-push path_line (take l.count all) (followed c.follow.new.self) in
    let more = ap (λ (text : List ℕ). flat_map path_line (take l.count all) ++ text) (ap path_line c.path-path.ensures) in
    record {
      written = holds-is _ _ _ (holds-more l.lines.lines c.add.new.self.lines (flat_map path_line (take l.count all))
          (path_line c.path-path.result.now) l.invariant.written c.in_ok-add.ensures.added) (more ∙ sym lines);
      left = sym next.after;
      kept = subst (λ (l : List StepValue). l ≡ take (length l) (followed c.follow.new.self).steps) (sym c.in_ok-add.ensures.kept)
          (c.replace.ensures ∙ ap (take _) (ap (λ (p : PathValue). p.steps) c.path-path.ensures));
      within = omega (arith, next.inside);
      listing = goes_more _ _ _ _ l.invariant.listing c.in-Some.ensures.side c.in-Some.ensures.most c.in-Some.ensures.work
          c.in-Some.ensures.grows;
    }

pub returns-clause-written : goal.returns-clause-written
returns-clause-written g c =
    let l = c.loop-count in
    writes-is _ _ _ _ _ _ (writes-then _ _ _ (holds-written _ _ l.invariant.written c.in_ok-write-2.ensures.written) c.put_rest.ensures.written)
    (page_rest path_line last_line (side c.args.listing.now) _ (coming c.args.listing.now) _ l.count (c.args.limit - 1) c.args.limit
    (omega (arith, c.requires.some)) (omega (arith, c.loop-count-test.false, l.auto.count-end)) l.invariant.within l.invariant.left
    l.invariant.listing.same_side)

pub replace-requires : goal.replace-requires
replace-requires g c =
    let l = c.loop-count in
    kept_shared l.lines.texts _ _ c.in-Some.shared l.invariant.kept
    (ap (take c.in-Some.shared) (ap (λ (p : PathValue). p.steps) c.path-path.ensures) ∙ c.in-Some.ensures.shared)

pub returns-in_default-clause-left : goal.returns-in_default-clause-left
returns-in_default-clause-left g c =
    let l = c.loop-count in
    let room : l.count ≤ c.args.limit + 1 = omega (arith, c.loop-count-test.true) in
    when_ok c.put_end.result
    (c.in_default.ensures.left ∙ ap (drop 1) c.in_default.ensures.path
    ∙ sym (none_left (coming c.args.listing.now) l.count (c.args.limit + 1) room (sym l.invariant.left ∙ c.in_default.ensures.path)))

pub returns-clause-left : goal.returns-clause-left
returns-clause-left g c =
    let l = c.loop-count in
    let all = coming c.args.listing.now in
    let past : l.count + 2 ≡ c.args.limit + 1 = omega (arith, c.requires.some, c.loop-count-test.false, l.auto.count-end) in
    subst (λ (left : List PathValue). OnOk c.put_rest.result (coming c.put_rest.new.listing ≡ left))
    (ap (drop 2) l.invariant.left ∙ drop-drop 2 l.count all ∙ ap (λ (count : ℕ). drop count all) past) c.put_rest.ensures.left
