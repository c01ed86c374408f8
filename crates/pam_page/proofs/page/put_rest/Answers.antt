use Rattle.std.proofs.Common.{◌∙◌, List, ap, sym, take}
use Rattle.pam_codes.proofs.Writing.{err-front, front-is, front-longer, writes-is, writes-then}
use Rattle.pam_page.proofs.AddedLines.{holds-none, holds-none_cut}
use Rattle.pam_page.proofs.KeptTexts.{kept_shared}
use Rattle.pam_page.proofs.PageTexts.{rest_end-is, rest_front, rest_more-is}
use Rattle.pam_page.specs.Coming.{coming, followed, side}
use Rattle.pam_page.specs.Page.{first_page, last_line, path_line, text_after}
use Rattle.pam_paths.specs.Paths.{PathValue, key}
use Rattle.pam_page.proofs.page.put_rest.Goals as goal

pub returns-in_err-write-clause-written : goal.returns-in_err-write-clause-written
returns-in_err-write-clause-written g c =
    let rest = rest_front path_line last_line (side c.args.listing.now) c.args.count (followed c.follow.new.self) (coming c.follow.new.self) in
    err-front _ c.from_residual-in_err-write.ensures.0
    (front-is (front-longer rest.0 (holds-none_cut _ _ _ _ c.requires.empty (ap path_line c.path-path.ensures) c.in_ok-add.ensures.added
    c.in_err-write.ensures.written))
    (rest.1 ∙ ap (λ (paths : List PathValue). text_after (side c.args.listing.now) c.args.count (first_page 1 paths)) (sym c.in-Some.ensures.path)))

pub returns-in-None-clause-written : goal.returns-in-None-clause-written
returns-in-None-clause-written g c =
    let all = coming c.args.listing.now in
    let left = coming c.follow.new.self in
    writes-is _ _ _ _ _ _ (writes-then _ _ _
    (holds-none _ _ _ _ c.requires.empty (ap path_line c.path-path.ensures) c.in_ok-add.ensures.added
    c.in_ok-write.ensures.written) c.put_end-in-None.ensures)
    (rest_end-is path_line last_line (side c.args.listing.now) _ c.args.count _ (followed c.follow.new.self) all left
    (c.side-in-None.ensures ∙ c.in-None.ensures.side ∙ c.in-Some.ensures.side) c.from-in-None.ensures c.in-Some.ensures.path c.in-None.ensures.path)

pub returns-in-Some-follow-clause-written : goal.returns-in-Some-follow-clause-written
returns-in-Some-follow-clause-written g c =
    let all = coming c.args.listing.now in
    let left = coming c.follow.new.self in
    let more = coming c.follow-2.new.self in
    writes-is _ _ _ _ _ _ (writes-then _ _ _
    (holds-none _ _ _ _ c.requires.empty (ap path_line c.path-path.ensures) c.in_ok-add.ensures.added
    c.in_ok-write.ensures.written) c.put_more.ensures)
    (rest_more-is path_line last_line (side c.args.listing.now) _ c.args.count _ c.cursor-cursor.result (followed c.follow.new.self)
    (followed c.follow-2.new.self) all left more
    (c.side-in-Some-follow.ensures ∙ c.in-Some-follow.ensures.side ∙ c.in-Some.ensures.side) c.from-in-Some-follow.ensures
    (c.cursor-cursor.ensures.key ∙ ap key c.path-path.ensures)
    c.in-Some.ensures.path c.in-Some-follow.ensures.path)

pub replace-requires : goal.replace-requires
replace-requires g c =
    kept_shared c.args.lines.now.texts _ _ c.in-Some.shared c.requires.kept
    (ap (take c.in-Some.shared) (ap (λ (p : PathValue). p.steps) c.path-path.ensures) ∙ c.in-Some.ensures.shared)
