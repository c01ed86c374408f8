use Rattle.std.proofs.Common.{◌∙◌, List, ap, sym}
use Rattle.pam_codes.proofs.Writing.{all-is, err-front, front-is, front-longer, writes-is, writes-then}
use Rattle.pam_page.proofs.PageTexts.{rest_end-is, rest_front, rest_more-is}
use Rattle.pam_page.specs.Coming.{coming, followed, side}
use Rattle.pam_page.specs.Page.{first_page, text_by}
use Rattle.pam_paths.specs.Paths.{PathValue, key}
use Rattle.pam_render.specs.json_text.Paths.{last_json, path_json}
use Rattle.pam_render.proofs.json_text.paths.put_rest.Goals as goal

pub returns-in_err-put_path : goal.returns-in_err-put_path
returns-in_err-put_path g c =
    let json = path_json c.args.modules.now in
    let at = side c.args.listing.now in
    let rest = rest_front json last_json at c.args.count (followed c.follow.new.self) (coming c.follow.new.self) in
    err-front _ c.from_residual.ensures.0
    (front-is (front-longer rest.0 (front-is c.in_err-put_path.ensures (ap json c.path-path.ensures)))
    (rest.1 ∙ ap (λ (paths : List PathValue). text_by json last_json at c.args.count (first_page 1 paths)) (sym c.in-Some.ensures.path)))

pub returns-in-None : goal.returns-in-None
returns-in-None g c =
    let json = path_json c.args.modules.now in
    writes-is _ _ _ _ _ _ (writes-then _ _ _ (all-is c.in_ok-put_path.ensures (ap json c.path-path.ensures)) c.put_last-in-None.ensures)
    (rest_end-is json last_json (side c.args.listing.now) _ c.args.count _ (followed c.follow.new.self) (coming c.args.listing.now)
    (coming c.follow.new.self) (c.side-in-None.ensures ∙ c.in-None.ensures.side ∙ c.in-Some.ensures.side) c.from-in-None.ensures c.in-Some.ensures.path
    c.in-None.ensures.path)

pub returns-in-Some-follow : goal.returns-in-Some-follow
returns-in-Some-follow g c =
    let json = path_json c.args.modules.now in
    writes-is _ _ _ _ _ _ (writes-then _ _ _ (all-is c.in_ok-put_path.ensures (ap json c.path-path.ensures)) c.put_last-in-Some-follow.ensures)
    (rest_more-is json last_json (side c.args.listing.now) _ c.args.count _ c.cursor-cursor.result (followed c.follow.new.self)
    (followed c.follow-2.new.self) (coming c.args.listing.now) (coming c.follow.new.self) (coming c.follow-2.new.self)
    (c.side-in-Some-follow.ensures ∙ c.in-Some-follow.ensures.side ∙ c.in-Some.ensures.side) c.from-in-Some-follow.ensures
    (c.cursor-cursor.ensures.key ∙ ap key c.path-path.ensures) c.in-Some.ensures.path c.in-Some-follow.ensures.path)
