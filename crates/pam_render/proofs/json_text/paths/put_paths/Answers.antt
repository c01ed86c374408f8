use Rattle.std.proofs.Common.{◌∙◌, ◌-◌, ap, arith, sym, take}
use Rattle.std.specs.List.{flat_map}
use Rattle.pam_codes.proofs.Writing.{all-is, all-then, err-front, front-is, front-longer, front-then, writes-is, writes-then}
use Rattle.pam_text.proofs.FlatTexts.{flat_map-push}
use Rattle.pam_page.proofs.PageTexts.{goes, page_front, page_none, page_rest}
use Rattle.pam_page.specs.Coming.{coming, followed, side}
use Rattle.pam_render.specs.json_text.Paths.{last_json, path_json}
use Rattle.pam_render.proofs.json_text.paths.put_paths.Goals as goal

pub returns-in_default : goal.returns-in_default
returns-in_default g c =
    let l = c.loop-count in
    let all = coming c.args.listing.now in
    writes-is _ _ _ _ _ _ (writes-then _ _ _ l.invariant.written c.put_last.ensures)
    (page_none (path_json c.args.modules.now) last_json (side c.args.listing.now) _ all l.count _ c.args.limit (omega (arith, c.loop-count-test.true))
    l.invariant.within (sym l.invariant.left ∙ c.in_default.ensures.path) (c.side.ensures ∙ c.in_default.ensures.side ∙ l.invariant.side) c.from.ensures)

pub returns-in_err-put_path : goal.returns-in_err-put_path
returns-in_err-put_path g c =
    let l = c.loop-count in
    let all = coming c.args.listing.now in
    let json = path_json c.args.modules.now in
    let page = page_front json last_json (side c.args.listing.now) all l.count c.args.limit (followed c.follow.new.self)
    (coming c.follow.new.self) (omega (arith, c.loop-count-test.true)) (sym l.invariant.left ∙ c.in-Some.ensures.path) in
    let line = front-is c.in_err-put_path.ensures (ap json c.path.ensures) in
    err-front _ c.from_residual.ensures.0 (front-is (front-longer page.0 (front-then l.invariant.written line)) page.1)

pub loop-count-preserved : goal.loop-count-preserved
loop-count-preserved g c =
    let l = c.loop-count in
    let all = coming c.args.listing.now in
    let json = path_json c.args.modules.now in
    let next = goes all l.count (followed c.follow.new.self) (coming c.follow.new.self) (sym l.invariant.left ∙ c.in-Some.ensures.path) in
    let lines = ap (flat_map json) next.before ∙ flat_map-push json (take l.count all) (followed c.follow.new.self) in
    let line = all-is c.in_ok-put_path.ensures (ap json c.path.ensures) in
    record {
      written = all-is (all-then l.invariant.written line) (sym lines);
      left = sym next.after;
      side = c.in-Some.ensures.side ∙ l.invariant.side;
      within = omega (arith, next.inside);
    }

pub returns : goal.returns
returns g c =
    let l = c.loop-count in
    let all = coming c.args.listing.now in
    writes-is _ _ _ _ _ _ (writes-then _ _ _ l.invariant.written c.put_rest.ensures)
    (page_rest (path_json c.args.modules.now) last_json (side c.args.listing.now) _ all _ l.count (c.args.limit - 1) c.args.limit
    (omega (arith, c.requires)) (omega (arith, c.loop-count-test.false, l.auto.count-end)) l.invariant.within l.invariant.left l.invariant.side)
