use Rattle.std.proofs.Common.{◌≡◌, Bool, arith, is_some, length, map, subst, ℕ}
use Rattle.clap.specs.Words.{Text}
use Rattle.pam_cli.specs.System.{PlaceText, place_view}
use Rattle.pam_cli.specs.UnreadFiles.{AreUnread, IsReadAt, home_at}
use Rattle.pam_conf.proofs.ServiceSteps.{seen-of}
use Rattle.pam_words.specs.Wanted.{candidate_view}
use Rattle.pam_cli.proofs.UnreadFiles.{more-unread}
use Rattle.pam_cli.proofs.reading.unread.unread_in.Goals as goal

pub loop-position-preserved : goal.loop-position-preserved
loop-position-preserved g c =
    let told = g.S.System.told c.args.system.now in
    let candidates = map candidate_view c.args.candidates.now in
    let read = c.args.read.now in
    let file : Text × Text = (c.unwrap-name.result.now, c.unwrap-bytes.result.now) in
    let is = is_some c.in_ok-why.why in
    let home = home_at (place_view c.args.folder) (place_view c.args.vendor) read.vendor_start c.loop-position.position in
    more-unread told candidates (place_view c.args.folder) (place_view c.args.vendor) read.vendor_start read.files.entries c.loop-position.position
    c.loop-position.found.at.items c.put.new.found.at.items file.0 file.1 is c.loop-position.invariant
    (seen-of _ c.name.result c.unwrap-name.result _ c.name.ensures c.unwrap-name.ensures)
    (seen-of _ c.bytes.result c.unwrap-bytes.result _ c.bytes.ensures c.unwrap-bytes.ensures)
    (subst (λ (given : Bool). IsReadAt told home file given is) c.is_candidate-given.ensures
    (subst (λ (place : PlaceText). IsReadAt told place file c.is_candidate-given.result is) c.home_at-home.ensures c.in_ok-why.ensures))
    c.in_ok-put.ensures

pub returns : goal.returns
returns g c =
    let read = c.args.read.now in
    let last = c.loop-position-test.false in
    let within = c.loop-position.auto.position-end in
    let count = c.len-position-end.ensures in
    let all : c.loop-position.position ≡ length read.files.entries = omega (arith, last, within, count) in
    subst (λ (n : ℕ). AreUnread (g.S.System.told c.args.system.now) (map candidate_view c.args.candidates.now) (place_view c.args.folder)
    (place_view c.args.vendor) read.vendor_start read.files.entries n c.loop-position.found.at.items) all c.loop-position.invariant
