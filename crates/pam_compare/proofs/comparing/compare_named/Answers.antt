use Rattle.std.proofs.Common.{◌≤◌, arith, length}
use Rattle.pam_compare.specs.inner.Naming.{by_code}
use Rattle.pam_compare.specs.declared.comparing.TheConstants.{MAX_SITUATIONS}
use Rattle.pam_compare.proofs.Many.{many}
use Rattle.pam_compare.proofs.comparing.compare_named.Goals as goal

pub returns-then-len-gt-MAX_SITUATIONS : goal.returns-then-len-gt-MAX_SITUATIONS
returns-then-len-gt-MAX_SITUATIONS c old_allows new_allows partners told =
    let naming = c.args.pair.now.naming.now in
    let found = c.in_ok-searched.ensures in
    many old_allows new_allows c.args.pair.now.old.now c.args.pair.now.new.now partners
    naming told c.in_ok-searched.searched.nodes (by_code c.args.usual.now) c.requires.usual found.nodes
    found.reached found.walked found.unique MAX_SITUATIONS (omega (arith, c.len.ensures.count, c.if-len-gt-MAX_SITUATIONS.true))
    c.len.ensures.different c.len.ensures.old_places
    c.len.ensures.new_places c.len.ensures.held_lists

pub returns : goal.returns
returns c old_allows new_allows partners told =
    let few : length c.in_ok-searched.searched.nodes.situations.keys ≤ MAX_SITUATIONS =
    omega (arith, c.len.ensures.count, c.if-len-gt-MAX_SITUATIONS.false) in
    c.in_ok-changes.ensures old_allows new_allows partners told (c.in_ok-searched.ensures.all few)
