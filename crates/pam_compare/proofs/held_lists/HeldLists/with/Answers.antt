use Rattle.pam_compare.specs.declared.held_lists.Link.{Link}
use Rattle.pam_compare.specs.inner.HeldLists.{same_link}
use Rattle.pam_compare.proofs.Growing.{insert-keeps, links-inserted}
use Rattle.pam_compare.proofs.Lists.{listed-after, listed-within}
use Rattle.pam_compare.proofs.held_lists.HeldLists.with.Goals as goal

pub returns-clause-keeps : goal.returns-clause-keeps
returns-clause-keeps c =
    let value : Link = record { before = c.args.before; answer = c.args.answer } in
    insert-keeps (same_link value) c.args.self.now.links.keys _ value c.in_ok-index.ensures.keys

pub returns-clause-links : goal.returns-clause-links
returns-clause-links c are within =
    let value : Link = record { before = c.args.before; answer = c.args.answer } in
    links-inserted c.args.self.now.links.keys _ value within c.least-least.ensures.order are (same_link value) c.in_ok-index.ensures.keys

pub returns-clause-listed : goal.returns-clause-listed
returns-clause-listed c held are is =
    let links = c.args.self.now.links.keys in
    let value : Link = record { before = c.args.before; answer = c.args.answer } in
    let stored = c.in_ok-index.ensures.stored in
    let keeps = insert-keeps (same_link value) links _ value c.in_ok-index.ensures.keys in
    let more = links-inserted links _ value (listed-within links c.args.before held is) c.least-least.ensures.order are (same_link value)
    c.in_ok-index.ensures.keys in
    listed-after links _ c.args.before c.args.answer _ held stored.0 keeps more c.least-least.ensures.order stored.1 stored.2 is
