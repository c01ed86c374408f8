use Rattle.std.proofs.Common.{◌<◌, Some, None, map, arith, length, refl}
use Rattle.pam_conf.specs.inner.Kept.{kept_view}
use Rattle.pam_conf.specs.ListedText.{listed_text}
use Rattle.pam_conf.proofs.KindLemmas.{indexed-lent, rule-lent}
use Rattle.pam_conf.proofs.ListLemmas.{list-begins, list-ends, list-goes_on, list-passes}
use Rattle.pam_conf.proofs.TableLemmas.{good_lent}
use Rattle.pam_conf.proofs.listed.Lister.+list.Goals as goal
use Rattle.pam_conf.proofs.listed.Lister.+list.Goals.{list_file-in-Some-get+in_ok-list_rule, list_file-in_default-get}

pub list_file-loop-index-init : goal.list_file-loop-index-init
list_file-loop-index-init t c =
    list-begins c.args.self.now.rules.now c.args.self.now.kind c.args.room c.args.includes.now c.args.file c.in-Some.found.now c.indices-index-items.result.now
    (map listed_text c.args.items.now.items)
    (good_lent c.rules.inside.files.now c.args.self.now.rules.now c.rules.inside.read.items c.deref.result.now c.args.file c.in-Some.found
    (map kept_view c.in-Some.found.now.rules.items) c.rules.view_is c.deref.ensures.value c.in-Some.ensures.lookup c.rules.invariant refl)
    (indexed-lent c.rules.inside.files.now c.args.self.now.rules.now c.rules.inside.read.items c.deref.result.now c.args.file c.in-Some.found
    c.rules.view_is c.deref.ensures.value c.in-Some.ensures.lookup c.rules.invariant)
    c.indices-index-items.ensures

pub list_file-loop-index-preserved : goal.list_file-loop-index-preserved
list_file-loop-index-preserved t c =
    let s = c.args.self.now in
    let rules = c.in-Some.found.now.rules.items in
    let indices = c.indices-index-items.result.now in
    let n = c.loop-index.index-index in
    let within : n < length indices = omega arith in
    elim c.match-get-2.branch [
      | list_file-in-Some-get+in_ok-list_rule w ↦ rw w.items-is (list-goes_on s.rules.now s.kind c.args.room c.args.includes.now c.args.file
          (map kept_view rules) indices n within (map listed_text c.loop-index.items.items) _ c.loop-index.invariant (kept_view w.in-Some-get.rule.now)
          (map listed_text w.list_rule.new.items.items)
          (rule-lent rules c.deref-in-loop-index.result.now _ (Some w.in-Some-get.rule) c.deref-in-loop-index.ensures.value w.in-Some-get.ensures.lookup)
          w.in_ok-list_rule.ensures)
      | list_file-in_default-get w ↦ rw w.items-is (list-passes s.rules.now s.kind c.args.room c.args.includes.now c.args.file
          (map kept_view rules) indices n within (map listed_text c.loop-index.items.items) _ c.loop-index.invariant
          (rule-lent rules c.deref-in-loop-index.result.now _ None c.deref-in-loop-index.ensures.value w.in_default-get.ensures.lookup))
    ]

pub list_file-returns : goal.list_file-returns
list_file-returns t c =
    list-ends c.args.self.now.rules.now c.args.self.now.kind c.args.room c.args.includes.now c.args.file (map kept_view c.in-Some.found.now.rules.items)
    c.indices-index-items.result.now c.loop-index.index-index (map listed_text c.loop-index.items.items) _ c.loop-index-test.false c.loop-index.invariant
