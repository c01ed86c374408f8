use Rattle.std.proofs.Common.{◌+◌, ◌≤◌, sym, ap, arith, subst}
use Rattle.pam_conf.specs.ItemsOf.{items_of}
use Rattle.pam_conf.specs.Stack.{Items, depth}
use Rattle.pam_dispatch.proofs.FlatLists.{shallow-after}
use Rattle.pam_text.proofs.Writing.{all-is, all-then, err-front, front-is, front-longer, front-then}
use Rattle.pam_render.proofs.PartsProofs.ItemLines.{inner-is, items-all, module-failed, module-written, shallow-sub, sub-failed, sub-written}
use Rattle.pam_render.specs.parts.Items.{Sub as SubLine, items_lines}
use Rattle.pam_render.proofs.parts.items.+put_items.Goals.{in-Module+in_ok-put_line-in-Module, in-Sub+in_ok-put_line-in-Sub+in_ok-put_items-in-Sub}
use Rattle.pam_render.proofs.parts.items.+put_items.Goals as goal

pub returns-in_err-put_line-in-Module : goal.returns-in_err-put_line-in-Module
returns-in_err-put_line-in-Module g t c =
    let line = g.L.StackLines.line in
    let files = c.args.files.now in
    err-front _ c.from_residual.ensures.0
    (module-failed line files c.args.level c.loop-item.item-index c.args.items.now c.item-item.result c.in-Module.module c.loop-item-test.true
    c.item-item.is c.in-Module.is
    c.loop-item.invariant.written c.in_err-put_line-in-Module.ensures)

pub returns-in_err-put_line-in-Sub : goal.returns-in_err-put_line-in-Sub
returns-in_err-put_line-in-Sub g t c =
    let line = g.L.StackLines.line in
    let files = c.args.files.now in
    let s = c.in-Sub.sub in
    err-front _ c.from_residual-in_err-put_line-in-Sub.ensures.0
    (sub-failed line files c.args.level c.loop-item.item-index c.args.items.now c.item-item.result s c.loop-item-test.true c.item-item.is c.in-Sub.is
    c.loop-item.invariant.written
    (front-longer {a = line (SubLine files c.args.level s.text)} (items_lines line files (c.args.level + 1) s.inner) c.in_err-put_line-in-Sub.ensures))

pub put_items-requires : goal.put_items-requires
put_items-requires g t c κs within =
    let s = c.in-Sub.sub in
    let inner = inner-is c.deref.result.now c.sub.inside s c.deref.ensures.value c.sub.view_is in
    let shallow : c.args.level + 1 + depth s.inner ≤ 16 =
    shallow-sub c.args.level c.loop-item.item-index c.args.items.now c.item-item.result s c.loop-item-test.true c.item-item.is c.in-Sub.is
    c.loop-item.invariant.shallow in (
      omega (arith, shallow),
      (
        within.0,
        (
          within.1,
          subst (λ (x : Items). c.args.level + 1 + depth x ≤ 16) (sym inner) shallow,
        ),
      ),
    )

pub returns-in_err-put_items-in-Sub : goal.returns-in_err-put_items-in-Sub
returns-in_err-put_items-in-Sub g t c =
    let line = g.L.StackLines.line in
    let files = c.args.files.now in
    let s = c.in-Sub.sub in
    let inner = inner-is c.deref.result.now c.sub.inside s c.deref.ensures.value c.sub.view_is in
    let lines = λ (x : Items). items_lines line files (c.args.level + 1) x in
    err-front _ c.from_residual-in_err-put_items-in-Sub.ensures.0
    (sub-failed line files c.args.level c.loop-item.item-index c.args.items.now c.item-item.result s c.loop-item-test.true c.item-item.is c.in-Sub.is
    c.loop-item.invariant.written
    (front-then {a = line (SubLine files c.args.level s.text)} c.in_ok-put_line-in-Sub.ensures
    (front-is {a = lines (items_of c.deref.result.now)} c.in_err-put_items-in-Sub.ensures (ap lines inner))))

pub loop-item-preserved : goal.loop-item-preserved
loop-item-preserved g t c =
    let line = g.L.StackLines.line in
    let files = c.args.files.now in
    let items = c.args.items.now in
    let index = c.loop-item.item-index in
    let shallow = shallow-after c.args.level index items c.loop-item.invariant.shallow in
    elim c.match-item.branch [
      | in-Module+in_ok-put_line-in-Module w ↦ record {
        written = rw w.out-is
            (module-written line files c.args.level index items c.item-item.result w.in-Module.module c.loop-item-test.true c.item-item.is
            w.in-Module.is c.loop-item.invariant.written
            w.in_ok-put_line-in-Module.ensures);
        shallow = shallow;
      }
      | in-Sub+in_ok-put_line-in-Sub+in_ok-put_items-in-Sub w ↦
          let s = w.in-Sub.sub in
          let inner = inner-is w.deref.result.now w.sub.inside s w.deref.ensures.value w.sub.view_is in
          let lines = λ (x : Items). items_lines line files (c.args.level + 1) x in
          record {
            written = rw w.out-is
                (sub-written line files c.args.level index items c.item-item.result s c.loop-item-test.true c.item-item.is w.in-Sub.is
                c.loop-item.invariant.written
                (all-then {a = line (SubLine files c.args.level s.text)} w.in_ok-put_line-in-Sub.ensures
                (all-is {a = lines (items_of w.deref.result.now)} w.in_ok-put_items-in-Sub.ensures (ap lines inner))));
            shallow = shallow;
          }
    ]

pub returns : goal.returns
returns g t c =
    let line = g.L.StackLines.line in
    let files = c.args.files.now in
    items-all line files c.args.level c.loop-item.item-index c.args.items.now c.loop-item-test.false c.loop-item.invariant.written
