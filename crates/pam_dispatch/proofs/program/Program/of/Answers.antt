use Rattle.std.proofs.Common.{◌≡◌, All, List, ap, arith, drop, subst, sym, ◌∙◌}
use Rattle.std.specs.List.{AllZip}
use Rattle.pam_codes.specs.Parts.{IsParts}
use Rattle.pam_dispatch.specs.declared.flat_item.FlatItem.{FlatItem}
use Rattle.pam_dispatch.specs.inner.ReadLevels.{IsReadTable}
use Rattle.pam_dispatch.specs.inner.Settled.{KeepFailure}
use Rattle.pam_dispatch.specs.inner.Stretches.{IsStretchTable}
use Rattle.pam_dispatch.specs.Flat.{controls_in}
use Rattle.pam_dispatch.specs.inner.Flat.{IsBounded, flat_list, positions_from}
use Rattle.pam_dispatch.proofs.Flattening.{runs_of-flat_list}
use Rattle.pam_dispatch.proofs.StackLists.{bounded-flat_list, control_at-flat_list, modules_of-flat_list, program-flat_list, whole_list}
use Rattle.pam_dispatch.proofs.program.Program.of.Goals as goal

pub returns : goal.returns
returns c =
    let made : c.flatten.new.flat_items.items ≡ flat_list 0 c.args.stack.now =
    whole_list _ _ _ _ c.new-flat_items.ensures.items c.items.ensures.items c.in_ok-flatten.ensures in
    rw made record {
      runs = runs_of-flat_list c.args.stack.now;
      modules = modules_of-flat_list 0 c.args.stack.now;
      control = λ number. control_at-flat_list c.args.stack.now number c.items.ensures.numbered;
    }

pub invariant_of-result : goal.invariant_of-result
invariant_of-result c =
    let made : c.flatten.new.flat_items.items ≡ flat_list 0 c.args.stack.now =
    whole_list _ _ _ _ c.new-flat_items.ensures.items c.items.ensures.items c.in_ok-flatten.ensures in
    let harmless = c.first_harmless-harmless_from in
    rw made (program-flat_list c.args.stack.now c.in_ok-positions.positions.items c.in_ok-parts.parts.items c.in_ok-stretches.stretches.items harmless.result
    c.in_ok-read_levels.read_levels.items
    c.items.ensures.few c.items.ensures.shallow c.items.ensures.numbered
    (c.in_ok-positions.ensures ∙ ap (positions_from 0) (c.deref.ensures.value ∙ made))
    (subst (λ (ts : List FlatItem). AllZip IsParts (controls_in ts) c.in_ok-parts.parts.items) (c.deref-2.ensures.value ∙ made) c.in_ok-parts.ensures)
    (subst (λ (ts : List FlatItem). IsStretchTable ts c.in_ok-stretches.stretches.items) (c.deref-3.ensures.value ∙ made) c.in_ok-stretches.ensures)
    (subst (λ (ts : List FlatItem). KeepFailure (drop harmless.result ts)) (c.deref-4.ensures.value ∙ made) harmless.ensures.harmless)
    (subst (λ (ts : List FlatItem). IsReadTable ts c.in_ok-read_levels.read_levels.items) (c.deref-5.ensures.value ∙ made) c.in_ok-read_levels.ensures))

pub read_table-requires : goal.read_table-requires
read_table-requires c =
    let made : c.flatten.new.flat_items.items ≡ flat_list 0 c.args.stack.now =
    whole_list _ _ _ _ c.new-flat_items.ensures.items c.items.ensures.items c.in_ok-flatten.ensures in
    subst (λ (ts : List FlatItem). All IsBounded ts) (sym (c.deref-5.ensures.value ∙ made))
    (bounded-flat_list 0 1 c.args.stack.now (omega (arith, c.items.ensures.shallow)) c.items.ensures.numbered (omega (arith, c.items.ensures.few)))
