use Rattle.std.proofs.Common.{◌∙◌, ap}
use Rattle.pam_conf.specs.ItemsOf.{items_of}
use Rattle.pam_conf.specs.Stack.{Items, SubList}
use Rattle.pam_compare.specs.Same.{same_items}
use Rattle.pam_compare.proofs.SameItems.{both-modules, both-subs, module-and-sub, other-length, sub-and-module}
use Rattle.pam_compare.proofs.same.+same.Goals as goal

pub are_same_items-returns-in-Module-other : goal.are_same_items-returns-in-Module-other
are_same_items-returns-in-Module-other t c =
    c.are_same_modules.ensures ∙ both-modules c.args.one.now c.args.other.now c.in-Module.one c.in-Module-other.other c.in-Module.is c.in-Module-other.is

pub are_same_items-returns-in-Sub-other : goal.are_same_items-returns-in-Sub-other
are_same_items-returns-in-Sub-other t c =
    module-and-sub c.args.one.now c.args.other.now c.in-Module.one c.in-Sub-other.field-0 c.in-Module.is c.in-Sub-other.is

pub are_same_items-returns-in-Sub-other-2 : goal.are_same_items-returns-in-Sub-other-2
are_same_items-returns-in-Sub-other-2 t c =
    let inner : SubList → Items = λ s. s.inner in
    c.are_same_lists.ensures
    ∙ ap (λ (x : Items). same_items x (items_of c.deref-in-Sub-other-2.result.now)) (ap items_of c.deref.ensures.value ∙ ap inner c.one.view_is)
    ∙ ap (λ (x : Items). same_items c.in-Sub.one.inner x) (ap items_of c.deref-in-Sub-other-2.ensures.value ∙ ap inner c.other.view_is)
    ∙ both-subs c.args.one.now c.args.other.now c.in-Sub.one c.in-Sub-other-2.other c.in-Sub.is c.in-Sub-other-2.is

pub are_same_items-returns-in-Module-other-2 : goal.are_same_items-returns-in-Module-other-2
are_same_items-returns-in-Module-other-2 t c =
    sub-and-module c.args.one.now c.args.other.now c.in-Sub.one c.in-Module-other-2.field-0 c.in-Sub.is c.in-Module-other-2.is

pub are_same_lists-returns-then-one-other : goal.are_same_lists-returns-then-one-other
are_same_lists-returns-then-one-other t c = other-length c.args.one.now c.args.other.now c.if-one-other.true
