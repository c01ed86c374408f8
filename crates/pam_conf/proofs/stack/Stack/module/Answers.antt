use Rattle.std.proofs.Common.{ap, ◌∙◌, Some}
use Rattle.pam_conf.specs.Stack.{module_at}
use Rattle.pam_conf.specs.ItemsOf.{items_of, module_text}
use Rattle.pam_conf.proofs.StackTree.{found_iff, module_at-lent}
use Rattle.pam_conf.proofs.stack.Stack.module.Goals as goal

pub returns-in-Some-Module-clause-module : goal.returns-in-Some-Module-clause-module
returns-in-Some-Module-clause-module c =
    module_at-lent c.self.inside.items.items c.deref.result.now _ c.in-Some-Module.field-0 c.in-Some-Module.module c.args.number c.self.invariant.3
    c.deref.ensures.value c.in-Some-Module.ensures.lookup c.in-Some-Module.field-0-is c.if-module-number.true
    ∙ ap (module_at c.args.number) c.self.view_is

pub returns-in-Some-Module-clause-range : goal.returns-in-Some-Module-clause-range
returns-in-Some-Module-clause-range c =
    rw (← c.self.view_is) (found_iff module_text (Some c.in-Some-Module.module) c.args.number (items_of c.self.inside.items.items) c.self.invariant.3
    (module_at-lent c.self.inside.items.items c.deref.result.now _ c.in-Some-Module.field-0 c.in-Some-Module.module c.args.number c.self.invariant.3
    c.deref.ensures.value c.in-Some-Module.ensures.lookup c.in-Some-Module.field-0-is c.if-module-number.true))

pub returns-in_default-clause-range : goal.returns-in_default-clause-range
returns-in_default-clause-range c =
    rw (← c.self.view_is) (found_iff (λ m. module_text m.now) c.module_in.result c.args.number (items_of c.self.inside.items.items) c.self.invariant.3
    (c.module_in.ensures ∙ ap (λ xs. module_at c.args.number (items_of xs)) c.deref-in_default.ensures.value))
