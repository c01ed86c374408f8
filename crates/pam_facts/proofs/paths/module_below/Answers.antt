use Rattle.std.proofs.Common.{◌∙◌, refl, ap, arith, Bool, if◌then◌else◌, None, sym}
use Rattle.pam_facts.specs.Paths.{file_module}
use Rattle.pam_facts.proofs.FolderSteps.{ends, goes_on}
use Rattle.pam_facts.proofs.paths.module_below.Goals as goal

pub loop-name-init : goal.loop-name-init
loop-name-init c = record { leads = λ names is. (names, is, refl); depth = omega (arith, c.requires) }

pub enter-requires : goal.enter-requires
enter-requires c = omega (arith, c.loop-name.invariant.depth, c.if-prove.false)

pub loop-name-smaller : goal.loop-name-smaller
loop-name-smaller c = c.in-Some.ensures.shorter

pub loop-name-preserved : goal.loop-name-preserved
loop-name-preserved c =
    record {
      leads = λ names is.
          let far = c.loop-name.invariant.leads names is in
          (_, c.enter.ensures.names far.0 far.1, sym (goes_on far.0 _ _ _ c.in-Some.ensures.value) ∙ far.2);
      depth = omega (arith, c.loop-name.invariant.depth, c.enter.ensures.depth, c.in-Some.ensures.shorter);
    }

pub returns-then-has_modules : goal.returns-then-has_modules
returns-then-has_modules c names is =
    let far = c.loop-name.invariant.leads names is in
    c.file_module.ensures
    ∙ ap (λ (b : Bool). if b then file_module c.loop-name.rest.now else None) (sym c.if-has_modules.true ∙ c.has_modules.ensures far.0 far.1)
    ∙ sym (ends far.0 _ c.in_default.ensures.value) ∙ far.2

pub returns-else-has_modules : goal.returns-else-has_modules
returns-else-has_modules c names is =
    let far = c.loop-name.invariant.leads names is in
    ap (λ (b : Bool). if b then file_module c.loop-name.rest.now else None) (sym c.if-has_modules.false ∙ c.has_modules.ensures far.0 far.1)
    ∙ sym (ends far.0 _ c.in_default.ensures.value) ∙ far.2
