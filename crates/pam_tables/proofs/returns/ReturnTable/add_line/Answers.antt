use Rattle.std.proofs.Common.{◌≡◌, ◌∙◌, Ok, ap, false, is_some, map, refl, sym, true}
use Rattle.pam_tables.proofs.NamedSteps.{added_last, entry_view, has_name, known_name, name_known, name_new, restored}
use Rattle.pam_tables.proofs.ReturnSteps.{one_line_more}
use Rattle.pam_tables.proofs.returns.ReturnTable.add_line.Goals as goal

pub invariant_of-self-in_default-replaced : goal.invariant_of-self-in_default-replaced
invariant_of-self-in_default-replaced c =
    let absent = known_name (λ k. k.now) (λ v. v) c.in-Ok-Some.line.name.now c.self.inside.codes.entries
    ∙ ap is_some (sym c.in-Ok.ensures.old ∙ c.in_default-replaced.is) in
    rw (added_last (λ k. k.now) (λ v. v) _ c.self.inside.codes.entries _ c.in-Ok-Some.line.name c.in-Ok-Some.line.codes _ _
    refl refl refl absent c.in-Ok.ensures.entries)
    (one_line_more _ (c.in-Ok-Some.line.name.now, c.in-Ok-Some.line.codes) c.self.invariant (rw c.in-Ok-Some.field-0-is at c.in-Ok-Some.ensures.some))

pub returns-in_default-replaced : goal.returns-in_default-replaced
returns-in_default-replaced c =
    let new : has_name c.in-Ok-Some.line.name.now c.args.self.now ≡ false =
    rw (← c.self.view_is) (known_name (λ k. k.now) (λ v. v) c.in-Ok-Some.line.name.now c.self.inside.codes.entries
    ∙ ap is_some (sym c.in-Ok.ensures.old ∙ c.in_default-replaced.is)) in
    name_new c.args.self.now _ c.in-Ok-Some.line.name.now c.in-Ok-Some.line.codes (rw c.in-Ok-Some.field-0-is at c.in-Ok-Some.ensures.value) _ new
    (added_last (λ k. k.now) (λ v. v) c.args.self.now c.self.inside.codes.entries _ c.in-Ok-Some.line.name c.in-Ok-Some.line.codes _ _
    c.self.view_is refl refl new c.in-Ok.ensures.entries)

pub invariant_of-self-2 : goal.invariant_of-self-2
invariant_of-self-2 c =
    let same = restored (λ k. k.now) c.in-Ok-Some.line.name c.in-Ok-Some.line.codes c.in-Some.first c.self.inside.codes.entries _ _ _
    c.in-Ok.ensures.old c.in-Some.is c.in-Ok.ensures.entries c.in-Ok-insert.ensures.entries in
    rw same c.self.invariant

pub returns : goal.returns
returns c =
    let same = restored (λ k. k.now) c.in-Ok-Some.line.name c.in-Ok-Some.line.codes c.in-Some.first c.self.inside.codes.entries _ _ _
    c.in-Ok.ensures.old c.in-Some.is c.in-Ok.ensures.entries c.in-Ok-insert.ensures.entries in
    let known : has_name c.in-Ok-Some.line.name.now c.args.self.now ≡ true =
    rw (← c.self.view_is) (known_name (λ k. k.now) (λ v. v) c.in-Ok-Some.line.name.now c.self.inside.codes.entries
    ∙ ap is_some (sym c.in-Ok.ensures.old ∙ c.in-Some.is)) in
    name_known c.args.self.now _ c.in-Ok-Some.line.name.now _ (rw c.in-Ok-Some.field-0-is at c.in-Ok-Some.ensures.value) known
    ∙ ap Ok (sym (ap (map (entry_view (λ k. k.now) (λ v. v))) same ∙ c.self.view_is))
