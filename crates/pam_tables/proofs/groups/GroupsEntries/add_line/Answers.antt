use Rattle.std.proofs.Common.{◌≡◌, ◌∙◌, Ok, ap, false, is_some, map, refl, sym, true}
use Rattle.pam_tables.specs.Groups.{members_of}
use Rattle.pam_tables.proofs.GroupSteps.{blank_line, bad_line, group_line}
use Rattle.pam_tables.proofs.NamedSteps.{added_last, entry_view, has_name, known_name, name_known, name_new, restored}
use Rattle.pam_tables.proofs.groups.GroupsEntries.add_line.Goals as goal

pub returns-then-is_blank_text : goal.returns-then-is_blank_text
returns-then-is_blank_text c = blank_line c.args.self.now c.args.line.now (sym c.is_blank_text.ensures ∙ c.if-is_blank_text.true)

pub returns-in-None : goal.returns-in-None
returns-in-None c = bad_line c.args.self.now c.args.line.now (sym c.is_blank_text.ensures ∙ c.if-is_blank_text.false) c.in-None.ensures

pub returns-in_default : goal.returns-in_default
returns-in_default c =
    let new : has_name c.in-Some.group.name.now c.args.self.now ≡ false =
    rw (← c.self.view_is) (known_name (λ k. k.now) (λ v. members_of v.now) c.in-Some.group.name.now c.self.inside.members.entries
    ∙ ap is_some (sym c.in_ok-first.ensures.old ∙ c.in_default.is)) in
    name_new c.args.self.now _ c.in-Some.group.name.now (members_of c.in-Some.group.members.now)
    (group_line c.args.line.now _ _ (sym c.is_blank_text.ensures ∙ c.if-is_blank_text.false) c.in-Some.ensures) _ new
    (added_last (λ k. k.now) (λ v. members_of v.now) c.args.self.now c.self.inside.members.entries _ c.in-Some.group.name
    c.in-Some.group.members _ _ c.self.view_is refl refl new c.in_ok-first.ensures.entries)

pub returns : goal.returns
returns c =
    let same = restored (λ k. k.now) c.in-Some.group.name c.in-Some.group.members c.in-Some-2.first
    c.self.inside.members.entries _ _ _ c.in_ok-first.ensures.old c.in-Some-2.is c.in_ok-first.ensures.entries c.in_ok-insert.ensures.entries in
    let known : has_name c.in-Some.group.name.now c.args.self.now ≡ true =
    rw (← c.self.view_is) (known_name (λ k. k.now) (λ v. members_of v.now) c.in-Some.group.name.now c.self.inside.members.entries
    ∙ ap is_some (sym c.in_ok-first.ensures.old ∙ c.in-Some-2.is)) in
    name_known c.args.self.now _ c.in-Some.group.name.now _
    (group_line c.args.line.now _ _ (sym c.is_blank_text.ensures ∙ c.if-is_blank_text.false) c.in-Some.ensures) known
    ∙ ap Ok (sym (ap (map (entry_view (λ k. k.now) (λ v. members_of v.now))) same ∙ c.self.view_is))
