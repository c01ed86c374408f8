use Rattle.std.proofs.Common.{rules, ◌∙◌, sym, subst}
use Rattle.pam_dispatch.specs.inner.Flat.{IsBounded}
use Rattle.pam_dispatch.proofs.Places.{place_within, place_no_substack, place_asked}
use Rattle.pam_dispatch.proofs.program.asked_at.Goals as goal

pub bounds-flat_items-place : goal.bounds-flat_items-place
bounds-flat_items-place c = place_within c.args.flat_items.now c.args.place.now c.requires.place c.requires.asking

pub offset_bounds-flat_items-place : goal.offset_bounds-flat_items-place
offset_bounds-flat_items-place c =
    let within = place_within c.args.flat_items.now c.args.place.now c.requires.place c.requires.asking in search rules

pub at-requires : goal.at-requires
at-requires c =
    let e = c.index-flat_items-place in
    let within = place_within c.args.flat_items.now c.args.place.now c.requires.place c.requires.asking in
    (subst IsBounded (sym e.is ∙ c.in-Module.is) (c.requires.flat_items c.args.place.now.position e.result within)).0

pub unreachable-requires : goal.unreachable-requires
unreachable-requires c =
    let e = c.index-flat_items-place in
    let within = place_within c.args.flat_items.now c.args.place.now c.requires.place c.requires.asking in
    place_no_substack c.args.flat_items.now c.args.place.now c.requires.place e.result _ within (sym e.is ∙ c.in-Substack.is)

pub returns : goal.returns
returns c =
    let e = c.index-flat_items-place in
    let m = c.in-Module in
    let within = place_within c.args.flat_items.now c.args.place.now c.requires.place c.requires.asking in
    place_asked c.args.flat_items.now c.args.place.now c.requires.place e.result m.level m.number m.control m.items_after within (sym e.is ∙ m.is)
    c.at.result c.at.ensures
