use Rattle.std.proofs.Common.{◌∙◌, ap, sym, List, [], ◌∷◌}
use Rattle.pam_dispatch.specs.declared.flat_item.FlatItem.{FlatItem}
use Rattle.pam_dispatch.specs.declared.state.State.{State}
use Rattle.pam_dispatch.specs.Flat.{resume, runs_of, rest_of}
use Rattle.pam_dispatch.proofs.Numbering.{AsksRise-runs_of}
use Rattle.pam_dispatch.proofs.program.Program.first.Goals as goal

pub returns-clause-whole : goal.returns-clause-whole
unfolding runs_of
returns-clause-whole c =
    let v = c.deref.ensures.value ∙ c.self.view_is in
    ap (λ (x : List FlatItem). rest_of x c.seek.new.place) (sym v)
    ∙ c.seek.ensures.rest
    ∙ ap (λ (s : State). resume c.deref.result.now 0 0 (s ∷ []) s) c.start-start.ensures
    ∙ ap (λ (x : List FlatItem). runs_of x) v

pub returns-clause-rise : goal.returns-clause-rise
returns-clause-rise c = rw (← c.self.view_is) (AsksRise-runs_of _ c.self.invariant.numbered)
