use Rattle.std.proofs.Common.{◌≡◌, ◌∙◌, ◌&&◌, sym, ap, refl, arith, Bool, true, false}
use Rattle.std.proofs.lemmas.Bool.{and_from}
use Rattle.pam_codes.specs.Set.{is_in}
use Rattle.pam_dispatch.specs.Runs.{outcome_of}
use Rattle.pam_paths.specs.Classes.{same_outcome}
use Rattle.pam_paths.proofs.Sharing.{one_passes, one_fails}
use Rattle.pam_paths.proofs.classes.code_alike.Goals as goal
use Rattle.pam_paths.proofs.classes.code_alike.Goals.{else-contains-via-then-contains+else-leads_to, else-contains-via-else-contains}

pub leads_to-requires : goal.leads_to-requires
leads_to-requires c = c.requires.acts c.args.code (sym c.contains.ensures ∙ c.if-contains.true)

pub returns-then-leads_to : goal.returns-then-leads_to
returns-then-leads_to c =
    let ask = c.args.asked.now in
    one_passes c.single.result c.args.code (λ d. is_in d c.args.part.now.codes && same_outcome c.args.outcome.now (outcome_of ask d))
    c.single.ensures (omega arith)
    (and_from (is_in c.args.code c.args.part.now.codes) (same_outcome c.args.outcome.now (outcome_of ask c.args.code))
    (sym c.contains.ensures ∙ c.if-contains.true) (sym c.leads_to.ensures ∙ c.if-leads_to.true))

and-fails : (a b : Bool) → b ≡ false → (a && b) ≡ false
and-fails true b e = e
and-fails false b e = refl

pub returns : goal.returns
returns c =
    let ask = c.args.asked.now in
    let inside : Bool = is_in c.args.code c.args.part.now.codes in
    let leads : Bool = same_outcome c.args.outcome.now (outcome_of ask c.args.code) in
    one_fails c.empty.result c.args.code (λ d. is_in d c.args.part.now.codes && same_outcome c.args.outcome.now (outcome_of ask d)) c.empty.ensures
    (elim c.else-contains.branch [
      | else-contains-via-then-contains+else-leads_to w ↦ and-fails inside leads (sym w.leads_to.ensures ∙ w.if-leads_to.false)
      | else-contains-via-else-contains w ↦ ap (λ (b : Bool). b && leads) (sym c.contains.ensures ∙ w.if-contains.false)
    ])
