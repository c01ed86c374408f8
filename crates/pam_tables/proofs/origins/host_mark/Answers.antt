use Rattle.std.proofs.Common.{◌∙◌, ap}
use Rattle.pam_tables.specs.Lists.{mark_of}
use Rattle.pam_tables.specs.Tokens.{host_mark}
use Rattle.pam_tables.proofs.MarkSteps.{network_is, plain_origin_is, no_fault}
use Rattle.pam_tables.proofs.origins.host_mark.Goals as goal

pub returns-in-Ok-Some : goal.returns-in-Ok-Some
returns-in-Ok-Some c = λ pattern h.
    c.of.ensures ∙ ap mark_of c.is_in.ensures ∙ ap (host_mark _ _) (network_is _ _ h _ (rw c.in-Ok-Some.field-0-is at c.in-Ok-Some.ensures))

pub returns-in-Ok-None : goal.returns-in-Ok-None
returns-in-Ok-None c = λ pattern h.
    c.plain_host_mark.ensures ∙ ap (host_mark _ _) (plain_origin_is _ _ h (rw c.in-Ok-None.field-0-is at c.in-Ok-None.ensures))

pub returns-in-Err : goal.returns-in-Err
returns-in-Err c = λ pattern h. absurd (no_fault _ _ h _ c.in-Err.ensures)
