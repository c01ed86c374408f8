use Rattle.std.proofs.Common.{◌∙◌, ◌||◌, Bool, ap, sym}
use Rattle.std.specs.List.{list_any}
use Rattle.pam_codes.specs.Code.{same_name}
use Rattle.pam_facts.specs.Options.{begins_with, valued_options}
use Rattle.pam_facts.proofs.OptionSteps.{any-now}
use Rattle.pam_facts.proofs.options.is_option.Goals as goal

pub returns-then-is_plain_among : goal.returns-then-is_plain_among
returns-then-is_plain_among c =
    let word = c.args.word.now in
    let plain =
    c.is_plain_among.ensures ∙ any-now (same_name word) c.plain_options.result.now ∙ ap (list_any (same_name word)) c.plain_options.ensures in
    c.if-is_plain_among.true ∙ ap (λ (b : Bool). b || list_any (begins_with word) valued_options) (sym c.if-is_plain_among.true ∙ plain)

pub returns-else-is_plain_among : goal.returns-else-is_plain_among
returns-else-is_plain_among c =
    let word = c.args.word.now in
    let plain =
    c.is_plain_among.ensures ∙ any-now (same_name word) c.plain_options.result.now ∙ ap (list_any (same_name word)) c.plain_options.ensures in
    let valued =
    c.is_valued_among.ensures ∙ any-now (begins_with word) c.valued_options.result.now
    ∙ ap (list_any (begins_with word)) c.valued_options.ensures in
    valued ∙ ap (λ (b : Bool). b || list_any (begins_with word) valued_options) (sym c.if-is_plain_among.false ∙ plain)
