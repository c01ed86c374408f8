use Rattle.std.proofs.Common.{◌⊎◌, inr}
use Rattle.std.specs.Option.{option_copied}
use Rattle.std.proofs.lemmas.Result.{err_from_is_err_and}
use Rattle.pam_cli.specs.Reading.{IsNamed, IsOfCompare}
use Rattle.pam_cli.specs.Sources.{IsUnread}
use Rattle.pam_report.specs.declared.inputs.InputError.{InputError}
use Rattle.pam_report.specs.declared.inputs.InputError.TheVariants.{Memory, Read}
use Rattle.pam_words.specs.declared.wanted.CompareFiles.{CompareFiles}
use Rattle.pam_words.specs.declared.wanted.ConfSource.{ConfSource}
use Rattle.pam_cli.proofs.reading.compare_inputs.Goals as goal

-- a facts or returns file that cannot be read is one of what a comparison names
other-unread : (old new : ConfSource) (named : CompareFiles) (error : InputError)
    → IsUnread (λ name. IsNamed (option_copied named.facts) name ⊎ IsNamed (option_copied named.returns) name) error
    → IsUnread (IsOfCompare old new named) error
other-unread old new named Memory h = tt
other-unread old new named (Read name why) h = inr (inr (inr h))

pub returns-in_err-others : goal.returns-in_err-others
returns-in_err-others g c =
    let given = err_from_is_err_and c.from_residual-in_err-others.result c.from_residual-in_err-others.ensures.1 in
    λ candidates service kind.
    rw (given.1, given.2) (other-unread c.args.old c.args.new c.args.named.now c.in_err-others.field-0.0 c.in_err-others.ensures.error)
