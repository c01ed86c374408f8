use Rattle.std.proofs.Common.{◌&&◌, ◌⊎◌, ap₂, inl, inr, refl, true}
use Rattle.std.proofs.lemmas.Result.{err_from_is_err_and}
use Rattle.std.specs.Option.{option_copied}
use Rattle.pam_cli.specs.Reading.{IsNamed, IsOfCheck, IsOfTables}
use Rattle.pam_cli.specs.Sources.{IsInSource, IsUnread}
use Rattle.pam_cli.proofs.NamedTables.{tables_given}
use Rattle.pam_report.specs.declared.inputs.InputError.{InputError}
use Rattle.pam_report.specs.declared.inputs.InputError.TheVariants.{Memory, Read}
use Rattle.pam_words.specs.declared.wanted.CheckFiles.{CheckFiles}
use Rattle.pam_words.specs.declared.wanted.ConfSource.{ConfSource}
use Rattle.pam_cli.proofs.reading.given_inputs.Goals as goal

pub returns : goal.returns
returns g c =
    let files = c.in_ok-others.ensures.ok in
    let tables = c.in_ok-tables.ensures.ok in
    let told = g.S.System.told c.args.system.now in (
      refl,
      ap₂ ◌&&◌ files.0.0
          (ap₂ ◌&&◌ files.1.0 (tables_given told true true c.args.source c.args.named.now.tables c.in_ok-tables.tables tables)),
      tables,
      (files.0.1, files.1.1),
      rw (← c.deref.ensures.value) c.in_ok-there.ensures.ok,
      c.in_ok-named_files.ensures.ok,
      c.in_ok-outside.ensures,
      c.in_ok-dead.ensures.ok,
      c.in_ok-unread.ensures.ok,
    )

-- a table, or a facts or accept file, that cannot be read is one of what a check names
table-unread : (source : ConfSource) (named : CheckFiles) (error : InputError) → IsUnread (λ n. IsInSource source n ⊎ IsOfTables named.tables n) error
    → IsUnread (λ name. IsInSource source name ⊎ IsOfCheck named name) error
table-unread source named Memory h = tt
table-unread source named (Read name why) (inl h) = inl h
table-unread source named (Read name why) (inr h) = inr (inr (inl h))

other-unread : (source : ConfSource) (named : CheckFiles) (error : InputError)
    → IsUnread (λ name. IsNamed (option_copied named.facts) name ⊎ IsNamed (option_copied named.accept) name) error
    → IsUnread (λ name. IsInSource source name ⊎ IsOfCheck named name) error
other-unread source named Memory h = tt
other-unread source named (Read name why) h = inr (inr (inr h))

pub returns-in_err-tables : goal.returns-in_err-tables
returns-in_err-tables g c =
    let given = err_from_is_err_and c.from_residual-in_err-tables.result c.from_residual-in_err-tables.ensures.1 in
    rw (given.1, given.2) (table-unread c.args.source c.args.named.now c.in_err-tables.field-0.0 c.in_err-tables.ensures.error)

pub returns-in_err-others : goal.returns-in_err-others
returns-in_err-others g c =
    let given = err_from_is_err_and c.from_residual-in_err-others.result c.from_residual-in_err-others.ensures.1 in
    rw (given.1, given.2) (other-unread c.args.source c.args.named.now c.in_err-others.field-0.0 c.in_err-others.ensures.error)
