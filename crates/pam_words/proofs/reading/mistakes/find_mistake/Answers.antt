use Rattle.std.proofs.Common.{ap, ◌∙◌, sym, map}
use Rattle.std.specs.Option.{option_and_then}
use Rattle.clap.specs.Words.{fault_of, subcommand_of}
use Rattle.pam_words.specs.Mistakes.{mistake_in}
use Rattle.pam_words.specs.Words.{pamcheck_app}
use Rattle.pam_words.proofs.OneCommand.{built-reads}
use Rattle.pam_words.proofs.Subcommand.{both-are, name-is, name_in, no_command, none-is, rows_in}
use Rattle.pam_words.proofs.reading.mistakes.find_mistake.Goals as goal

pub unreachable-requires : goal.unreachable-requires
unreachable-requires g c =
    let words = map g.S.AsStr.text c.args.words.now in
    let m = c.in-Ok-try_get_matches_from.matches in
    let reads = built-reads c.in-Ok.command _ words c.in-Ok.ensures.0 c.command_name.ensures in
    let rows = (c.in-Ok-try_get_matches_from.ensures.matches reads.simple).1 ∙ reads.command in
    let kinds = c.in-Ok-try_get_matches_from.ensures.kinds reads.free in
    no_command words
    (none-is (subcommand_of pamcheck_app words) (c.in-None.ensures.name ∙ name-is m ∙ ap name_in rows))
    (sym reads.faults ∙ kinds)

pub returns : goal.returns
returns g c =
    let words = map g.S.AsStr.text c.args.words.now in
    let m = c.in-Ok-try_get_matches_from.matches in
    let reads = built-reads c.in-Ok.command _ words c.in-Ok.ensures.0 c.command_name.ensures in
    let rows = (c.in-Ok-try_get_matches_from.ensures.matches reads.simple).1 ∙ reads.command in
    let name = c.in-Some.ensures.name ∙ name-is m ∙ ap name_in rows in
    let inner = c.in-Some.ensures.rows ∙ ap rows_in rows in
    c.mistake_in.ensures
    ∙ sym (ap (λ q. option_and_then (λ p. mistake_in c.args.usage.now p.0 p.1) q) (both-are (subcommand_of pamcheck_app words) _ _ name inner))
