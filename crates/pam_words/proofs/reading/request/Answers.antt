use Rattle.std.proofs.Common.{subst, ap, ◌∙◌, sym, map}
use Rattle.clap.specs.Kinds.{Kinds}
use Rattle.clap.specs.Words.{HasKind, subcommand_of, fault_of}
use Rattle.std.specs.Prelude.{MatchOption}
use Rattle.pam_words.specs.Request.{request_of}
use Rattle.pam_words.specs.Wanted.{IsRefusal, Reads}
use Rattle.pam_words.specs.Words.{pamcheck_app}
use Rattle.pam_words.proofs.Refusals.{answers-clean, answers-read, answers-reads, refused-by, refused-read, refused-reads}
use Rattle.pam_words.proofs.OneCommand.{built-reads}
use Rattle.pam_words.proofs.Subcommand.{name-is, name_in, rows_in, both-are, none-is, no_command}
use Rattle.pam_words.proofs.reading.request.Goals as goal

pub returns-in-Err-clause-refused : goal.returns-in-Err-clause-refused
returns-in-Err-clause-refused g c =
    let words = map g.S.AsStr.text c.args.words.now in
    let reads = built-reads c.in-Ok.command _ words c.in-Ok.ensures.0 c.command_name.ensures in
    refused-by (fault_of pamcheck_app words) c.in-Err.error c.refused.result c.refused.ensures
    (subst (λ (kinds : Kinds). HasKind kinds c.in-Err.error) reads.faults (c.in-Err.ensures.kinds reads.free))

pub unreachable-requires : goal.unreachable-requires
unreachable-requires g c =
    let words = map g.S.AsStr.text c.args.words.now in
    let m = c.in-Ok-try_get_matches_from.matches in
    let reads = built-reads c.in-Ok.command _ words c.in-Ok.ensures.0 c.command_name.ensures in
    let rows = (c.in-Ok-try_get_matches_from.ensures.matches reads.simple).1 ∙ reads.command in
    let kinds = c.in-Ok-try_get_matches_from.ensures.kinds reads.free in
    no_command words
    (none-is (subcommand_of pamcheck_app words) (c.in-None.ensures.name ∙ name-is m ∙ ap name_in rows))
    (sym reads.faults ∙ kinds)

pub returns-clause-reads : goal.returns-clause-reads
returns-clause-reads g c =
    let words = map g.S.AsStr.text c.args.words.now in
    let m = c.in-Ok-try_get_matches_from.matches in
    let reads = built-reads c.in-Ok.command _ words c.in-Ok.ensures.0 c.command_name.ensures in
    let rows = (c.in-Ok-try_get_matches_from.ensures.matches reads.simple).1 ∙ reads.command in
    let o = subcommand_of pamcheck_app words in
    let name = c.in-Some.ensures.name ∙ name-is m ∙ ap name_in rows in
    let inner = c.in-Some.ensures.rows ∙ ap rows_in rows in
    subst (λ q. MatchOption q (IsRefusal c.read.result) (λ p. Reads (request_of p.0 p.1) c.read.result)) (sym (both-are o _ _ name inner))
    (answers-reads _ c.read.result c.read.ensures)

pub returns-clause-refused : goal.returns-clause-refused
returns-clause-refused g c =
    let words = map g.S.AsStr.text c.args.words.now in
    let reads = built-reads c.in-Ok.command _ words c.in-Ok.ensures.0 c.command_name.ensures in
    let kinds = c.in-Ok-try_get_matches_from.ensures.kinds reads.free in
    answers-clean (fault_of pamcheck_app words) _ c.read.result c.read.ensures (sym reads.faults ∙ kinds)

pub returns-in-Err-clause-reads : goal.returns-in-Err-clause-reads
returns-in-Err-clause-reads g c =
    refused-reads (subcommand_of pamcheck_app (map g.S.AsStr.text c.args.words.now)) c.in-Err.error c.refused.result c.refused.ensures

pub returns-in-Err-clause-taken : goal.returns-in-Err-clause-taken
returns-in-Err-clause-taken g c = λ t.
    let words = map g.S.AsStr.text c.args.words.now in
    let reads = built-reads c.in-Ok.command _ words c.in-Ok.ensures.0 c.command_name.ensures in
    refused-read c.in-Err.error c.refused.result c.refused.ensures
    (c.in-Err.ensures.passes (reads.taken t))

pub returns-clause-taken : goal.returns-clause-taken
returns-clause-taken g c = λ t. answers-read _ c.read.result c.read.ensures
