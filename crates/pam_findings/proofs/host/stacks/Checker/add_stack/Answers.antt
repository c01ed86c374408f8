use Rattle.std.proofs.Common.{◌≡◌, ◌∙◌, ◌++◌, List, Option, ap, length, slice_get, subst, sym, ℕ}
use Rattle.std.specs.Vec.{with_items}
use Rattle.std.proofs.lemmas.List.{with_items_is}
use Rattle.pam_conf.specs.Survey.{SurveyText, surveyed}
use Rattle.pam_conf.specs.SurveyText.{survey_text}
use Rattle.pam_text.specs.Members.{Member}
use Rattle.pam_findings.specs.host.FileProblems.{files_read}
use Rattle.pam_findings.specs.host.inner.Besides.{beside_text}
use Rattle.pam_findings.specs.host.inner.Table.{Notes, Puts, with_stack}
use Rattle.pam_findings.specs.declared.host.met.Met.{Met}
use Rattle.pam_findings.specs.declared.host.problem.Spot.{Spot}
use Rattle.pam_findings.specs.declared.host.judging.Stacked.{Stacked}
use Rattle.pam_findings.proofs.HostProofs.Others.{adds-answer}
use Rattle.pam_findings.proofs.HostProofs.Seen.{adds-stack}
use Rattle.pam_findings.proofs.host.stacks.Checker.add_stack.Goals as goal

pub returns-clause-adds : goal.returns-clause-adds
returns-clause-adds c =
    let readers = c.args.found.now.readers in
    let rules = c.args.self.now.rules.now in
    let reached = c.deref.result.now ++ c.deref-2.result.now in
    let noted = subst (λ (l : List (Option Met)). Notes (λ file. Member file (files_read c.form.result (length l) reached)) c.args.service
    c.args.kind
    l c.note_read.new.readers) c.deref_mut.ensures.value c.in_ok-note_read.ensures in
    let at : Stacked = record {
      service = c.args.service;
      kind = c.args.kind;
      named = c.named.result;
      home = c.copied.result;
      is_only_included = c.is_only_included.result;
      is_included = c.has.result;
      is_greeter = c.is_greeter.result;
    } in
    let looks = c.in_ok-spots.ensures.looks c.in_ok-survey.ensures in
    let is_home : c.copied.result ≡ slice_get (surveyed rules c.args.name.now c.args.kind).reached 0 =
    c.copied.ensures ∙ c.first.ensures.value ∙ ap (λ (l : List ℕ). slice_get l 0)
    (c.deref-3.ensures.value ∙ ap (λ (s : SurveyText). s.reached) c.in_ok-survey.ensures) in
    let kept = with_items_is readers c.note_read.new.readers (noted.count ∙ sym readers.ok.0) in
    adds-stack c.args.self.now.files.now rules c.args.self.now.modules.now (beside_text c.args.self.now.beside.now c.args.kind) c.args.service
    c.args.name.now c.args.kind
    (survey_text c.in_ok-survey.survey) c.in_ok-spots.spots.items c.push_other.new.spots.items c.add_beside.new.table c.in_ok-spots.told c.args.found.now
    (record {
      table = c.put_stack_at_all.new.table;
      asked = c.look.new.asked;
      readers = with_items readers c.note_read.new.readers;
      cut_off = c.in_ok-found.field-0;
      alone = c.look.new.table;
    })
    c.form.result c.deref.result.now c.deref-2.result.now c.args.self.now.same c.in_ok-survey.ensures c.form.ensures c.deref.ensures.value
    (c.deref-2.ensures.value ∙ ap (λ (s : SurveyText). s.reached) c.of_kind.ensures) c.requires.readers
    looks
    (adds-answer rules c.args.name.now at c.in_ok-spots.told.lets_nobody_in looks.verdict
    is_home looks.tells.nobody
    c.in_ok-left.left (c.in_ok-left.ensures c.in_ok-survey.ensures) c.in_ok-spots.spots.items c.push_other.new.spots.items c.in_ok-push_other.ensures)
    c.in_ok-add_beside.ensures
    (subst (λ (l : List Spot). Puts (λ spot. Member spot l) (with_stack c.args.service c.args.kind) c.add_beside.new.table c.put_stack_at_all.new.table)
    c.deref-4.ensures.value c.in_ok-put_stack_at_all.ensures)
    (subst (λ (l : List (Option Met)). Notes (λ file. Member file (files_read c.form.result (length readers.items) reached)) c.args.service
    c.args.kind
    readers.items l) (sym kept) noted)
    c.in_ok-found.ensures
