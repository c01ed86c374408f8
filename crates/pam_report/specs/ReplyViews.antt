-- The values of replies.
use Rattle.std.specs.Option.{option_copied, option_map_or}
use Rattle.std.specs.Borrow.{Bor}
use Rattle.std.specs.Prelude.{[], Option, map, option_map, unwrap_or}
use Rattle.pam_conf.specs.Files.{Folder}
use Rattle.pam_explain.specs.Views.{explanation_view}
use Rattle.pam_findings.specs.misspelled.MisspelledView.{misspelled_view}
use Rattle.pam_policy.specs.needs.Suggestions.{suggestion_view}
use Rattle.pam_report.specs.Decide.{AskedModule}
use Rattle.pam_report.specs.Inputs.{no_files}
use Rattle.pam_report.specs.PageView.{page_value}
use Rattle.pam_released.specs.Readings.{numbered_view}
use Rattle.pam_report.specs.Released.{ReleasedValue}
use Rattle.pam_report.specs.Reply as spec
use Rattle.pam_report.specs.TablePaths.{table_paths_view}
use Rattle.pam_report.specs.Unused.{unused_view}
use Rattle.pam_report.specs.declared.report.check.CheckReply.{CheckReply}
use Rattle.pam_report.specs.declared.report.compare.CompareReply.{CompareReply}
use Rattle.pam_report.specs.declared.report.graph.GraphReply.{GraphReply}
use Rattle.pam_report.specs.declared.report.needs.NeedsReply.{NeedsReply}
use Rattle.pam_report.specs.declared.report.outcomes.Outcome.{Outcome}
use Rattle.pam_report.specs.declared.report.outcomes.OutcomesReply.{OutcomesReply}
use Rattle.pam_report.specs.declared.report.policy.PolicyReply.{PolicyReply}
use Rattle.pam_report.specs.declared.report.released.ReleasedReply.{ReleasedReply}
use Rattle.pam_report.specs.declared.report.replies.Reply.{Reply}
use Rattle.pam_report.specs.declared.report.replies.Reply.TheVariants as replies
use Rattle.pam_report.specs.declared.report.decide.RunReply.{RunReply}
use Rattle.pam_report.specs.declared.report.show.StackReply.{StackReply}
use Rattle.pam_report.specs.declared.report.trace.AskedModule as trace

abbrev pub asked_view : trace.AskedModule → AskedModule
asked_view m = record { number = m.number; path = m.path.items; code = m.code; action = m.action; state = m.state }

abbrev pub outcome_view : Outcome → spec.Outcome
outcome_view o = record { decision = o.decision; count = o.count; first = o.first }

abbrev pub stack_view : StackReply → spec.StackValue
stack_view s = record {
  service = s.service.now;
  kind = s.kind;
  files = unwrap_or (option_map (λ f. f.now) s.files) no_files;
  items = s.stack;
}

abbrev pub released_view : ReleasedReply → ReleasedValue
released_view r = record {
  service = r.service.now;
  kind = r.kind;
  release = r.release;
  file = r.file.items;
  rules = option_map (λ rules. map numbered_view rules.items) r.rules;
}

abbrev pub run_view : RunReply → spec.RunValue
run_view r = record {
  service = r.service.now;
  kind = r.kind;
  modules = r.modules;
  asked = map asked_view r.trace.asked.items;
  decision = r.trace.decision;
}

abbrev pub outcomes_view : OutcomesReply → spec.OutcomesValue
outcomes_view o = record {
  service = o.service.now;
  kind = o.kind;
  items = o.stack;
  found = map outcome_view o.outcomes.found.items;
  total = o.outcomes.total;
}

abbrev pub drawing_view : GraphReply → spec.DrawingValue
drawing_view d = record { service = d.service.now; kind = d.kind; items = d.stack; format = d.format; graph = d.graph }

-- the files of a configuration, none if it is not given
abbrev pub side_files : Option (Bor Folder) → Folder
side_files files = unwrap_or (option_map (λ f. f.now) files) no_files

abbrev pub check_view : CheckReply → spec.CheckValue
check_view c = record {
  form = c.form;
  files = side_files c.files;
  outside = c.outside.now;
  paths = option_map_or (λ paths. paths.now) c.paths [];
  services = c.report.services;
  found = c.found.items;
  misspelled = map (option_map misspelled_view) c.misspelled.items;
  ways_in = c.report.ways_in.items;
  table_paths = table_paths_view c.table_paths;
  tables = c.tables.items;
  accept = c.accept.now;
  facts = c.facts.now;
  unused = map unused_view c.unused.items;
  fail_on = c.fail_on;
}

abbrev pub compare_view : CompareReply → spec.CompareValue
compare_view c = record { old = side_files c.old; new = side_files c.new; changes = c.changes }

abbrev pub policy_view : PolicyReply → spec.PolicyValue
policy_view p = record { files = side_files p.files; stacks = p.stacks; policies = p.policies.items; fail_on = p.fail_on }

abbrev pub needs_view : NeedsReply → spec.NeedsValue
needs_view n = record {
  service = n.service.now;
  kind = n.kind;
  items = n.stack;
  rules = option_map (λ rules. map suggestion_view rules.items) n.rules;
}

-- THE VALUE of a reply
abbrev pub reply_view : Reply → spec.Reply
reply_view (replies.Stacks stacks) = spec.Stacks (map stack_view stacks.items)
reply_view (replies.Released readings) = spec.Released (map released_view readings.items)
reply_view (replies.Run run) = spec.Run (run_view run)
reply_view (replies.Access found) = spec.Access found.answer (option_copied found.table)
reply_view (replies.Time found) = spec.Time found
reply_view (replies.Outcomes outcomes) = spec.Outcomes (outcomes_view outcomes)
reply_view (replies.Graph drawing) = spec.Drawing (drawing_view drawing)
reply_view (replies.Check check) = spec.Check (check_view check)
reply_view (replies.Compared changes) = spec.Compared (compare_view changes)
reply_view (replies.Policy policies) = spec.Policy (policy_view policies)
reply_view (replies.Needs found) = spec.Needs (needs_view found)
reply_view (replies.Explained explanation) = spec.Explained (explanation_view explanation)
reply_view replies.Explanations = spec.Explanations
reply_view replies.Facts = spec.Facts
reply_view replies.Version = spec.Version
reply_view (replies.Paths page) = spec.Page (page_value page)
