-- For private contracts and proofs alone: the values that are written part by part.
use Rattle.std.specs.Prelude.{map, option_map}
use Rattle.pam_policy.specs.host.Findings.{finding_view}
use Rattle.pam_render.specs.parts.CheckNames.{word_of}
use Rattle.pam_render.specs.parts.PolicyView.{host_view, told_view}
use Rattle.pam_codes.specs.ControlText.{control_text}
use Rattle.pam_render.specs.json_lines.Line.{joined, strings}
use Rattle.pam_render.specs.parts.Ways.{count_text}
use Rattle.pam_paths.specs.Steps.{step_seen}
use Rattle.serde_json.specs.Data.{Data, string}
use Rattle.pam_policy.specs.needs.Suggestions.{suggestion_view}
use Rattle.pam_report.specs.ReplyViews.{needs_view, side_files}
use Rattle.pam_report.specs.Unused.{unused_view}
use Rattle.pam_render.specs.json_text.Check.{answers_array, services_array, types_array}
use Rattle.pam_render.specs.json_text.Compare.{arguments_array, fault_if_any, new_modules, old_modules, steps_array as asked_array}
use Rattle.pam_render.specs.json_text.Needs.{events_array, rule_string}
use Rattle.pam_render.specs.json_text.Paths.{next_or_null}
use Rattle.pam_render.specs.json_text.Policy.{sentence_string, stacks_array, steps_array as policy_steps}
use Rattle.pam_render.specs.json_text.Sentences.{said_parts, table_parts, unused_parts}
use Rattle.pam_render.specs.json_text.Steps.{cursor_string, steps_array}
use Rattle.pam_render.specs.declared.json_text.check.values.FindingValue.{FindingValue}
use Rattle.pam_render.specs.declared.json_text.check.values.FindingValue.TheVariants.{Answers, Said, Services, TableSaid, Types, Unused}
use Rattle.pam_render.specs.declared.json_text.compare.values.ChangeValue.{ChangeValue}
use Rattle.pam_render.specs.declared.json_text.compare.values.ChangeValue.TheVariants.{Arguments as ModuleArguments, Fault, NewModules, OldModules, Steps as AskedSteps}
use Rattle.pam_render.specs.declared.json_text.needs.NeedsValue.{NeedsValue}
use Rattle.pam_render.specs.declared.json_text.needs.NeedsValue.TheVariants.{Events, Rule}
use Rattle.pam_render.specs.declared.json_text.policy.values.PolicyValue.{PolicyValue}
use Rattle.pam_render.specs.declared.json_text.policy.values.PolicyValue.TheVariants.{Sentence, Stacks, Steps as PolicySteps}
use Rattle.pam_render.specs.declared.json_text.show.ModuleValue.{ModuleValue}
use Rattle.pam_render.specs.declared.json_text.show.ModuleValue.TheVariants.{Arguments, Control}
use Rattle.pam_render.specs.declared.json_text.steps.PathValue.{PathValue}
use Rattle.pam_render.specs.declared.json_text.steps.PathValue.TheVariants.{Cursor, Next, Steps, Ways}

abbrev pub module_value : ModuleValue → Data
module_value (Control control) = string (control_text control.now)
module_value (Arguments arguments) = strings arguments.now

abbrev pub path_value : PathValue → Data
path_value (Cursor path) = cursor_string path.now
path_value (Next cursor) = next_or_null (option_map (λ c. c.now) cursor)
path_value (Steps modules steps) = steps_array modules.now (map step_seen steps.now)
path_value (Ways count) = string (count_text count)

abbrev pub change_value : ChangeValue → Data
change_value (Fault files fault) = fault_if_any (side_files files) fault.now
change_value (ModuleArguments stack number) = arguments_array stack.now number
change_value (OldModules pair numbers) = old_modules pair.now numbers.now
change_value (NewModules pair numbers) = new_modules pair.now numbers.now
change_value (AskedSteps pair asked) = asked_array pair.now asked.now

abbrev pub finding_value : FindingValue → Data
finding_value (Said line problem word) = joined (said_parts line problem (word_of word))
finding_value (TableSaid problem) = joined (table_parts problem)
finding_value (Unused line) = joined (unused_parts (unused_view line.now))
finding_value (Types met) = types_array met
finding_value (Services services met) = services_array (map (λ service. service.now) services.now) met
finding_value (Answers ways met problem) = answers_array ways.now met problem

abbrev pub policy_value : PolicyValue → Data
policy_value (Sentence host told) = sentence_string (host_view host.now) (told_view told.now)
policy_value (Stacks host places) = stacks_array (host_view host.now) places.now
policy_value (PolicySteps host finding) = policy_steps (host_view host.now) (finding_view finding)

abbrev pub needs_value : NeedsValue → Data
needs_value (Rule reply rule) = rule_string (needs_view reply.now) (suggestion_view rule.now)
needs_value (Events stack events) = events_array stack.now events.now
