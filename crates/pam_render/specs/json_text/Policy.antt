-- The JSON of `policy`: a line for each finding, for each rule, and a last line with their numbers.
use Rattle.std.specs.Prelude.{ℕ, List, [], ◌∷◌, codes, length, map, Option, None, Some}
use Rattle.std.specs.List.{flat_map}
use Rattle.std.specs.Option.{option_map_or}
use Rattle.pam_codes.specs.SetText.{name_of}
use Rattle.pam_conf.specs.Stack.{Items}
use Rattle.pam_facts.specs.known.Answers.{name_of_path}
use Rattle.pam_policy.specs.declared.host.stacks.ClassStack.{ClassStack}
use Rattle.pam_policy.specs.declared.host.stacks.ClassStack.TheVariants.{Known}
use Rattle.pam_policy.specs.declared.host.standing.Standing.{Standing}
use Rattle.pam_policy.specs.declared.host.standing.Standing.TheVariants as standings
use Rattle.pam_policy.specs.declared.search.run.Step.{Step}
use Rattle.pam_policy.specs.host.Findings.{Broken, FindingText}
use Rattle.pam_policy.specs.host.Told.{standing_of}
use Rattle.pam_policy.specs.search.Runs.{RunValue}
use Rattle.pam_report.specs.Decide.{path_at}
use Rattle.pam_report.specs.PolicyLevels.{policy_level, policy_row}
use Rattle.pam_report.specs.Reply.{PolicyValue}
use Rattle.pam_render.specs.json_lines.Line.{items_of, kind, line, members_of, readable, readable_or_null}
use Rattle.pam_render.specs.parts.Policy.{Found, Host, Judged, Last, Line, ToldFinding, ToldRule, class_at, kind_of_place, policy_lines, service_of_place}
use Rattle.pam_render.specs.declared.parts.check.Counts.{Counts}
use Rattle.pam_render.specs.sentences.Phrases.{phrase_chars}
use Rattle.pam_render.specs.sentences.Policy.{finding_phrases}
use Rattle.pam_render.specs.sentences.Sentences.{level_name}
use Rattle.serde_json.specs.Data.{Data, array, no_items, number, object, string, unsigned}

-- WHAT IS FOUND

-- the sentence as one string
abbrev pub sentence_string : Host → ToldFinding → Data
sentence_string host told = string (flat_map phrase_chars (finding_phrases host told.rule.text told.finding))

-- the stack at a place
abbrev pub stack_members : Host → ℕ → List (List ℕ × Data)
stack_members host position = (codes "service", readable (service_of_place host position)) ∷ (codes "type", string (kind_of_place host position)) ∷ []

unfoldable pub stack_object : Host → ℕ → Data
stack_object host position = object (members_of (stack_members host position))

abbrev pub stacks_array : Host → List ℕ → Data
stacks_array host places = array (items_of (map (stack_object host) places))

-- THE RUN that breaks a rule, of P1 alone

-- a module that is asked, and its answer
abbrev pub step_members : Items → Step → List (List ℕ × Data)
step_members items step =
    (codes "number", number (unsigned step.module_number)) ∷ (codes "module", readable (name_of_path (path_at step.module_number items)))
    ∷ (codes "code", string (name_of step.code)) ∷ []

unfoldable pub step_object : Items → Step → Data
step_object items step = object (members_of (step_members items step))

abbrev pub steps_of_stack : ClassStack → List Step → Data
steps_of_stack (Known known) steps = array (items_of (map (step_object known.stack) steps))
steps_of_stack stack steps = array no_items

abbrev pub run_array : Host → ℕ → RunValue → Data
run_array host class run = option_map_or (λ c. steps_of_stack c.stack run.steps) (class_at host class) (array no_items)

abbrev pub steps_array : Host → FindingText → Data
steps_array host (Broken class run) = run_array host class run
steps_array host finding = array no_items

-- what the stack decides
abbrev pub decision_of : FindingText → Option (List ℕ)
decision_of (Broken class run) = Some (name_of run.decision)
decision_of finding = None

-- THE LINE of a finding
abbrev pub found_members : Host → ToldFinding → List (List ℕ × Data)
found_members host told =
    kind (codes "finding") ∷ (codes "number", string (policy_row told.finding).number)
    ∷ (codes "name", string (policy_row told.finding).name) ∷ (codes "level", string (level_name (policy_level told.finding)))
    ∷ (codes "policy", readable told.rule.policy) ∷ (codes "line", number (unsigned told.rule.line)) ∷ (codes "rule", readable told.rule.text)
    ∷ (codes "sentence", sentence_string host told) ∷ (codes "stacks", stacks_array host told.places)
    ∷ (codes "decision", readable_or_null (decision_of told.finding)) ∷ (codes "steps", steps_array host told.finding) ∷ []

unfoldable pub found_json : Host → ToldFinding → List ℕ
found_json host told = line (found_members host told)

-- THE LINE of a rule: whether it holds, and the number of stacks of which it speaks
abbrev pub verdict_name : Standing → List ℕ
verdict_name standings.Holds = codes "holds"
verdict_name standings.Broken = codes "broken"
verdict_name standings.NotKnown = codes "not known"

abbrev pub rule_members : ToldRule → List (List ℕ × Data)
rule_members rule =
    kind (codes "rule") ∷ (codes "policy", readable rule.policy) ∷ (codes "line", number (unsigned rule.line)) ∷ (codes "rule", readable rule.text)
    ∷ (codes "verdict", string (verdict_name (standing_of rule.report))) ∷ (codes "stacks", number (unsigned (length rule.report.places.items))) ∷ []

unfoldable pub rule_json : ToldRule → List ℕ
rule_json rule = line (rule_members rule)

-- THE LAST LINE
abbrev pub total_members : ℕ → ℕ → Counts → List (List ℕ × Data)
total_members rules stacks counts =
    kind (codes "total") ∷ (codes "rules", number (unsigned rules)) ∷ (codes "stacks", number (unsigned stacks))
    ∷ (codes "errors", number (unsigned counts.errors)) ∷ (codes "warnings", number (unsigned counts.warnings))
    ∷ (codes "notes", number (unsigned counts.notes)) ∷ []

unfoldable pub total_json : ℕ → ℕ → Counts → List ℕ
total_json rules stacks counts = line (total_members rules stacks counts)

-- ONE LINE
abbrev pub line_json : Line → List ℕ
line_json (Found host told) = found_json host told
line_json (Judged rule) = rule_json rule
line_json (Last rules stacks counts) = total_json rules stacks counts

-- THE JSON of `policy`: which lines come, in which order, says `policy_lines`
abbrev pub policy_json : PolicyValue → List ℕ
policy_json value = policy_lines line_json value
