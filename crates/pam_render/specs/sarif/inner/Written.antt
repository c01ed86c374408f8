-- For private contracts and proofs alone: the values that are written part by part.
use Rattle.std.specs.Prelude.{ℕ, ◌==◌, ◌||◌, ◌++◌, List, length, map, nat_lt, not, Option}
use Rattle.std.specs.List.{enumerate_from, flat_map}
use Rattle.pam_findings.specs.declared.host.problem.Place.{Place}
use Rattle.pam_findings.specs.declared.host.report.Finding.{Finding}
use Rattle.pam_findings.specs.misspelled.Misspelled.{MisspelledText}
use Rattle.pam_render.specs.json_lines.Line.{separated}
use Rattle.pam_render.specs.json_text.inner.Written.{finding_value}
use Rattle.pam_render.specs.parts.Check.{Names}
use Rattle.pam_render.specs.parts.CheckNames.{names_view}
use Rattle.pam_render.specs.sarif.Document.{tool_object}
use Rattle.pam_render.specs.sarif.Location.{artifact_object, location_object, locations_array, physical_object, region_object}
use Rattle.pam_render.specs.sarif.Results.{numbered_result, results_array, table_result, unused_result}
use Rattle.pam_render.specs.sarif.Rules.{text_object}
use Rattle.pam_render.specs.declared.sarif.document.RunValue.{RunValue}
use Rattle.pam_render.specs.declared.sarif.document.RunValue.TheVariants.{Results, Tool}
use Rattle.pam_render.specs.declared.sarif.location.Located.{Located}
use Rattle.pam_render.specs.declared.sarif.location.PlaceValue.{PlaceValue}
use Rattle.pam_render.specs.declared.sarif.location.PlaceValue.TheVariants.{Artifact, Region}
use Rattle.pam_render.specs.declared.sarif.results.ResultValue.{ResultValue}
use Rattle.pam_render.specs.declared.sarif.results.ResultValue.TheVariants.{Locations, Message}
use Rattle.pam_report.specs.Reply.{CheckValue}
use Rattle.pam_report.specs.ReplyViews.{check_view}
use Rattle.serde_json.specs.Data.{Data}
use Rattle.serde_json.specs.Written.{comma_if, compact_text}

abbrev pub place_value : PlaceValue → Data
place_value (Artifact path) = artifact_object path.now
place_value (Region line spot) = region_object line spot

abbrev pub physical_value : Located → Data
physical_value located = physical_object located.path.now located.line located.spot

abbrev pub location_value : Located → Data
location_value located = location_object located.path.now located.line located.spot

abbrev pub result_value : ResultValue → Data
result_value (Message said) = text_object (finding_value said)
result_value (Locations located) = locations_array located.path.now located.line located.spot

abbrev pub run_value : RunValue → Data
run_value (Tool reply) = tool_object (check_view reply.now)
run_value (Results names reply) = results_array (names_view names.now) (check_view reply.now)

-- the result of a finding at a position, with a comma before it unless it is the first
abbrev pub numbered_text : Names → List (Option MisspelledText) → ℕ × (Place × Finding) → List ℕ
numbered_text names words entry = comma_if (nat_lt 0 entry.0) ++ compact_text (numbered_result names words entry)

-- the results of findings, those of tables after them, and those of lines that say nothing after both
abbrev pub found_text : Names → CheckValue → List ℕ
found_text names value = flat_map (numbered_text names value.misspelled) (enumerate_from 0 value.found)

abbrev pub tables_text : CheckValue → List ℕ
tables_text value = separated (not (length value.found == 0)) (map (table_result value.table_paths) value.tables)

abbrev pub unused_text : CheckValue → List ℕ
unused_text value =
    separated (not (length value.found == 0) || not (length value.tables == 0)) (map (unused_result value.accept value.facts) value.unused)
