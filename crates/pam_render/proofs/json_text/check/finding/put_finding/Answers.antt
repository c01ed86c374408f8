use Rattle.std.proofs.Common.{◌∙◌, ℕ, List, [], Option, ap, codes, refl}
use Rattle.std.specs.Option.{option_map}
use Rattle.pam_codes.proofs.Writing.{writes-is}
use Rattle.pam_conf.specs.declared.rule.Kind.{Kind}
use Rattle.pam_explain.specs.declared.explanation.Level.{Level}
use Rattle.pam_explain.specs.Explanation.{Explanation}
use Rattle.pam_findings.specs.declared.host.met.Met.{Met}
use Rattle.pam_findings.specs.declared.misspelled.spot.Spot.{Spot}
use Rattle.pam_render.proofs.JsonLinesProofs.Members.{named, then}
use Rattle.pam_render.specs.json_lines.Line.{line, number_or_null, readable, readable_or_null}
use Rattle.pam_render.specs.parts.Check.{text_at, told_line}
use Rattle.pam_render.specs.parts.CheckNames.{names_view}
use Rattle.pam_render.specs.sentences.Sentences.{level_name}
use Rattle.serde_json.specs.Data.{Data, number, string, unsigned}
use Rattle.pam_render.specs.json_text.Check.{finding_json, line_if_any, met_unless, service_count, services_array, types_array}
use Rattle.pam_render.specs.json_text.Header.{kind_name}
use Rattle.pam_render.proofs.json_text.check.finding.put_finding.Goals as goal

pub returns : goal.returns
unfolding finding_json
returns g c =
    let services = (names_view c.args.found.names.now).services in
    let service = c.service_of-service.ensures in
    let row = c.row-row.ensures in
    let met = c.met_unless-met.ensures ∙ ap (λ (s : Option ℕ). met_unless c.args.found.entry.now.1.met s) service in
    let level = c.as_bytes.ensures.value ∙ c.level_name.ensures ∙ ap (λ (l : Level). level_name l) c.level.ensures in
    let of-service = c.name_of_service.ensures ∙ ap (λ (s : Option ℕ). option_map (text_at services) s) service in
    let type =
    c.type_of.ensures ∙ ap (λ (s : Option (Option ℕ × Kind)). option_map kind_name (option_map (λ one. one.1) s)) c.stack_of.ensures in
    let spot = c.spot_of-spot.ensures in
    let told = c.line_if_any.ensures ∙ ap line_if_any (c.told_line.ensures ∙ ap (told_line c.args.found.entry.now.0.line) spot) in
    writes-is _ _ _ _ _ _ c.put_line.ensures
    (ap line
    (then _ _ _ _ c.text.ensures
    (then _ _ _ _ (c.readable.ensures ∙ ap (λ (path : List ℕ). named (codes "file") (readable path)) c.path_of.ensures)
    (then _ _ _ _ (c.number_if_any.ensures ∙ ap (λ (at : Option ℕ). named (codes "line") (number_or_null at)) told)
    (then _ _ _ _
    (c.number_if_any-2.ensures
    ∙ ap (λ (n : Option ℕ). named (codes "column") (number_or_null n)) (c.column_of.ensures ∙ ap (option_map (λ (s : Spot). s.column)) spot))
    (then _ _ _ _
    (c.number_if_any-3.ensures
    ∙ ap (λ (n : Option ℕ). named (codes "length") (number_or_null n)) (c.len_of.ensures ∙ ap (option_map (λ (s : Spot). s.len)) spot))
    (then _ _ _ _ (c.text-2.ensures ∙ ap (λ (text : List ℕ). named (codes "level") (string text)) level)
    (then _ _ _ _
    (c.text-3.ensures
    ∙ ap (λ (text : List ℕ). named (codes "number") (string text)) (c.as_bytes-2.ensures.value ∙ ap (λ (e : Explanation). e.number) row))
    (then _ _ _ _
    (c.text-4.ensures
    ∙ ap (λ (text : List ℕ). named (codes "name") (string text)) (c.as_bytes-3.ensures.value ∙ ap (λ (e : Explanation). e.name) row))
    (then _ _ _ _ c.written.ensures
    (then _ _ _ _ (c.readable_if_any.ensures ∙ ap (λ (text : Option (List ℕ)). named (codes "service") (readable_or_null text)) of-service)
    (then _ _ _ _ (c.readable_if_any-2.ensures ∙ ap (λ (text : Option (List ℕ)). named (codes "type") (readable_or_null text)) type)
    (then _ _ _ _ (c.written-2.ensures ∙ ap (λ (m : Option Met). named (codes "types") (types_array m)) met)
    (then _ _ _ _
    (c.written-3.ensures
    ∙ ap (λ (value : Data). named (codes "services") value) (c.services_of.ensures ∙ ap (λ (m : Option Met). services_array services m) met))
    (then _ _ _ _
    (c.number.ensures
    ∙ ap (λ (n : ℕ). named (codes "service_count") (number (unsigned n))) (c.service_count.ensures ∙ ap (λ (m : Option Met). service_count m) met))
    (then _ _ [] [] c.written-4.ensures refl))))))))))))))))
