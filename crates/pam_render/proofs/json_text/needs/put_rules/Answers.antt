use Rattle.std.proofs.Common.{◌≡◌, ◌++◌, ℕ, true, Global, List, Option, Some, Vec, ap, length, map, sym, ◌∙◌}
use Rattle.std.proofs.lemmas.List.{length-map}
use Rattle.std.specs.List.{flat_map}
use Rattle.std.specs.Option.{option_map}
use Rattle.pam_codes.proofs.Writing.{writes-is, writes-then}
use Rattle.pam_policy.specs.declared.needs.suggestion.Suggestion.{Suggestion}
use Rattle.pam_policy.specs.needs.Suggestions.{suggestion_view}
use Rattle.pam_report.specs.Reply.{NeedsValue}
use Rattle.pam_report.specs.ReplyViews.{needs_view}
use Rattle.pam_render.specs.json_lines.Line.{line}
use Rattle.pam_render.specs.json_text.Needs.{rule_json, rules_json, total_members}
use Rattle.pam_render.proofs.json_text.needs.put_rules.Goals as goal

lines-are : (value : NeedsValue) (all : Option (Vec Suggestion Global)) (rules : Vec Suggestion Global) (slice : List Suggestion) (count : ℕ)
    → all ≡ Some rules → slice ≡ rules.items → count ≡ length rules.items
    → flat_map (rule_json value) (map suggestion_view slice) ++ line (total_members true count)
    ≡ rules_json value (option_map (λ those. map suggestion_view those.items) all)
lines-are value all rules slice count e f h =
    ap (λ (l : List Suggestion). flat_map (rule_json value) (map suggestion_view l) ++ line (total_members true count)) f
    ∙ ap (λ (n : ℕ). flat_map (rule_json value) (map suggestion_view rules.items) ++ line (total_members true n))
    (h ∙ sym (length-map rules.items suggestion_view))
    ∙ sym (ap (λ (o : Option (Vec Suggestion Global)). rules_json value (option_map (λ those. map suggestion_view those.items) o)) e)

pub returns : goal.returns
returns g c =
    let value = needs_view c.args.reply.now in
    writes-is _ _ _ _ _ _ (writes-then _ _ _ c.in_ok-put_each.ensures c.put_total-2.ensures)
    (lines-are value c.args.rules.now c.in-Some.rules _ _ c.in-Some.is c.deref.ensures.value (c.len.ensures ∙ c.in-Some.rules.ok.0))
