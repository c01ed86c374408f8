use Rattle.std.proofs.Common.{◌∙◌, ℕ, ap, map, refl, sym}
use Rattle.std.proofs.lemmas.List.{length-map}
use Rattle.std.specs.List.{range_with_len}
use Rattle.pam_policy.specs.text.Rules.{rule_view}
use Rattle.pam_report.specs.Policy.{name_at}
use Rattle.pam_report.proofs.report.policy.answering.judged_at.Goals as goal

pub returns-in-Ok-clause-answer : goal.returns-in-Ok-clause-answer
returns-in-Ok-clause-answer c moment are =
    record {
      same_files = c.requires.files;
      same_level = refl;
      stacks = are;
      names = c.in-Ok.ensures.names
          ∙ ap (λ (count : ℕ). map (name_at (map (λ n. n.now) c.args.asked.now.names.now)) (range_with_len 0 count))
          (sym (length-map c.args.policies.items (λ policy. map rule_view policy.rules.items)));
      rules = c.in-Ok.ensures.rules;
      reports = c.in-Ok.ensures.reports;
    }
