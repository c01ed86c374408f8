-- Verdicts and rows without their layout in memory.
use Rattle.std.specs.Option.{option_map}
use Rattle.pam_facts.specs.arguments.Modules.{rows_in}
use Rattle.pam_facts.specs.arguments.Rows.{Row as RowText}
use Rattle.pam_facts.specs.arguments.Values.{ValueForm, Number, NumberOrNever, Octal, Boolean, OneOf}
use Rattle.pam_facts.specs.arguments.Verdicts.{Module as ModuleText, Meaning, Known, Free, Longer, OtherKind, BadValue, Weak, Unknown}
use Rattle.pam_facts.specs.declared.arguments.modules.Module.{Module}
use Rattle.pam_facts.specs.declared.arguments.row.Row.{Row}
use Rattle.pam_facts.specs.declared.arguments.values.Wanted.{Wanted}
use Rattle.pam_facts.specs.declared.arguments.values.Wanted.TheVariants as wanted
use Rattle.pam_facts.specs.declared.arguments.verdict.Verdict.{Verdict}
use Rattle.pam_facts.specs.declared.arguments.verdict.Verdict.TheVariants as verdicts

abbrev pub form_view : Wanted → ValueForm
form_view wanted.Number = Number
form_view wanted.NumberOrNever = NumberOrNever
form_view wanted.Octal = Octal
form_view wanted.Boolean = Boolean
form_view (wanted.OneOf words) = OneOf words.now

abbrev pub verdict_view : Verdict → Meaning
verdict_view verdicts.Known = Known
verdict_view verdicts.Free = Free
verdict_view (verdicts.Longer argument) = Longer argument.now
verdict_view verdicts.OtherKind = OtherKind
verdict_view (verdicts.BadValue form) = BadValue (form_view form)
verdict_view verdicts.Weak = Weak
verdict_view (verdicts.Unknown reaction) = Unknown reaction

abbrev pub row_view : Row → RowText
row_view row = record {
  argument = row.argument.now;
  any_case = row.any_case;
  may_have_value = row.may_have_value;
  may_be_longer = row.may_be_longer;
  value = option_map (λ t. t.now) row.value;
  weak_in = option_map (λ t. t.now) row.weak_in;
  kinds = option_map (λ t. t.now) row.kinds;
}

abbrev pub module_view : Module → ModuleText
module_view known = record {
  kinds = known.kinds.now;
  reaction = known.reaction;
  reacts_in = option_map (λ t. t.now) known.reacts_in;
  rows = rows_in (option_map (λ t. t.now) known.arguments);
}
