-- For private contracts and proofs alone: a rule as a walk keeps it: pam.conf(5), "service type control module-path
-- module-arguments".
use Rattle.std.specs.Prelude.{List, ℕ}
use Rattle.std.specs.Option.{option_map}
use Rattle.pam_conf.specs.inner.Calls.{arguments_in, control_in, path_in}
use Rattle.pam_conf.specs.inner.Owned.{owned_words}
use Rattle.pam_conf.specs.Rule.{RuleText, RuleBody, Module, Include, Sub}
use Rattle.pam_conf.specs.declared.call.Call.{Call}
use Rattle.pam_conf.specs.declared.kept.KeptBody.{KeptBody}
use Rattle.pam_conf.specs.declared.kept.KeptBody.TheVariants as bodies
use Rattle.pam_conf.specs.declared.kept.KeptRule.{KeptRule}

-- the words of a call
abbrev pub call_words : Call → List (List ℕ)
call_words call = owned_words call.words

abbrev pub kept_body : KeptBody → RuleBody
kept_body (bodies.Module call) = Module (control_in (call_words call)) (path_in (call_words call)) (arguments_in (call_words call))
kept_body (bodies.Include target) = Include target.items
kept_body (bodies.Sub target) = Sub target.items

abbrev pub kept_view : KeptRule → RuleText
kept_view r = record {
  line = r.line;
  service = option_map (λ s. s.items) r.service;
  kind = r.kind;
  dashed = r.dashed;
  body = kept_body r.body;
}
