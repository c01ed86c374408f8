use Rattle.std.proofs.Common.{◌∙◌, ℕ, List, Some, String, Vec, Global, ap, map, string_bytes, subst}
use Rattle.clap.specs.Words.{Text}
use Rattle.pam_cli.specs.Run.{Runs}
use Rattle.pam_lsp.proofs.checking.answer_of.Goals as goal

pub returns : goal.returns
returns g c =
    let told = ap (λ (ws : List (String Global)). map string_bytes ws) c.deref.ensures.value ∙ c.in_ok-words.ensures in record {
      before = c.new-out.result;
      after = c.run-status.new.out;
      status = c.run-status.result;
      fresh = record {
        inner = ap (λ v. v.items) c.new-out.ensures.inner ∙ c.new.ensures.items;
        taken = c.new-out.ensures.taken;
        failures = c.new-out.ensures.failures;
        flushes = c.new-out.ensures.flushes;
      };
      runs =
          subst
          (λ (words : List Text). Runs (g.S.System.told c.args.system.now) {W = Vec ℕ Global} (λ v. Some v.items) c.new-out.result c.run-status.new.out
          c.run-status.result words)
          told c.run-status.ensures.run;
      written = ap (λ v. v.items) c.into_inner.ensures;
    }
