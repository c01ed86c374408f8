use Rattle.std.proofs.Common.{List, refl, subst, sym, ℕ}
use Rattle.pam_text.specs.Members.{Member}
use Rattle.pam_findings.specs.host.Causes.{IsCause}
use Rattle.pam_findings.specs.host.inner.Looked.{OfModules, judgement_of}
use Rattle.pam_findings.specs.host.inner.Table.{Adds}
use Rattle.pam_findings.specs.host.Verdicts.{HasAlone, Judged, LacksAlone}
use Rattle.pam_findings.specs.declared.host.alone.Whole.TheVariants.{Anybody, Nobody}
use Rattle.pam_findings.specs.declared.host.problem.Problem.TheVariants as problems
use Rattle.pam_findings.proofs.HostProofs.Seen.{asks-of}
use Rattle.pam_findings.proofs.host.judging.judge.Goals as goal

pub returns-in-Ok-clause-judges : goal.returns-in-Ok-clause-judges
returns-in-Ok-clause-judges c name stack reached =
    let free = c.answers-free.result in
    let failing = c.answers_if_checks_fail-failing.result in
    let causes = c.in_ok-causes-in-Ok.causes in
    let walked = c.args.walked.now in
    let rules = walked.checker.now.rules.now in
    let modules = walked.checker.now.modules.now in
    let kind = c.args.at.kind in
    let j = judgement_of c.args.stack free failing c.in-Ok.soundness causes in
    record {
      verdict = Judged j;
      is_verdict = record {
        stack = stack;
        free = c.answers-free.ensures;
        failing = c.answers_if_checks_fail-failing.ensures;
        nobody = c.in-Ok.ensures.nobody;
        way = c.in-Ok.ensures.anybody;
        never_asked = c.in-Ok.ensures.never_asked;
        jumps = c.in-Ok.ensures.jumps;
        never_counts = c.in-Ok.ensures.never_counts;
        nobody_cause = λ nobody is_open.
            subst (λ (l : List ℕ). IsCause (HasAlone rules modules kind Nobody) (LacksAlone rules modules kind Nobody) rules.form l causes.nobody)
            reached (c.in_ok-causes-in-Ok.ensures.causes.nobody nobody is_open);
        anybody_cause = λ auth anybody.
            subst (λ (l : List ℕ). IsCause (HasAlone rules modules kind Anybody) (LacksAlone rules modules kind Anybody) rules.form l causes.anybody)
            reached (c.in_ok-causes-in-Ok.ensures.causes.anybody auth anybody);
      };
      adds = c.in_ok-push_judged-in-Ok.ensures;
      asks = asks-of c.args.stack (Judged j) c.args.asked.now.items c.push_asked.new.asked.items
          (subst (λ (numbers : List ℕ). Adds (OfModules problems.NeverAsked c.args.stack (λ number. Member number numbers → ⊥))
          c.args.asked.now.items c.push_asked.new.asked.items) c.deref.ensures.value c.in_ok-push_asked-in-Ok.ensures);
      tells = record { way_in = c.in_ok-way_in-in-Ok.ensures free causes; nobody = refl };
    }
