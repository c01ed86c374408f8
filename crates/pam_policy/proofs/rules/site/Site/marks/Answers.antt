use Rattle.std.proofs.Common.{◌+◌, ◌∙◌, Bool, arith, map, refl, sym, ℕ}
use Rattle.std.specs.List.{list_any}
use Rattle.pam_codes.specs.Set.{is_in}
use Rattle.pam_codes.specs.inner.SetBits.{codes_where-same}
use Rattle.pam_policy.specs.rules.Happening.{event_answers}
use Rattle.pam_policy.specs.rules.Site.{site_view}
use Rattle.pam_policy.specs.search.Marks.{codes_at}
use Rattle.pam_policy.specs.text.Events.{event_view}
use Rattle.pam_policy.proofs.RulesProofs.Marking.{any-map, marks-all, modules-more}
use Rattle.pam_policy.proofs.rules.site.Site.marks.Goals as goal

pub loop-index-init : goal.loop-index-init
loop-index-init c = record {
  done = λ number code first last low. absurd (omega (arith, first, last));
  rest = λ number above. c.new-marks.ensures number;
}

pub loop-index-preserved : goal.loop-index-preserved
loop-index-preserved c =
    let site = site_view c.args.self.now in
    let is_strict = c.args.is_strict in
    let events = c.args.events.now in
    let i = c.loop-index.index in
    let any : ℕ → ℕ → Bool = λ number code. list_any (λ event. is_in code (event_answers site is_strict event number)) (map event_view events) in
    modules-more any i (i + 1) (codes_at c.loop-index.marks) (codes_at c.add.new.self) c.answers_of_some.result refl
    (c.answers_of_some.ensures
    ∙ codes_where-same _ _ (λ code low. sym (any-map (λ event. is_in code (event_answers site is_strict event (i + 1))) event_view events)))
    c.add.ensures c.loop-index.invariant

pub returns : goal.returns
returns c =
    let site = site_view c.args.self.now in
    let is_strict = c.args.is_strict in
    let events = c.args.events.now in
    let any : ℕ → ℕ → Bool = λ number code. list_any (λ event. is_in code (event_answers site is_strict event number)) (map event_view events) in
    let count = c.modules-index-end.ensures.count in
    let test = c.loop-index-test.false in
    marks-all site is_strict (map event_view events) c.loop-index.marks any c.loop-index.index (omega (arith, count, test)) (λ number code. refl)
    c.loop-index.invariant
