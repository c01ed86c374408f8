use Rattle.std.proofs.Common.{◌∙◌, refl}
use Rattle.pam_tables.specs.Access.{access_answer, lines_of, table_lines}
use Rattle.pam_tables.specs.inner.Login.{origin_view}
use Rattle.pam_tables.proofs.AccessSteps.{chosen_by, entry_number, line_found, line_misses, lines_are, no_line_left}
use Rattle.pam_tables.proofs.access.AccessTable.decide.Goals as goal

pub loop-number-init : goal.loop-number-init
unfolding access_answer
loop-number-init c =
    let t = c.self.inside in
    let lines = lines_of t.field_separators.items t.list_separators.items t.source.bytes.now in
    record {
      can = tt;
      finite = tt;
      left = record {
        rest = table_lines lines;
        are = rw (
          c.into_iter-number-iterator.ensures.into_iter_gives,
          c.of-number-items.ensures,
          c.of-separators.ensures.fields,
          c.of-separators.ensures.tokens,
          c.deref.ensures.value,
          c.deref-2.ensures.value,
        ) (lines_are lines c.self.invariant);
        same = rw (← c.self.view_is, c.of-origin.ensures.origin, c.of-memberships.ensures.groups, c.of-memberships.ensures.user) refl;
      };
    }

pub returns-in-Some-matching : goal.returns-in-Some-matching
returns-in-Some-matching c =
    let n = c.in-Some.number in
    let groups = c.of-memberships.result.groups.now in
    let origin = c.of-origin.result in
    c.answer.ensures ∙ line_found groups _ _ (origin_view origin) _ n _ _ _ c.in-Some.ensures.steps _ c.in-Some-matching.permission
    (λ entry h. chosen_by groups _ _ origin c.of-origin.ensures.known entry _ (c.in-Some-matching.ensures n entry h))
    (λ entry h. entry_number _ _ n _ entry h) c.loop-number.invariant.left

pub loop-number-preserved : goal.loop-number-preserved
loop-number-preserved c = record {
  can = tt;
  finite = tt;
  left =
      let groups = c.of-memberships.result.groups.now in
      let origin = c.of-origin.result in
      line_misses groups _ _ (origin_view origin) _ c.in-Some.number _ _ _ c.in-Some.ensures.steps _
      (λ entry h. chosen_by groups _ _ origin c.of-origin.ensures.known entry _ (c.in_default.ensures c.in-Some.number entry h))
      c.loop-number.invariant.left;
}

pub returns : goal.returns
returns c = no_line_left c.of-memberships.result.groups.now _ _ (origin_view c.of-origin.result) _ _ _ c.in-None.ensures.steps.0 c.loop-number.invariant.left
