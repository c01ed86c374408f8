use Rattle.std.proofs.Common.{◌≡◌, ◌∙◌, ℕ, List, ap, arith, inl, inr, sym}
use Rattle.std.specs.Cmp.{both_ways}
use Rattle.std.proofs.lemmas.Bool.{false≢true}
use Rattle.pam_compare.specs.Names.{name_of}
use Rattle.pam_compare.specs.Walks.{is_ahead, may_ask}
use Rattle.pam_compare.specs.inner.Naming.{AreLast}
use Rattle.pam_compare.proofs.Ahead.{ahead-cases, ahead-last, last-ahead, old-ahead}
use Rattle.pam_compare.proofs.held.is_ahead.Goals as goal
use Rattle.pam_compare.proofs.held.is_ahead.Goals.{else-name-naming-via-then-name-naming+else-may_ask, else-name-naming-via-else-name-naming}

pub returns-clause-past : goal.returns-clause-past
unfolding AreLast
returns-clause-past c modules count last out = record {
  of_old = elim c.else-name-naming.branch [
    | else-name-naming-via-then-name-naming+else-may_ask w ↦ λ i asked. inl (w.may_ask.ensures.past w.if-may_ask.false i asked)
    | else-name-naming-via-else-name-naming w ↦ λ i asked. inr w.if-name-naming.false
  ];
  of_new = λ j k asked positive most is.
      let high = last k positive (omega (arith, count, most)) in
      let past = c.may_ask-2.ensures.past out j asked in
      let items = c.args.naming.now.last.items in
      let e : name_of items (name_of c.args.naming.now.names.items k) ≡ c.value_at.result =
      ap (name_of items) is ∙ ap (λ (l : List ℕ). name_of l c.args.name) (sym c.deref.ensures.value) ∙ sym c.value_at.ensures in
      omega (arith, high, past, e);
}

pub returns-then-may_ask-clause-exact : goal.returns-then-may_ask-clause-exact
returns-then-may_ask-clause-exact c modules are positive =
    sym (old-ahead c.args.naming.now.names.items c.args.naming.now.old_modules modules c.args.name c.args.old c.args.new c.if-name-naming.true
    (sym c.may_ask.ensures.exact ∙ c.if-may_ask.true))

pub returns-clause-exact : goal.returns-clause-exact
returns-clause-exact c modules are positive =
    let naming = c.args.naming.now in
    let names = naming.names.items in
    let last = naming.last.items in
    let name = c.args.name in
    let is : c.may_ask-2.result ≡ may_ask c.args.new (name_of last name) =
    c.may_ask-2.ensures.exact ∙ ap (may_ask c.args.new) (c.value_at.ensures ∙ ap (λ (l : List ℕ). name_of l name) c.deref.ensures.value) in
    both_ways c.may_ask-2.result (is_ahead names naming.old_modules modules name c.args.old c.args.new)
    (λ e. ahead-last names naming.old_modules modules last name c.args.old c.args.new are.names are.found positive (sym is ∙ e))
    (λ e. elim (ahead-cases names naming.old_modules modules name c.args.old c.args.new e) [
      | inl here ↦ absurd (elim c.else-name-naming.branch [
        | else-name-naming-via-then-name-naming+else-may_ask w ↦ false≢true (sym w.if-may_ask.false ∙ w.may_ask.ensures.exact ∙ here.1)
        | else-name-naming-via-else-name-naming w ↦ let most = here.0 in let more = w.if-name-naming.false in omega (arith, most, more)
      ])
      | inr n ↦ is ∙ last-ahead names naming.old_modules modules last name c.args.new are.names are.last n
    ])
