use Rattle.std.proofs.Common.{◌≡◌, ◌∙◌, ℕ, true, false, Option, Some, None, ap, arith, not, refl, subst, sym}
use Rattle.std.specs.Option.{is_some}
use Rattle.std.proofs.lemmas.Bool.{false≢true}
use Rattle.pam_compare.specs.declared.change.Change.{Change}
use Rattle.pam_compare.specs.declared.change.Change.TheVariants.{Admits, Refuses, Tells}
use Rattle.pam_compare.specs.declared.nodes.Found.{Found}
use Rattle.pam_compare.specs.inner.Nodes.{AreEarlier, IsNoted, KeepsFound, found_at}
use Rattle.pam_compare.proofs.Growing.{found-same, nothing}
use Rattle.pam_compare.proofs.nodes.Found.note.Goals as goal

none-of : (o : Option ℕ) → is_some o ≡ false → o ≡ None
none-of None e = refl
none-of (Some k) e = absurd (false≢true (sym e))

noted-some : (f : Found) (index : ℕ) (change : Change) → AreEarlier f index → (o : Option ℕ) → found_at f change ≡ o → is_some o ≡ true →
    IsNoted f index (Some change)
unfolding AreEarlier
noted-some f index change early None at some = absurd (false≢true some)
noted-some f index change early (Some k) at some = let less = early change k at in (k, at, omega (arith, less))

keep-admits : (f : Found) (index : ℕ) → f.admits ≡ None → KeepsFound f (record { admits = Some index; refuses = f.refuses; tells = f.tells })
unfolding KeepsFound
keep-admits f index none Admits k is = absurd (nothing k (sym none ∙ is))
keep-admits f index none Refuses k is = is
keep-admits f index none Tells k is = is

keep-refuses : (f : Found) (index : ℕ) → f.refuses ≡ None → KeepsFound f (record { admits = f.admits; refuses = Some index; tells = f.tells })
unfolding KeepsFound
keep-refuses f index none Admits k is = is
keep-refuses f index none Refuses k is = absurd (nothing k (sym none ∙ is))
keep-refuses f index none Tells k is = is

keep-tells : (f : Found) (index : ℕ) → f.tells ≡ None → KeepsFound f (record { admits = f.admits; refuses = f.refuses; tells = Some index })
unfolding KeepsFound
keep-tells f index none Admits k is = is
keep-tells f index none Refuses k is = is
keep-tells f index none Tells k is = absurd (nothing k (sym none ∙ is))

pub returns-in-None-clause-keeps : goal.returns-in-None-clause-keeps
returns-in-None-clause-keeps c = found-same _

pub returns-then-is_none-clause-keeps : goal.returns-then-is_none-clause-keeps
returns-then-is_none-clause-keeps c =
    keep-admits c.args.self.now c.args.index (none-of c.args.self.now.admits (c.is_none.ensures ∙ ap not c.if-is_none.true))

pub returns-else-is_none-clause-noted : goal.returns-else-is_none-clause-noted
returns-else-is_none-clause-noted c =
    subst (IsNoted c.args.self.now c.args.index) (sym (c.in-Some-Admits.is ∙ ap (λ (x : Change). Some x) (rw c.in-Some-Admits.is at c.in-Some-Admits.field-0-is)))
    (noted-some c.args.self.now c.args.index Admits c.requires c.args.self.now.admits refl (c.is_none.ensures ∙ ap not c.if-is_none.false))

pub returns-else-is_none-clause-keeps : goal.returns-else-is_none-clause-keeps
returns-else-is_none-clause-keeps c = found-same _

pub returns-then-is_none-2-clause-keeps : goal.returns-then-is_none-2-clause-keeps
returns-then-is_none-2-clause-keeps c =
    keep-refuses c.args.self.now c.args.index (none-of c.args.self.now.refuses (c.is_none-in-Some-Refuses.ensures ∙ ap not c.if-is_none-2.true))

pub returns-else-is_none-2-clause-noted : goal.returns-else-is_none-2-clause-noted
returns-else-is_none-2-clause-noted c =
    subst (IsNoted c.args.self.now c.args.index) (sym (c.in-Some-Refuses.is ∙ ap (λ (x : Change). Some x) (rw c.in-Some-Refuses.is at c.in-Some-Refuses.field-0-is)))
    (noted-some c.args.self.now c.args.index Refuses c.requires c.args.self.now.refuses refl (c.is_none-in-Some-Refuses.ensures ∙ ap not c.if-is_none-2.false))

pub returns-else-is_none-2-clause-keeps : goal.returns-else-is_none-2-clause-keeps
returns-else-is_none-2-clause-keeps c = found-same _

pub returns-then-is_none-3-clause-keeps : goal.returns-then-is_none-3-clause-keeps
returns-then-is_none-3-clause-keeps c =
    keep-tells c.args.self.now c.args.index (none-of c.args.self.now.tells (c.is_none-in-Some-Tells.ensures ∙ ap not c.if-is_none-3.true))

pub returns-else-is_none-3-clause-noted : goal.returns-else-is_none-3-clause-noted
returns-else-is_none-3-clause-noted c =
    subst (IsNoted c.args.self.now c.args.index) (sym (c.in-Some-Tells.is ∙ ap (λ (x : Change). Some x) (rw c.in-Some-Tells.is at c.in-Some-Tells.field-0-is)))
    (noted-some c.args.self.now c.args.index Tells c.requires c.args.self.now.tells refl (c.is_none-in-Some-Tells.ensures ∙ ap not c.if-is_none-3.false))

pub returns-else-is_none-3-clause-keeps : goal.returns-else-is_none-3-clause-keeps
returns-else-is_none-3-clause-keeps c = found-same _
