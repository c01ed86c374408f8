-- The modules of a stack, each with the number of items after it in its list.
use Rattle.std.proofs.Common.{◌≡◌, ℕ, ◌+◌, ◌-◌, ◌<◌, ◌≤◌, Bool, true, List, [], ◌∷◌, refl, sym, ◌∙◌, ap, subst, inl, inr, arith, suc, zero}
use Rattle.std.proofs.Common.{cond}
use Rattle.std.proofs.lemmas.Bool.{cond_both, cond-true}
use Rattle.pam_conf.specs.Stack.{Items, End, ThenModule, ThenSub, IsNumberedFrom, ModuleText, module_count}
use Rattle.pam_conf.proofs.StackTree.{numbered-module_parts, numbered-sub_parts}
use Rattle.pam_dispatch.specs.declared.state.State.{State}
use Rattle.pam_dispatch.specs.Runs.{Ask, Assignment, outcome_of}
use Rattle.pam_dispatch.specs.Tree.{ask_of, asked_after, count, run_after}
use Rattle.pam_text.specs.Members.{Member}
use Rattle.pam_paths.proofs.Listings.{Member-cases, Member-left, Member-right}
use Rattle.pam_findings.specs.stack.inner.PastEnd.{IsPlaced, numbers_where}

number-same : (m other : ModuleText) → m ≡ other → m.number ≡ other.number
number-same m other e = ap (λ (x : ModuleText). x.number) e

-- the numbers of a list are those from its first on
pub placed-range : (first : ℕ) (m : ModuleText) (after : ℕ) (items : Items) → IsNumberedFrom first items → IsPlaced m after items →
    (first ≤ m.number) × (m.number < first + module_count items)
unfolding IsPlaced
placed-range first m after End h p = absurd p
placed-range first m after (ThenModule x rest) h (inl e) =
    let parts = numbered-module_parts first x rest h in
    let same = number-same m x e.0 in
    (omega (arith, same, parts.0), omega (arith, same, parts.0))
placed-range first m after (ThenModule x rest) h (inr p) =
    let parts = numbered-module_parts first x rest h in
    let r = placed-range (first + 1) m after rest parts.1 p in
    (omega (arith, r.0), omega (arith, r.1))
placed-range first m after (ThenSub sub inner rest) h (inl p) =
    let parts = numbered-sub_parts first sub inner rest h in
    let r = placed-range first m after inner parts.0 p in
    (r.0, omega (arith, r.1))
placed-range first m after (ThenSub sub inner rest) h (inr p) =
    let parts = numbered-sub_parts first sub inner rest h in
    let r = placed-range (first + module_count inner) m after rest parts.1 p in
    (omega (arith, r.0), omega (arith, r.1))

-- a number is that of one module
pub placed-one : (first : ℕ) (m other : ModuleText) (after more : ℕ) (items : Items) → IsNumberedFrom first items → IsPlaced m after items →
    IsPlaced other more items → m.number ≡ other.number → (m ≡ other) × (after ≡ more)
unfolding IsPlaced
placed-one first m other after more End h p q same = absurd p
placed-one first m other after more (ThenModule x rest) h (inl e) (inl f) same = (e.0 ∙ sym f.0, e.1 ∙ sym f.1)
placed-one first m other after more (ThenModule x rest) h (inl e) (inr q) same =
    let parts = numbered-module_parts first x rest h in
    let r = placed-range (first + 1) other more rest parts.1 q in
    absurd (omega (arith, r.0, same, number-same m x e.0, parts.0))
placed-one first m other after more (ThenModule x rest) h (inr p) (inl f) same =
    let parts = numbered-module_parts first x rest h in
    let r = placed-range (first + 1) m after rest parts.1 p in
    absurd (omega (arith, r.0, same, number-same other x f.0, parts.0))
placed-one first m other after more (ThenModule x rest) h (inr p) (inr q) same =
    placed-one (first + 1) m other after more rest (numbered-module_parts first x rest h).1 p q same
placed-one first m other after more (ThenSub sub inner rest) h (inl p) (inl q) same =
    placed-one first m other after more inner (numbered-sub_parts first sub inner rest h).0 p q same
placed-one first m other after more (ThenSub sub inner rest) h (inl p) (inr q) same =
    let parts = numbered-sub_parts first sub inner rest h in
    let r = placed-range first m after inner parts.0 p in
    let s = placed-range (first + module_count inner) other more rest parts.1 q in
    absurd (omega (arith, r.1, s.0, same))
placed-one first m other after more (ThenSub sub inner rest) h (inr p) (inl q) same =
    let parts = numbered-sub_parts first sub inner rest h in
    let r = placed-range first other more inner parts.0 q in
    let s = placed-range (first + module_count inner) m after rest parts.1 p in
    absurd (omega (arith, r.1, s.0, same))
placed-one first m other after more (ThenSub sub inner rest) h (inr p) (inr q) same =
    placed-one (first + module_count inner) m other after more rest (numbered-sub_parts first sub inner rest h).1 p q same

-- A MODULE THAT IS ASKED is placed in the stack
pub record PlacedAsk (ask : Ask) (items : Items) : Type 0 where
  pub module_text : ModuleText
  pub placed : IsPlaced module_text ask.after items
  pub numbered : ask.module_number ≡ module_text.number
  pub control : ask.control ≡ module_text.control

deeper-left : (ask : Ask) (m : ModuleText) (rest : Items) → PlacedAsk ask rest → PlacedAsk ask (ThenModule m rest)
unfolding IsPlaced
deeper-left ask m rest p = record { module_text = p.module_text; placed = inr p.placed; numbered = p.numbered; control = p.control }

pub asked-placed : (skip : ℕ) (items : Items) (s entry : State) (answers : Assignment) (ask : Ask) →
    Member ask (asked_after skip items s entry answers) → PlacedAsk ask items
unfolding Member IsPlaced asked_after
asked-placed skip End s entry answers ask member = absurd member
asked-placed (suc skip) (ThenModule m rest) s entry answers ask member = deeper-left ask m rest (asked-placed skip rest s entry answers ask member)
asked-placed (suc skip) (ThenSub sub inner rest) s entry answers ask member =
    let p = asked-placed skip rest s entry answers ask member in
    record { module_text = p.module_text; placed = inr p.placed; numbered = p.numbered; control = p.control }
asked-placed zero (ThenModule m rest) s entry answers ask (inl e) =
    record {
      module_text = m;
      placed = inl (refl, ap (λ (x : Ask). x.after) e);
      numbered = ap (λ (x : Ask). x.module_number) e;
      control = ap (λ (x : Ask). x.control) e;
    }
asked-placed zero (ThenModule m rest) s entry answers ask (inr i) =
    let outcome = outcome_of (ask_of m rest s entry) (answers m.number) in
    deeper-left ask m rest (asked-placed (count rest - outcome.left) rest outcome.state entry answers ask i)
asked-placed zero (ThenSub sub inner rest) s entry answers ask member =
    elim (Member-cases ask (asked_after zero inner s s answers) (asked_after zero rest (run_after zero inner s s answers) entry answers) member) [
      | inl i ↦
          let p = asked-placed zero inner s s answers ask i in
          record { module_text = p.module_text; placed = inl p.placed; numbered = p.numbered; control = p.control }
      | inr i ↦
          let p = asked-placed zero rest (run_after zero inner s s answers) entry answers ask i in
          record { module_text = p.module_text; placed = inr p.placed; numbered = p.numbered; control = p.control }
    ]

-- THE MODULES THAT PASS A TEST

pub record Passing (test : ModuleText → ℕ → Bool) (items : Items) (number : ℕ) : Type 0 where
  pub module_text : ModuleText
  pub after : ℕ
  pub placed : IsPlaced module_text after items
  pub numbered : number ≡ module_text.number
  pub passes : test module_text after ≡ true

module _ (test : ModuleText → ℕ → Bool) where
  pub where-passing : (items : Items) (number : ℕ) → Member number (numbers_where test items) → Passing test items number
  unfolding Member IsPlaced numbers_where
  where-passing End number member = absurd member
  where-passing (ThenModule m rest) number member =
      let here : List ℕ = cond (test m (count rest)) (m.number ∷ []) [] in
      elim (Member-cases number here (numbers_where test rest) member) [
        | inl i ↦ cond_both (test m (count rest)) (m.number ∷ []) [] (λ l. Member number l → Passing test (ThenModule m rest) number)
            (λ t j. elim j [
              | inl e ↦ record { module_text = m; after = count rest; placed = inl (refl, refl); numbered = e; passes = t }
              | inr k ↦ absurd k
            ])
            (λ f j. absurd j)
            i
        | inr i ↦
            let p = where-passing rest number i in
            record { module_text = p.module_text; after = p.after; placed = inr p.placed; numbered = p.numbered; passes = p.passes }
      ]
  where-passing (ThenSub sub inner rest) number member =
      elim (Member-cases number (numbers_where test inner) (numbers_where test rest) member) [
        | inl i ↦
            let p = where-passing inner number i in
            record { module_text = p.module_text; after = p.after; placed = inl p.placed; numbered = p.numbered; passes = p.passes }
        | inr i ↦
            let p = where-passing rest number i in
            record { module_text = p.module_text; after = p.after; placed = inr p.placed; numbered = p.numbered; passes = p.passes }
      ]

  pub passing-where : (m : ModuleText) (after : ℕ) (items : Items) → IsPlaced m after items → test m after ≡ true →
      Member m.number (numbers_where test items)
  unfolding Member IsPlaced numbers_where
  passing-where m after End p t = absurd p
  passing-where m after (ThenModule x rest) (inl e) t =
      let here : test x (count rest) ≡ true = sym (ap (λ (y : ModuleText). test y (count rest)) e.0) ∙ sym (ap (test m) e.1) ∙ t in
      Member-left m.number (cond (test x (count rest)) (x.number ∷ []) []) (numbers_where test rest)
      (subst (Member m.number) (sym (cond-true (test x (count rest)) (x.number ∷ []) [] here)) (inl (number-same m x e.0)))
  passing-where m after (ThenModule x rest) (inr p) t =
      Member-right m.number (cond (test x (count rest)) (x.number ∷ []) []) (numbers_where test rest) (passing-where m after rest p t)
  passing-where m after (ThenSub sub inner rest) (inl p) t =
      Member-left m.number (numbers_where test inner) (numbers_where test rest) (passing-where m after inner p t)
  passing-where m after (ThenSub sub inner rest) (inr p) t =
      Member-right m.number (numbers_where test inner) (numbers_where test rest) (passing-where m after rest p t)
