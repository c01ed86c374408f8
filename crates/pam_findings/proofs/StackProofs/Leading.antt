-- Whether some run asks a first module, gets one of some codes from it, and then asks a later module.
use Rattle.std.proofs.Common.{◌≡◌, ℕ, ◌<◌, ◌≤◌, Bool, true, false, ◌&&◌, List, map, refl, sym, ◌∙◌, ap, subst, inl, inr, arith}
use Rattle.std.proofs.lemmas.Bool.{and_from, and_parts, false_from_ne_true, false≢true, or_cases, or_left, or_right}
use Rattle.std.specs.List.{list_any, range_with_len}
use Rattle.std.specs.Prelude.{◌↔◌, IsTrue}
use Rattle.pam_codes.specs.Code.{all_codes}
use Rattle.pam_codes.specs.Set.{codes_where, is_in}
use Rattle.pam_codes.specs.inner.SetBits.{is_in-codes_where}
use Rattle.pam_conf.specs.Stack.{IsNumbered, Items, module_count}
use Rattle.pam_dispatch.specs.Runs.{Ask, Assignment, AsksRise, Runs, asked_by, asks, ends, final_state, outcome_of}
use Rattle.pam_dispatch.specs.State.{start_state}
use Rattle.pam_dispatch.specs.Tree.{asked, runs_of_stack}
use Rattle.pam_dispatch.proofs.Numbering.{AsksRise-stack}
use Rattle.pam_dispatch.proofs.OpenRuns.{asked_by-runs_of_stack}
use Rattle.pam_text.specs.Members.{Member}
use Rattle.pam_paths.specs.Classes.{class_of}
use Rattle.pam_paths.specs.Computed.{after_step}
use Rattle.pam_paths.specs.Listing.{Allowance, IsAllowed, IsListing}
use Rattle.pam_paths.specs.Paths.{PathValue, StepValue, path_of, path_through, step_by, step_of}
use Rattle.pam_paths.proofs.Alike.{Member-codes, Member-codes_back, in_class, of_class}
use Rattle.pam_paths.proofs.Listings.{Member-map, Member-map_back, path_of-same, path_of-step, with_answer, with_answer-at, with_answer-other}
use Rattle.pam_paths.proofs.Sharing.{Member-is_in, is_in-Member}
use Rattle.pam_paths.proofs.Trees.{path_of-stack}
use Rattle.pam_findings.specs.stack.Leading.{Leads}
use Rattle.pam_findings.specs.stack.inner.Leading.{SaysLeads, codes_of, have_common}
use Rattle.pam_findings.specs.stack.inner.Marks.{mark_of}
use Rattle.pam_findings.proofs.StackProofs.Onward.{is_later, leads_steps, walk_leads}
use Rattle.pam_findings.proofs.StackProofs.Reaching.{changed-allowed}
use Rattle.pam_findings.proofs.StackProofs.WaysIn.{passing-any, some-passing}

-- CODES THAT TWO SETS HAVE

abbrev is_common : List ℕ → List ℕ → ℕ → Bool
is_common one other code = is_in code one && is_in code other

common-some : (one other : List ℕ) → have_common one other ≡ true → (code : ℕ) × (code < 31) × (is_in code one ≡ true) × (is_in code other ≡ true)
unfolding all_codes
common-some one other h =
    let some = some-passing (is_common one other) (range_with_len 0 31) h in
    let parts = and_parts (is_in some.0 one) (is_in some.0 other) some.2 in
    (some.0, omega (arith, (Member-codes_back 0 31 some.0 some.1).1), parts.0, parts.1)

pub common-from : (one other : List ℕ) (code : ℕ) → code < 31 → is_in code one ≡ true → is_in code other ≡ true → have_common one other ≡ true
unfolding all_codes
common-from one other code small in_one in_other =
    passing-any (is_common one other) (range_with_len 0 31) code (Member-codes 0 31 code (omega arith) (omega (arith, small)))
    (and_from (is_in code one) (is_in code other) in_one in_other)

pub same-common : (one other : List ℕ) (met : Bool) →
    (IsTrue met ↔ ((code : ℕ) × (code < 31) × IsTrue (is_in code one) × IsTrue (is_in code other))) → met ≡ have_common one other
same-common one other true h = let k = h.0 refl in sym (common-from one other k.0 k.1 k.2 k.3)
same-common one other false h =
    sym (false_from_ne_true (have_common one other) (λ t. let k = common-some one other t in false≢true (h.1 (k.0, k.1, k.2, k.3))))

module _ (allows : Allowance) (codes : List ℕ) (number code : ℕ) (small : code < 31) where
  may-give : is_in code (codes_of allows codes number) ≡ true → (is_in code codes ≡ true) × (allows number code ≡ true)
  may-give h =
      let both = and_parts (is_in code codes) (is_in code (codes_where (allows number)))
      (sym (is_in-codes_where (λ c. is_in c codes && is_in c (codes_where (allows number))) code small) ∙ h) in
      (both.0, sym (is_in-codes_where (allows number) code small) ∙ both.1)

  give-may : is_in code codes ≡ true → allows number code ≡ true → is_in code (codes_of allows codes number) ≡ true
  give-may among may =
      is_in-codes_where (λ c. is_in c codes && is_in c (codes_where (allows number))) code small
      ∙ and_from (is_in code codes) (is_in code (codes_where (allows number))) among (is_in-codes_where (allows number) code small ∙ may)

-- WHAT A RUN ASKS

-- a module that a run asks has a number in its range
within : (low n : ℕ) (runs : Runs) (a : Assignment) (ask : Ask) → AsksRise low n runs → Member ask (asked_by runs a) →
    (low < ask.module_number) × (ask.module_number ≤ n)
unfolding AsksRise asked_by Member
within low n (ends s) a ask h m = absurd m
within low n (asks one next) a ask h (inl e) = subst (λ (x : Ask). (low < x.module_number) × (x.module_number ≤ n)) (sym e) (h.0, h.1)
within low n (asks one next) a ask h (inr m) =
    let outcome = outcome_of one (a one.module_number) in
    let deeper = within one.module_number n (next outcome) a ask (h.2 outcome) m in
    (omega (arith, h.0, deeper.0), deeper.1)

-- an answer in place of another of its class leads along the same path
swapped : (low n : ℕ) (runs : Runs) (a : Assignment) (one : Ask) (code : ℕ) → AsksRise low n runs → Member one (asked_by runs a) →
    is_in code (class_of one (a one.module_number)) ≡ true → path_of runs (with_answer a one.module_number code) ≡ path_of runs a
unfolding AsksRise path_of asked_by final_state Member
swapped low n (ends s) a one code h m among = absurd m
swapped low n (asks ask next) a one code h (inl e) among =
    let m = ask.module_number in
    let here : is_in code (class_of ask (a m)) ≡ true = subst (λ (x : Ask). is_in code (class_of x (a x.module_number)) ≡ true) e among in
    let alike = (of_class ask (a m) code (Member-is_in (class_of ask (a m)) code here)).1 in
    let b = with_answer a m code in
    let outcome = outcome_of ask (a m) in
    let at : outcome_of ask (b m) ≡ outcome = ap (outcome_of ask) (with_answer-at a m code) ∙ sym alike in
    let rest = path_of-same m n (next outcome) b a (h.2 outcome) (λ k l. with_answer-other a m code k (λ same. omega (arith, l, same))) in
    subst (λ (x : Ask). path_of (asks ask next) (with_answer a x.module_number code) ≡ path_of (asks ask next) a) (sym e)
    (path_of-step ask next b (a m) at ∙ ap (after_step (step_of ask (a m))) rest)
swapped low n (asks ask next) a one code h (inr k) among =
    let m = ask.module_number in
    let outcome = outcome_of ask (a m) in
    let above = within m n (next outcome) a one (h.2 outcome) k in
    let b = with_answer a one.module_number code in
    let at : outcome_of ask (b m) ≡ outcome =
    ap (outcome_of ask) (with_answer-other a one.module_number code m (λ same. omega (arith, above.0, same))) in
    path_of-step ask next b (a m) at ∙ ap (after_step (step_of ask (a m))) (swapped m n (next outcome) a one code (h.2 outcome) k among)

module _ (allows : Allowance) (first : List Bool) (codes : List ℕ) (later : List Bool) where
  abbrev gives_at : Assignment → Ask → Bool
  gives_at a ask = have_common (class_of ask (a ask.module_number)) (codes_of allows codes ask.module_number)

  -- a run asks a first module, which can give one of the codes there, and then a later one
  record Led (runs : Runs) (a : Assignment) : Type 0 where
    pub one : Ask
    pub other : Ask
    pub one_in : Member one (asked_by runs a)
    pub other_in : Member other (asked_by runs a)
    pub order : one.module_number < other.module_number
    pub is_first : mark_of first one.module_number ≡ true
    pub gives : gives_at a one ≡ true
    pub is_later : mark_of later other.module_number ≡ true

  abbrev leads_in : Runs → Assignment → Bool
  leads_in runs a = leads_steps allows first codes later (map (step_by a) (asked_by runs a))

  later-asked : (a : Assignment) (asked_there : List Ask) → list_any (is_later allows first codes later) (map (step_by a) asked_there) ≡ true →
      (ask : Ask) × Member ask asked_there × (mark_of later ask.module_number ≡ true)
  later-asked a asked_there h =
      let some = some-passing (is_later allows first codes later) (map (step_by a) asked_there) h in
      let back = Member-map_back (step_by a) some.0 asked_there some.1 in
      (back.0, back.1, sym (ap (is_later allows first codes later) back.2) ∙ some.2)

  leads-found : (low n : ℕ) (runs : Runs) (a : Assignment) → AsksRise low n runs → leads_in runs a ≡ true → Led runs a
  unfolding AsksRise asked_by Member leads_steps
  leads-found low n (ends s) a h leads = absurd (false≢true leads)
  leads-found low n (asks ask next) a h leads =
      let outcome = outcome_of ask (a ask.module_number) in
      let rest = asked_by (next outcome) a in
      let ahead = list_any (is_later allows first codes later) (map (step_by a) rest) in
      elim (or_cases (mark_of first ask.module_number && (gives_at a ask && ahead)) (leads_in (next outcome) a) leads) [
        | inl here ↦
            let parts = and_parts (mark_of first ask.module_number) (gives_at a ask && ahead) here in
            let both = and_parts (gives_at a ask) ahead parts.1 in
            let found = later-asked a rest both.1 in
            record {
              one = ask;
              other = found.0;
              one_in = inl refl;
              other_in = inr found.1;
              order = (within ask.module_number n (next outcome) a found.0 (h.2 outcome) found.1).0;
              is_first = parts.0;
              gives = both.0;
              is_later = found.2;
            }
        | inr there ↦
            let led = leads-found ask.module_number n (next outcome) a (h.2 outcome) there in
            record {
              one = led.one;
              other = led.other;
              one_in = inr led.one_in;
              other_in = inr led.other_in;
              order = led.order;
              is_first = led.is_first;
              gives = led.gives;
              is_later = led.is_later;
            }
      ]

  leads-has : (low n : ℕ) (runs : Runs) (a : Assignment) (one other : Ask) → AsksRise low n runs → Member one (asked_by runs a) →
      Member other (asked_by runs a) → one.module_number < other.module_number → mark_of first one.module_number ≡ true →
      gives_at a one ≡ true → mark_of later other.module_number ≡ true → leads_in runs a ≡ true
  unfolding AsksRise asked_by Member leads_steps
  leads-has low n (ends s) a one other h m k order is_one gives is_other = absurd m
  leads-has low n (asks ask next) a one other h (inl e) (inl f) order is_one gives is_other =
      absurd (omega (arith, order, ap (λ (x : Ask). x.module_number) e, ap (λ (x : Ask). x.module_number) f))
  leads-has low n (asks ask next) a one other h (inl e) (inr k) order is_one gives is_other =
      let rest = asked_by (next (outcome_of ask (a ask.module_number))) a in
      let ahead = list_any (is_later allows first codes later) (map (step_by a) rest) in
      let asked_later : ahead ≡ true =
      passing-any (is_later allows first codes later) (map (step_by a) rest) (step_by a other) (Member-map (step_by a) other rest k) is_other in
      or_left (mark_of first ask.module_number && (gives_at a ask && ahead)) _
      (subst (λ (x : Ask). (mark_of first x.module_number && (gives_at a x && ahead)) ≡ true) e
      (and_from (mark_of first one.module_number) (gives_at a one && ahead) is_one (and_from (gives_at a one) ahead gives asked_later)))
  leads-has low n (asks ask next) a one other h (inr m) (inl f) order is_one gives is_other =
      let outcome = outcome_of ask (a ask.module_number) in
      let above = within ask.module_number n (next outcome) a one (h.2 outcome) m in
      absurd (omega (arith, order, above.0, ap (λ (x : Ask). x.module_number) f))
  leads-has low n (asks ask next) a one other h (inr m) (inr k) order is_one gives is_other =
      let outcome = outcome_of ask (a ask.module_number) in
      or_right _ (leads_in (next outcome) a)
      (leads-has ask.module_number n (next outcome) a one other (h.2 outcome) m k order is_one gives is_other)

  -- THE RUNS OF A STACK
  module _ (items : Items) (numbered : IsNumbered items) (walks : List PathValue)
      (is : IsListing allows (module_count items) (path_through items) walks) where
    abbrev runs : Runs
    runs = runs_of_stack items

    rise : AsksRise 0 (module_count items) runs
    rise = AsksRise-stack items numbered

    walk-steps : (a : Assignment) → leads_in runs a ≡ walk_leads allows first codes later (path_through items a)
    unfolding path_of
    walk-steps a = ap (walk_leads allows first codes later) (path_of-stack items a)

    to-tree : (a : Assignment) (ask : Ask) → Member ask (asked_by runs a) → Member ask (asked items start_state start_state a)
    to-tree a ask m = subst (Member ask) (asked_by-runs_of_stack items a) m

    from-tree : (a : Assignment) (ask : Ask) → Member ask (asked items start_state start_state a) → Member ask (asked_by runs a)
    from-tree a ask m = subst (Member ask) (sym (asked_by-runs_of_stack items a)) m

    -- along the same path the same modules are asked
    asked-too : (a b : Assignment) (ask : Ask) → path_of runs b ≡ path_of runs a → Member ask (asked_by runs a) →
        (again : Ask) × Member again (asked items start_state start_state b) × (again.module_number ≡ ask.module_number)
    unfolding path_of
    asked-too a b ask same m =
        let step = Member-map (step_by a) ask (asked_by runs a) m in
        let there = subst (Member (step_by a ask)) (sym (ap (λ (p : PathValue). p.steps) same)) step in
        let back = Member-map_back (step_by b) (step_by a ask) (asked_by runs b) there in
        (back.0, to-tree b back.0 back.1, sym (ap (λ (s : StepValue). s.module_number) back.2))

    led-leads : (a : Assignment) → IsAllowed allows (module_count items) a → (led : Led runs a) →
        Leads allows items codes led.one.module_number led.other.module_number
    led-leads a ok led =
        let number = led.one.module_number in
        let some = common-some (class_of led.one (a number)) (codes_of allows codes number) led.gives in
        let both = may-give allows codes number some.0 some.1 some.3 in
        let b = with_answer a number some.0 in
        let same = swapped 0 (module_count items) runs a led.one some.0 rise led.one_in some.2 in
        let one = asked-too a b led.one same led.one_in in
        let other = asked-too a b led.other same led.other_in in
        record {
          asks = record {
            answers = b;
            allowed = changed-allowed allows (module_count items) number some.0 a ok some.1 both.1;
            ask = one.0;
            is_asked = one.1;
            numbered = one.2;
          };
          answer = ap (λ (c : ℕ). is_in c codes) (with_answer-at a number some.0) ∙ both.0;
          ask = other.0;
          is_asked = other.1;
          numbered = other.2;
          order = led.order;
        }

    leads-led : (one other : ℕ) → mark_of first one ≡ true → mark_of later other ≡ true → (l : Leads allows items codes one other) →
        leads_in runs l.asks.answers ≡ true
    leads-led one other is_one is_other l =
        let a = l.asks.answers in
        let ask = l.asks.ask in
        let number = ask.module_number in
        let m = from-tree a ask l.asks.is_asked in
        let range = within 0 (module_count items) runs a ask rise m in
        let may = l.asks.allowed number (omega (arith, range.0)) range.1 in
        let among : is_in (a number) codes ≡ true = ap (λ (n : ℕ). is_in (a n) codes) l.asks.numbered ∙ l.answer in
        let own = is_in-Member (class_of ask (a number)) (a number) (in_class ask (a number) (a number) may.0 refl) in
        leads-has 0 (module_count items) runs a ask l.ask rise m (from-tree a l.ask l.is_asked)
        (omega (arith, l.asks.numbered, l.numbered, l.order))
        (ap (mark_of first) l.asks.numbered ∙ is_one)
        (common-from (class_of ask (a number)) (codes_of allows codes number) (a number) may.0 own (give-may allows codes number (a number) may.0 among may.1))
        (ap (mark_of later) l.numbered ∙ is_other)

    pub says-leads : (t : Bool) → t ≡ list_any (walk_leads allows first codes later) walks → SaysLeads allows items first codes later t
    says-leads true e =
        let found = some-passing (walk_leads allows first codes later) walks (sym e) in
        let way = (is.members found.0).0 found.1 in
        let leads = walk-steps way.0 ∙ sym (ap (walk_leads allows first codes later) way.2) ∙ found.2 in
        let led = leads-found 0 (module_count items) runs way.0 rise leads in
        (led.one.module_number, led.other.module_number, led.is_first, led.is_later, led-leads way.0 way.1 led)
    says-leads false e =
        λ one other is_one is_other l.
        let a = l.asks.answers in
        false≢true (e ∙ passing-any (walk_leads allows first codes later) walks (path_through items a)
        ((is.members (path_through items a)).1 (a, l.asks.allowed, refl))
        (sym (walk-steps a) ∙ leads-led one other is_one is_other l))
