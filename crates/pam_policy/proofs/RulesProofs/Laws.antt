-- What the definitions imply.
use Rattle.std.proofs.Common.{inl, inr, sym, arith}
use Rattle.pam_policy.specs.rules.Laws.{AsksSays, LessAllowedHolds, MoreAllowedSettles, NeedsSays, ObeysSays, OneWitness}
use Rattle.pam_policy.specs.text.Sentences.{decisions}
use Rattle.pam_policy.proofs.SearchProofs.Implied.{both-before}

pub more-settles : MoreAllowedSettles
more-settles less more site sentence run fewer s = record {
  answers = s.answers;
  allowed = λ m from to. let a = s.allowed m from to in (a.0, fewer m (s.answers m) from to a.1);
  settles = s.settles;
  is_run = s.is_run;
}

pub less-holds : LessAllowedHolds
less-holds less more site sentence fewer none answers ok settles =
    none answers (λ m from to. let a = ok m from to in (a.0, fewer m (answers m) from to a.1)) settles

pub one-witness : OneWitness
one-witness allows site sentence one other w v =
    let few = w.fewest other v.settled in
    let many = v.fewest one w.settled in
    elim (w.first other v.settled (omega (arith, few, many))) [
      | inl e ↦ e
      | inr before ↦ elim (v.first one w.settled (omega (arith, few, many))) [
        | inl e ↦ sym e
        | inr after ↦ absurd (both-before one.steps other.steps before after)
      ]
    ]

-- THE VERBS

pub needs-says : NeedsSays
unfolding decisions
needs-says site events answers = (
  λ m. (m.ends, m.happens_not),
  λ h. record { ends = h.0; happens = tt; happens_not = h.1 },
)

pub obeys-says : ObeysSays
unfolding decisions
obeys-says site events answers = (
  λ m. (m.ends, m.happens),
  λ h. record { ends = h.0; happens = h.1; happens_not = tt },
)

pub asks-says : AsksSays
unfolding decisions
asks-says site events answers = (
  λ m. (m.ends, m.happens_not),
  λ h. record { ends = h.0; happens = tt; happens_not = h.1 },
)
