-- What settles a rule, and rules that say nothing.
use Rattle.std.proofs.Common.{◌≡◌, ◌++◌, ℕ, true, false, List, [], ◌∷◌, Option, Some, None, inl, inr, map, refl, subst, sym}
use Rattle.std.proofs.lemmas.Bool.{false≢true}
use Rattle.std.specs.List.{list_all}
use Rattle.std.specs.Prelude.{◌&&◌, All, Bool, IsTrue}
use Rattle.pam_conf.specs.Stack.{IsNumbered, module_count}
use Rattle.pam_dispatch.specs.Runs.{Ask, Assignment}
use Rattle.pam_paths.proofs.Listings.{Member-map, Member-right}
use Rattle.pam_paths.specs.Listing.{IsAllowed}
use Rattle.pam_text.specs.Members.{Member}
use Rattle.pam_policy.specs.declared.host.idle.Idle.{Idle}
use Rattle.pam_policy.specs.declared.host.idle.Idle.TheVariants.{CannotHappen, CannotEnd}
use Rattle.pam_policy.specs.declared.host.report.ClassReport.{ClassReport}
use Rattle.pam_policy.specs.declared.rules.verdict.Verdict.{Verdict}
use Rattle.pam_policy.specs.declared.rules.verdict.Verdict.TheVariants.{Holds, Broken, Shown, Impossible}
use Rattle.pam_policy.specs.host.Idle.{CanBe, IsIdle, SaysIdle, is_about}
use Rattle.pam_policy.specs.host.Laws.{IdleRuleHolds}
use Rattle.pam_policy.specs.host.Reports.{IsVerdict, SaysOfClass}
use Rattle.pam_policy.specs.host.Stacks.{KnownSite, StacksText, site_of}
use Rattle.pam_policy.specs.host.inner.Idle.{holds, is_holding}
use Rattle.pam_policy.specs.rules.Happening.{HappensAmong}
use Rattle.pam_policy.specs.rules.Settling.{Settles, asked_in}
use Rattle.pam_policy.specs.rules.Site.{SiteText}
use Rattle.pam_policy.specs.text.Events.{EventText}
use Rattle.pam_policy.specs.text.Sentences.{SentenceText, Never, Can, Before}
use Rattle.pam_policy.proofs.HostProofs.Deciding.{decides-code}
use Rattle.pam_policy.proofs.HostProofs.Known.{all-at}

-- WHAT SETTLES A RULE that is about something shows that this can be

-- what happens at one module happens among all
among-all : (site : SiteText) (event : EventText) (answers : Assignment) (before after : List Ask) (ask : Ask) (all : List Ask) →
    all ≡ before ++ ask ∷ after → HappensAmong site false event answers (ask ∷ []) → HappensAmong site false event answers all
unfolding Member
among-all site event answers before after ask all are h = record {
  ask = h.ask;
  among = subst (Member h.ask) (sym are) (Member-right h.ask before (ask ∷ after) (elim h.among [ inl e ↦ inl e | inr none ↦ absurd none ]));
  here = h.here;
}

pub settled-can : (way : Idle) (sentence : SentenceText) (known : KnownSite) (answers : Assignment) → IsTrue (is_about way sentence) →
    IsNumbered known.site.items → IsAllowed known.allows (module_count known.site.items) answers → Settles known.site sentence answers →
    CanBe way known sentence
settled-can CannotHappen (Never c) known answers about numbered ok s = record {
  answers = answers;
  allowed = ok;
  concerns = record { ends = decides-code known.allows known.site.items answers numbered ok; happens = s.happens; happens_not = tt };
}
settled-can CannotHappen (Can c) known answers about numbered ok s = absurd (false≢true about)
settled-can CannotHappen (Before first later) known answers about numbered ok s = record {
  answers = answers;
  allowed = ok;
  concerns = record {
    event = s.here.event;
    member = s.here.member;
    happens = among-all known.site s.here.event answers s.before s.after s.ask (asked_in known.site answers) s.are_asked s.here.happens;
  };
}
settled-can CannotEnd (Never c) known answers about numbered ok s = record { answers = answers; allowed = ok; ends = s.ends }
settled-can CannotEnd (Can c) known answers about numbered ok s = absurd (false≢true about)
settled-can CannotEnd (Before first later) known answers about numbered ok s = absurd (false≢true about)

-- so nothing breaks a rule that says nothing

never-settled : (sites : List (Option KnownSite)) (sentence : SentenceText) (way : Idle) (known : KnownSite) → IsIdle sites sentence way →
    Member (Some known) sites → IsNumbered known.site.items → (answers : Assignment) →
    IsAllowed known.allows (module_count known.site.items) answers → Settles known.site sentence answers → ⊥
never-settled sites sentence way known idle member numbered answers ok s =
    idle.nowhere known member (settled-can way sentence known answers idle.about numbered ok s)

pub idle-holds : IdleRuleHolds
idle-holds sites sentence CannotHappen known says member numbered answers ok s =
    never-settled sites sentence CannotHappen known says.1 member numbered answers ok s
idle-holds sites sentence CannotEnd known says member numbered answers ok s =
    never-settled sites sentence CannotEnd known says.1 member numbered answers ok s

-- A RULE THAT IS BROKEN, OR OF WHICH A CLASS KNOWS NOTHING, is not said to say nothing

module _ (sites : List (Option KnownSite)) (numbered : (known : KnownSite) → Member (Some known) sites → IsNumbered known.site.items) where
  not-held : (sentence : SentenceText) (site : Option KnownSite) (verdict : Option Verdict) → Member site sites → IsVerdict site sentence verdict →
      is_holding verdict ≡ false → SaysIdle sites sentence None
  not-held sentence None None member says not_held known way idle = known.each member
  not-held sentence None (Some verdict) member says not_held known way idle = says
  not-held sentence (Some site) None member says not_held known way idle = says
  not-held sentence (Some site) (Some Holds) member says not_held known way idle = absurd (false≢true (sym not_held))
  not-held (Never c) (Some site) (Some (Broken run)) member says not_held known way idle =
      never-settled sites (Never c) way site idle member (numbered site member) says.settled.answers says.settled.allowed says.settled.settles
  not-held (Before first later) (Some site) (Some (Broken run)) member says not_held known way idle =
      never-settled sites (Before first later) way site idle member (numbered site member) says.settled.answers says.settled.allowed
      says.settled.settles
  not-held (Can c) (Some site) (Some (Broken run)) member says not_held known way idle = says
  not-held (Can c) (Some site) (Some (Shown run)) member says not_held known CannotHappen idle = false≢true idle.about
  not-held (Can c) (Some site) (Some (Shown run)) member says not_held known CannotEnd idle = false≢true idle.about
  not-held (Never c) (Some site) (Some (Shown run)) member says not_held known way idle = says
  not-held (Before first later) (Some site) (Some (Shown run)) member says not_held known way idle = says
  not-held (Can c) (Some site) (Some Impossible) member says not_held known CannotHappen idle = false≢true idle.about
  not-held (Can c) (Some site) (Some Impossible) member says not_held known CannotEnd idle = false≢true idle.about
  not-held (Never c) (Some site) (Some Impossible) member says not_held known way idle = says
  not-held (Before first later) (Some site) (Some Impossible) member says not_held known way idle = says

-- an element that does not pass

one-fails : {X : Type 0} (test : X → Bool) (x : X) (xs : List X) (b : Bool) → test x ≡ b → (b && list_all test xs) ≡ false →
    (list_all test xs ≡ false → (y : X) × Member y xs × (test y ≡ false)) → (y : X) × Member y (x ∷ xs) × (test y ≡ false)
unfolding Member
one-fails test x xs true is some later = let found = later some in (found.0, inr found.1, found.2)
one-fails test x xs false is some later = (x, inl refl, is)

some-fails : {X : Type 0} (test : X → Bool) (xs : List X) → list_all test xs ≡ false → (x : X) × Member x xs × (test x ≡ false)
some-fails test [] h = absurd (false≢true (sym h))
some-fails test (x ∷ xs) h = one-fails test x xs (test x) refl h (some-fails test xs)

pub none-held : (stacks : StacksText) (sentence : SentenceText) (reports : List ClassReport) →
    ((known : KnownSite) → Member (Some known) (map (site_of stacks) (map (λ report. report.class) reports)) → IsNumbered known.site.items) →
    list_all holds reports ≡ false → All (SaysOfClass stacks sentence) reports →
    SaysIdle (map (site_of stacks) (map (λ report. report.class) reports)) sentence None
none-held stacks sentence reports numbered some say =
    let class_of : ClassReport → ℕ = λ report. report.class in
    let found = some-fails holds reports some in
    not-held (map (site_of stacks) (map class_of reports)) numbered sentence (site_of stacks found.0.class) found.0.verdict
    (Member-map (site_of stacks) found.0.class (map class_of reports) (Member-map class_of found.0 reports found.1))
    (all-at (SaysOfClass stacks sentence) reports found.0 say found.1) found.2
