-- The reports on rules, one after another.
use Rattle.std.proofs.Common.{◌≡◌, ◌∙◌, ◌++◌, ◌<◌, ◌+◌, ℕ, suc, zero, List, [], ◌∷◌, Option, Some, ap, append_assoc, arith, drop, get_or}
use Rattle.std.proofs.Common.{◌≤◌, append-nil, inl, inr, length, map, refl, subst, sym}
use Rattle.std.proofs.lemmas.List.{drop_all, drop_more, map-append}
use Rattle.std.specs.Option.{IfSome}
use Rattle.std.specs.Prelude.{All}
use Rattle.pam_conf.specs.declared.rule.Kind.{Kind}
use Rattle.pam_facts.specs.Rows.{Row}
use Rattle.pam_paths.specs.Known.{may_answer}
use Rattle.pam_text.specs.Members.{Member}
use Rattle.pam_policy.specs.declared.host.report.RuleReport.{RuleReport}
use Rattle.pam_policy.specs.declared.host.stacks.HostStacks.{HostStacks}
use Rattle.pam_policy.specs.declared.rules.error.JudgeError.{JudgeError}
use Rattle.pam_policy.specs.declared.rules.error.JudgeError.TheVariants as errors
use Rattle.pam_policy.specs.declared.rules.site.Site.{Site}
use Rattle.pam_policy.specs.declared.text.rule.Rule.{Rule}
use Rattle.pam_policy.specs.host.Places.{PlaceText}
use Rattle.pam_policy.specs.host.Reports.{IsReport}
use Rattle.pam_policy.specs.host.Stacks.{HaveGraphs, KnownSite, StacksText}
use Rattle.pam_policy.specs.host.Told.{AreReports, WhyNotJudged, told_class, told_place, told_stacks}
use Rattle.pam_policy.specs.names.Host.{HostText}
use Rattle.pam_policy.specs.rules.Judging.{IsReason}
use Rattle.pam_policy.specs.search.Witness.{IsGraphOf}
use Rattle.pam_policy.specs.text.Rules.{RuleText, rule_view}
use Rattle.pam_policy.proofs.HostProofs.Known.{all-at}

abbrev pub place_text : List ℕ → Kind → ℕ → PlaceText
place_text name kind class = record { service = name; kind = kind; class = class }

abbrev pub text_of : List PlaceText → List (Option KnownSite) → StacksText
text_of places known = record { places = places; classes = known }

-- the graph of a site, if there is one, is that of its stack
abbrev pub IfGraph : Option Site → Type 0
IfGraph one = IfSome one (λ site. IsGraphOf (may_answer site.known.now) site.stack.now site.graph.now)

pub have-graphs : (sites : List (Option Site)) → All IfGraph sites → HaveGraphs sites
have-graphs sites all site there = all-at IfGraph sites (Some site) all there

-- one more element of a list that is mapped
pub mapped-next : {X Y Z : Type 0} (view : Y → Z) (of : X → Z) (xs : List X) (i : ℕ) (d : X) (old new : List Y) (one : Y) → new ≡ old ++ one ∷ [] →
    i < length xs → view one ≡ of (get_or xs i d) → map view old ++ map of (drop i xs) ≡ map of xs →
    map view new ++ map of (drop (i + 1) xs) ≡ map of xs
mapped-next view of xs i d old new one pushed within is so_far =
    ap (λ ys. map view ys ++ map of (drop (i + 1) xs)) pushed
    ∙ ap (λ zs. zs ++ map of (drop (i + 1) xs)) (map-append view old (one ∷ []))
    ∙ append_assoc (map view old) (view one ∷ []) (map of (drop (i + 1) xs))
    ∙ ap (λ z. map view old ++ z ∷ map of (drop (i + 1) xs)) is
    ∙ ap (λ ys. map view old ++ map of ys) (sym (drop_more xs i d within))
    ∙ so_far

-- REPORTS

module _ (host : HostText) (stacks : StacksText) where
  pub no-reports : AreReports host stacks [] []
  unfolding AreReports
  no-reports = tt

  pub report-next : (rules : List Rule) (i : ℕ) (d : Rule) (all : List RuleText) (old new : List RuleReport) (report : RuleReport) →
      new ≡ old ++ report ∷ [] → i < length rules → IsReport host stacks (rule_view (get_or rules i d)) report →
      ((rest : List RuleReport) → AreReports host stacks (map rule_view (drop i rules)) rest → AreReports host stacks all (old ++ rest)) →
      (rest : List RuleReport) → AreReports host stacks (map rule_view (drop (i + 1) rules)) rest → AreReports host stacks all (new ++ rest)
  unfolding AreReports
  report-next rules i d all old new report pushed within is so_far rest more =
      let longer : AreReports host stacks (map rule_view (drop i rules)) (report ∷ rest) =
      subst (λ (l : List Rule). AreReports host stacks (map rule_view l) (report ∷ rest)) (sym (drop_more rules i d within)) (is, more) in
      subst (AreReports host stacks all) (sym (append_assoc old (report ∷ []) rest) ∙ ap (λ (l : List RuleReport). l ++ rest) (sym pushed))
      (so_far (report ∷ rest) longer)

  pub reports-done : (rules : List Rule) (i : ℕ) (all : List RuleText) (reports : List RuleReport) → length rules ≤ i →
      ((rest : List RuleReport) → AreReports host stacks (map rule_view (drop i rules)) rest → AreReports host stacks all (reports ++ rest)) →
      AreReports host stacks all reports
  reports-done rules i all reports past so_far =
      subst (AreReports host stacks all) (append-nil reports)
      (so_far [] (subst (λ (l : List Rule). AreReports host stacks (map rule_view l) []) (sym (drop_all i rules past)) no-reports))

-- a rule of a list
member-of : (rules : List Rule) (i : ℕ) (d : Rule) → i < length rules → Member (rule_view (get_or rules i d)) (map rule_view rules)
unfolding Member
member-of [] i d within = absurd (omega (arith, within))
member-of (rule ∷ rules) zero d within = inl refl
member-of (rule ∷ rules) (suc i) d within = inr (member-of rules i d (omega (arith, within)))

pub why-not : (rules : List Rule) (i : ℕ) (d : Rule) (error : JudgeError) → i < length rules → IsReason (rule_view (get_or rules i d)).sentence error →
    WhyNotJudged (map rule_view rules) error
why-not rules i d errors.Memory within is = tt
why-not rules i d errors.TooManyTogether within is =
    record { rule = rule_view (get_or rules i d); there = member-of rules i d within; reason = is }

-- a place with another name of its service
pub named : (kind : Kind) (class : ℕ) (one other : List ℕ) → one ≡ other → place_text one kind class ≡ place_text other kind class
named kind class one other same = ap (λ (name : List ℕ). place_text name kind class) same

-- the stacks as rules see them
pub told-is : (rows : List Row) (stacks : HostStacks) (names : List (List ℕ)) (places : List PlaceText) (known : List (Option KnownSite)) →
    names ≡ stacks.services → places ≡ map (told_place names) stacks.places.items → known ≡ map (told_class rows) stacks.classes.items →
    text_of places known ≡ told_stacks rows stacks
told-is rows stacks names places known same are is =
    ap (λ (those : List PlaceText). text_of those known) (are ∙ ap (λ (l : List (List ℕ)). map (told_place l) stacks.places.items) same)
    ∙ ap (text_of (map (told_place stacks.services) stacks.places.items)) is
