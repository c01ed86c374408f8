-- Policies, one after another: what is read of them, and what is judged.
use Rattle.std.proofs.Common.{◌≡◌, ◌∙◌, ◌+◌, ◌++◌, ◌≤◌, ◌⊎◌, ℕ, suc, All, List, [], ◌∷◌, Option, Result, Ok, Err}
use Rattle.std.proofs.Common.{ap, append-nil, append_assoc, arith, inl, inr, length, map, refl, subst, sym}
use Rattle.std.proofs.lemmas.List.{length-append, length-map, map-append}
use Rattle.std.proofs.lemmas.List.Elements.{All-nil, All-push}
use Rattle.std.proofs.lemmas.List.FromFn.{map-range_with_len_more}
use Rattle.std.specs.List.{range_with_len}
use Rattle.pam_conf.specs.Files.{Folder}
use Rattle.pam_conf.specs.Services.{services_in}
use Rattle.pam_facts.specs.Rows.{Row}
use Rattle.pam_policy.specs.declared.text.error.PolicyError.{PolicyError}
use Rattle.pam_policy.specs.declared.text.error.PolicyFault.{PolicyFault}
use Rattle.pam_policy.specs.declared.text.error.PolicyFault.TheVariants.{Memory}
use Rattle.pam_policy.specs.declared.text.policy.Policy.{Policy}
use Rattle.pam_policy.specs.host.Stacks.{StacksText}
use Rattle.pam_policy.specs.names.Calls.{calls_in}
use Rattle.pam_policy.specs.names.Host.{CallText, HostText}
use Rattle.pam_policy.specs.text.Error.{TellsFault}
use Rattle.pam_policy.specs.text.Policy.{rules_of}
use Rattle.pam_policy.specs.text.Rules.{RuleText, rule_view}
use Rattle.pam_report.specs.Fault.{fault_of_policy, policy_fault}
use Rattle.pam_report.specs.Inputs.{there_given}
use Rattle.pam_report.specs.Policy.{IsJudgedBy, host_of, name_at, onto_policies, policies_from, policies_of, rules_in, then_policies}
use Rattle.pam_report.specs.declared.fault.Fault.{Fault}
use Rattle.pam_report.specs.declared.fault.Fault.TheVariants as faults
use Rattle.pam_report.specs.declared.inputs.Inputs.{Inputs}
use Rattle.pam_report.specs.declared.report.policy.JudgedPolicy.{JudgedPolicy}
use Rattle.pam_report.specs.inner.Policy.{AreNamed, IsOfPolicy, IsUnread, IsUnreadAlone, rules_read}

-- ---- one policy

-- the fault of a policy that is read
module _ (number : ℕ) (told : Result (List RuleText) PolicyError) (error : PolicyError) where
  unread-as : (fault : PolicyFault) → error.fault ≡ fault → TellsFault fault error told → IsUnreadAlone number told (policy_fault number error)
  unread-as Memory same h = inl (ap (λ (f : PolicyFault). fault_of_policy f (record { number = number; error = error })) same)
  unread-as _ same h = inr (record { error = error; told_is = h; same = refl })

  pub unread : TellsFault error.fault error told → IsUnreadAlone number told (policy_fault number error)
  unread h = unread-as error.fault refl h

-- ---- policies that are read

-- the rules of earlier policies before those of later ones
abbrev pub after : List (List RuleText) → Result (List (List RuleText)) Fault → Result (List (List RuleText)) Fault
after read (Ok others) = Ok (read ++ others)
after read (Err fault) = Err fault

after-none : (told : Result (List (List RuleText)) Fault) → after [] told ≡ told
after-none (Ok others) = refl
after-none (Err fault) = refl

after-one : (read : List (List RuleText)) (rules : List RuleText) (told : Result (List (List RuleText)) Fault)
    → after read (onto_policies rules told) ≡ after (read ++ rules ∷ []) told
after-one read rules (Ok others) = ap (λ (all : List (List RuleText)). Ok all) (sym (append_assoc read (rules ∷ []) others))
after-one read rules (Err fault) = refl

-- the policies so far are read, and the others follow their rules
pub record AreRead (texts : List (List ℕ)) (policies : List Policy) (before : ℕ) (left : List (List ℕ)) : Type 0 where
  pub few : before ≤ 1000
  pub told : policies_of texts ≡ after (rules_read policies) (policies_from (length policies + 1) left before)

pub none-read : (texts : List (List ℕ)) → AreRead texts [] 0 texts
none-read texts = record { few = omega arith; told = sym (after-none (policies_of texts)) }

module _ (texts : List (List ℕ)) (policies : List Policy) (before : ℕ) (bytes : List ℕ) (left : List (List ℕ))
    (so_far : AreRead texts policies before (bytes ∷ left)) where
  abbrev number : ℕ
  number = length policies + 1

  -- the policy at hand, and those that are left
  abbrev here : Result (List RuleText) PolicyError → Result (List (List RuleText)) Fault
  here read = after (rules_read policies) (then_policies number before read (policies_from (suc number) left))

  told-here : policies_of texts ≡ here (rules_of bytes before)
  unfolding policies_from
  told-here = so_far.told

  -- it has a fault
  pub read-fault : (fault : Fault) → IsUnreadAlone number (rules_of bytes before) fault → IsUnread (policies_of texts) fault
  read-fault fault (inl memory) = inl memory
  read-fault fault (inr unread) = inr (record { number = number; error = unread.error; told_is = told-here ∙ ap here unread.told_is; same = unread.same })

  -- its rules are read
  pub read-more : (policy : Policy) → rules_of bytes before ≡ Ok (map rule_view policy.rules.items)
      → before + length policy.rules.items ≤ 1000 → AreRead texts (policies ++ policy ∷ []) (before + length policy.rules.items) left
  read-more policy h few =
      let rules = map rule_view policy.rules.items in
      let rest = λ (n count : ℕ). policies_from n left (before + count) in
      record {
        few = few;
        told = told-here ∙ ap here h ∙ after-one (rules_read policies) rules (rest (suc number) (length rules))
            ∙ ap (λ (count : ℕ). after (rules_read policies ++ rules ∷ []) (rest (suc number) count)) (length-map policy.rules.items rule_view)
            ∙ ap (λ (n : ℕ). after (rules_read policies ++ rules ∷ []) (rest n (length policy.rules.items))) next
            ∙ ap (λ (read : List (List RuleText)). after read (rest (length (policies ++ policy ∷ []) + 1) (length policy.rules.items)))
            (sym (map-append (λ p. map rule_view p.rules.items) policies (policy ∷ [])));
      }
    where
      next : suc number ≡ length (policies ++ policy ∷ []) + 1
      next = omega (arith, length-append policies (policy ∷ []))

-- all are read
pub all-read : (texts : List (List ℕ)) (policies : List Policy) (before : ℕ) → AreRead texts policies before [] → policies_of texts ≡ Ok (rules_read policies)
unfolding policies_from
all-read texts policies before so_far = so_far.told ∙ ap (λ (all : List (List RuleText)). Ok all) (append-nil (rules_read policies))

-- ---- policies that are judged

-- the policies so far are judged, and those that are left follow
pub record AreJudged (names : List (List ℕ)) (host : HostText) (stacks : StacksText) (judged : List JudgedPolicy) (left all : List Policy) : Type 0 where
  pub named : AreNamed names (length judged) judged
  pub rules : map rules_in judged ++ rules_read left ≡ rules_read all
  pub each : All (IsJudgedBy host stacks) judged

pub none-judged : (names : List (List ℕ)) (host : HostText) (stacks : StacksText) (all : List Policy) → AreJudged names host stacks [] all all
none-judged names host stacks all = record { named = refl; rules = refl; each = All-nil (IsJudgedBy host stacks) }

-- one more is judged
pub judged-more : (names : List (List ℕ)) (host : HostText) (stacks : StacksText) (judged : List JudgedPolicy) (left all : List Policy) (policy : Policy) (one : JudgedPolicy)
    → AreJudged names host stacks judged (policy ∷ left) all → one.name.now ≡ name_at names (length judged)
    → rules_in one ≡ map rule_view policy.rules.items → IsJudgedBy host stacks one → AreJudged names host stacks (judged ++ one ∷ []) left all
judged-more names host stacks judged left all policy one so_far name rules is = record {
  named = map-append (λ p. p.name.now) judged (one ∷ [])
      ∙ ap (λ (before : List (List ℕ)). before ++ one.name.now ∷ []) so_far.named
      ∙ ap (λ (last : List ℕ). map (name_at names) (range_with_len 0 (length judged)) ++ last ∷ []) name
      ∙ sym (map-range_with_len_more (name_at names) 0 (length judged) (length judged) (omega arith))
      ∙ ap (λ (n : ℕ). map (name_at names) (range_with_len 0 n)) (sym (length-append judged (one ∷ [])));
  rules = ap (λ (before : List (List RuleText)). before ++ rules_read left) (map-append rules_in judged (one ∷ []))
      ∙ ap (λ (last : List RuleText). (map rules_in judged ++ last ∷ []) ++ rules_read left) rules
      ∙ append_assoc (map rules_in judged) (map rule_view policy.rules.items ∷ []) (rules_read left)
      ∙ so_far.rules;
  each = All-push (IsJudgedBy host stacks) judged one so_far.each is;
}

-- all are judged
pub all-judged-rules : (names : List (List ℕ)) (host : HostText) (stacks : StacksText) (judged : List JudgedPolicy) (all : List Policy)
    → AreJudged names host stacks judged [] all → map rules_in judged ≡ rules_read all
all-judged-rules names host stacks judged all h = sym (append-nil (map rules_in judged)) ∙ h.rules

pub all-judged-names : (names : List (List ℕ)) (host : HostText) (stacks : StacksText) (judged : List JudgedPolicy) (all : List Policy)
    → AreJudged names host stacks judged [] all → AreNamed names (length all) judged
all-judged-names names host stacks judged all h =
    let same : length judged ≡ length all =
    sym (length-map judged rules_in) ∙ ap length (all-judged-rules names host stacks judged all h) ∙ length-map all (λ p. map rule_view p.rules.items) in
    subst (λ (n : ℕ). AreNamed names n judged) same h.named

-- ---- what is judged

abbrev made : List (List ℕ) → List CallText → List (List ℕ) → Option (List (List ℕ)) → HostText
made services calls known there = record { services = services; calls = calls; known = known; there = there }

-- the host by its parts
pub host-is : (files : Folder) (inputs : Inputs) (facts : List Row) (host : HostText) → host.services ≡ services_in files.form files.entries
    → host.calls ≡ calls_in files → host.known ≡ map (λ row. row.name) facts → host.there ≡ there_given inputs → host ≡ host_of files inputs facts
host-is files inputs facts host services calls known there =
    ap (λ (s : List (List ℕ)). made s host.calls host.known host.there) services
    ∙ ap (λ (c : List CallText). made (services_in files.form files.entries) c host.known host.there) calls
    ∙ ap (λ (k : List (List ℕ)). made (services_in files.form files.entries) (calls_in files) k host.there) known
    ∙ ap (λ (t : Option (List (List ℕ))). made (services_in files.form files.entries) (calls_in files) (map (λ row. row.name) facts) t) there
