-- What it means that nothing is said of a rule.
use Rattle.std.specs.Prelude.{◌≡◌, ◌↔◌, ℕ, true, false, List, [], None}
use Rattle.std.specs.List.{list_any}
use Rattle.pam_text.specs.Members.{Member}
use Rattle.pam_policy.specs.names.Host.{HostText}
use Rattle.pam_policy.specs.names.Misnamed.{is_module, is_no_service, keys_at, misnamed, no_argument}
use Rattle.pam_policy.specs.names.Placed.{PlacedText, placed_events}
use Rattle.pam_policy.specs.text.Rules.{RuleText}
use Rattle.pam_policy.specs.text.Services.{fits}
use Rattle.pam_policy.specs.text.Tests.{TestText, key_of}

-- a host has what a rule names: each name of one service is that of a service, the rule fits one, each event speaks of a module that a
-- rule calls or that is known, and each key of a test is there or near to none
pub record IsThere (host : HostText) (rule : RuleText) : Type 0 where
  pub services : (name : List ℕ) → Member name rule.services.wanted → is_no_service host name ≡ false
  pub fits_one : list_any (fits rule.services) host.services ≡ true
  pub modules : (placed : PlacedText) → Member placed (placed_events rule.sentence) → is_module host placed ≡ true
  pub arguments : (placed : PlacedText) (test : TestText) → Member placed (placed_events rule.sentence) → Member test placed.event.tests →
      no_argument placed.event.name (keys_at host.calls placed) (key_of test.wanted) ≡ None

-- WHAT SILENCE SAYS: nothing is said of a rule if and only if the host has what it names
abbrev pub SilenceIsTrue : Type 0
SilenceIsTrue = (host : HostText) (rule : RuleText) → (misnamed host rule ≡ []) ↔ IsThere host rule
