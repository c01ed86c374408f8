-- For private contracts and proofs alone: which rules of a file apply to each kind: pam.conf(5), "type".
use Rattle.std.specs.Prelude.{ℕ, ◌+◌, List, [], ◌∷◌, ◌++◌, filter_map, slice_get, if◌then◌else◌}
use Rattle.pam_conf.specs.Rule.{RuleText}
use Rattle.pam_conf.specs.Walk.{is_of_kind}
use Rattle.pam_conf.specs.declared.rule.Kind.{Kind}
use Rattle.pam_conf.specs.declared.rule.Kind.TheVariants.{Auth, Account, Password, Session}

-- the index of a rule, if it applies to the kind
abbrev pub index_for : Kind → RuleText → ℕ → List ℕ
index_for kind rule index = if is_of_kind kind rule then index ∷ [] else []

-- the indices, from the first of these rules on, of those that apply to the kind
abbrev pub indices_from : ℕ → Kind → List RuleText → List ℕ
indices_from first kind [] = []
indices_from first kind (rule ∷ rules) = index_for kind rule first ++ indices_from (first + 1) kind rules

-- those of each kind
pub record Indices : Type 0 where
  pub auth : List ℕ
  pub account : List ℕ
  pub password : List ℕ
  pub session : List ℕ

unfoldable pub indices_of : List RuleText → Indices
indices_of rules = record {
  auth = indices_from 0 Auth rules;
  account = indices_from 0 Account rules;
  password = indices_from 0 Password rules;
  session = indices_from 0 Session rules;
}

abbrev pub indices_for : Kind → Indices → List ℕ
indices_for Auth indices = indices.auth
indices_for Account indices = indices.account
indices_for Password indices = indices.password
indices_for Session indices = indices.session

-- with the index of one more rule
abbrev pub with_index : RuleText → ℕ → Indices → Indices
with_index rule index indices = record {
  auth = indices.auth ++ index_for Auth rule index;
  account = indices.account ++ index_for Account rule index;
  password = indices.password ++ index_for Password rule index;
  session = indices.session ++ index_for Session rule index;
}

-- the rules at indices
abbrev pub picked : List RuleText → List ℕ → List RuleText
picked rules indices = filter_map (slice_get rules) indices
