-- The marks of tokens, by what the tokens mean.
use Rattle.std.proofs.Common.{◌≡◌, ◌∙◌, ℕ, Bool, true, false, List, cond, codes, nat_eq, Option, Some, None}
use Rattle.std.proofs.Common.{Result, Ok, Err, refl, ap}
use Rattle.std.specs.List.{list_any, starts_with}
use Rattle.std.specs.Option.{option_map_or}
use Rattle.pam_codes.specs.Code.{same_name}
use Rattle.pam_tables.specs.Error.{verdict}
use Rattle.pam_tables.specs.Network.{network_of}
use Rattle.pam_tables.specs.Tokens.{UserPattern, UsersExcept, AnyUser, GroupOnly, UserName, plain_user, group_name, user_token}
use Rattle.pam_tables.specs.Tokens.{OriginPattern, HostNetwork, plain_origin, network_or_plain, origin_token}
use Rattle.pam_tables.specs.declared.error.TableFault.{TableFault}
use Rattle.pam_tables.specs.declared.error.TableFault.TheVariants.{Netgroup, UserAtHost}
use Rattle.pam_tables.specs.declared.network.Network.{Network}

-- ---- users

-- what a token means where it has no fault, by the tests in turn
plain_at : Bool → Bool → Bool → List ℕ → Result UserPattern TableFault
plain_at at except all token =
    cond at (Err UserAtHost) (cond except (Ok UsersExcept) (cond all (Ok AnyUser) (Ok (UserName token))))

module _ (token : List ℕ) (p : UserPattern) (h : plain_user token ≡ Ok p) where
  no_at : (at except all : Bool) → plain_at at except all token ≡ Ok p → plain_at false except all token ≡ Ok p
  unfolding plain_at
  no_at true except all e = absurd (cc)
  no_at false except all e = e

  sure : plain_at false (same_name (codes "EXCEPT") token) (same_name (codes "ALL") token) token ≡ Ok p
  unfolding plain_at
  sure = no_at (list_any (λ b. nat_eq b 64) token) _ _ h

  pub except_is : same_name (codes "EXCEPT") token ≡ true → UsersExcept ≡ p
  unfolding plain_at
  except_is e = let same : Ok UsersExcept ≡ Ok p = rw e at sure in cc

  pub all_is : same_name (codes "EXCEPT") token ≡ false → same_name (codes "ALL") token ≡ true → AnyUser ≡ p
  unfolding plain_at
  all_is e f = let same : Ok AnyUser ≡ Ok p = rw (e, f) at sure in cc

  pub name_is : same_name (codes "EXCEPT") token ≡ false → same_name (codes "ALL") token ≡ false → UserName token ≡ p
  unfolding plain_at
  name_is e f = let same : Ok (UserName token) ≡ Ok p = rw (e, f) at sure in cc

-- what a token means where it is no netgroup
no_netgroup : (at : Bool) (r : Result UserPattern TableFault) (p : UserPattern) → cond at (Err Netgroup) r ≡ Ok p → r ≡ Ok p
no_netgroup true r p h = absurd (cc)
no_netgroup false r p h = h

module _ (token : List ℕ) (p : UserPattern) (h : user_token token ≡ Ok p) where
  named : option_map_or (λ name. Ok (GroupOnly name)) (group_name token) (plain_user token) ≡ Ok p
  unfolding user_token
  named = no_netgroup (starts_with nat_eq token (codes "@")) _ p h

  pub group_is : (name : List ℕ) → Some name ≡ group_name token → GroupOnly name ≡ p
  group_is name e = let same : Ok (GroupOnly name) ≡ Ok p = rw (← e) at named in cc

  pub plain_is : None ≡ group_name token → plain_user token ≡ Ok p
  plain_is e = rw (← e) at named

plain_verdict : (except all : Bool) (token : List ℕ) → Ok tt ≡ verdict (plain_at false except all token)
unfolding plain_at
plain_verdict true all token = refl
plain_verdict false true token = refl
plain_verdict false false token = refl

module _ (token : List ℕ) where
  pub netgroup : starts_with nat_eq token (codes "@") ≡ true → Err Netgroup ≡ verdict (user_token token)
  unfolding user_token
  netgroup h = rw h refl

  module _ (h : starts_with nat_eq token (codes "@") ≡ false) where
    pub group_passes : (name : List ℕ) → Some name ≡ group_name token → Ok tt ≡ verdict (user_token token)
    unfolding user_token
    group_passes name e = rw (h, ← e) refl

    module _ (e : None ≡ group_name token) where
      pub at_fails : list_any (λ b. nat_eq b 64) token ≡ true → Err UserAtHost ≡ verdict (user_token token)
      unfolding user_token
      at_fails a = rw (h, ← e, a) refl

      pub plain_passes : list_any (λ b. nat_eq b 64) token ≡ false → Ok tt ≡ verdict (user_token token)
      unfolding user_token plain_at
      plain_passes a = rw (h, ← e, a) (plain_verdict (same_name (codes "EXCEPT") token) (same_name (codes "ALL") token) token)

-- ---- origins

no_group : (at : Bool) (r : Result OriginPattern TableFault) (p : OriginPattern) → cond at (Err Netgroup) r ≡ Ok p → r ≡ Ok p
no_group true r p h = absurd (cc)
no_group false r p h = h

module _ (token : List ℕ) (p : OriginPattern) (h : origin_token token ≡ Ok p) where
  read_as : (r : Result (Option Network) TableFault) → r ≡ network_of token → network_or_plain token r ≡ Ok p
  unfolding origin_token
  read_as r e = ap (network_or_plain token) e ∙ no_group (starts_with nat_eq token (codes "@")) _ p h

  pub network_is : (n : Network) → Ok (Some n) ≡ network_of token → HostNetwork n ≡ p
  network_is n e = let same : Ok (HostNetwork n) ≡ Ok p = read_as (Ok (Some n)) e in cc

  pub plain_origin_is : Ok None ≡ network_of token → plain_origin token ≡ p
  plain_origin_is e = let same : Ok (plain_origin token) ≡ Ok p = read_as (Ok None) e in cc

  pub no_fault : (fault : TableFault) → Err fault ≡ network_of token → ⊥
  no_fault fault e = let wrong : Err fault ≡ Ok p = read_as (Err fault) e in cc
