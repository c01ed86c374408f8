-- Networks whose masks are no fault.
use Rattle.std.proofs.Common.{◌≡◌, ◌∙◌, ℕ, List, Option, Some, None, IsSome, Ok, Err, codes, refl, ap}
use Rattle.std.specs.Option.{option_map, option_map_or}
use Rattle.pam_tables.specs.Address.{address_of, v4_of, v6_of}
use Rattle.pam_tables.specs.Error.{verdict}
use Rattle.pam_tables.specs.Lines.{cut_at, is_among}
use Rattle.pam_tables.specs.Network.{masked, network_of, v4_mask_of, v6_mask_of}
use Rattle.pam_tables.specs.declared.address.Address.TheVariants as addresses
use Rattle.pam_tables.specs.declared.error.TableFault.TheVariants.{BadMask}
use Rattle.pam_tables.specs.declared.network.Network.{Network}

with_mask : (network : ℕ → Network) (mask : Option ℕ) → IsSome mask → Ok tt ≡ verdict (option_map_or (λ k. Ok (Some (network k))) mask (Err BadMask))
with_mask network (Some k) h = refl
with_mask network None h = absurd (cc)

-- the mask serves the family of the address, if it is one
of_family : (v4 v6 : Option ℕ) (mask : List ℕ) → (IsSome v4 → IsSome (v4_mask_of mask)) → IsSome (v6_mask_of mask) →
    Ok tt ≡ verdict (option_map_or (λ a. masked a mask) (option_map_or (λ v. Some (addresses.V4 v)) v4 (option_map addresses.V6 v6)) (Ok None))
of_family (Some v) v6 mask h k = with_mask _ (v4_mask_of mask) (h refl)
of_family None (Some v) mask h k = with_mask _ (v6_mask_of mask) k
of_family None None mask h k = refl

pub no_bad_mask : (text address mask : List ℕ) → Some (address, mask) ≡ cut_at (is_among (codes "/")) text →
    (IsSome (v4_of address) → IsSome (v4_mask_of mask)) → IsSome (v6_mask_of mask) → Ok tt ≡ verdict (network_of text)
unfolding network_of address_of
no_bad_mask text address mask parts h k =
    of_family (v4_of address) (v6_of address) mask h k
    ∙ ap (λ o. verdict (option_map_or (λ p. option_map_or (λ a. masked a p.1) (address_of p.0) (Ok None)) o (Ok None))) parts
