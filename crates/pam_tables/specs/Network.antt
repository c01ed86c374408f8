-- Networks of addresses: access.conf(5).
use Rattle.std.specs.Prelude.{ℕ, zero, suc, ◌-◌, ◌/◌, ◌%◌, ◌^◌, ◌==◌, ◌&&◌, ◌||◌, not, Bool, true, false, List, ◌++◌, codes, replicate, nat_le, if◌then◌else◌}
use Rattle.std.specs.Prelude.{Option, Some, None, Result, Ok, Err}
use Rattle.std.specs.Option.{option_map_or}
use Rattle.pam_tables.specs.Lines.{is_among, cut_at}
use Rattle.pam_tables.specs.Address.{number_in, numeral, v4_of, v6_of, address_of}
use Rattle.pam_tables.specs.declared.address.Address.{Address}
use Rattle.pam_tables.specs.declared.address.Address.TheVariants as addresses
use Rattle.pam_tables.specs.declared.network.Network.{Network}
use Rattle.pam_tables.specs.declared.network.Network.TheVariants as networks
use Rattle.pam_tables.specs.declared.error.TableFault.{TableFault}
use Rattle.pam_tables.specs.declared.error.TableFault.TheVariants.{BadMask}

-- the number of `width` binary digits, of which the highest `count` are ones
unfoldable pub ones : ℕ → ℕ → ℕ
ones width count = number_in 2 (replicate count 1 ++ replicate (width - count) 0)

-- a mask is a number of bits up to the width, or an address
abbrev pub mask_of : ℕ → (List ℕ → Option ℕ) → List ℕ → Option ℕ
mask_of width address text = option_map_or (λ count. if nat_le count width then Some (ones width count) else None) (numeral 10 3 text) (address text)

unfoldable pub v4_mask_of : List ℕ → Option ℕ
v4_mask_of text = mask_of 32 v4_of text

unfoldable pub v6_mask_of : List ℕ → Option ℕ
v6_mask_of text = mask_of 128 v6_of text

-- the network of an address and the text of a mask
abbrev pub masked : Address → List ℕ → Result (Option Network) TableFault
masked (addresses.V4 v) text = option_map_or (λ k. Ok (Some (networks.V4 v k))) (v4_mask_of text) (Err BadMask)
masked (addresses.V6 v) text = option_map_or (λ k. Ok (Some (networks.V6 v k))) (v6_mask_of text) (Err BadMask)

-- the network written as an address, a slash and a mask. A text without an address before a slash is no network
unfoldable pub network_of : List ℕ → Result (Option Network) TableFault
network_of text = option_map_or (λ p. option_map_or (λ a. masked a p.1) (address_of p.0) (Ok None)) (cut_at (is_among (codes "/")) text) (Ok None)

-- the bit at an index
abbrev pub bit : ℕ → ℕ → ℕ
bit n i = n / 2 ^ i % 2

-- whether two numbers agree in each of the lowest bits where the mask has a one
unfoldable pub bits_agree : ℕ → ℕ → ℕ → ℕ → Bool
bits_agree zero v w mask = true
bits_agree (suc i) v w mask = (not (bit mask i == 1) || bit v i == bit w i) && bits_agree i v w mask

-- a network contains the addresses of its family that agree with its own under the mask
abbrev pub is_in_network : Network → Address → Bool
is_in_network (networks.V4 w mask) (addresses.V4 v) = bits_agree 32 v w mask
is_in_network (networks.V6 w mask) (addresses.V6 v) = bits_agree 128 v w mask
is_in_network _ _ = false
