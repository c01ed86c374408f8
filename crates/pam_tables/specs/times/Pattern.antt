-- time.conf(5): a name may have one wildcard, `*`, which matches any bytes.
use Rattle.std.specs.Prelude.{ℕ, ◌+◌, ◌==◌, ◌&&◌, Bool, List, length, take, drop, position, nat_lt, nat_eq, count_by}
use Rattle.std.specs.List.{ends_with}
use Rattle.std.specs.Option.{option_map_or}
use Rattle.std.specs.Str.{bytes_eq}

abbrev pub is_star : ℕ → Bool
is_star b = b == 42

abbrev pub has_two_stars : List ℕ → Bool
has_two_stars name = nat_lt 1 (count_by is_star name)

-- a text begins with front, and its rest ends with back
abbrev pub is_framed : List ℕ → List ℕ → List ℕ → Bool
is_framed front back text =
    bytes_eq (take (length front) text) front && ends_with nat_eq (drop (length front) text) back

-- whether a text matches a name
abbrev pub matches : List ℕ → List ℕ → Bool
matches name text = option_map_or (λ i. is_framed (take i name) (drop (i + 1) name) text) (position is_star name) (bytes_eq name text)
