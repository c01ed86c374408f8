-- For private contracts and proofs alone: the tokens of users and origins.
use Rattle.pam_tables.specs.declared.lists.Mark.{Mark}
use Rattle.pam_tables.specs.declared.login.Origin.{Origin}
use Rattle.pam_tables.specs.declared.login.Origin.TheVariants as places
use Rattle.pam_tables.specs.Tokens.{OriginPattern, host_mark, place_mark}

-- how a token matches an origin with its address
abbrev pub known_mark : Origin → OriginPattern → Mark
known_mark (places.Remote host address) token = host_mark host.now address token
known_mark (places.Local place) token = place_mark place.now token
