-- For private contracts and proofs alone: a login, and where it comes from.
use Rattle.std.specs.Prelude.{◌≡◌}
use Rattle.pam_tables.specs.Address.{address_of}
use Rattle.pam_tables.specs.declared.login.Origin.{Origin}
use Rattle.pam_tables.specs.declared.login.Origin.TheVariants as origins
use Rattle.pam_tables.specs.Login.{OriginText, Local, Remote}

abbrev pub origin_view : Origin → OriginText
origin_view (origins.Remote host address) = Remote host.now
origin_view (origins.Local text) = Local text.now

-- the address kept with a host is that of its text
abbrev pub IsKnown : Origin → Type 0
IsKnown (origins.Remote host address) = address ≡ address_of host.now
IsKnown (origins.Local text) = Unit {0}
