-- For private contracts and proofs alone: an entry that may be a link which leads nowhere.
use Rattle.std.specs.Prelude.{◌≡◌, Bool, List, if◌then◌else◌}
use Rattle.clap.specs.Words.{Text}
use Rattle.pam_conf.specs.Files.{Named}
use Rattle.pam_conf.specs.Services.{with_name}
use Rattle.pam_cli.specs.DeadLinks.{IsDead}
use Rattle.pam_cli.specs.System.{PlaceText, Told}

-- names, and then that of an entry, if it leads nowhere
abbrev pub AddsEntry : Told → PlaceText → List Named → Text → List Text → List Text → Type 0
AddsEntry told folder files name old new = (dead : Bool) × IsDead told folder files name dead × (new ≡ (if dead then with_name old name else old))
