-- For private contracts and proofs alone: what is known of the answers of modules.
use Rattle.pam_codes.specs.Set.{is_in}
use Rattle.pam_conf.specs.Stack.{Items}
use Rattle.pam_conf.specs.declared.rule.Kind.{Kind}
use Rattle.pam_paths.specs.Listing.{Allowance}
use Rattle.pam_changes.specs.Sides.{SideText, SidesText}
use Rattle.pam_changes.specs.Known.{known_codes}

-- the knowledge that allows each module these codes
abbrev pub known_by : SidesText → SideText → Kind → Items → Allowance
known_by sides side kind items number code = is_in code (known_codes sides side kind items number)
