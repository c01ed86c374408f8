-- The rules of the own file of a service, as a release of Linux-PAM reads them: pam.conf(5), on "service" and "type".
use Rattle.std.specs.Prelude.{ℕ, Bool, true, false, ◌&&◌, ◌||◌, List, [], codes, filter, if◌then◌else◌, map, Option, Some, None, Result, Ok, Err, unwrap_or}
use Rattle.std.specs.Char.{to_ascii_lowercase}
use Rattle.std.specs.List.{list_any}
use Rattle.std.specs.Option.{option_map_or}
use Rattle.std.specs.Str.{bytes_eq}
use Rattle.pam_conf.specs.Files.{Folder, bytes_at, position_of}
use Rattle.pam_conf.specs.Lines.{fault_of_source}
use Rattle.pam_conf.specs.Walk.{same_kind}
use Rattle.pam_conf.specs.declared.conf_error.ConfError.{ConfError}
use Rattle.pam_conf.specs.declared.error.FaultKind.TheVariants.{NoService}
use Rattle.pam_conf.specs.declared.error.RuleFault.{RuleFault}
use Rattle.pam_conf.specs.declared.rule.Form.{Form}
use Rattle.pam_conf.specs.declared.rule.Form.TheVariants.{Dir, Single}
use Rattle.pam_conf.specs.declared.rule.Kind.{Kind}
use Rattle.pam_released.specs.Control.{then_some}
use Rattle.pam_released.specs.Readings.{NumberedRule, numbered_rules}
use Rattle.pam_released.specs.Rules.{Fails, Reading, Reads, Refuses}
use Rattle.pam_released.specs.declared.release.Release.{Release}
use Rattle.pam_released.specs.declared.release.Release.TheVariants.{Older, Newer}
use Rattle.pam_text.specs.Source.{source_fault}
use Rattle.pam_text.specs.declared.source.SourceFault.{SourceFault}
use Rattle.pam_words.specs.declared.wanted.ReleaseName.{ReleaseName}
use Rattle.pam_words.specs.declared.wanted.ReleaseName.TheVariants.{LinuxPam15, LinuxPam17}

-- what a release reads for a service and a kind in the file of this name. None where it refuses the configuration
pub record ReleasedValue : Type 0 where
  pub service : List ℕ
  pub kind : Kind
  pub release : ReleaseName
  pub file : List ℕ
  pub rules : Option (List NumberedRule)

-- 1.5.2 and 1.7.0
abbrev pub release_of_name : ReleaseName → Release
release_of_name LinuxPam15 = Older
release_of_name LinuxPam17 = Newer

-- the name of the file in which the rules of a service stand
abbrev pub own_file : Form → List ℕ → List ℕ
own_file Dir service = map to_ascii_lowercase service
own_file Single service = codes "pam.conf"

-- a rule of a service and a kind is one of this service, in lowercase, and this kind: in pam.conf it names the service; an `@include`,
-- which has no kind, is of every kind
abbrev pub is_for : List ℕ → Kind → Option (List ℕ) → Option Kind → Bool
is_for service kind named of_kind = option_map_or (bytes_eq service) named true && option_map_or (same_kind kind) of_kind true

-- a rule concerns a service, in lowercase, and a kind, also one that always fails
abbrev pub concerns : List ℕ → Kind → Reading → Bool
concerns service kind (Reads rule) = is_for service kind rule.service rule.kind
concerns service kind (Fails rule) = is_for service kind rule.service (Some rule.kind)
concerns service kind (Refuses named) = false

-- the line makes the release refuse the configuration where this service, in lowercase, is asked for: in pam.conf it names the service, or
-- `other`, whose rules are read at every start
abbrev pub refuses : List ℕ → Reading → Bool
refuses service (Reads rule) = false
refuses service (Fails rule) = false
refuses service (Refuses named) = option_map_or (λ name. bytes_eq service name || bytes_eq (codes "other") name) named true

-- the rules that concern a service and a kind. None where a line makes the release refuse the configuration
abbrev pub chosen : List ℕ → Kind → List NumberedRule → Option (List NumberedRule)
chosen service kind rules =
    if list_any (λ rule. refuses (map to_ascii_lowercase service) rule.1) rules then None
    else Some (filter (λ rule. concerns (map to_ascii_lowercase service) kind rule.1) rules)

-- what a release reads for a service and a kind in these bytes
abbrev pub reading_in : List ℕ → Kind → ReleaseName → Form → List ℕ → ReleasedValue
reading_in service kind release form bytes = record {
  service = service;
  kind = kind;
  release = release;
  file = own_file form service;
  rules = then_some (numbered_rules (release_of_name release) form bytes) (chosen service kind);
}

-- a fault of the file at this position
abbrev pub fault_in : ℕ → RuleFault → ConfError
fault_in at fault = record { kind = fault.kind; at = Some at; line = fault.line }

-- a file that is too long or has a NUL byte is not read
abbrev pub unless_faulty : ℕ → Option SourceFault → ReleasedValue → Result ReleasedValue ConfError
unless_faulty at None value = Ok value
unless_faulty at (Some fault) value = Err (fault_in at (fault_of_source fault))

abbrev pub reading_at : List ℕ → Kind → ReleaseName → Form → ℕ → List ℕ → Result ReleasedValue ConfError
reading_at service kind release form at bytes = unless_faulty at (source_fault bytes) (reading_in service kind release form bytes)

-- in the file at a position, if there is one
abbrev pub reading_if_there : List ℕ → Kind → ReleaseName → Folder → Option ℕ → Result ReleasedValue ConfError
reading_if_there service kind release files None = Err record { kind = NoService; at = None; line = 0 }
reading_if_there service kind release files (Some at) =
    reading_at service kind release files.form at (unwrap_or (bytes_at at files.entries) [])

-- THE RULES that a release reads for a service and a kind in the own file of the service, or the fault of that file
abbrev pub released : List ℕ → Kind → ReleaseName → Folder → Result ReleasedValue ConfError
released service kind release files =
    reading_if_there service kind release files (position_of (own_file files.form service) files.entries)
