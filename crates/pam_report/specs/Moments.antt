-- The moment of a request.
use Rattle.std.specs.Prelude.{◌≡◌, ⊤, ℕ, ℤ, List, IsSome, Option, None, Some, Result, Ok, Err}
use Rattle.jiff.specs.Types.{DateTime}
use Rattle.jiff.specs.Words.{read_whole}
use Rattle.pam_tables.specs.times.Moments.{Exist, HasParts, IsInstant, Shows, parts_of}
use Rattle.pam_tables.specs.declared.times.moments.MomentError.{MomentError}
use Rattle.pam_tables.specs.declared.times.moments.MomentError.TheVariants as moments
use Rattle.pam_words.specs.declared.wanted.Moment.{Moment}
use Rattle.pam_words.specs.declared.wanted.Moment.TheVariants.{Civil, Instant}

-- the civil time of a text, or the fault if it has none
abbrev pub IsWritten : List ℕ → Result DateTime MomentError → Type 0
IsWritten text (Ok moment) = HasParts (parts_of text) moment
IsWritten text (Err e) = (e ≡ moments.Syntax) × (Exist (parts_of text) → ⊥)

-- the civil time in a time zone at an instant, or the fault if there is none
abbrev pub IsShownAt : ℤ → List ℕ → Result DateTime MomentError → Type 0
IsShownAt seconds zone (Ok moment) = Shows seconds zone moment
IsShownAt seconds zone (Err moments.Range) = IsInstant seconds → ⊥
IsShownAt seconds zone (Err moments.Rule) = IsInstant seconds × (IsSome (read_whole zone) → ⊥)
IsShownAt seconds zone (Err moments.Memory) = ⊥
IsShownAt seconds zone (Err moments.Syntax) = ⊥

-- the civil time of a moment
abbrev pub IsMoment : Moment → Result DateTime MomentError → Type 0
IsMoment (Civil text) at = IsWritten text.now at
IsMoment (Instant seconds zone) at = IsShownAt seconds zone.now at

-- the same, for a moment that may be missing
abbrev pub IsGivenMoment : Option Moment → Option (Result DateTime MomentError) → Type 0
IsGivenMoment None None = ⊤
IsGivenMoment None (Some at) = ⊥
IsGivenMoment (Some moment) None = ⊥
IsGivenMoment (Some moment) (Some at) = IsMoment moment at
