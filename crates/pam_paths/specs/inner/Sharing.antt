-- For private contracts and proofs alone: classes of codes, computed part by part of a control.
use Rattle.std.specs.Prelude.{ℕ, ◌==◌, Bool, false, ◌&&◌, if◌then◌else◌, List, Option, None, Some, slice_get}
use Rattle.std.specs.List.{list_any}
use Rattle.std.specs.Option.{option_map_or}
use Rattle.pam_codes.specs.declared.parts.Part.{Part}
use Rattle.pam_codes.specs.Set.{is_in}
use Rattle.pam_dispatch.specs.declared.state.State.{State}
use Rattle.pam_dispatch.specs.Alike.{looks_at_code}
use Rattle.pam_dispatch.specs.Runs.{Ask, outcome_of}
use Rattle.pam_dispatch.specs.State.{perm_denied}
use Rattle.pam_paths.specs.Classes.{class_of, least, same_outcome}

-- a code of a part whose class can have further codes: any code if the action of the part does not look at it,
-- otherwise perm_denied, since ignore can count as perm_denied
abbrev pub shared_code : Part → State → Option ℕ
shared_code part s =
    if looks_at_code part.action s then (if is_in perm_denied part.codes then Some perm_denied else None)
    else slice_get part.codes 0

-- a code is in the class of the shared code of a part
unfoldable pub is_shared : Ask → ℕ → Part → Bool
is_shared ask code part = option_map_or (λ c. same_outcome (outcome_of ask c) (outcome_of ask code)) (shared_code part ask.state) false

-- a code is the least of a class that has one of these codes
unfoldable pub is_offered_by : List ℕ → Ask → ℕ → Bool
is_offered_by codes ask code = (least (class_of ask code) == code) && list_any (λ k. is_in k codes) (class_of ask code)

-- codes, with those in the class of the shared code of a part replaced by the least code of the class
unfoldable pub past_part : List ℕ → Ask → Part → ℕ → Bool
past_part codes ask part code = if is_shared ask code part then is_offered_by codes ask code else is_in code codes

-- the allowed codes, after this is done for some parts
unfoldable pub past_parts : List ℕ → Ask → List Part → ℕ → Bool
past_parts allowed ask parts code = if list_any (is_shared ask code) parts then is_offered_by allowed ask code else is_in code allowed
