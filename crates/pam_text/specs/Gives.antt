-- The result of a call that reads, where allocation may fail.
use Rattle.std.specs.Prelude.{◌≡◌, Result, Ok, Err}

-- the value that the definition gives, as `view` sees it; or an error, of which `tells` says what it implies: that the
-- definition gives this fault, or, where allocation failed, nothing of the definition
abbrev pub Gives : {X Y E F : Type 0} → (E → Result Y F → Type 0) → (X → Y) → Result X E → Result Y F → Type 0
Gives tells view (Ok x) meant = meant ≡ Ok (view x)
Gives tells view (Err error) meant = tells error meant
