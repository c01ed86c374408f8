-- What `show` shows of a service: its stack for each of the kinds that are asked for, or what a release reads for each in its own file.
use Rattle.std.specs.Prelude.{ℕ, List, [], ◌∷◌, Option, Some, None, Result, Ok, Err}
use Rattle.pam_conf.specs.Files.{Folder}
use Rattle.pam_conf.specs.Resolution.{resolved}
use Rattle.pam_conf.specs.Stack.{Items}
use Rattle.pam_conf.specs.declared.conf_error.ConfError.{ConfError}
use Rattle.pam_conf.specs.declared.rule.Kind.{Kind}
use Rattle.pam_conf.specs.declared.rule.Kind.TheVariants.{Auth, Account, Password, Session}
use Rattle.pam_report.specs.Reply.{StackValue}

-- THE KINDS that are shown, in their order: the one that is named, or all
abbrev pub kinds_shown : Option Kind → List Kind
kinds_shown (Some kind) = kind ∷ []
kinds_shown None = Auth ∷ Account ∷ Password ∷ Session ∷ []

-- the fault of the first comes before those of the others
abbrev pub with_others : {V : Type 0} → Result V ConfError → Result (List V) ConfError → Result (List V) ConfError
with_others (Err e) others = Err e
with_others (Ok value) (Err e) = Err e
with_others (Ok value) (Ok values) = Ok (value ∷ values)

-- WHAT IS FOUND for each of these kinds, in their order; or the first fault
abbrev pub for_each : {V : Type 0} → (Kind → Result V ConfError) → List Kind → Result (List V) ConfError
for_each find [] = Ok []
for_each find (kind ∷ kinds) = with_others (find kind) (for_each find kinds)

-- the stack of a service for a kind, or its fault
abbrev pub stack_or_fault : List ℕ → Folder → Kind → Result Items ConfError → Result StackValue ConfError
stack_or_fault service files kind (Err e) = Err e
stack_or_fault service files kind (Ok items) = Ok (record { service = service; kind = kind; files = files; items = items })

abbrev pub stack_in : List ℕ → Folder → Kind → Result StackValue ConfError
stack_in service files kind = stack_or_fault service files kind (resolved files service kind)
