-- For private contracts and proofs alone: the services of a word, one token after another.
use Rattle.std.specs.Prelude.{ℕ, List, [], ◌∷◌, ◌++◌, drop, Result, Ok, Err, if◌then◌else◌}
use Rattle.pam_policy.specs.declared.text.error.PolicyFault.{PolicyFault}
use Rattle.pam_policy.specs.declared.text.error.PolicyFault.TheVariants.{BadServices}
use Rattle.pam_policy.specs.text.Services.{ServicesText, is_name, leaves_out, token_name}

abbrev pub and_token : ServicesText → List ℕ → ServicesText
and_token services token =
    if leaves_out token then record services { unwanted = services.unwanted ++ drop 1 token ∷ [] }
    else record services { wanted = services.wanted ++ token ∷ [] }

-- services, and the name of one more token
unfoldable pub with_token : ServicesText → List ℕ → Result ServicesText PolicyFault
with_token services token = if is_name (token_name token) then Ok (and_token services token) else Err BadServices
