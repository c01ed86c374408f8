-- The bytes of a file as far as it is read.
use Rattle.std.proofs.Common.{◌≡◌, ◌++◌, ◌+◌, ◌^◌, IfSome, List, [], None, Option, Some, subst, take, ℕ}
use Rattle.std.specs.Option.{option_map}
use Rattle.pam_cli.specs.System.{front}

front_given : (rest : Option (List ℕ)) (read : List ℕ) → IfSome (option_map (take (2 ^ 20 + 1)) rest) (λ xs. read ≡ xs)
    → IfSome rest (λ all. read ≡ front all)
front_given None read h = tt
front_given (Some all) read h = h

-- what is read to the end of a reader that gives this number of bytes
pub front_read : {F : Type 0} (remaining : F → Option (List ℕ)) (file inner : F) (limit : ℕ) (old new : List ℕ) → inner ≡ file
    → limit ≡ 2 ^ 20 + 1 → old ≡ [] → IfSome (option_map (take limit) (remaining inner)) (λ xs. new ≡ old ++ xs)
    → IfSome (remaining file) (λ all. new ≡ front all)
front_read remaining file inner limit old new same most none h =
    front_given (remaining file) new
    (subst (λ f. IfSome (option_map (take (2 ^ 20 + 1)) (remaining f)) (λ xs. new ≡ xs)) same
    (subst (λ (n : ℕ). IfSome (option_map (take n) (remaining inner)) (λ xs. new ≡ xs)) most
    (subst (λ (l : List ℕ). IfSome (option_map (take limit) (remaining inner)) (λ xs. new ≡ l ++ xs)) none h)))
