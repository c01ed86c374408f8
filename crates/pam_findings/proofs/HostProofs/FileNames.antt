-- The names of files.
use Rattle.std.proofs.Common.{◌≡◌, ℕ, ◌+◌, true, false, ◌||◌, List, drop, map, sym, ◌∙◌, ap, Some, slice_get}
use Rattle.std.specs.Option.{option_map}
use Rattle.std.specs.Str.{bytes_eq}
use Rattle.pam_conf.specs.Files.{Named}
use Rattle.pam_conf.proofs.ServiceSteps.{name-front}
use Rattle.pam_findings.specs.host.FolderProblems.{has_file}

-- a file with a name is here, or later
pub name-here : (wanted : List ℕ) (entries : List Named) (n : ℕ) (name : List ℕ) → option_map (λ f. f.0) (slice_get entries n) ≡ Some name →
    bytes_eq wanted name ≡ true → has_file wanted (map (λ f. f.0) (drop n entries)) ≡ true
name-here wanted entries n name is same =
    ap (has_file wanted) (name-front entries n name is) ∙ ap (λ b. b || has_file wanted (map (λ f. f.0) (drop (n + 1) entries))) same

pub name-later : (wanted : List ℕ) (entries : List Named) (n : ℕ) (name : List ℕ) → option_map (λ f. f.0) (slice_get entries n) ≡ Some name →
    bytes_eq wanted name ≡ false → has_file wanted (map (λ f. f.0) (drop (n + 1) entries)) ≡ has_file wanted (map (λ f. f.0) (drop n entries))
name-later wanted entries n name is differs =
    sym (ap (has_file wanted) (name-front entries n name is) ∙ ap (λ b. b || has_file wanted (map (λ f. f.0) (drop (n + 1) entries))) differs)
