-- Which documents are held.
use Rattle.std.proofs.Common.{◌≡◌, ◌∙◌, ◌++◌, Bool, List, [], ◌∷◌, None, Option, Some, ap, cond, false, not, refl, sym, true}
use Rattle.std.proofs.lemmas.Slice.Eq.{bytes_eq-Decides}
use Rattle.std.specs.Str.{bytes_eq}
use Rattle.clap.specs.Words.{Text}
use Rattle.pam_lsp.specs.Documents.{DocumentText, closed, opened}
use Rattle.pam_lsp.specs.Laws.{held}

gone-by : (b : Bool) (uri : Text) (d : DocumentText) (rest : List DocumentText) → bytes_eq d.uri uri ≡ b → held uri rest ≡ None
    → held uri (cond (not b) (d ∷ rest) rest) ≡ None
gone-by true uri d rest is none = none
gone-by false uri d rest is none = rw is none

pub gone : (uri : Text) (documents : List DocumentText) → held uri (closed uri documents) ≡ None
gone uri [] = refl
gone uri (d ∷ ds) = gone-by (bytes_eq d.uri uri) uri d (closed uri ds) refl (gone uri ds)

other-uri : (one uri other : Text) → bytes_eq one uri ≡ true → bytes_eq uri other ≡ false → bytes_eq one other ≡ false
other-uri one uri other same differs = ap (λ (t : Text). bytes_eq t other) ((bytes_eq-Decides one uri).0 same) ∙ differs

stay-by : (b : Bool) (uri other : Text) (d : DocumentText) (rest ds : List DocumentText) → bytes_eq d.uri uri ≡ b → bytes_eq uri other ≡ false
    → held other rest ≡ held other ds → held other (cond (not b) (d ∷ rest) rest) ≡ held other (d ∷ ds)
stay-by true uri other d rest ds is differs same = rw (other-uri d.uri uri other is differs) same
stay-by false uri other d rest ds is differs same = ap (λ (o : Option DocumentText). cond (bytes_eq d.uri other) (Some d) o) same

pub stay : (uri other : Text) (documents : List DocumentText) → bytes_eq uri other ≡ false → held other (closed uri documents) ≡ held other documents
stay uri other [] differs = refl
stay uri other (d ∷ ds) differs = stay-by (bytes_eq d.uri uri) uri other d (closed uri ds) ds refl differs (stay uri other ds differs)

last-by : (b : Bool) (uri : Text) (x : DocumentText) (xs : List DocumentText) (d : DocumentText) → cond b (Some x) (held uri xs) ≡ None
    → (held uri xs ≡ None → held uri (xs ++ d ∷ []) ≡ held uri (d ∷ []))
    → cond b (Some x) (held uri (xs ++ d ∷ [])) ≡ held uri (d ∷ [])
last-by true uri x xs d none go = absurd (cc)
last-by false uri x xs d none go = go none

-- where none is held, the last one is
last : (uri : Text) (xs : List DocumentText) (d : DocumentText) → held uri xs ≡ None → held uri (xs ++ d ∷ []) ≡ held uri (d ∷ [])
last uri [] d none = refl
last uri (x ∷ xs) d none = last-by (bytes_eq x.uri uri) uri x xs d none (last uri xs d)

pub opened-held : (document : DocumentText) (documents : List DocumentText) → held document.uri (opened document documents) ≡ Some document
opened-held document documents =
    let same : bytes_eq document.uri document.uri ≡ true = (bytes_eq-Decides document.uri document.uri).1 refl in
    last document.uri (closed document.uri documents) document (gone document.uri documents)
    ∙ ap (λ (b : Bool). cond b (Some document) None) same
