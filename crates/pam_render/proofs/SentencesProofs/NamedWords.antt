-- The sentences that name a word, part by part.
use Rattle.std.proofs.Common.{◌≡◌, ℕ, List, [], ◌∷◌, ◌++◌, Bor, Option, None, Some, ap, append-nil, codes, refl}
use Rattle.std.specs.List.{concat}
use Rattle.std.specs.Option.{option_map, option_map_or}
use Rattle.pam_conf.specs.declared.error.FaultKind.{FaultKind}
use Rattle.pam_findings.specs.misspelled.Misspelled.{MisspelledText}
use Rattle.pam_render.specs.sentences.Faults.{Naming, after_text, fault_text, mending_text, named_text, naming_of, naming_text, plain_sentence}
use Rattle.pam_render.specs.sentences.Shown.{quoted}

-- MENDING

abbrev pub text_of : Bor (List ℕ) → List ℕ
text_of text = text.now

pub told-is : (nearest : Option (Bor (List ℕ))) (mending bytes : List ℕ) → nearest ≡ None → bytes ≡ mending
    → concat (codes "; " ∷ bytes ∷ []) ≡ mending_text (option_map text_of nearest) mending
told-is nearest mending bytes e f = rw (e, f) (ap (λ (l : List ℕ). codes "; " ++ l) (append-nil mending))

pub asked-is : (nearest : Option (Bor (List ℕ))) (right : Bor (List ℕ)) (mending : List ℕ) → nearest ≡ Some right
    → (codes "; did you mean " ++ quoted right.now) ++ codes "?" ≡ mending_text (option_map text_of nearest) mending
asked-is nearest right mending e = rw e refl

-- THE WORD

pub naming-is : (m : MisspelledText) (n : Naming) (before word after mending : List ℕ) → before ≡ n.before → word ≡ m.word
    → after ≡ after_text n.after m.word → mending ≡ mending_text m.nearest n.mending → ((before ++ quoted word) ++ after) ++ mending ≡ named_text m n
naming-is m n before word after mending e f g h = rw (e, f, g, h) refl

pub named-is : (line : ℕ) (fault : FaultKind) (m : MisspelledText) (n : Naming) → Some n ≡ naming_of fault → naming_text m n ≡ fault_text line fault (Some m)
named-is line fault m n e = ap (λ (o : Option Naming). option_map_or (naming_text m) o (plain_sentence line fault)) e

pub plain-is : (line : ℕ) (fault : FaultKind) (m : MisspelledText) → None ≡ naming_of fault → plain_sentence line fault ≡ fault_text line fault (Some m)
plain-is line fault m e = ap (λ (o : Option Naming). option_map_or (naming_text m) o (plain_sentence line fault)) e
