-- The sentences of `policy`, part by part.
use Rattle.std.proofs.Common.{◌≡◌, ◌∙◌, ℕ, ◌≤◌, ◌==◌, Bool, false, Global, List, [], ◌∷◌, ◌++◌, Option, Some, Vec, ap, codes, length, map, refl, sym, take}
use Rattle.std.proofs.lemmas.Grind.{flat_map-append}
use Rattle.std.proofs.lemmas.List.{take_all}
use Rattle.std.specs.List.{flat_map, list_any}
use Rattle.std.specs.Option.{option_map}
use Rattle.pam_codes.specs.SetText.{name_of}
use Rattle.pam_conf.specs.Files.{Folder}
use Rattle.pam_conf.specs.Stack.{Items}
use Rattle.pam_conf.specs.declared.conf_error.ConfError.{ConfError}
use Rattle.pam_policy.specs.declared.host.stacks.StackClass.{StackClass}
use Rattle.pam_policy.specs.declared.search.run.Step.{Step}
use Rattle.pam_policy.specs.names.Words.{ArgumentText, WordText}
use Rattle.pam_policy.specs.search.Runs.{RunValue}
use Rattle.pam_report.specs.Fault.{file_at}
use Rattle.pam_findings.specs.host.Rows.{row_of}
use Rattle.pam_findings.specs.declared.host.problem.Problem.TheVariants.{Fault}
use Rattle.pam_report.specs.Names.{kind_name}
use Rattle.pam_text.proofs.FlatTexts.{flat_map-seen}
use Rattle.pam_render.specs.sentences.Phrases.{Phrase, Name, Said}
use Rattle.pam_render.specs.sentences.Policy.{argument_phrases, asked_phrases, broken_at, fault_phrases, module_phrases, near_phrases, next_phrases}
use Rattle.pam_render.specs.sentences.Policy.{not_known_at, place_phrases, reason_phrases, service_phrases, step_phrases, steps_phrases, unknown_phrases}

-- the texts of all elements, by a view of them
pub seen-all : {A B : Type 0} (text : B → List ℕ) (seen : A → B) (xs : List A) (i : ℕ) → length xs ≤ i
    → flat_map (λ x. text (seen x)) (take i xs) ≡ flat_map text (map seen xs)
seen-all text seen xs i h = ap (flat_map (λ x. text (seen x))) (take_all i xs h) ∙ sym (flat_map-seen text seen xs)

-- a name in which no slash was found
pub not-path : {name read : List ℕ} {found : Bool} → read ≡ name → found ≡ list_any (λ b. b == 47) read → found ≡ false
    → list_any (λ b. b == 47) name ≡ false
not-path e f h = sym (ap (list_any (λ b. b == 47)) e) ∙ sym f ∙ h

module _ (text : Phrase → List ℕ) where
  -- two parts of a sentence
  pub two-parts : (one other : List Phrase) → flat_map text one ++ flat_map text other ≡ flat_map text (one ++ other)
  two-parts one other = sym (flat_map-append text one other)

  -- the first module that is asked, and the others
  pub steps-are : (items : Items) (all : List Step) (first : Step) (others : List Step) → all ≡ first ∷ others
      → flat_map text (step_phrases (codes " where ") items first) ++ flat_map text (next_phrases items others) ≡ flat_map text (steps_phrases items all)
  steps-are items all first others e =
      two-parts (step_phrases (codes " where ") items first) (next_phrases items others)
      ∙ ap (λ (steps : List Step). flat_map text (steps_phrases items steps)) (sym e)

  -- each module that is asked
  pub nexts-are : (items : Items) (steps : List Step)
      → flat_map (λ step. flat_map text (step_phrases (codes ", ") items step)) steps ≡ flat_map text (next_phrases items steps)
  nexts-are items [] = refl
  nexts-are items (step ∷ steps) =
      ap (λ l. flat_map text (step_phrases (codes ", ") items step) ++ l) (nexts-are items steps)
      ∙ two-parts (step_phrases (codes ", ") items step) (next_phrases items steps)

  -- a run that breaks a rule
  pub broken-is : (rule : List ℕ) (run : RunValue) (class : StackClass) (kind code : List ℕ) (steps : List Step) → kind ≡ kind_name class.kind
      → code ≡ name_of run.decision → steps ≡ run.steps
      → flat_map text (Said (codes "\"") ∷ Name rule ∷ Said (codes "\" does not hold: ") ∷ Said kind ∷ Said (codes " decides ") ∷ Said code ∷ [])
      ++ flat_map text (asked_phrases class.stack steps) ≡ flat_map text (broken_at rule run class)
  broken-is rule run class kind code steps e f g =
      rw (e, f, g)
      (two-parts
      (Said (codes "\"") ∷ Name rule ∷ Said (codes "\" does not hold: ") ∷ Said (kind_name class.kind) ∷ Said (codes " decides ") ∷ Said (name_of run.decision)
      ∷ []) (asked_phrases class.stack run.steps))

  -- the fault of a stack, and its place
  pub fault-is : (files : Folder) (fault : ConfError) (number name : List ℕ) (file : Option (List ℕ)) → number ≡ (row_of (Fault fault.kind)).number
      → name ≡ (row_of (Fault fault.kind)).name → file ≡ file_at files fault.at
      → flat_map text (Said (codes "the stack is refused, ") ∷ Said number ∷ Said (codes " ") ∷ Said name ∷ [])
      ++ flat_map text (place_phrases file fault.line) ≡ flat_map text (fault_phrases files fault)
  fault-is files fault number name file e f h =
      let row = row_of (Fault fault.kind) in
      rw (e, f, h)
      (two-parts (Said (codes "the stack is refused, ") ∷ Said row.number ∷ Said (codes " ") ∷ Said row.name ∷ [])
      (place_phrases (file_at files fault.at) fault.line))

  -- why a rule is not known to hold
  pub not_known-is : (files : Folder) (rule : List ℕ) (class : StackClass)
      → flat_map text (Said (codes "\"") ∷ Name rule ∷ Said (codes "\" is not known to hold: ") ∷ []) ++ flat_map text (reason_phrases files class.stack)
      ≡ flat_map text (not_known_at files rule class)
  not_known-is files rule class =
      two-parts (Said (codes "\"") ∷ Name rule ∷ Said (codes "\" is not known to hold: ") ∷ []) (reason_phrases files class.stack)

  -- a name that is no service
  pub service-is : (word : WordText) (name : List ℕ) → name ≡ word.text
      → flat_map text (Said (codes "there is no service \"") ∷ Name name ∷ Said (codes "\"") ∷ [])
      ++ flat_map text (near_phrases word.nearest (codes "; mend the name, or leave it out")) ≡ flat_map text (service_phrases word)
  service-is word name e =
      rw e
      (two-parts (Said (codes "there is no service \"") ∷ Name word.text ∷ Said (codes "\"") ∷ [])
      (near_phrases word.nearest (codes "; mend the name, or leave it out")))

  -- what is said of a name that is no path
  pub unknown-is : (word : WordText) → list_any (λ b. b == 47) word.text ≡ false
      → flat_map text (Said (codes ", and none of this name is known") ∷ []) ++ flat_map text (near_phrases word.nearest [])
      ≡ flat_map text (unknown_phrases word)
  unknown-is word h = rw h (two-parts (Said (codes ", and none of this name is known") ∷ []) (near_phrases word.nearest []))

  -- a name that no module has
  pub module-is : (word : WordText) (name : List ℕ) → name ≡ word.text
      → flat_map text (Said (codes "no rule calls a module \"") ∷ Name name ∷ Said (codes "\"") ∷ []) ++ flat_map text (unknown_phrases word)
      ≡ flat_map text (module_phrases word)
  module-is word name e =
      rw e (two-parts (Said (codes "no rule calls a module \"") ∷ Name word.text ∷ Said (codes "\"") ∷ []) (unknown_phrases word))

  -- the nearest right word
  pub near-is : (nearest : Option (Vec ℕ Global)) (right : Vec ℕ Global) (word else_said : List ℕ) → nearest ≡ Some right → word ≡ right.items
      → flat_map text (Said (codes "; did you mean \"") ∷ Name word ∷ Said (codes "\"?") ∷ [])
      ≡ flat_map text (near_phrases (option_map (λ near. near.items) nearest) else_said)
  near-is nearest right word else_said e f = rw (e, f) refl

  -- an argument that no module has
  pub argument-is : (argument : ArgumentText) (name key nearest : List ℕ) → name ≡ argument.name → key ≡ argument.key → nearest ≡ argument.nearest
      → flat_map text
      (Said (codes "no rule of \"") ∷ Name name ∷ Said (codes "\" has an argument \"") ∷ Name key ∷ Said (codes "\"; did you mean \"") ∷ Name nearest
      ∷ Said (codes "\"?") ∷ []) ≡ flat_map text (argument_phrases argument)
  argument-is argument name key nearest e f g = rw (e, f, g) refl
