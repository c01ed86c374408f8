-- Words of which the first names a command are read by that command alone.
use Rattle.std.proofs.Common.{◌≡◌, ◌++◌, ◌∙◌, ◌&&◌, ◌||◌, Bool, List, [], ◌∷◌, Some, true, false, refl, ap, sym, map, find, fold, bytes_eq}
use Rattle.std.specs.List.{list_all, list_any}
use Rattle.std.specs.Prelude.{if◌then◌else◌}
use Rattle.clap.specs.Kinds.{Kinds, or_else}
use Rattle.clap.specs.Simple.{App, Shape, built_leaf, entered, inherited, label_of, names_of, rows_at}
use Rattle.clap.specs.Takes.{built_takes, other_passes, walk_passes}
use Rattle.clap.specs.Faults.{built_fault, other_fault, walk_fault}
use Rattle.clap.specs.Walk.{Names, Rule, Text, Walk, answers_to, nothing_held, walk, walk_from, walked}
use Rattle.pam_words.specs.inner.Building.{is_named}

-- a walk after it met a command, with the words that follow the command's name
abbrev pub met : Text → List Text → Walk
met name after = record (walk_from nothing_held) { stopped = Some (name, after) }

nil-right : (xs : List Text) → xs ++ [] ≡ xs
nil-right [] = refl
nil-right (x ∷ xs) = ap (λ ys. x ∷ ys) (nil-right xs)

one-more : (xs : List Text) (y : Text) (ys : List Text) → (xs ++ y ∷ []) ++ ys ≡ xs ++ y ∷ ys
one-more [] y ys = refl
one-more (x ∷ xs) y ys = ap (λ zs. x ∷ zs) (one-more xs y ys)

met-walk : (rules : List Rule) (names : Names) (name : Text) (after rest : List Text)
    → fold (walked rules names) (met name after) rest ≡ met name (after ++ rest)
unfolding walked
met-walk rules names name after [] = ap (met name) (sym (nil-right after))
met-walk rules names name after (word ∷ rest) = met-walk rules names name (after ++ word ∷ []) rest ∙ ap (met name) (one-more after word rest)

met-passes : (s : Shape) (names : Names) (name : Text) (after rest : List Text) → walk_passes s names (met name after) rest ≡ true
unfolding walked walk_passes
met-passes s names name after [] = refl
met-passes s names name after (word ∷ rest) = met-passes s names name (after ++ word ∷ []) rest

met-fault : (s : Shape) (names : Names) (name : Text) (after rest : List Text) → walk_fault s names (met name after) rest ≡ []
unfolding walked walk_fault
met-fault s names name after [] = refl
met-fault s names name after (word ∷ rest) = met-fault s names name (after ++ word ∷ []) rest

-- the first word is met
first-step : (rules : List Rule) (names : Names) (word : Text) (label : Text × List Text) → find (answers_to word) names ≡ Some label → label.0 ≡ word
    → walked rules names (walk_from nothing_held) word ≡ met word []
unfolding walked
first-step rules names word label found same = rw (found, same) refl

walk-met : (rules : List Rule) (names : Names) (word : Text) (rest : List Text) (label : Text × List Text) → find (answers_to word) names ≡ Some label
    → label.0 ≡ word → walk rules names nothing_held (word ∷ rest) ≡ met word rest
walk-met rules names word rest label found same =
    ap (λ w. fold (walked rules names) w rest) (first-step rules names word label found same) ∙ met-walk rules names word [] rest

true-after : (a b : Bool) → b ≡ true → (a && true) && b ≡ a
true-after true b e = e
true-after false b e = refl

passes-met : (s : Shape) (names : Names) (word : Text) (rest : List Text) (label : Text × List Text) → find (answers_to word) names ≡ Some label
    → label.0 ≡ word → walk_passes s names (walk_from nothing_held) (word ∷ rest) ≡ other_passes s (Some word) word nothing_held
unfolding walk_passes
passes-met s names word rest label found same =
    rw (first-step s.rules names word label found same, met-passes s names word [] rest, found, same)
    (true-after (other_passes s (Some word) word nothing_held) true refl)

nil-after : (k : Kinds) → or_else (or_else k []) [] ≡ k
nil-after [] = refl
nil-after (x ∷ k) = refl

fault-met : (s : Shape) (names : Names) (word : Text) (rest : List Text) (label : Text × List Text) → find (answers_to word) names ≡ Some label
    → label.0 ≡ word → walk_fault s names (walk_from nothing_held) (word ∷ rest) ≡ other_fault s (Some word) word nothing_held
unfolding walk_fault
fault-met s names word rest label found same =
    rw (first-step s.rules names word label found same, met-fault s names word [] rest, found, same) (nil-after (other_fault s (Some word) word nothing_held))

abbrev pub is_met : Text → Shape → Bool
is_met word s = answers_to word (label_of s)

-- a command of a built command line that a word names
pub record Meets (a : App) (word : Text) (s : Shape) : Type 0 where
  pub found : find (is_met word) a.subs ≡ Some s
  pub name : s.name ≡ word

find-label : (word : Text) (subs : List Shape) (s : Shape) → find (is_met word) subs ≡ Some s → find (answers_to word) (map label_of subs) ≡ Some (label_of s)
find-label word [] s e = cc
find-label word (x ∷ xs) s e = by (is_met word x) (find-label word xs s) e
  where
    by : (b : Bool) → (find (is_met word) xs ≡ Some s → find (answers_to word) (map label_of xs) ≡ Some (label_of s))
        → (if b then Some x else find (is_met word) xs) ≡ Some s
        → (if b then Some (label_of x) else find (answers_to word) (map label_of xs)) ≡ Some (label_of s)
    by true again h = let same : x ≡ s = cc in ap (λ y. Some (label_of y)) same
    by false again h = again h

-- the walk over words of which the first is met
stops : (a : App) (word : Text) (rest : List Text) (s : Shape) → Meets a word s → walk a.top.rules (names_of a) nothing_held (word ∷ rest) ≡ met word rest
stops a word rest s m = walk-met a.top.rules (names_of a) word rest (label_of s) (find-label word a.subs s m.found) m.name

pub entered-met : (a : App) (word : Text) (rest : List Text) (s : Shape) → Meets a word s
    → entered a (walk a.top.rules (names_of a) nothing_held (word ∷ rest)).stopped ≡ Some (rows_at s rest)
entered-met a word rest s m = rw (stops a word rest s m, m.found) refl

-- two built command lines that differ in no more than their other commands
module _ (a b : App) (word : Text) (rest : List Text) (s : Shape) (top : a.top ≡ b.top) (m : Meets a word s) (n : Meets b word s) where
  in-a : find (answers_to word) (names_of a) ≡ Some (label_of s)
  in-a = find-label word a.subs s m.found

  in-b : find (answers_to word) (names_of b) ≡ Some (label_of s)
  in-b = find-label word b.subs s n.found

  stops-a : walk a.top.rules (names_of a) nothing_held (word ∷ rest) ≡ met word rest
  stops-a = stops a word rest s m

  stops-b : walk b.top.rules (names_of b) nothing_held (word ∷ rest) ≡ met word rest
  stops-b = stops b word rest s n

  pub same-taken : built_takes a nothing_held (word ∷ rest) ≡ built_takes b nothing_held (word ∷ rest)
  same-taken =
      let first = passes-met a.top (names_of a) word rest _ in-a m.name in
      let second = passes-met b.top (names_of b) word rest _ in-b n.name in
      rw (stops-a, stops-b, m.found, n.found, first, second, top) refl

  pub same-faults : built_fault a nothing_held (word ∷ rest) ≡ built_fault b nothing_held (word ∷ rest)
  same-faults =
      let first = fault-met a.top (names_of a) word rest _ in-a m.name in
      let second = fault-met b.top (names_of b) word rest _ in-b n.name in
      rw (stops-a, stops-b, m.found, n.found, first, second, top) refl

-- ---- what building leaves as it is

abbrev pub is_none : List Text → Bool
is_none [] = true
is_none (x ∷ xs) = false

abbrev pub has_no_alias : Shape → Bool
has_no_alias s = is_none s.aliases

label-built : (b : Bool) (s t : Shape) → label_of t ≡ label_of s → label_of (if b then s else t) ≡ label_of s
label-built true s t e = refl
label-built false s t e = e

or-false : (b : Bool) → (b || false) ≡ b
or-false true = refl
or-false false = refl

named-label : (word : Text) (s : Shape) → has_no_alias s ≡ true → is_met word s ≡ is_named word s
named-label word s none = by s.aliases none
  where
    by : (aliases : List Text) → is_none aliases ≡ true → (bytes_eq s.name word || list_any (λ alias. bytes_eq alias word) aliases) ≡ bytes_eq s.name word
    by [] e = or-false (bytes_eq s.name word)
    by (x ∷ xs) e = cc

pub label-leaf : (above s : Shape) → label_of (built_leaf (inherited above s)) ≡ label_of s
label-leaf above s = label-built s.is_built (inherited above s) _ refl

met-leaf : (above : Shape) (word : Text) (s : Shape) → has_no_alias s ≡ true → is_met word (built_leaf (inherited above s)) ≡ is_named word s
met-leaf above word s none = ap (answers_to word) (label-leaf above s) ∙ named-label word s none

pub both-true : (a b : Bool) → (a && b) ≡ true → (a ≡ true) × (b ≡ true)
both-true true b e = (refl, e)
both-true false b e = cc

pub find-leaf : (above : Shape) (word : Text) (xs ys : List Shape) (s : Shape) → list_all has_no_alias xs ≡ true → find (is_named word) xs ≡ Some s
    → find (is_met word) (map built_leaf (map (inherited above) xs ++ ys)) ≡ Some (built_leaf (inherited above s))
find-leaf above word [] ys s none e = cc
find-leaf above word (x ∷ xs) ys s none e =
    let parts = both-true (has_no_alias x) (list_all has_no_alias xs) none in
    by (is_met word (built_leaf (inherited above x))) (is_named word x) (met-leaf above word x parts.0) e (find-leaf above word xs ys s parts.1)
  where
    by : (b c : Bool) → b ≡ c → (if c then Some x else find (is_named word) xs) ≡ Some s
        → (find (is_named word) xs ≡ Some s → find (is_met word) (map built_leaf (map (inherited above) xs ++ ys)) ≡ Some (built_leaf (inherited above s)))
        → (if b then Some (built_leaf (inherited above x)) else find (is_met word) (map built_leaf (map (inherited above) xs ++ ys)))
        ≡ Some (built_leaf (inherited above s))
    by true true same h again = let one : x ≡ s = cc in ap (λ y. Some (built_leaf (inherited above y))) one
    by false false same h again = again h
    by true false same h again = cc
    by false true same h again = cc

-- the command that is found has this name, and whatever holds of all
pub found-named : (word : Text) (xs : List Shape) (s : Shape) → find (is_named word) xs ≡ Some s → is_named word s ≡ true
found-named word [] s e = cc
found-named word (x ∷ xs) s e = by (is_named word x) refl e (found-named word xs s)
  where
    by : (b : Bool) → is_named word x ≡ b → (if b then Some x else find (is_named word) xs) ≡ Some s
        → (find (is_named word) xs ≡ Some s → is_named word s ≡ true) → is_named word s ≡ true
    by true named h again = let one : x ≡ s = cc in ap (is_named word) (sym one) ∙ named
    by false named h again = again h

pub found-has : (has : Shape → Bool) (word : Text) (xs : List Shape) (s : Shape) → list_all has xs ≡ true → find (is_named word) xs ≡ Some s → has s ≡ true
found-has has word [] s all e = cc
found-has has word (x ∷ xs) s all e =
    let parts = both-true (has x) (list_all has xs) all in
    by (is_named word x) e parts.0 (found-has has word xs s parts.1)
  where
    by : (b : Bool) → (if b then Some x else find (is_named word) xs) ≡ Some s → has x ≡ true → (find (is_named word) xs ≡ Some s → has s ≡ true) → has s ≡ true
    by true h one again = let same : x ≡ s = cc in ap has (sym same) ∙ one
    by false h one again = again h
