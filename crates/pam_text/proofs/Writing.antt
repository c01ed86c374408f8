-- How the effects of calls that write combine. A function that writes `a ++ b ++ c` by three calls needs, at the call
-- that fails, `err-then` or `err-then-more` over `all-then` of the calls before it, and for a last call without `?`
-- `writes-then`; one that ends with a flush, `flushes-then` or `flushes-last` and `err-flushes`.
use Rattle.std.proofs.Common.{◌≡◌, ℕ, ◌+◌, ◌-◌, ◌<◌, ◌≤◌, List, [], ◌++◌, length, take, drop, ◌==◌, ◌&&◌, not, if◌then◌else◌, ◌∷◌, refl, sym, ap}
use Rattle.std.proofs.Common.{subst, ◌∙◌, arith, length-append, append_assoc, append-nil, Option, Some, None, Result, Ok, Err}
use Rattle.std.proofs.lemmas.List.{take-append-drop}
use Rattle.std.proofs.KnownBytes.{Appends-trans, Appends-nil}
use lib.Seq.{take-add, take-take}
use Rattle.std.specs.Io.KnownBytes.{Appends, Keeps}
use Rattle.pam_text.proofs.TextSteps.{unequal}
use Rattle.pam_text.specs.Out.{Took, TookAll, TookFlushed, TookFront, Writes, WritesAndFlushes, saturated}
use Rattle.std.specs.Prelude.{IsErr}
use Rattle.pam_text.specs.declared.out.Out.{Out}
use Rattle.pam_text.specs.declared.out.Device.{Device}

-- the failures of a `write` that wrote nothing, and of one that wrote some bytes
pub fails-taking_none : (n : ℕ) (bytes : List ℕ) → n ≡ 0 → 0 < length bytes → let count : ℕ = if n == 0 && not (length bytes == 0) then 1 else 0 in count ≡ 1
fails-taking_none n [] e h = absurd (omega (arith, h))
fails-taking_none n (b ∷ bs) e h = rw (e, unequal (length (b ∷ bs)) 0 (λ q. omega (arith, q, h))) refl

pub fails-taking_some : (n : ℕ) (bytes : List ℕ) → (n ≡ 0 → ⊥) → let count : ℕ = if n == 0 && not (length bytes == 0) then 1 else 0 in count ≡ 0
fails-taking_some n bytes h = rw (unequal n 0 h) refl

Appends-kept_nil : (a b : Option (List ℕ)) → Keeps a b → Appends a b []
Appends-kept_nil None b k = tt
Appends-kept_nil (Some x) None k = absurd k
Appends-kept_nil (Some x) (Some y) k = k ∙ sym (append-nil x)

module _ {W : Type 0} {contents : W → Option (List ℕ)} where
  -- nothing is written
  pub took-none : (s : Out W) → Took contents s s []
  took-none s = let fits = s.countable in record { held = Appends-nil _; counted = omega arith; unflushed = refl }

  -- an empty text is written
  pub all-none : (s : Out W) → TookAll contents s s []
  all-none s = record { took = took-none s; as_before = refl }

  -- a call that wrote nothing
  pub took-kept : {old new : Out W} → Keeps (contents old.inner) (contents new.inner) → new.taken ≡ old.taken → new.flushes ≡ old.flushes
      → Took contents old new []
  took-kept {old} k e f = let fits = old.countable in record { held = Appends-kept_nil _ _ k; counted = omega arith; unflushed = f }

  -- a flush that succeeded
  pub flushed-kept : {old new : Out W} → Keeps (contents old.inner) (contents new.inner) → new.taken ≡ old.taken
      → new.flushes ≡ saturated (old.flushes + 1) → new.failures ≡ old.failures → TookFlushed contents old new []
  flushed-kept {old} k e f g =
      let fits = old.countable in record { held = Appends-kept_nil _ _ k; counted = omega arith; flushed = f; as_before = g }

  pub took-then : {old mid new : Out W} {a b : List ℕ} → Took contents old mid a → Took contents mid new b → Took contents old new (a ++ b)
  took-then {a} {b} s t = record {
    held = Appends-trans _ _ _ _ _ s.held t.held;
    counted = let e = length-append a b in let f = s.counted in let g = t.counted in omega (arith, e, f, g);
    unflushed = t.unflushed ∙ s.unflushed;
  }

  -- one more piece of the bytes, after the first k
  pub took-more : {old mid new : Out W} (bytes : List ℕ) (k n : ℕ) → n ≤ length bytes - k
      → Took contents old mid (take k bytes) → Took contents mid new (take n (take (length bytes - k) (drop k bytes)))
      → Took contents old new (take (k + n) bytes)
  took-more {old} {mid} {new} bytes k n fits s t =
      let joined = ap (λ l. take k bytes ++ l) (take-take n (length bytes - k) (drop k bytes) fits) ∙ sym (take-add k n bytes) in
      subst (λ l. Took contents old new l) joined (took-then s t)

  -- a failure after the first k bytes
  pub front-at : {old mid new : Out W} (bytes : List ℕ) (k : ℕ) → Took contents old mid (take k bytes) → Took contents mid new []
      → new.failures ≡ saturated (old.failures + 1) → TookFront contents old new bytes
  front-at {old} {mid} {new} bytes k s t e = record {
    front = take k bytes;
    rest = drop k bytes;
    parts = take-append-drop k bytes;
    took = subst (λ l. Took contents old new l) (append-nil (take k bytes)) (took-then s t);
    failed = e;
  }

  -- two texts, both written whole
  pub all-then : {old mid new : Out W} {a b : List ℕ} → TookAll contents old mid a → TookAll contents mid new b → TookAll contents old new (a ++ b)
  all-then s t = record { took = took-then s.took t.took; as_before = t.as_before ∙ s.as_before }

  -- a text written whole, and then a prefix of the next
  pub front-then : {old mid new : Out W} {a b : List ℕ} → TookAll contents old mid a → TookFront contents mid new b → TookFront contents old new (a ++ b)
  front-then {a = a} s t = record {
    front = a ++ t.front;
    rest = t.rest;
    parts = append_assoc a t.front t.rest ∙ ap (λ l. a ++ l) t.parts;
    took = took-then s.took t.took;
    failed = t.failed ∙ ap (λ n. saturated (n + 1)) s.as_before;
  }

  -- a prefix of a text is a prefix of each longer text
  pub front-longer : {old new : Out W} {a : List ℕ} (b : List ℕ) → TookFront contents old new a → TookFront contents old new (a ++ b)
  front-longer b s = record {
    front = s.front;
    rest = s.rest ++ b;
    parts = sym (append_assoc s.front s.rest b) ∙ ap (λ l. l ++ b) s.parts;
    took = s.took;
    failed = s.failed;
  }

  -- the call that ends a function
  pub writes-then : {old mid : Out W} {a : List ℕ} (new : Out W) (b : List ℕ) (r : Result (Unit {0}) Device) → TookAll contents old mid a
      → Writes contents mid new r b → Writes contents old new r (a ++ b)
  writes-then new b (Ok x) s t = all-then s t
  writes-then new b (Err x) s t = front-then s t

  -- a text written whole, and then one that is flushed too
  pub flushed-then : {old mid new : Out W} {a b : List ℕ} → TookAll contents old mid a → TookFlushed contents mid new b
      → TookFlushed contents old new (a ++ b)
  flushed-then {a} {b} s t = record {
    held = Appends-trans _ _ _ _ _ s.took.held t.held;
    counted = let e = length-append a b in let f = s.took.counted in let g = t.counted in omega (arith, e, f, g);
    flushed = t.flushed ∙ ap (λ n. saturated (n + 1)) s.took.unflushed;
    as_before = t.as_before ∙ s.as_before;
  }

  -- the call that ends a function and flushes
  pub flushes-then : {old mid : Out W} {a : List ℕ} (new : Out W) (b : List ℕ) (r : Result (Unit {0}) Device) → TookAll contents old mid a
      → WritesAndFlushes contents mid new r b → WritesAndFlushes contents old new r (a ++ b)
  flushes-then new b (Ok x) s t = flushed-then s t
  flushes-then new b (Err x) s t = front-then s t

  -- the flush that ends a function
  pub flushes-last : {old mid : Out W} {a : List ℕ} (new : Out W) (r : Result (Unit {0}) Device) → TookAll contents old mid a
      → WritesAndFlushes contents mid new r [] → WritesAndFlushes contents old new r a
  flushes-last {old = old} {a = a} new r s t =
      subst (λ (l : List ℕ). WritesAndFlushes contents old new r l) (append-nil a) (flushes-then new [] r s t)

  pub err-flushes : {old new : Out W} {text : List ℕ} (r : Result (Unit {0}) Device) → IsErr r → TookFront contents old new text
      → WritesAndFlushes contents old new r text
  err-flushes (Ok x) e s = cc
  err-flushes (Err x) e s = s

  -- the call that failed ends a function
  pub err-front : {old new : Out W} {text : List ℕ} (r : Result (Unit {0}) Device) → IsErr r → TookFront contents old new text → Writes contents old new r text
  err-front (Ok x) e s = cc
  err-front (Err x) e s = s

  -- the call that failed after all of a text, before the rest of it
  pub err-then : {old mid new : Out W} {a b : List ℕ} (r : Result (Unit {0}) Device) → IsErr r → TookAll contents old mid a
      → TookFront contents mid new b → Writes contents old new r (a ++ b)
  err-then r e s t = err-front r e (front-then s t)

  pub err-then-more : {old mid new : Out W} {a b : List ℕ} (r : Result (Unit {0}) Device) (more : List ℕ) → IsErr r → TookAll contents old mid a
      → TookFront contents mid new b → Writes contents old new r (a ++ b ++ more)
  err-then-more r more e s t = err-front r e (front-longer more (front-then s t))

  -- the same text, written another way
  pub all-is : {old new : Out W} {a b : List ℕ} → TookAll contents old new a → a ≡ b → TookAll contents old new b
  all-is {old} {new} s e = subst (λ l. TookAll contents old new l) e s

  pub front-is : {old new : Out W} {a b : List ℕ} → TookFront contents old new a → a ≡ b → TookFront contents old new b
  front-is {old} {new} s e = subst (λ l. TookFront contents old new l) e s

  pub flushed-is : {old new : Out W} {a b : List ℕ} → TookFlushed contents old new a → a ≡ b → TookFlushed contents old new b
  flushed-is {old} {new} s e = subst (λ l. TookFlushed contents old new l) e s

pub writes-is : {W : Type 0} (contents : W → Option (List ℕ)) (old new : Out W) (a b : List ℕ) (r : Result (Unit {0}) Device)
    → Writes contents old new r a → a ≡ b → Writes contents old new r b
writes-is contents old new a b r s e = subst (λ l. Writes contents old new r l) e s
