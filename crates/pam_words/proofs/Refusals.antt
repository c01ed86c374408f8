-- Results of `clap`, and the refusals for them.
use Rattle.std.proofs.Common.{◌≡◌, [], List, Option, Some, None, Result, Err, subst, sym, inl, inr, ◌∙◌}
use Rattle.std.specs.Prelude.{MatchOption}
use Rattle.clap.specs.Words.{Row, Text, HasKind, IsAmong, Kinds, kind_of}
use Rattle.clap.specs.declared.Error.{Error}
use Rattle.clap.specs.declared.error.ErrorKind.{ErrorKind}
use Rattle.clap.specs.declared.error.ErrorKind.TheVariants.{OutOfMemory}
use Rattle.pam_words.specs.Asked.{Refusal, RequestText}
use Rattle.pam_words.specs.Request.{request_of}
use Rattle.pam_words.specs.Wanted.{Answers, IsHelp, IsRead, IsRefusal, Reads, RefusesBy}
use Rattle.pam_words.specs.inner.Wanted.{IsRefusalOf}
use Rattle.pam_words.specs.declared.wanted.Request.{Request}
use Rattle.pam_words.specs.declared.wanted.Usage.{Usage}
use Rattle.pam_words.specs.declared.wanted.Usage.TheVariants as usage

pub answers-clean : (kinds : Kinds) (asked : Result RequestText Refusal) (r : Result Request Usage) → Answers asked r → kinds ≡ [] → RefusesBy kinds r
answers-clean kinds asked (Err usage.Memory) h e = tt
answers-clean kinds asked (Err (usage.Help error)) h e = absurd h
answers-clean kinds asked (Err (usage.Words error)) h e = absurd h
answers-clean kinds asked (Err usage.NotUtf8) h e = absurd h
answers-clean kinds asked _ h e = e

pub answers-reads : (asked : Result RequestText Refusal) (r : Result Request Usage) → Answers asked r → Reads asked r
answers-reads asked (Err usage.Memory) h = tt
answers-reads asked (Err (usage.Help error)) h = tt
answers-reads asked (Err (usage.Words error)) h = tt
answers-reads asked _ h = h

among : (kinds : Kinds) (k : ErrorKind) (error : Error) → k ≡ kind_of error → IsAmong (kind_of error) kinds → IsAmong k kinds
among kinds k error e h = subst (λ (x : ErrorKind). IsAmong x kinds) (sym e) h

-- a failed allocation is no help
no-help : (kind : ErrorKind) → IsHelp kind → kind ≡ OutOfMemory → ⊥
no-help kind (inl help) m = cc
no-help kind (inr version) m = cc

pub refused-by : (kinds : Kinds) (error : Error) (u : Usage) → IsRefusalOf error u → HasKind kinds error → RefusesBy kinds (Err u)
refused-by kinds error usage.Memory h k = tt
refused-by kinds error (usage.Help e) h (inl m) = absurd (no-help _ h.1 (h.0 ∙ m))
refused-by kinds error (usage.Help e) h (inr k) = (among kinds _ error h.0 k, h.1)
refused-by kinds error (usage.Words e) h (inl m) = absurd (h.2 (h.0 ∙ m))
refused-by kinds error (usage.Words e) h (inr k) = (among kinds _ error h.0 k, h.1)
refused-by kinds error _ h k = absurd h

pub answers-read : (asked : Result RequestText Refusal) (r : Result Request Usage) → Answers asked r → IsRead r
answers-read asked (Err (usage.Help error)) h = absurd h
answers-read asked (Err (usage.Words error)) h = absurd h
answers-read asked (Err usage.NotUtf8) h = absurd h
answers-read asked _ h = tt

-- if `clap` accepts the words, it fails only for an allocation
pub refused-read : (error : Error) (u : Usage) → IsRefusalOf error u → kind_of error ≡ OutOfMemory → IsRead (Err u)
refused-read error usage.Memory h m = tt
refused-read error (usage.Help e) h m = absurd (no-help _ h.1 (h.0 ∙ m))
refused-read error (usage.Words e) h m = absurd (h.2 (h.0 ∙ m))
refused-read error _ h m = absurd h

pub refused-reads : (o : Option (Text × List Row)) (error : Error) (u : Usage) → IsRefusalOf error u
    → MatchOption o (IsRefusal (Err u)) (λ p. Reads (request_of p.0 p.1) (Err u))
refused-reads None error usage.Memory h = tt
refused-reads None error (usage.Help e) h = tt
refused-reads None error (usage.Words e) h = tt
refused-reads (Some p) error usage.Memory h = tt
refused-reads (Some p) error (usage.Help e) h = tt
refused-reads (Some p) error (usage.Words e) h = tt
refused-reads o error _ h = absurd h
