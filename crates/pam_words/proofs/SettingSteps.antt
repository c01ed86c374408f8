-- Settings, one text after another.
use Rattle.std.proofs.Common.{◌≡◌, ◌∙◌, ◌+◌, ◌++◌, ℕ, Bool, true, false, List, [], ◌∷◌, None, Some, Result, Ok, Err, Vec, ap, arith, cond, eqb}
use Rattle.std.proofs.Common.{length, map, not, refl, sym}
use Rattle.std.specs.List.{after_first, before_first, list_any, position_or_len}
use Rattle.std.specs.Global.{Global}
use Rattle.pam_facts.specs.settings.Settings.{SettingText, setting_view}
use Rattle.pam_facts.specs.declared.settings.setting.Setting.{Setting}
use Rattle.pam_words.specs.Asked.{Refusal}
use Rattle.pam_words.specs.Asked as spec
use Rattle.clap.specs.Lexer.{name_and_value}
use Rattle.clap.specs.Words.{Text}
use Rattle.pam_words.specs.Settings.{before, key_if_any, key_in}
use Rattle.pam_words.specs.Wanted.{Gives}
use Rattle.pam_words.specs.declared.wanted.Usage.{Usage}
use Rattle.pam_words.specs.declared.wanted.Usage.TheVariants as usage

-- settings, and then the others, or their refusal
abbrev pub onto : List SettingText → Result (List SettingText) Refusal → Result (List SettingText) Refusal
onto front (Ok rest) = Ok (front ++ rest)
onto front (Err refusal) = Err refusal

-- a text that is refused refuses all
module _ (front : List SettingText) (one : Result SettingText Refusal) (rest all : Result (List SettingText) Refusal)
    (same : onto front (before one rest) ≡ all) where
  refused : (refusal : Refusal) → one ≡ Err refusal → all ≡ Err refusal
  refused refusal e = sym same ∙ ap (λ (r : Result SettingText Refusal). onto front (before r rest)) e

  pub one-refused : (u : Usage) → Gives setting_view one (Err u) → Gives (λ (v : Vec Setting Global). map setting_view v.items) all (Err u)
  one-refused usage.Source h = refused spec.source h
  one-refused usage.KindName h = refused spec.kind_name h
  one-refused usage.CodeName h = refused spec.code_name h
  one-refused usage.FormatName h = refused spec.format_name h
  one-refused usage.AnswersName h = refused spec.answers_name h
  one-refused usage.LevelName h = refused spec.level_name h
  one-refused usage.Login h = refused spec.login h
  one-refused usage.Moment h = refused spec.moment h
  one-refused usage.BothEnds h = refused spec.both_ends h
  one-refused usage.BothFilters h = refused spec.both_filters h
  one-refused usage.ReleaseForm h = refused spec.release_form h
  one-refused usage.CandidateForm h = refused spec.candidate_form h
  one-refused usage.SettingForm h = refused spec.setting_form h
  one-refused usage.Memory h = tt
  one-refused (usage.Help error) h = absurd h
  one-refused (usage.Words error) h = absurd h
  one-refused usage.NotUtf8 h = absurd h

abbrev is_sign : ℕ → Bool
is_sign b = eqb b 61

none_at : (text : Text) → position_or_len is_sign text ≡ length text → list_any is_sign text ≡ false
none_at [] e = refl
none_at (b ∷ bs) e =
    elim (eqb b 61) as (λ (t : Bool). eqb b 61 ≡ t → list_any is_sign (b ∷ bs) ≡ false) [
      | true ↦ λ h.
          let none : 0 ≡ length (b ∷ bs) = ap (λ (t : Bool). cond (not t) (1 + position_or_len is_sign bs) 0) (sym h) ∙ e in
          absurd (omega (arith, none))
      | false ↦ λ h.
          let more : 1 + position_or_len is_sign bs ≡ length (b ∷ bs) = ap (λ (t : Bool). cond (not t) (1 + position_or_len is_sign bs) 0) (sym h) ∙ e in
          rw h (none_at bs (omega (arith, more)))
    ] refl

-- a text without `=` has no key
pub no-sign : (text : Text) → position_or_len is_sign text ≡ length text → None ≡ key_in (name_and_value text)
no-sign text e =
    ap (λ (t : Bool). key_if_any (before_first is_sign text) (cond t (Some (after_first is_sign text)) None)) (sym (none_at text e))
