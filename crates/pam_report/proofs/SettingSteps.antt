-- A known stack with settings.
use Rattle.std.proofs.Common.{◌≡◌, ◌∙◌, ℕ, Bool, true, false, List, Option, Result, Ok, Err, ap, sym, unwrap_or}
use Rattle.std.specs.Prelude.{if◌then◌else◌}
use Rattle.std.specs.List.{list_all}
use Rattle.pam_conf.specs.Files.{Folder}
use Rattle.pam_conf.specs.Stack.{Items, module_count}
use Rattle.pam_facts.specs.Answers.{Allows}
use Rattle.pam_facts.specs.Missing.{where_there}
use Rattle.pam_paths.specs.declared.knowledge.Known.{Known}
use Rattle.pam_report.specs.inner.Known.{AreCodesOf}
use Rattle.pam_report.specs.KnownStack.{KnownItems}
use Rattle.pam_report.specs.Settings.{names_one, set_at, with_settings}
use Rattle.pam_report.specs.declared.fault.Fault.{Fault}
use Rattle.pam_report.specs.declared.fault.Fault.TheVariants as faults
use Rattle.pam_facts.specs.settings.Settings.{SettingText}

module _ (files : Folder) (there : Option (List (List ℕ))) (settings : List SettingText) (items : Items) (known : Known) (told : Result KnownItems Fault)
    (found : AreCodesOf items known told) where
  abbrev codes_with : ℕ → List ℕ
  codes_with = where_there there items (λ number. unwrap_or (set_at files settings items number) (found.codes number))

  abbrev settled_if : Bool → Result KnownItems Fault
  settled_if named = if named then Ok (record { items = items; codes = codes_with }) else Err faults.NoSuchKey

  settled-is : with_settings files there settings told ≡ settled_if (list_all (names_one files items) settings)
  settled-is = ap (with_settings files there settings) found.told_is

  -- a key names no module
  pub not-named : false ≡ list_all (names_one files items) settings → with_settings files there settings told ≡ Err faults.NoSuchKey
  not-named e = settled-is ∙ ap settled_if (sym e)

  -- the codes that are set, where each key names a module
  pub settled : (new : Known) → true ≡ list_all (names_one files items) settings → Allows (module_count items) new codes_with
      → AreCodesOf items new (with_settings files there settings told)
  settled new e allows = record { codes = codes_with; told_is = settled-is ∙ ap settled_if (sym e); agree = allows }
