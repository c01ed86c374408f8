-- S1 and S2 of files by themselves.
use Rattle.std.proofs.Common.{◌≡◌, ◌⊎◌, ◌↔◌, ◌∙◌, ℕ, Bool, true, false, List, IsSome, Option, Some, None, Result, Ok, ap, inl, inr, refl, slice_get, subst, sym}
use Rattle.std.proofs.lemmas.Bool.{false≢true}
use Rattle.std.specs.Option.{option_map}
use Rattle.pam_conf.specs.Files.{Folder}
use Rattle.pam_conf.specs.Laws.{IsSound, StackIsSoundSurvey}
use Rattle.pam_conf.specs.Resolution.{resolved}
use Rattle.pam_conf.specs.Stack.{Items, module_count}
use Rattle.pam_conf.specs.Survey.{SurveyText, surveyed}
use Rattle.pam_conf.specs.declared.conf_error.ConfError.{ConfError}
use Rattle.pam_conf.specs.declared.rule.Kind.{Kind}
use Rattle.pam_conf.specs.declared.rule.Kind.TheVariants.{Auth}
use Rattle.pam_facts.specs.Answers.{Allows}
use Rattle.pam_paths.specs.Known.{may_answer}
use Rattle.pam_paths.specs.Paths.{PathValue}
use Rattle.pam_paths.specs.declared.knowledge.Known.{Known}
use Rattle.pam_findings.specs.stack.Soundness.{HasTooManyPlaces, LetsIn, LetsNobodyIn, SaysNobody, SaysWayIn}
use Rattle.pam_findings.proofs.StackProofs.WaysIn.{path-decides}
use Rattle.pam_findings.specs.host.Modules.{Modules}
use Rattle.pam_findings.specs.host.Verdicts.{HasName, IsFailing, IsFree, IsOpen, IsOwnStack, IsTooLargeAlone, LetsAnybodyAlone, LetsNobodyAlone}
use Rattle.pam_findings.specs.host.inner.Alone.{IsAlone, Says, SaysOwnStack}
use Rattle.pam_findings.specs.declared.host.alone.Alone.{Alone}
use Rattle.pam_findings.specs.declared.host.alone.Whole.{Whole}
use Rattle.pam_findings.specs.declared.host.alone.Whole.TheVariants.{Anybody, Nobody}

-- THE OWN STACK OF A FILE

same-some : {X : Type 0} (x y : X) → (let one : Option X = Some x in one ≡ Some y) → x ≡ y
same-some x y e = cc

same-ok : (x y : Items) → (let one : Result Items ConfError = Ok x in one ≡ Ok y) → x ≡ y
same-ok x y e = cc

module _ (folder : Folder) (kind : Kind) (file : ℕ) (name : List ℕ) (is_name : HasName folder file name) (survey : SurveyText)
    (is : survey ≡ surveyed folder name kind) (law : StackIsSoundSurvey) where
  record IsOwn (items : Items) : Type 0 where
    own : survey.other_answers ≡ false
    begins : slice_get survey.reached 0 ≡ Some file
    there : survey.items ≡ Some items
    sound : IsSound folder survey

  parts : (items : Items) → IsOwnStack folder kind file items → IsOwn items
  parts items h =
      let same : surveyed folder h.name kind ≡ survey = ap (λ n. surveyed folder n kind) (same-some h.name name (sym h.is_name ∙ is_name)) ∙ sym is in
      let k = (law folder h.name kind items).0 h.stack in
      record {
        own = sym (ap (λ (s : SurveyText). s.other_answers) same) ∙ h.own;
        begins = sym (ap (λ (s : SurveyText). slice_get s.reached 0) same) ∙ h.begins;
        there = sym (ap (λ (s : SurveyText). s.items) same) ∙ k.0;
        sound = subst (IsSound folder) same k.1;
      }

  pub not-own : (survey.other_answers ≡ false → slice_get survey.reached 0 ≡ Some file → IsSound folder survey → ⊥) → SaysOwnStack folder kind file None
  not-own none items h = let k = parts items h in none k.own k.begins k.sound

  pub own : survey.other_answers ≡ false → slice_get survey.reached 0 ≡ Some file → IsSound folder survey → (o : Option Items) →
      survey.items ≡ o → SaysOwnStack folder kind file o
  own mine begins sound None there = λ items h. let clash : Some items ≡ None = sym (parts items h).there ∙ there in cc
  own mine begins sound (Some items) there = record {
    name = name;
    is_name = is_name;
    own = sym (ap (λ (s : SurveyText). s.other_answers) is) ∙ mine;
    begins = sym (ap (λ (s : SurveyText). slice_get s.reached 0) is) ∙ begins;
    stack = (law folder name kind items).1 (sym (ap (λ (s : SurveyText). s.items) is) ∙ there, subst (IsSound folder) is sound);
  }

-- where the file has no name
pub nameless : (folder : Folder) (kind : Kind) (file : ℕ) → option_map (λ f. f.0) (slice_get folder.entries file) ≡ None →
    SaysOwnStack folder kind file None
nameless folder kind file none items h = let clash : Some h.name ≡ None = sym h.is_name ∙ none in cc

-- WHAT IS SAID OF IT

-- who is let in depends on what is allowed alone
same-let : (items : Items) (one other : Known) (codes : ℕ → List ℕ) → Allows (module_count items) one codes → Allows (module_count items) other codes →
    LetsIn (may_answer one) items → LetsIn (may_answer other) items
same-let items one other codes a b x = record {
  answers = x.answers;
  allowed = λ m from to.
      let h = x.allowed m from to in
      (h.0, b m (x.answers m) from to h.0 ∙ sym (a m (x.answers m) from to h.0) ∙ h.1);
  decides = x.decides;
}

abbrev pub said : ℕ → Kind → Bool → Bool → Alone
said file kind nobody anybody = record { file = file; kind = kind; lets_nobody_in = nobody; lets_anybody_in = anybody }

module _ (folder : Folder) (modules : Modules) (kind : Kind) (file : ℕ) where
  pub alone-none : SaysOwnStack folder kind file None → IsAlone folder modules (said file kind false false)
  alone-none none Nobody = inl (λ h. none h.items h.own)
  alone-none none Anybody = inl (λ h. none h.items h.own)

  module _ (items : Items) (mine : IsOwnStack folder kind file items) (free failing : Known) (is_free : IsFree modules kind items free)
      (is_failing : IsFailing modules kind items failing) where
    too-large : HasTooManyPlaces (may_answer free) items ⊎ HasTooManyPlaces (may_answer failing) items → IsTooLargeAlone folder modules kind file
    too-large large = record {
      name = mine.name;
      is_name = mine.is_name;
      large = record {
        items = items;
        free = free;
        failing = failing;
        stack = mine.stack;
        is_free = is_free;
        is_failing = is_failing;
        large = large;
      };
    }

    pub alone-large : HasTooManyPlaces (may_answer free) items ⊎ HasTooManyPlaces (may_answer failing) items →
        IsAlone folder modules (said file kind false false)
    alone-large large Nobody = inr (too-large large)
    alone-large large Anybody = inr (too-large large)

    -- the file has one stack of its own
    one-stack : (others : Items) → IsOwnStack folder kind file others → others ≡ items
    one-stack others h =
        let same : resolved folder h.name kind ≡ resolved folder mine.name kind =
        ap (λ n. resolved folder n kind) (same-some h.name mine.name (sym h.is_name ∙ mine.is_name)) in
        same-ok others items (sym h.stack ∙ same ∙ mine.stack)

    nobody-clash : LetsIn (may_answer free) items → LetsNobodyAlone folder modules kind file → ⊥
    nobody-clash lets h =
        let Is : Items → Type 0 = λ l. IsFree modules kind l h.free × LetsNobodyIn (may_answer h.free) l in
        let k = subst Is (one-stack h.items h.own) (h.is_free, h.nobody) in
        k.1 (same-let items free h.free _ is_free k.0 lets)

    anybody-clash : LetsNobodyIn (may_answer failing) items → LetsAnybodyAlone folder modules kind file → ⊥
    anybody-clash none h =
        let Is : Items → Type 0 = λ l. IsFailing modules kind l h.failing × LetsIn (may_answer h.failing) l in
        let k = subst Is (one-stack h.items h.own) (h.is_failing, h.anybody) in
        none (same-let items h.failing failing _ k.0 is_failing k.1)

    says-nobody-alone : (b nobody : Bool) → (b ≡ true → (nobody ≡ true) × IsOpen kind items) → (b ≡ false → nobody ≡ true → IsOpen kind items → ⊥) →
        SaysNobody (may_answer free) items nobody → Says folder modules kind Nobody file b
    says-nobody-alone true nobody y n says =
        let k = y refl in
        record {
          items = items;
          own = mine;
          free = free;
          is_free = is_free;
          nobody = subst (SaysNobody (may_answer free) items) k.0 says;
          is_open = k.1;
        }
    says-nobody-alone false true y n says =
        inl (λ h. n refl refl (subst (IsOpen kind) (one-stack h.items h.own) h.is_open))
    says-nobody-alone false false y n says = inl (nobody-clash says)

    says-anybody-alone : (b : Bool) (way : Option PathValue) → (b ≡ true → (kind ≡ Auth) × IsSome way) → (b ≡ false → kind ≡ Auth → IsSome way → ⊥) →
        SaysWayIn (may_answer failing) items way → Says folder modules kind Anybody file b
    says-anybody-alone true None y n says = absurd (false≢true (y refl).1)
    says-anybody-alone true (Some path) y n says = record {
      auth = (y refl).0;
      items = items;
      own = mine;
      failing = failing;
      is_failing = is_failing;
      anybody = record {
        answers = says.way.0;
        allowed = says.way.1;
        decides = sym (path-decides items says.way.0) ∙ sym (ap (λ (p : PathValue). p.decision) says.way.2) ∙ says.decides;
      };
    }
    says-anybody-alone false None y n says = inl (anybody-clash says)
    says-anybody-alone false (Some path) y n says = inl (λ h. n refl h.auth refl)

    pub alone-judged : (nobody anybody judged : Bool) (way : Option PathValue) →
        (nobody ≡ true → (judged ≡ true) × IsOpen kind items) → (nobody ≡ false → judged ≡ true → IsOpen kind items → ⊥) →
        (anybody ≡ true → (kind ≡ Auth) × IsSome way) → (anybody ≡ false → kind ≡ Auth → IsSome way → ⊥) →
        SaysNobody (may_answer free) items judged → SaysWayIn (may_answer failing) items way →
        IsAlone folder modules (said file kind nobody anybody)
    alone-judged nobody anybody judged way y n y' n' says says' Nobody = says-nobody-alone nobody judged y n says
    alone-judged nobody anybody judged way y n y' n' says says' Anybody = says-anybody-alone anybody way y' n' says'
