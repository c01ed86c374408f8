-- Jumps that land inside what an include brought in.
use Rattle.std.proofs.Common.{◌≡◌, ℕ, ◌+◌, ◌<◌, ◌≤◌, ◌&&◌, ◌||◌, Bool, true, false, not, cond, List, [], ◌∷◌, ◌++◌, drop, get_or, length, map}
use Rattle.std.proofs.Common.{append-nil, append_assoc, suc, zero, refl, sym, ◌∙◌, ap, subst, inl, inr, arith, Some, slice_get}
use Rattle.std.specs.List.{list_any, range_with_len}
use Rattle.std.proofs.lemmas.Bool.{cases_eq}
use Rattle.std.proofs.lemmas.List.{drop_all, drop_more}
use Rattle.std.proofs.Common.{◌-◌, Bor}
use Rattle.std.specs.Option.{option_map, option_map_or}
use Rattle.std.specs.Slice.{IsItemAt}
use Rattle.std.proofs.lemmas.Option.{get_or_from_slice_get, slice_get-map, slice_get_read}
use Rattle.pam_codes.specs.Code.{all_codes}
use Rattle.pam_codes.specs.declared.action.Action.{Action}
use Rattle.pam_codes.specs.declared.action.Action.TheVariants.{Ignore}
use Rattle.pam_findings.proofs.StackProofs.WaysIn.{passing-any}
use Rattle.pam_conf.specs.Files.{Folder}
use Rattle.pam_conf.specs.Laws.{IsSound}
use Rattle.pam_conf.specs.Listed.{ListedText, listed}
use Rattle.pam_conf.specs.ListedText.{listed_text}
use Rattle.pam_conf.specs.Survey.{surveyed}
use Rattle.pam_conf.specs.declared.listed.Listed.{Listed}
use Rattle.pam_conf.specs.declared.rule.Form.TheVariants.{Dir}
use Rattle.pam_conf.specs.declared.rule.Kind.{Kind}
use Rattle.pam_conf.specs.declared.walk.Location.{Location}
use Rattle.pam_dispatch.specs.State.{action_of}
use Rattle.pam_text.specs.Members.{Member}
use Rattle.pam_paths.proofs.Alike.{Member-codes}
use Rattle.pam_findings.specs.host.Inside.{HasJumpInside, action_lands, begins_by, control_lands, is_inside, item_lands, jumping, lands_inside, share_other}
use Rattle.pam_findings.specs.host.inner.Insides.{jump_spot, jumps_from, jumps_from_all}
use Rattle.pam_findings.specs.host.inner.Table.{Adds}
use Rattle.pam_findings.specs.declared.host.problem.Spot.{Spot}
use Rattle.pam_findings.proofs.HostProofs.Adding.{adds-iff, adds-list}
use Rattle.pam_findings.proofs.HostProofs.Owned.{from_flat, from_map, to_flat, to_map}
use Rattle.pam_findings.proofs.HostProofs.Verdicted.{same-spot}

-- THE INCLUDES OF THREE ITEMS

drop-next : {X : Type 0} (n : ℕ) (xs : List X) → drop 1 (drop n xs) ≡ drop (n + 1) xs
drop-next zero xs = refl
drop-next (suc n) [] = let next : suc n + 1 ≡ suc (n + 1) = omega arith in ap (λ (k : ℕ). drop k []) (sym next)
drop-next (suc n) (x ∷ xs) = let next : suc n + 1 ≡ suc (n + 1) = omega arith in drop-next n xs ∙ ap (λ (k : ℕ). drop k (x ∷ xs)) (sym next)

module _ (before after own : List Location) where
  abbrev pub from : ℕ → Bool
  from n = share_other (drop n before) (drop n after) (drop n own)

  step : (n : ℕ) (b : Location) → n < length before → b ≡ get_or before n b →
      from n ≡ (begins_by b (drop n after) && (not (begins_by b (drop n own)) || from (n + 1)))
  step n b within is =
      let front : drop n before ≡ b ∷ drop (n + 1) before = drop_more before n b within ∙ ap (λ (x : Location). x ∷ drop (n + 1) before) (sym is) in
      ap (λ (l : List Location). share_other l (drop n after) (drop n own)) front
      ∙ ap (λ (l : List Location). begins_by b (drop n after) && (not (begins_by b (drop n own)) || share_other (drop (n + 1) before) l (drop 1 (drop n own))))
      (drop-next n after)
      ∙ ap (λ (l : List Location). begins_by b (drop n after) && (not (begins_by b (drop n own)) || share_other (drop (n + 1) before) (drop (n + 1) after) l))
      (drop-next n own)

  pub share-apart : (n : ℕ) (b : Location) → n < length before → b ≡ get_or before n b → begins_by b (drop n after) ≡ false → from n ≡ false
  share-apart n b within is apart =
      step n b within is ∙ ap (λ t. t && (not (begins_by b (drop n own)) || from (n + 1))) apart

  pub share-here : (n : ℕ) (b : Location) → n < length before → b ≡ get_or before n b → begins_by b (drop n after) ≡ true →
      begins_by b (drop n own) ≡ false → from n ≡ true
  share-here n b within is both apart =
      step n b within is ∙ ap (λ t. t && (not (begins_by b (drop n own)) || from (n + 1))) both ∙ ap (λ t. not t || from (n + 1)) apart

  pub share-later : (n : ℕ) (b : Location) → n < length before → b ≡ get_or before n b → begins_by b (drop n after) ≡ true →
      begins_by b (drop n own) ≡ true → from n ≡ from (n + 1)
  share-later n b within is both all =
      step n b within is ∙ ap (λ t. t && (not (begins_by b (drop n own)) || from (n + 1))) both ∙ ap (λ t. not t || from (n + 1)) all

  pub share-none : (n : ℕ) → length before ≤ n → from n ≡ false
  share-none n past = ap (λ (l : List Location). share_other l (drop n after) (drop n own)) (drop_all n before past)

-- THE ITEMS AROUND

item-at : (xs : List Listed) (n : ℕ) (found : Bor Listed) → IsItemAt xs n (Some found) → slice_get xs n ≡ Some found.now
item-at xs n found h = slice_get_read xs (length xs) n found.now refl h.3.0 h.1

lands-after : (own : Listed) (rest : List Listed) (over : ℕ) (after before : Listed) → slice_get rest over ≡ Some after →
    slice_get rest (over - 1) ≡ Some before → 1 ≤ over →
    lands_inside (listed_text own) (map listed_text rest) over ≡ share_other before.includes.items after.includes.items own.includes.items
lands-after own rest zero after before a b low = absurd (omega (arith, low))
lands-after own rest (suc n) after before a b low =
    let less : suc n - 1 ≡ n = omega arith in
    let there : slice_get (map listed_text rest) (suc n) ≡ Some (listed_text after) = slice_get-map listed_text rest (suc n) ∙ ap (option_map listed_text) a in
    let front : slice_get (map listed_text rest) n ≡ Some (listed_text before) =
    slice_get-map listed_text rest n ∙ ap (λ k. option_map listed_text (slice_get rest k)) (sym less) ∙ ap (option_map listed_text) b in
    ap (λ o. option_map_or (λ x. option_map_or (λ y. is_inside (listed_text own) y x) (slice_get (map listed_text rest) n) false) o false) there
    ∙ ap (λ o. option_map_or (λ y. is_inside (listed_text own) y (listed_text after)) o false) front

pub lands-over : (own : Listed) (rest : List Listed) (over : ℕ) (after before : Bor Listed) (b a o : List Location) → IsItemAt rest over (Some after) →
    IsItemAt rest (over - 1) (Some before) → 1 ≤ over → b ≡ before.now.includes.items → a ≡ after.now.includes.items → o ≡ own.includes.items →
    share_other b a o ≡ lands_inside (listed_text own) (map listed_text rest) over
lands-over own rest over after before b a o at_after at_before low is_b is_a is_o =
    let here = item-at rest over after at_after in
    let there = item-at rest (over - 1) before at_before in
    rw (is_b, is_a, is_o) (sym (lands-after own rest over after.now before.now here there low))

-- THE CODES OF A CONTROL

none-in : (test : ℕ → Bool) (a n : ℕ) → ((code : ℕ) → code < a + n → test code ≡ false) → list_any test (range_with_len a n) ≡ false
none-in test a zero h = refl
none-in test a (suc n) h =
    ap (λ (t : Bool). t || list_any test (range_with_len (a + 1) n)) (h a (omega arith))
    ∙ none-in test (a + 1) n (λ code l. h code (omega (arith, l)))

module _ (own : ListedText) (rest : List ListedText) (control : List Action) where
  abbrev pub lands-at : ℕ → Bool
  lands-at code = action_lands own rest (action_of control code)

  pub lands-by : (code : ℕ) (action : Action) (b : Bool) → slice_get control code ≡ Some action → action_lands own rest action ≡ b → lands-at code ≡ b
  lands-by code action b acts is = ap (action_lands own rest) (get_or_from_slice_get control code action Ignore acts) ∙ is

  pub lands-one : (code : ℕ) → code < 31 → lands-at code ≡ true → control_lands own rest control ≡ true
  unfolding all_codes
  lands-one code small lands = passing-any lands-at (range_with_len 0 31) code (Member-codes 0 31 code (omega arith) (omega (arith, small))) lands

  pub lands-none : ((code : ℕ) → code < 31 → lands-at code ≡ false) → control_lands own rest control ≡ false
  unfolding all_codes
  lands-none h = none-in lands-at 0 31 (λ code l. h code (omega (arith, l)))

  pub lands-more : (number code : ℕ) → ((k : ℕ) → k < number → lands-at k ≡ false) → lands-at number ≡ false → code < number + 1 → lands-at code ≡ false
  lands-more number code before here l = elim (cases_eq code number) [
    | inl e ↦ ap lands-at e ∙ here
    | inr ne ↦ before code (omega (arith, l, ne))
  ]

-- THE ITEMS OF A LIST

abbrev pub spots-of : List Listed → List Spot
spots-of items = map jump_spot (jumping (map listed_text items))

jump-step : (items : List Listed) (n : ℕ) (item : Listed) → n < length items → item ≡ get_or items n item → (b : Bool) →
    item_lands (listed_text item) (map listed_text (drop (n + 1) items)) ≡ b →
    spots-of (drop n items) ≡ cond b (jump_spot (listed_text item) ∷ spots-of (drop (n + 1) items)) (spots-of (drop (n + 1) items))
jump-step items n item within is b lands =
    let rest : List Listed = drop (n + 1) items in
    let front : drop n items ≡ item ∷ rest = drop_more items n item within ∙ ap (λ (x : Listed). x ∷ rest) (sym is) in
    ap spots-of front
    ∙ ap (λ t. map jump_spot (cond t (listed_text item ∷ jumping (map listed_text rest)) (jumping (map listed_text rest)))) lands
    ∙ both b
  where
    both : (b : Bool) →
        map jump_spot (cond b (listed_text item ∷ jumping (map listed_text (drop (n + 1) items))) (jumping (map listed_text (drop (n + 1) items))))
        ≡ cond b (jump_spot (listed_text item) ∷ spots-of (drop (n + 1) items)) (spots-of (drop (n + 1) items))
    both true = refl
    both false = refl

module _ (items : List Listed) (n : ℕ) (item : Listed) (within : n < length items) (is : item ≡ get_or items n item) where
  pub jump-here : (old new goal : List Spot) → item_lands (listed_text item) (map listed_text (drop (n + 1) items)) ≡ true →
      new ≡ old ++ jump_spot (listed_text item) ∷ [] → old ++ spots-of (drop n items) ≡ goal → new ++ spots-of (drop (n + 1) items) ≡ goal
  jump-here old new goal lands pushed so_far =
      ap (λ l. l ++ spots-of (drop (n + 1) items)) pushed
      ∙ append_assoc old (jump_spot (listed_text item) ∷ []) (spots-of (drop (n + 1) items))
      ∙ ap (λ l. old ++ l) (sym (jump-step items n item within is true lands))
      ∙ so_far

  pub jump-not : (old goal : List Spot) → item_lands (listed_text item) (map listed_text (drop (n + 1) items)) ≡ false →
      old ++ spots-of (drop n items) ≡ goal → old ++ spots-of (drop (n + 1) items) ≡ goal
  jump-not old goal lands so_far = ap (λ l. old ++ l) (sym (jump-step items n item within is false lands)) ∙ so_far

pub jump-end : (items : List Listed) (n : ℕ) (spots goal : List Spot) → length items ≤ n → spots ++ spots-of (drop n items) ≡ goal → spots ≡ goal
jump-end items n spots goal past so_far =
    sym (append-nil spots) ∙ ap (λ (l : List Listed). spots ++ spots-of l) (sym (drop_all n items past)) ∙ so_far

-- SEVERAL FILES

module _ (folder : Folder) (kind : Kind) (files : List ℕ) where
  pub files-next : (n file : ℕ) (old new : List Spot) → n < length files → file ≡ get_or files n file → new ≡ old ++ jumps_from folder kind file →
      old ++ jumps_from_all folder kind (drop n files) ≡ jumps_from_all folder kind files →
      new ++ jumps_from_all folder kind (drop (n + 1) files) ≡ jumps_from_all folder kind files
  files-next n file old new within is pushed so_far =
      let rest : List ℕ = drop (n + 1) files in
      let front : drop n files ≡ file ∷ rest = drop_more files n file within ∙ ap (λ (x : ℕ). x ∷ rest) (sym is) in
      ap (λ l. l ++ jumps_from_all folder kind rest) pushed
      ∙ append_assoc old (jumps_from folder kind file) (jumps_from_all folder kind rest)
      ∙ ap (λ (l : List ℕ). old ++ jumps_from_all folder kind l) (sym front)
      ∙ so_far

  pub files-end : (n : ℕ) (spots : List Spot) → length files ≤ n →
      spots ++ jumps_from_all folder kind (drop n files) ≡ jumps_from_all folder kind files → spots ≡ jumps_from_all folder kind files
  files-end n spots past so_far =
      sym (append-nil spots) ∙ ap (λ (l : List ℕ). spots ++ jumps_from_all folder kind l) (sym (drop_all n files past)) ∙ so_far

-- S12 OF A STACK

pub adds-jumps : (folder : Folder) (name : List ℕ) (kind : Kind) (spots : List Spot) → folder.form ≡ Dir → IsSound folder (surveyed folder name kind) →
    spots ≡ jumps_from_all folder kind (surveyed folder name kind).reached → Adds (HasJumpInside folder name kind) [] spots
adds-jumps folder name kind spots form sound is =
    let files : List ℕ = (surveyed folder name kind).reached in
    adds-iff (λ spot. Member spot (jumps_from_all folder kind files)) (HasJumpInside folder name kind) [] spots
    (λ spot. (
      λ m.
          let from = from_flat (jumps_from folder kind) spot files m in
          let rule = from_map jump_spot spot (jumping (listed folder kind from.0)) from.2 in
          record {
            problem = ap (λ (s : Spot). s.problem) rule.2;
            form = form;
            sound = sound;
            start = from.0;
            reached = from.1;
            rule = rule.0;
            jumps = rule.1;
            file = ap (λ (s : Spot). s.file) rule.2;
            line = ap (λ (s : Spot). s.line) rule.2;
          },
      λ h. to_flat (jumps_from folder kind) spot files h.start h.reached
          (subst (λ s. Member s (jumps_from folder kind h.start)) (sym (same-spot spot (jump_spot h.rule) h.file h.line h.problem))
          (to_map jump_spot h.rule (jumping (listed folder kind h.start)) h.jumps)),
    ))
    (adds-list [] spots (jumps_from_all folder kind files) is)
