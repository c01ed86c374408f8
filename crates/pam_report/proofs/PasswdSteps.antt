-- The users of a passwd file by the numbers of their groups, and the lines of a group file with them.
use Rattle.std.proofs.Common.{◌≡◌, ◌∙◌, ◌++◌, ◌≤◌, ℕ, Bool, true, false, List, [], ◌∷◌, Bor, Vec, cond, codes, length, take, Option, Some, None}
use Rattle.std.proofs.Common.{append_assoc, append-nil, if◌then◌else◌, refl, sym, ap}
use Rattle.std.proofs.lemmas.List.{take-append-le}
use Rattle.std.proofs.lemmas.Slice.Eq.{bytes_eq-Decides}
use Rattle.std.specs.Global.{Global}
use Rattle.std.specs.List.{onto_first, slice_split}
use Rattle.std.specs.Map.{lookup}
use Rattle.std.specs.Option.{option_map_or}
use Rattle.std.specs.Str.{bytes_eq}
use Rattle.indexmap.specs.IndexMap.{insert_entry}
use Rattle.pam_report.specs.Passwd.{Fields, group_at, group_of_fields, group_with, line_with, lines_of, lines_with, user_at, user_in, user_of_fields, user_with, users_of}
use Rattle.pam_report.specs.inner.Passwd.{first_part, users_known}
use Rattle.pam_text.specs.Cut.{cut_at, is_among}
use Rattle.pam_text.proofs.Splits.{split_found, split_none}

-- ---- parts of a text

abbrev pub colon : ℕ → Bool
colon = is_among (codes ":")

abbrev pub feed : ℕ → Bool
feed = is_among (codes "\n")

-- a text has a first part
pub record Parts (parts : List (List ℕ)) : Type 0 where
  pub others : List (List ℕ)
  pub are : parts ≡ first_part parts ∷ others

onto-parts : (b : ℕ) (parts : List (List ℕ)) → Parts parts → Parts (onto_first b parts)
onto-parts b [] h = absurd (let e : [] ≡ [] ∷ h.others = h.are in cc)
onto-parts b (p ∷ ps) h = record { others = ps; are = refl }

pub parts_in : (p : ℕ → Bool) (text : List ℕ) → Parts (slice_split p text)
parts_in p [] = record { others = []; are = refl }
parts_in p (b ∷ bs) = elim (p b) as (λ (t : Bool). Parts (cond t ([] ∷ slice_split p bs) (onto_first b (slice_split p bs)))) [
  | true ↦ record { others = slice_split p bs; are = refl }
  | false ↦ onto-parts b (slice_split p bs) (parts_in p bs)
]

pub first_found : (text a r : List ℕ) → Some (a, r) ≡ cut_at colon text → a ≡ first_part (slice_split colon text)
first_found text a r e = sym (ap first_part (split_found colon text a r e))

pub first_whole : (text : List ℕ) → None ≡ cut_at colon text → text ≡ first_part (slice_split colon text)
first_whole text e = sym (ap first_part (split_none colon text e))

-- the parts after one, two and three cuts
pub after_one : (text a r : List ℕ) → Some (a, r) ≡ cut_at colon text → slice_split colon text ≡ a ∷ slice_split colon r
after_one = split_found colon

pub after_two : (text a r b s : List ℕ) → Some (a, r) ≡ cut_at colon text → Some (b, s) ≡ cut_at colon r → slice_split colon text ≡ a ∷ b ∷ slice_split colon s
after_two text a r b s e f = after_one text a r e ∙ ap (λ (ps : List (List ℕ)). a ∷ ps) (after_one r b s f)

pub after_three : (text a r b s c d : List ℕ) → Some (a, r) ≡ cut_at colon text → Some (b, s) ≡ cut_at colon r → Some (c, d) ≡ cut_at colon s
    → slice_split colon text ≡ a ∷ b ∷ c ∷ slice_split colon d
after_three text a r b s c d e f g = after_two text a r b s e f ∙ ap (λ (ps : List (List ℕ)). a ∷ b ∷ ps) (after_one s c d g)

-- ---- a line of few fields

module _ {T : Type 0} (read : List (List ℕ) → Option T) (one : (a : List ℕ) → read (a ∷ []) ≡ None) (two : (a b : List ℕ) → read (a ∷ b ∷ []) ≡ None)
    (three : (a b c : List ℕ) → read (a ∷ b ∷ c ∷ []) ≡ None) where
  pub one_field : (text : List ℕ) → None ≡ cut_at colon text → read (slice_split colon text) ≡ None
  one_field text e = ap read (split_none colon text e) ∙ one text

  pub two_fields : (text a r : List ℕ) → Some (a, r) ≡ cut_at colon text → None ≡ cut_at colon r → read (slice_split colon text) ≡ None
  two_fields text a r e f = ap read (after_one text a r e ∙ ap (λ (ps : List (List ℕ)). a ∷ ps) (split_none colon r f)) ∙ two a r

  pub three_fields : (text a r b s : List ℕ) → Some (a, r) ≡ cut_at colon text → Some (b, s) ≡ cut_at colon r → None ≡ cut_at colon s
      → read (slice_split colon text) ≡ None
  three_fields text a r b s e f g =
      ap read (after_two text a r b s e f ∙ ap (λ (ps : List (List ℕ)). a ∷ b ∷ ps) (split_none colon s g)) ∙ three a b s

-- ---- a passwd line

pub user_one : (line : List ℕ) → None ≡ cut_at colon line → user_at line ≡ None
unfolding user_at
user_one line e = one_field user_of_fields (λ a. refl) (λ a b. refl) (λ a b c. refl) line e

pub user_two : (line a r : List ℕ) → Some (a, r) ≡ cut_at colon line → None ≡ cut_at colon r → user_at line ≡ None
unfolding user_at
user_two line a r e f = two_fields user_of_fields (λ a. refl) (λ a b. refl) (λ a b c. refl) line a r e f

pub user_three : (line a r b s : List ℕ) → Some (a, r) ≡ cut_at colon line → Some (b, s) ≡ cut_at colon r → None ≡ cut_at colon s → user_at line ≡ None
unfolding user_at
user_three line a r b s e f g = three_fields user_of_fields (λ a. refl) (λ a b. refl) (λ a b c. refl) line a r b s e f g

pub user_four : (line a r b s c d : List ℕ) → Some (a, r) ≡ cut_at colon line → Some (b, s) ≡ cut_at colon r → Some (c, d) ≡ cut_at colon s
    → user_at line ≡ user_with a (first_part (slice_split colon d))
unfolding user_at
user_four line a r b s c d e f g =
    let parts = parts_in colon d in
    ap user_of_fields (after_three line a r b s c d e f g ∙ ap (λ (ps : List (List ℕ)). a ∷ b ∷ c ∷ ps) parts.are)

-- ---- a line of a group file

pub group_one : (line : List ℕ) → None ≡ cut_at colon line → group_at line ≡ None
unfolding group_at
group_one line e = one_field group_of_fields (λ a. refl) (λ a b. refl) (λ a b c. refl) line e

pub group_two : (line a r : List ℕ) → Some (a, r) ≡ cut_at colon line → None ≡ cut_at colon r → group_at line ≡ None
unfolding group_at
group_two line a r e f = two_fields group_of_fields (λ a. refl) (λ a b. refl) (λ a b c. refl) line a r e f

pub group_three : (line a r b s : List ℕ) → Some (a, r) ≡ cut_at colon line → Some (b, s) ≡ cut_at colon r → None ≡ cut_at colon s → group_at line ≡ None
unfolding group_at
group_three line a r b s e f g = three_fields group_of_fields (λ a. refl) (λ a b. refl) (λ a b c. refl) line a r b s e f g

pub group_four : (line a r b s c d : List ℕ) → Some (a, r) ≡ cut_at colon line → Some (b, s) ≡ cut_at colon r → Some (c, d) ≡ cut_at colon s
    → None ≡ cut_at colon d → group_at line ≡ group_with a b c d
unfolding group_at
group_four line a r b s c d e f g h =
    ap group_of_fields (after_three line a r b s c d e f g ∙ ap (λ (ps : List (List ℕ)). a ∷ b ∷ c ∷ ps) (split_none colon d h))

pub group_five : (line a r b s c d x y : List ℕ) → Some (a, r) ≡ cut_at colon line → Some (b, s) ≡ cut_at colon r → Some (c, d) ≡ cut_at colon s
    → Some (x, y) ≡ cut_at colon d → group_at line ≡ None
unfolding group_at
group_five line a r b s c d x y e f g h =
    let parts = parts_in colon y in
    ap group_of_fields (after_three line a r b s c d e f g
    ∙ ap (λ (ps : List (List ℕ)). a ∷ b ∷ c ∷ ps) (split_found colon d x y h ∙ ap (λ (ps : List (List ℕ)). x ∷ ps) parts.are))

-- ---- users by number

abbrev pub Users : Type 0
Users = List (Bor (List ℕ) × Vec ℕ Global)

abbrev names_at : List ℕ → Users → Option (Vec ℕ Global)
names_at n users = lookup (λ k. bytes_eq n k.now) users

module _ (n a b : List ℕ) where
  same_number : bytes_eq a b ≡ true → bytes_eq n a ≡ bytes_eq n b
  same_number same = ap (λ (x : List ℕ). bytes_eq n x) ((bytes_eq-Decides a b).0 same)

  one_number : bytes_eq a b ≡ false → bytes_eq n b ≡ true → bytes_eq n a ≡ false
  one_number other is = go (bytes_eq n a) refl
    where
      go : (t : Bool) → bytes_eq n a ≡ t → t ≡ false
      go false e = refl
      go true e =
          let same : bytes_eq a b ≡ true = (bytes_eq-Decides a b).1 (sym ((bytes_eq-Decides n a).0 e) ∙ (bytes_eq-Decides n b).0 is) in
          absurd (cc)

twice : {T : Type 0} (t : Bool) (x y l : T) → cond t x l ≡ cond t x (cond t y l)
twice true x y l = refl
twice false x y l = refl

crossed : {T : Type 0} (a b : Bool) (x y l : T) → (b ≡ true → a ≡ false) → cond b y (cond a x l) ≡ cond a x (cond b y l)
crossed true true x y l h = absurd (let e : true ≡ false = h refl in cc)
crossed true false x y l h = refl
crossed false true x y l h = refl
crossed false false x y l h = refl

-- what is put at a number is found there, and changes nothing at others
put_at : (n : List ℕ) (users : Users) (k : Bor (List ℕ)) (v : Vec ℕ Global) →
    names_at n (insert_entry (λ a b. bytes_eq a.now b.now) users k v) ≡ cond (bytes_eq n k.now) (Some v) (names_at n users)
put_at n [] k v = refl
put_at n (e ∷ es) k v =
    elim (bytes_eq k.now e.0.now) as (λ (t : Bool). bytes_eq k.now e.0.now ≡ t →
    names_at n (cond t ((e.0, v) ∷ es) (e ∷ insert_entry (λ a b. bytes_eq a.now b.now) es k v))
    ≡ cond (bytes_eq n k.now) (Some v) (names_at n (e ∷ es))) [
      | true ↦ λ h.
          twice (bytes_eq n e.0.now) (Some v) (Some e.1) (names_at n es)
          ∙ ap (λ (t : Bool). cond t (Some v) (names_at n (e ∷ es))) (sym (same_number n k.now e.0.now h))
      | false ↦ λ h.
          ap (λ (o : Option (Vec ℕ Global)). cond (bytes_eq n e.0.now) (Some e.1) o) (put_at n es k v)
          ∙ crossed (bytes_eq n k.now) (bytes_eq n e.0.now) (Some v) (Some e.1) (names_at n es) (one_number n k.now e.0.now h)
    ] refl

abbrev items : Option (Vec ℕ Global) → List ℕ
items o = option_map_or (λ names. names.items) o []

-- a user is added at a number
pub user_added : (n : List ℕ) (old more new : Users) (k : Bor (List ℕ)) (empty names : Vec ℕ Global) (known : Option (Vec ℕ Global)) (start user : List ℕ)
    → known ≡ lookup (λ (x : Bor (List ℕ)). bytes_eq k.now x.now) old → more ≡ insert_entry (λ a b. bytes_eq a.now b.now) old k empty
    → start ≡ items known → names.items ≡ start ++ (user ++ 44 ∷ []) → new ≡ insert_entry (λ a b. bytes_eq a.now b.now) more k names
    → users_known n new ≡ users_known n old ++ user_in n (Some (user, k.now))
user_added n old more new k empty names known start user was first begins ends last =
    let found : names_at n new ≡ cond (bytes_eq n k.now) (Some names) (cond (bytes_eq n k.now) (Some empty) (names_at n old)) =
    ap (names_at n) last ∙ put_at n more k names
    ∙ ap (λ (o : Option (Vec ℕ Global)). cond (bytes_eq n k.now) (Some names) o) (ap (names_at n) first ∙ put_at n old k empty) in
    ap items found
    ∙ elim (bytes_eq n k.now) as (λ (t : Bool). bytes_eq n k.now ≡ t →
    items (cond t (Some names) (cond t (Some empty) (names_at n old))) ≡ items (names_at n old) ++ (if t then user ++ 44 ∷ [] else [])) [
      | true ↦ λ h.
          let same : names_at n old ≡ names_at k.now old = ap (λ (x : List ℕ). names_at x old) ((bytes_eq-Decides n k.now).0 h) in
          ends ∙ ap (λ (x : List ℕ). x ++ (user ++ 44 ∷ [])) (begins ∙ ap items (was ∙ sym same))
      | false ↦ λ h. sym (append-nil (items (names_at n old)))
    ] refl

-- ---- line by line

pub users_first : (n : List ℕ) (text line after : List ℕ) → Some (line, after) ≡ cut_at feed text
    → users_of n (lines_of text) ≡ user_in n (user_at line) ++ users_of n (lines_of after)
users_first n text line after e = ap (users_of n) (split_found feed text line after e)

pub users_last : (n : List ℕ) (text : List ℕ) → None ≡ cut_at feed text → users_of n (lines_of text) ≡ user_in n (user_at text)
users_last n text e = ap (users_of n) (split_none feed text e) ∙ append-nil (user_in n (user_at text))

pub lines_first : (users : List ℕ → List ℕ) (text line after : List ℕ) → Some (line, after) ≡ cut_at feed text
    → lines_with users (lines_of text) ≡ line_with users (group_at line) line ++ codes "\n" ++ lines_with users (lines_of after)
lines_first users text line after e =
    let parts = parts_in feed after in
    ap (lines_with users) (split_found feed text line after e ∙ ap (λ (ps : List (List ℕ)). line ∷ ps) parts.are)
    ∙ ap (λ (ps : List (List ℕ)). line_with users (group_at line) line ++ codes "\n" ++ lines_with users ps) (sym parts.are)

pub lines_last : (users : List ℕ → List ℕ) (text : List ℕ) → None ≡ cut_at feed text → lines_with users (lines_of text) ≡ line_with users (group_at text) text
lines_last users text e = ap (lines_with users) (split_none feed text e)

-- the fields of a group are written one after another
pub group_written : (text a b n c users members : List ℕ)
    → text ++ (a ++ c) ++ (b ++ c) ++ (n ++ c) ++ users ++ members ≡ text ++ (a ++ c ++ b ++ c ++ n ++ c ++ users ++ members)
group_written text a b n c users members =
    ap (λ (x : List ℕ). x ++ (b ++ c) ++ (n ++ c) ++ users ++ members) refl
    ∙ ap (λ (x : List ℕ). x ++ (n ++ c) ++ users ++ members) (append_assoc text (a ++ c) (b ++ c) ∙ ap (λ (x : List ℕ). text ++ x) (sym (append_assoc (a ++ c) b c)))
    ∙ ap (λ (x : List ℕ). x ++ users ++ members)
    (append_assoc text (a ++ c ++ b ++ c) (n ++ c) ∙ ap (λ (x : List ℕ). text ++ x) (sym (append_assoc (a ++ c ++ b ++ c) n c)))
    ∙ ap (λ (x : List ℕ). x ++ members) (append_assoc text (a ++ c ++ b ++ c ++ n ++ c) users)
    ∙ append_assoc text (a ++ c ++ b ++ c ++ n ++ c ++ users) members

line_same : (users others : List ℕ → List ℕ) → ((n : List ℕ) → users n ≡ others n) → (fields : Option Fields) (line : List ℕ)
    → line_with users fields line ≡ line_with others fields line
line_same users others h None line = refl
line_same users others h (Some (name, password, number, members)) line =
    ap (λ (x : List ℕ). name ++ codes ":" ++ password ++ codes ":" ++ number ++ codes ":" ++ x ++ members) (h _)

-- a line is written, and what is left is the rest
pub line_done : (users others : List ℕ → List ℕ) (old line_text new text line after all : List ℕ) → ((n : List ℕ) → users n ≡ others n)
    → Some (line, after) ≡ cut_at feed text → line_text ≡ old ++ line_with users (group_at line) line → new ≡ line_text ++ codes "\n"
    → old ++ lines_with others (lines_of text) ≡ all → new ++ lines_with others (lines_of after) ≡ all
line_done users others old line_text new text line after all same cut is end before =
    ap (λ (x : List ℕ). x ++ lines_with others (lines_of after))
    (end ∙ ap (λ (x : List ℕ). x ++ codes "\n") (is ∙ ap (λ (x : List ℕ). old ++ x) (line_same users others same (group_at line) line)))
    ∙ ap (λ (x : List ℕ). x ++ lines_with others (lines_of after)) (append_assoc old (line_with others (group_at line) line) (codes "\n"))
    ∙ append_assoc old (line_with others (group_at line) line ++ codes "\n") (lines_with others (lines_of after))
    ∙ ap (λ (x : List ℕ). old ++ x) (sym (lines_first others text line after cut)) ∙ before

-- the last line is written
pub last_done : (users others : List ℕ → List ℕ) (old new text all : List ℕ) → ((n : List ℕ) → users n ≡ others n) → None ≡ cut_at feed text
    → new ≡ old ++ line_with users (group_at text) text → old ++ lines_with others (lines_of text) ≡ all → new ≡ all
last_done users others old new text all same cut is before =
    is ∙ ap (λ (x : List ℕ). old ++ x) (line_same users others same (group_at text) text ∙ sym (lines_last others text cut)) ∙ before

-- a text that is too long is cut where all of it would be
pub cut_short : (n : ℕ) (written left all cut : List ℕ) → n ≤ length written → written ++ left ≡ all → cut ≡ take n written → cut ≡ take n all
cut_short n written left all cut long are is = is ∙ sym (take-append-le n written left long) ∙ ap (take n) are
