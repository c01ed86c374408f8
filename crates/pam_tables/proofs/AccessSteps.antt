-- The fields of a line, a line, and the table.
use Rattle.std.proofs.Common.{◌≡◌, ◌∙◌, ◌&&◌, ◌⊎◌, ◌==◌, inl, inr, subst, ℕ, Bool, true, false, List, [], ◌∷◌, Option, Some, None, IfSome}
use Rattle.std.proofs.Common.{Result, Ok, Err, map, refl, sym, ap, ap₂}
use Rattle.std.proofs.Common.{if◌then◌else◌}
use Rattle.std.proofs.lemmas.Bool.{eqb-true}
use Rattle.std.specs.Option.{option_map_or}
use Rattle.pam_tables.specs.Access.{LineText, permission_of, is_passed_over, has_tokens, line_of_fields, fields_of, some_line, access_line}
use Rattle.pam_tables.specs.Access.{◌>>=◌, lines_of, table_lines, table_with, table_of, users_match, line_matches, answer_with, first_answer}
use Rattle.pam_tables.specs.inner.Access.{permission_for}
use Rattle.pam_tables.specs.Error.{read_lines, onto_lines, verdict}
use Rattle.pam_tables.specs.Groups.{Group}
use Rattle.pam_tables.specs.Options.{Options}
use Rattle.pam_tables.specs.Lines.{trimmed}
use Rattle.pam_tables.specs.inner.Lines.{sound}
use Rattle.pam_tables.specs.Lists.{list_matches}
use Rattle.pam_tables.specs.Login.{OriginText}
use Rattle.pam_tables.specs.inner.Login.{IsKnown, origin_view}
use Rattle.pam_tables.specs.Tokens.{UserPattern, OriginPattern, tokens_of, each_token, user_token, origin_token, origin_mark, host_mark}
use Rattle.pam_tables.specs.inner.Tokens.{known_mark}
use Rattle.pam_tables.specs.declared.access.AccessAnswer.{AccessAnswer}
use Rattle.pam_tables.specs.declared.access.AccessAnswer.TheVariants.{Granted}
use Rattle.pam_tables.specs.declared.address.Address.{Address}
use Rattle.pam_tables.specs.declared.access.Permission.{Permission}
use Rattle.pam_tables.specs.declared.access.Permission.TheVariants.{Grant, Deny}
use Rattle.pam_tables.specs.declared.error.TableFault.{TableFault}
use Rattle.pam_tables.specs.declared.error.TableFault.TheVariants.{BadPermission, MissingField}
use Rattle.pam_tables.specs.declared.lists.Mark.{Mark}
use Rattle.pam_tables.specs.declared.login.Origin.{Origin}
use Rattle.pam_tables.specs.declared.login.Origin.TheVariants as places
use Rattle.pam_tables.proofs.ReadSteps.{checked_passes}

-- ---- a permission

no_minus : (t : Bool) (p : Permission) → Ok p ≡ (if t && false then Ok Deny else Err BadPermission) → ⊥
no_minus true p e = cc
no_minus false p e = cc

neither_sign : (b : ℕ) (p : Permission) → (b == 43) ≡ false → (b == 45) ≡ false → Ok p ≡ permission_of (b ∷ []) → ⊥
unfolding permission_of
neither_sign b p e f h =
    let read : Ok p ≡ (if false && true then Ok Grant else if false && true then Ok Deny else Err BadPermission) = rw (e, f) at h in cc

-- a permission has no blanks at its ends
plus_or_minus : (b : ℕ) (more : List ℕ) (p : Permission) → Ok p ≡ permission_of (b ∷ more) → (more ≡ []) × ((b ≡ 43) ⊎ (b ≡ 45))
unfolding permission_of
plus_or_minus b (c ∷ more) p h =
    elim (b == 43) as (λ (t : Bool).
    Ok p ≡ (if t && false then Ok Grant else if (b == 45) && false then Ok Deny else Err BadPermission) → (c ∷ more ≡ []) × ((b ≡ 43) ⊎ (b ≡ 45))) [
      | true ↦ λ e. absurd (no_minus (b == 45) p e)
      | false ↦ λ e. absurd (no_minus (b == 45) p e)
    ] h
plus_or_minus b [] p h = (
  refl,
  elim (b == 43) as (λ (t : Bool). (b == 43) ≡ t → (b ≡ 43) ⊎ (b ≡ 45)) [
    | true ↦ λ e. inl (eqb-true b 43 e)
    | false ↦ λ e. elim (b == 45) as (λ (t : Bool). (b == 45) ≡ t → (b ≡ 43) ⊎ (b ≡ 45)) [
      | true ↦ λ f. inr (eqb-true b 45 f)
      | false ↦ λ f. absurd (neither_sign b p e f h)
    ] refl
  ] refl,
)

pub permission_kept : (text : List ℕ) (p : Permission) → Ok p ≡ permission_of text → Ok p ≡ permission_of (trimmed text)
permission_kept [] p h = h
permission_kept (b ∷ more) p h =
    let sign = plus_or_minus b more p h in
    elim sign.1 [
      | inl plus ↦ subst (λ (x : ℕ). Ok p ≡ permission_of (x ∷ more) → Ok p ≡ permission_of (trimmed (x ∷ more))) (sym plus)
          (subst (λ (xs : List ℕ). Ok p ≡ permission_of (43 ∷ xs) → Ok p ≡ permission_of (trimmed (43 ∷ xs))) (sym sign.0) (λ e. e)) h
      | inr minus ↦ subst (λ (x : ℕ). Ok p ≡ permission_of (x ∷ more) → Ok p ≡ permission_of (trimmed (x ∷ more))) (sym minus)
          (subst (λ (xs : List ℕ). Ok p ≡ permission_of (45 ∷ xs) → Ok p ≡ permission_of (trimmed (45 ∷ xs))) (sym sign.0) (λ e. e)) h
    ]

-- ---- a line of three fields

-- the line of a permission, users and origins that were read
abbrev line_of : ℕ → Result Permission TableFault → Result (List UserPattern) TableFault → Result (List OriginPattern) TableFault → Result LineText TableFault
line_of n r us os = r >>= λ p. us >>= λ u. os >>= λ o. Ok (record { number = n; permission = p; users = u; origins = o })

origins_last : (n : ℕ) (r : Result Permission TableFault) (us : Result (List UserPattern) TableFault) (os : Result (List OriginPattern) TableFault)
    (p : Permission) → Ok p ≡ r → Ok tt ≡ verdict us → verdict os ≡ verdict (line_of n r us os)
origins_last n (Ok q) (Ok u) (Ok o) p e h = refl
origins_last n (Ok q) (Ok u) (Err f) p e h = refl
origins_last n (Ok q) (Err f) os p e h = absurd (cc)
origins_last n (Err f) us os p e h = absurd (cc)

users_bad : (n : ℕ) (r : Result Permission TableFault) (us : Result (List UserPattern) TableFault) (os : Result (List OriginPattern) TableFault)
    (p : Permission) (fault : TableFault) → Ok p ≡ r → Err fault ≡ verdict us → Err fault ≡ verdict (line_of n r us os)
users_bad n (Ok q) (Ok u) os p fault e h = absurd (cc)
users_bad n (Ok q) (Err f) os p fault e h = h
users_bad n (Err f) us os p fault e h = absurd (cc)

permission_bad : (n : ℕ) (r : Result Permission TableFault) (us : Result (List UserPattern) TableFault) (os : Result (List OriginPattern) TableFault)
    (fault : TableFault) → Err fault ≡ r → Err fault ≡ verdict (line_of n r us os)
permission_bad n (Ok q) us os fault e = absurd (cc)
permission_bad n (Err f) us os fault e = let same : fault ≡ f = cc in ap Err same

-- what a line without a fault was read from
pub record Whole (r : Result Permission TableFault) (us : Result (List UserPattern) TableFault) (os : Result (List OriginPattern) TableFault)
    (line : LineText) : Type 0 where
  pub permission : r ≡ Ok line.permission
  pub users : us ≡ Ok line.users
  pub origins : os ≡ Ok line.origins

whole : (n : ℕ) (t : Bool) (r : Result Permission TableFault) (us : Result (List UserPattern) TableFault) (os : Result (List OriginPattern) TableFault)
    (line : LineText) → (if t then line_of n r us os else Err MissingField) ≡ Ok line → Whole r us os line
whole n false r us os line h = absurd (cc)
whole n true (Err f) us os line h = absurd (cc)
whole n true (Ok p) (Err f) os line h = absurd (cc)
whole n true (Ok p) (Ok u) (Err f) line h = absurd (cc)
whole n true (Ok p) (Ok u) (Ok o) line h =
    let same : record { number = n; permission = p; users = u; origins = o } ≡ line = cc in
    record {
      permission = ap (λ (l : LineText). Ok l.permission) same;
      users = ap (λ (l : LineText). Ok l.users) same;
      origins = ap (λ (l : LineText). Ok l.origins) same;
    }

module _ (s : List ℕ) (n : ℕ) (permission users origins : List ℕ) where
  abbrev line : Result LineText TableFault
  line = line_of_fields s n permission users origins

  pub no_users : has_tokens s users ≡ false → Err MissingField ≡ verdict line
  unfolding line_of_fields
  no_users h = rw h refl

  pub no_origins : has_tokens s users ≡ true → has_tokens s origins ≡ false → Err MissingField ≡ verdict line
  unfolding line_of_fields
  no_origins h k = rw (h, k) refl

  module _ (u : has_tokens s users ≡ true) (o : has_tokens s origins ≡ true) where
    pub bad_permission : (fault : TableFault) → Err fault ≡ permission_of (trimmed permission) → Err fault ≡ verdict line
    unfolding line_of_fields
    bad_permission fault p = rw (u, o) (permission_bad n _ _ _ fault p)

    module _ (right : Permission) (p : Ok right ≡ permission_of (trimmed permission)) where
      pub bad_users : (fault : TableFault) → Err fault ≡ verdict (each_token user_token (tokens_of s users)) → Err fault ≡ verdict line
      unfolding line_of_fields
      bad_users fault q = rw (u, o) (users_bad n _ _ _ right fault p q)

      pub good_users : Ok tt ≡ verdict (each_token user_token (tokens_of s users)) →
          verdict (each_token origin_token (tokens_of s origins)) ≡ verdict line
      unfolding line_of_fields
      good_users q = rw (u, o) (origins_last n _ _ _ right p q)

  pub whole_line : (l : LineText) → line ≡ Ok l → Whole (permission_of (trimmed permission)) (each_token user_token (tokens_of s users))
      (each_token origin_token (tokens_of s origins)) l
  unfolding line_of_fields
  whole_line l h = whole n (has_tokens s users && has_tokens s origins) _ _ _ l h

-- ---- a line

verdict_of_line : (r : Result LineText TableFault) → verdict r ≡ verdict (some_line r)
verdict_of_line (Ok l) = refl
verdict_of_line (Err f) = refl

-- a line that has three fields
pub record LineRead (s : List ℕ) (a b c : List ℕ) (entry : Option LineText) : Type 0 where
  pub line : LineText
  pub is : entry ≡ Some line
  pub whole : Whole (permission_of (trimmed a)) (each_token user_token (tokens_of s b)) (each_token origin_token (tokens_of s c)) line

some_read : (r : Result LineText TableFault) (entry : Option LineText) → some_line r ≡ Ok entry → (line : LineText) → r ≡ Ok line → entry ≡ Some line
some_read r entry h line e = let same : Ok (Some line) ≡ Ok entry = sym (ap some_line e) ∙ h in cc

module _ (fs ls : List ℕ) (n : ℕ) (text : List ℕ) where
  pub passed : is_passed_over text ≡ true → access_line fs ls n text ≡ Ok None
  unfolding access_line
  passed h = rw h refl

  pub passed_entry : is_passed_over text ≡ true → (entry : Option LineText) → access_line fs ls n text ≡ Ok entry → None ≡ entry
  passed_entry h entry e = let same : Ok None ≡ Ok entry = sym (passed h) ∙ e in cc

  module _ (kept : is_passed_over text ≡ false) where
    pub few_fields : None ≡ fields_of fs text → access_line fs ls n text ≡ Err MissingField
    unfolding access_line
    few_fields e = rw (kept, ← e) refl

    pub no_entry : None ≡ fields_of fs text → (entry : Option LineText) → access_line fs ls n text ≡ Ok entry → ⊥
    no_entry e entry h = let wrong : Err MissingField ≡ Ok entry = sym (few_fields e) ∙ h in cc

    module _ (a b c : List ℕ) (e : Some (a, b, c) ≡ fields_of fs text) where
      all_fields : access_line fs ls n text ≡ some_line (line_of_fields ls n a b c)
      unfolding access_line
      all_fields = rw (kept, ← e) refl

      pub fields_verdict : verdict (line_of_fields ls n a b c) ≡ verdict (access_line fs ls n text)
      fields_verdict = verdict_of_line (line_of_fields ls n a b c) ∙ sym (ap verdict all_fields)

      pub line_read : (entry : Option LineText) → access_line fs ls n text ≡ Ok entry → LineRead ls a b c entry
      line_read entry h =
          elim (line_of_fields ls n a b c) as (λ (r : Result LineText TableFault). line_of_fields ls n a b c ≡ r → LineRead ls a b c entry) [
            | Ok l ↦ λ f. record { line = l; is = some_read _ entry (sym all_fields ∙ h) l f; whole = whole_line ls n a b c l f }
            | Err f ↦ λ g. absurd (let wrong : Err f ≡ Ok entry = sym (all_fields ∙ ap some_line g) ∙ h in cc)
          ] refl

-- ---- the permission of a line

module _ (groups : List Group) (by_name : Bool) (user : List ℕ) (marked : OriginPattern → Mark) where
  module _ (s a b c : List ℕ) (entry : Option LineText) (line : LineRead s a b c entry) where
    abbrev result : Option Permission
    result = permission_for groups by_name user marked entry

    pub users_miss : ((us : List UserPattern) → each_token user_token (tokens_of s b) ≡ Ok us → false ≡ users_match groups by_name user us) → None ≡ result
    users_miss h =
        sym (ap (permission_for groups by_name user marked) line.is
        ∙ ap (λ (t : Bool). if t && list_matches (map marked line.line.origins) then Some line.line.permission else None)
        (sym (h line.line.users line.whole.users)))

    module _ (u : (us : List UserPattern) → each_token user_token (tokens_of s b) ≡ Ok us → true ≡ users_match groups by_name user us) where
      matched : (t : Bool) → t ≡ list_matches (map marked line.line.origins) → result ≡ (if t then Some line.line.permission else None)
      matched t e =
          ap (permission_for groups by_name user marked) line.is
          ∙ ap (λ (x : Bool). if x && list_matches (map marked line.line.origins) then Some line.line.permission else None)
          (sym (u line.line.users line.whole.users)) ∙ ap (λ (x : Bool). if x then Some line.line.permission else None) (sym e)

      pub origins_miss : ((os : List OriginPattern) → each_token origin_token (tokens_of s c) ≡ Ok os → false ≡ list_matches (map marked os)) → None ≡ result
      origins_miss h = sym (matched false (h line.line.origins line.whole.origins))

      pub line_decides : ((os : List OriginPattern) → each_token origin_token (tokens_of s c) ≡ Ok os → true ≡ list_matches (map marked os)) →
          Some line.line.permission ≡ result
      line_decides h = sym (matched true (h line.line.origins line.whole.origins))

-- ---- the table

pub lines_are : (r : Result (List LineText) (TableFault × ℕ)) → verdict r ≡ Ok tt → r ≡ Ok (table_lines r)
lines_are (Ok lines) h = refl
lines_are (Err e) h = absurd (cc)

lines_fail : (r : Result (List LineText) (TableFault × ℕ)) (e : TableFault × ℕ) → verdict r ≡ Err e → r ≡ Err e
lines_fail (Ok lines) e h = absurd (cc)
lines_fail (Err f) e h = let same : f ≡ e = cc in ap Err same

module _ (o : Options) (fs ls bytes : List ℕ) (group_names : Bool)
    (view : record { field_separators = fs; list_separators = ls; group_names = group_names } ≡ o)
    (whole : sound bytes ≡ Ok tt) where
  given : table_of o bytes ≡ table_with group_names (lines_of fs ls bytes)
  unfolding table_of
  given = rw (← view) (checked_passes bytes _ tt whole)

  pub table_fails : (e : TableFault × ℕ) → verdict (lines_of fs ls bytes) ≡ Err e → table_of o bytes ≡ Err e
  table_fails e h = given ∙ ap (table_with group_names) (lines_fail _ e h)

  pub table_read : verdict (lines_of fs ls bytes) ≡ Ok tt →
      table_of o bytes ≡ Ok (record { lines = table_lines (lines_of fs ls bytes); group_names = group_names })
  table_read h = given ∙ ap (table_with group_names) (lines_are _ h)

-- ---- the first line that matches

-- the lines that remain, none of which has a fault and one of which may decide
pub record Undecided (read : ℕ → List ℕ → Result (Option LineText) TableFault) (decided : List LineText → AccessAnswer) (lines : List (ℕ × List ℕ))
    (answer : AccessAnswer) : Type 0 where
  pub rest : List LineText
  pub are : read_lines read lines ≡ Ok rest
  pub same : answer ≡ decided rest

-- a line without a fault, and others
record FirstRead (entry : Result (Option LineText) TableFault) (others : Result (List LineText) (TableFault × ℕ)) (all : List LineText) : Type 0 where
  pub first : Option LineText
  pub rest : List LineText
  pub line : entry ≡ Ok first
  pub lines : others ≡ Ok rest
  pub are : all ≡ option_map_or (λ l. l ∷ rest) first rest

first_read : (n : ℕ) (entry : Result (Option LineText) TableFault) (others : Result (List LineText) (TableFault × ℕ)) (all : List LineText) →
    onto_lines n entry others ≡ Ok all → FirstRead entry others all
first_read n (Err f) others all h = absurd (cc)
first_read n (Ok None) (Ok xs) all h = record { first = None; rest = xs; line = refl; lines = refl; are = cc }
first_read n (Ok None) (Err e) all h = absurd (cc)
first_read n (Ok (Some l)) (Ok xs) all h = record { first = Some l; rest = xs; line = refl; lines = refl; are = cc }
first_read n (Ok (Some l)) (Err e) all h = absurd (cc)

module _ (groups : List Group) (by_name : Bool) (user : List ℕ) (origin : OriginText) where
  abbrev pub decided : List LineText → AccessAnswer
  decided lines = first_answer groups by_name user origin lines

  abbrev chosen : Option LineText → Option Permission
  chosen entry = permission_for groups by_name user (origin_mark origin) entry

  missed : (entry : Option LineText) (rest : List LineText) → None ≡ chosen entry → decided (option_map_or (λ l. l ∷ rest) entry rest) ≡ decided rest
  missed None rest h = refl
  missed (Some l) rest h = go (line_matches groups by_name user origin l) h
    where
      go : (t : Bool) → ◌≡◌ {A = Option Permission} None (if t then Some l.permission else None) →
          (if t then answer_with l.permission l.number else decided rest) ≡ decided rest
      go true e = absurd (cc)
      go false e = refl

  found : (entry : Option LineText) (rest : List LineText) (p : Permission) (n : ℕ) → Some p ≡ chosen entry →
      IfSome entry (λ l. l.number ≡ n) → answer_with p n ≡ decided (option_map_or (λ l. l ∷ rest) entry rest)
  found None rest p n h k = absurd (cc)
  found (Some l) rest p n h k = go (line_matches groups by_name user origin l) h
    where
      go : (t : Bool) → Some p ≡ (if t then Some l.permission else None) → answer_with p n ≡ (if t then answer_with l.permission l.number else decided rest)
      go true e = let same : p ≡ l.permission = cc in ap₂ answer_with same (sym k)
      go false e = absurd (cc)

  module _ (read : ℕ → List ℕ → Result (Option LineText) TableFault) (n : ℕ) (text : List ℕ) (all lines : List (ℕ × List ℕ)) (first : all ≡ (n, text) ∷ lines)
      (answer : AccessAnswer) where
    parts : (left : Undecided read decided all answer) → FirstRead (read n text) (read_lines read lines) left.rest
    unfolding read_lines
    parts left = first_read n _ _ left.rest (sym (ap (read_lines read) first) ∙ left.are)

    pub line_misses : ((entry : Option LineText) → read n text ≡ Ok entry → None ≡ chosen entry) → Undecided read decided all answer →
        Undecided read decided lines answer
    line_misses h left =
        let seen = parts left in
        record { rest = seen.rest; are = seen.lines; same = left.same ∙ ap decided seen.are ∙ missed seen.first seen.rest (h seen.first seen.line) }

    pub line_found : (p : Permission) → ((entry : Option LineText) → read n text ≡ Ok entry → Some p ≡ chosen entry) →
        ((entry : Option LineText) → read n text ≡ Ok entry → IfSome entry (λ l. l.number ≡ n)) → Undecided read decided all answer →
        answer_with p n ≡ answer
    line_found p h k left =
        let seen = parts left in
        found seen.first seen.rest p n (h seen.first seen.line) (k seen.first seen.line) ∙ sym (left.same ∙ ap decided seen.are)

  pub no_line_left : (read : ℕ → List ℕ → Result (Option LineText) TableFault) (all : List (ℕ × List ℕ)) (answer : AccessAnswer) → all ≡ [] →
      Undecided read decided all answer → Granted None ≡ answer
  unfolding read_lines
  no_line_left read all answer e left =
      let none : Ok [] ≡ Ok left.rest = sym (ap (read_lines read) e) ∙ left.are in
      let empty : left.rest ≡ [] = cc in
      sym (left.same ∙ ap decided empty)

-- the marks by an address that is known
pub known_marks : (o : Origin) → IsKnown o → known_mark o ≡ origin_mark (origin_view o)
unfolding origin_mark
known_marks o h = λ i token. known o h token i
  where
    known : (o : Origin) → IsKnown o → (token : OriginPattern) → known_mark o token ≡ origin_mark (origin_view o) token
    known (places.Remote host address) k token = ap (λ (a : Option Address). host_mark host.now a token) k
    known (places.Local place) k token = refl

-- the permission by an address that is known
pub chosen_by : (groups : List Group) (by_name : Bool) (user : List ℕ) (o : Origin) → IsKnown o → (entry : Option LineText) (p : Option Permission) →
    p ≡ permission_for groups by_name user (known_mark o) entry → p ≡ permission_for groups by_name user (origin_mark (origin_view o)) entry
chosen_by groups by_name user o k entry p h =
    h ∙ ap (λ (marked : OriginPattern → Mark). permission_for groups by_name user marked entry) (known_marks o k)

-- the number of a line is that with which it was read
number_kept : (n : ℕ) (t : Bool) (r : Result Permission TableFault) (us : Result (List UserPattern) TableFault) (os : Result (List OriginPattern) TableFault)
    (line : LineText) → (if t then line_of n r us os else Err MissingField) ≡ Ok line → line.number ≡ n
number_kept n false r us os line h = absurd (cc)
number_kept n true (Err f) us os line h = absurd (cc)
number_kept n true (Ok p) (Err f) os line h = absurd (cc)
number_kept n true (Ok p) (Ok u) (Err f) line h = absurd (cc)
number_kept n true (Ok p) (Ok u) (Ok o) line h =
    let same : record { number = n; permission = p; users = u; origins = o } ≡ line = cc in ap (λ (l : LineText). l.number) (sym same)

pub entry_number : (fs ls : List ℕ) (n : ℕ) (text : List ℕ) (entry : Option LineText) → access_line fs ls n text ≡ Ok entry →
    IfSome entry (λ l. l.number ≡ n)
unfolding access_line line_of_fields
entry_number fs ls n text entry h = go (is_passed_over text) (fields_of fs text) entry h
  where
    some : (r : Result LineText TableFault) → ((l : LineText) → r ≡ Ok l → l.number ≡ n) → (e : Option LineText) → some_line r ≡ Ok e →
        IfSome e (λ l. l.number ≡ n)
    some (Ok l) f None k = tt
    some (Ok l) f (Some m) k = let same : l ≡ m = cc in f m (ap Ok same)
    some (Err x) f e k = absurd (cc)

    go : (t : Bool) (fields : Option (List ℕ × List ℕ × List ℕ)) (e : Option LineText) →
        (if t then Ok None else some_line (option_map_or (λ f. line_of_fields ls n f.0 f.1 f.2) fields (Err MissingField))) ≡ Ok e →
        IfSome e (λ l. l.number ≡ n)
    go true fields None k = tt
    go true fields (Some l) k = absurd (cc)
    go false None e k = absurd (cc)
    go false (Some f) e k = some _ (λ l g. number_kept n (has_tokens ls f.1 && has_tokens ls f.2) _ _ _ l g) e k
