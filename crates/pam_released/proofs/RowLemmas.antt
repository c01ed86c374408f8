-- Each finding is at a line at which its row holds.
use Rattle.std.proofs.Common.{◌≡◌, ◌↔◌, ◌⊎◌, inl, inr, ◌+◌, ◌++◌, ◌∙◌, ℕ, List, [], ◌∷◌, length, map, take, drop, ap, sym, refl, subst, arith}
use Rattle.std.specs.List.{prefix_len}
use Rattle.std.proofs.lemmas.List.{take-append-drop}
use Rattle.pam_text.specs.Text.{text_lines, text_of}
use Rattle.pam_conf.specs.Words.{State, Between}
use Rattle.pam_conf.specs.declared.rule.Form.{Form}
use Rattle.pam_released.specs.Bracket.{state_after}
use Rattle.pam_released.specs.FindingLaws.{Member, IsAtLine, IsAtRule, state_by, used_by}
use Rattle.pam_released.specs.Findings.{comes_before, differences_at, findings_of, line_findings, located, merged, rule_differences, rule_findings}
use Rattle.pam_released.specs.Findings.{used_after}
use Rattle.pam_released.specs.Lines.{physical_lines}
use Rattle.pam_released.specs.declared.difference.Difference.{Difference}
use Rattle.pam_released.specs.declared.finding.Finding.{Finding}

-- MEMBERS

pub in_either : {X : Type 0} (x : X) (xs ys : List X) → Member x (xs ++ ys) → Member x xs ⊎ Member x ys
in_either x [] ys m = inr m
in_either x (z ∷ xs) ys (inl e) = inl (inl e)
in_either x (z ∷ xs) ys (inr m) = longer (in_either x xs ys m)
  where
    longer : Member x xs ⊎ Member x ys → Member x (z ∷ xs) ⊎ Member x ys
    longer (inl k) = inl (inr k)
    longer (inr k) = inr k

pub in_front : {X : Type 0} (x : X) (xs ys : List X) → Member x xs → Member x (xs ++ ys)
in_front x [] ys m = absurd m
in_front x (z ∷ xs) ys (inl e) = inl e
in_front x (z ∷ xs) ys (inr m) = inr (in_front x xs ys m)

pub in_back : {X : Type 0} (x : X) (xs ys : List X) → Member x ys → Member x (xs ++ ys)
in_back x [] ys m = m
in_back x (z ∷ xs) ys m = inr (in_back x xs ys m)

pub in_taken : {X : Type 0} (x : X) (n : ℕ) (xs : List X) → Member x (take n xs) → Member x xs
in_taken x n xs m = subst (Member x) (take-append-drop n xs) (in_front x (take n xs) (drop n xs) m)

pub in_dropped : {X : Type 0} (x : X) (n : ℕ) (xs : List X) → Member x (drop n xs) → Member x xs
in_dropped x n xs m = subst (Member x) (take-append-drop n xs) (in_back x (take n xs) (drop n xs) m)

in_parts : {X : Type 0} (x : X) (n : ℕ) (xs : List X) → Member x xs → Member x (take n xs) ⊎ Member x (drop n xs)
in_parts x n xs m = in_either x (take n xs) (drop n xs) (subst (Member x) (sym (take-append-drop n xs)) m)

-- a finding with the number of a line, and one of its differences
pub from_located : (f : Finding) (n : ℕ) (ds : List Difference) → Member f (map (located n) ds) → (f.line ≡ n) × Member f.difference ds
from_located f n [] m = absurd m
from_located f n (d ∷ ds) (inl e) = (sym (ap (λ (g : Finding). g.line) e), inl (ap (λ (g : Finding). g.difference) e))
from_located f n (d ∷ ds) (inr m) = let two = from_located f n ds m in (two.0, inr two.1)

to_located : (f : Finding) (n : ℕ) (ds : List Difference) → f.line ≡ n → Member f.difference ds → Member f (map (located n) ds)
to_located f n [] e m = absurd m
to_located f n (d ∷ ds) e (inl g) = inl (ap (λ (k : ℕ). located k d) (sym e) ∙ ap (located f.line) g)
to_located f n (d ∷ ds) e (inr m) = inr (to_located f n ds e m)

-- TWO LISTS

pub one_step : (f : Finding) (fs gs : List Finding) → merged (f ∷ fs) gs ≡
    take (prefix_len (comes_before f) gs) gs ++ f ∷ merged fs (drop (prefix_len (comes_before f) gs) gs)
unfolding merged
one_step f fs gs = refl

pub none_first : (gs : List Finding) → merged [] gs ≡ gs
unfolding merged
none_first gs = refl

pub from_merged : (x : Finding) (fs gs : List Finding) → Member x (merged fs gs) → Member x fs ⊎ Member x gs
from_merged x [] gs m = inr (subst (Member x) (none_first gs) m)
from_merged x (f ∷ fs) gs m =
    parts (λ k. from_merged x fs (drop n gs) k) (in_either x (take n gs) (f ∷ merged fs (drop n gs)) (subst (Member x) (one_step f fs gs) m))
  where
    n : ℕ
    n = prefix_len (comes_before f) gs

    later : Member x fs ⊎ Member x (drop n gs) → Member x (f ∷ fs) ⊎ Member x gs
    later (inl k) = inl (inr k)
    later (inr k) = inr (in_dropped x n gs k)

    parts : (Member x (merged fs (drop n gs)) → Member x fs ⊎ Member x (drop n gs)) → Member x (take n gs) ⊎ Member x (f ∷ merged fs (drop n gs)) →
        Member x (f ∷ fs) ⊎ Member x gs
    parts more (inl k) = inr (in_taken x n gs k)
    parts more (inr (inl e)) = inl (inl e)
    parts more (inr (inr k)) = later (more k)

into_merged : (x : Finding) (fs gs : List Finding) → Member x fs ⊎ Member x gs → Member x (merged fs gs)
into_merged x [] gs (inl k) = absurd k
into_merged x [] gs (inr k) = subst (Member x) (sym (none_first gs)) k
into_merged x (f ∷ fs) gs m = subst (Member x) (sym (one_step f fs gs)) (parts (λ k. into_merged x fs (drop n gs) k) m)
  where
    n : ℕ
    n = prefix_len (comes_before f) gs

    More : Type 0
    More = Member x fs ⊎ Member x (drop n gs) → Member x (merged fs (drop n gs))

    later : More → Member x (take n gs) ⊎ Member x (drop n gs) → Member x (take n gs ++ f ∷ merged fs (drop n gs))
    later more (inl k) = in_front x (take n gs) (f ∷ merged fs (drop n gs)) k
    later more (inr k) = in_back x (take n gs) (f ∷ merged fs (drop n gs)) (inr (more (inr k)))

    parts : More → Member x (f ∷ fs) ⊎ Member x gs → Member x (take n gs ++ f ∷ merged fs (drop n gs))
    parts more (inl (inl e)) = in_back x (take n gs) (f ∷ merged fs (drop n gs)) (inl e)
    parts more (inl (inr k)) = in_back x (take n gs) (f ∷ merged fs (drop n gs)) (inr (more (inl k)))
    parts more (inr k) = later more (in_parts x n gs k)

-- LINES

pub record From (n used : ℕ) (state : State) (lines : List (List ℕ)) (f : Finding) : Type 0 where
  pub front : List (List ℕ)
  pub line : List ℕ
  pub rest : List (List ℕ)
  pub split : lines ≡ front ++ line ∷ rest
  pub number : f.line ≡ n + length front
  pub shows : Member f.difference (differences_at (used_by used front) (state_by state front) line rest)

pub first_line : (n used : ℕ) (s : State) (line : List ℕ) (rest : List (List ℕ)) → line_findings n used s (line ∷ rest) ≡
    map (located n) (differences_at used s line rest) ++ line_findings (n + 1) (used_after used line) (state_after s line) rest
unfolding line_findings
first_line n used s line rest = refl

pub no_lines : (n used : ℕ) (s : State) → line_findings n used s [] ≡ []
unfolding line_findings
no_lines n used s = refl

pub from_lines : (n used : ℕ) (s : State) (lines : List (List ℕ)) (f : Finding) → Member f (line_findings n used s lines) → From n used s lines f
from_lines n used s [] f m = absurd (subst (Member f) (no_lines n used s) m)
from_lines n used s (line ∷ rest) f m =
    parts (λ k. from_lines (n + 1) (used_after used line) (state_after s line) rest f k) (in_either f (map (located n) (differences_at used s line rest))
    (line_findings (n + 1) (used_after used line) (state_after s line) rest) (subst (Member f) (first_line n used s line rest) m))
  where
    later : From (n + 1) (used_after used line) (state_after s line) rest f → From n used s (line ∷ rest) f
    later r = record {
      front = line ∷ r.front;
      line = r.line;
      rest = r.rest;
      split = ap (λ (ls : List (List ℕ)). line ∷ ls) r.split;
      number = let k : f.line ≡ n + 1 + length r.front = r.number in omega (arith, k);
      shows = r.shows;
    }

    parts : (Member f (line_findings (n + 1) (used_after used line) (state_after s line) rest) →
        From (n + 1) (used_after used line) (state_after s line) rest f) →
        Member f (map (located n) (differences_at used s line rest))
        ⊎ Member f (line_findings (n + 1) (used_after used line) (state_after s line) rest) → From n used s (line ∷ rest) f
    parts more (inl k) =
        let two = from_located f n (differences_at used s line rest) k in
        record { front = []; line = line; rest = rest; split = refl; number = omega (arith, two.0); shows = two.1 }
    parts more (inr k) = later (more k)

to_lines : (n used : ℕ) (s : State) (front : List (List ℕ)) (line : List ℕ) (rest : List (List ℕ)) (f : Finding) → f.line ≡ n + length front →
    Member f.difference (differences_at (used_by used front) (state_by s front) line rest) → Member f (line_findings n used s (front ++ line ∷ rest))
to_lines n used s [] line rest f e m =
    subst (Member f) (sym (first_line n used s line rest))
    (in_front f (map (located n) (differences_at used s line rest)) (line_findings (n + 1) (used_after used line) (state_after s line) rest)
    (to_located f n (differences_at used s line rest) (omega (arith, e)) m))
to_lines n used s (l ∷ front) line rest f e m =
    subst (Member f) (sym (first_line n used s l (front ++ line ∷ rest)))
    (in_back f (map (located n) (differences_at used s l (front ++ line ∷ rest)))
    (line_findings (n + 1) (used_after used l) (state_after s l) (front ++ line ∷ rest))
    (to_lines (n + 1) (used_after used l) (state_after s l) front line rest f (omega (arith, e)) m))

-- RULES

pub first_rule : (form : Form) (line : ℕ × List ℕ) (lines : List (ℕ × List ℕ)) → rule_findings form (line ∷ lines) ≡
    map (located line.0) (rule_differences form line.1) ++ rule_findings form lines
unfolding rule_findings
first_rule form line lines = refl

pub no_rules : (form : Form) → rule_findings form [] ≡ []
unfolding rule_findings
no_rules form = refl

pub from_rules : (form : Form) (lines : List (ℕ × List ℕ)) (f : Finding) → Member f (rule_findings form lines) → IsAtRule form lines f
from_rules form [] f m = absurd (subst (Member f) (no_rules form) m)
from_rules form (line ∷ lines) f m =
    parts (λ k. from_rules form lines f k) (in_either f (map (located line.0) (rule_differences form line.1)) (rule_findings form lines)
    (subst (Member f) (first_rule form line lines) m))
  where
    parts : (Member f (rule_findings form lines) → IsAtRule form lines f) →
        Member f (map (located line.0) (rule_differences form line.1)) ⊎ Member f (rule_findings form lines) → IsAtRule form (line ∷ lines) f
    parts more (inl k) =
        let two = from_located f line.0 (rule_differences form line.1) k in
        record { text = line.1; line = inl (ap (λ (n : ℕ). (n, line.1)) (sym two.0)); shows = two.1 }
    parts more (inr k) = let r = more k in record { text = r.text; line = inr r.line; shows = r.shows }

to_rules : (form : Form) (lines : List (ℕ × List ℕ)) (f : Finding) (text : List ℕ) → Member (f.line, text) lines →
    Member f.difference (rule_differences form text) → Member f (rule_findings form lines)
to_rules form [] f text l m = absurd l
to_rules form (line ∷ lines) f text (inl e) m =
    subst (Member f) (sym (first_rule form line lines))
    (in_front f (map (located line.0) (rule_differences form line.1)) (rule_findings form lines)
    (to_located f line.0 (rule_differences form line.1) (sym (ap (λ (l : ℕ × List ℕ). l.0) e))
    (subst (λ (l : ℕ × List ℕ). Member f.difference (rule_differences form l.1)) (sym e) m)))
to_rules form (line ∷ lines) f text (inr l) m =
    subst (Member f) (sym (first_rule form line lines))
    (in_back f (map (located line.0) (rule_differences form line.1)) (rule_findings form lines) (to_rules form lines f text l m))

-- ALL

pub rows_of : (form : Form) (bytes : List ℕ) (f : Finding) →
    Member f (findings_of form bytes) ↔ (IsAtLine (physical_lines bytes) f ⊎ IsAtRule form (text_lines (text_of 1 bytes)) f)
unfolding findings_of
rows_of form bytes f = (
  λ m. there (from_merged f (line_findings 1 0 Between (physical_lines bytes)) (rule_findings form (text_lines (text_of 1 bytes))) m),
  λ m. into_merged f (line_findings 1 0 Between (physical_lines bytes)) (rule_findings form (text_lines (text_of 1 bytes))) (back m),
)
  where
    at_line : From 1 0 Between (physical_lines bytes) f → IsAtLine (physical_lines bytes) f
    at_line r = record {
      front = r.front;
      line = r.line;
      rest = r.rest;
      split = r.split;
      number = let k : f.line ≡ 1 + length r.front = r.number in omega (arith, k);
      shows = r.shows;
    }

    there : Member f (line_findings 1 0 Between (physical_lines bytes)) ⊎ Member f (rule_findings form (text_lines (text_of 1 bytes))) →
        IsAtLine (physical_lines bytes) f ⊎ IsAtRule form (text_lines (text_of 1 bytes)) f
    there (inl k) = inl (at_line (from_lines 1 0 Between (physical_lines bytes) f k))
    there (inr k) = inr (from_rules form (text_lines (text_of 1 bytes)) f k)

    back : IsAtLine (physical_lines bytes) f ⊎ IsAtRule form (text_lines (text_of 1 bytes)) f →
        Member f (line_findings 1 0 Between (physical_lines bytes)) ⊎ Member f (rule_findings form (text_lines (text_of 1 bytes)))
    back (inl r) = inl (subst (λ (ls : List (List ℕ)). Member f (line_findings 1 0 Between ls)) (sym r.split)
        (to_lines 1 0 Between r.front r.line r.rest f (omega (arith, r.number)) r.shows))
    back (inr r) = inr (to_rules form (text_lines (text_of 1 bytes)) f r.text r.line r.shows)
