-- The walks after a key.
use Rattle.std.proofs.Common.{◌≡◌, ℕ, ◌+◌, ◌<◌, ◌==◌, Bool, true, false, ◌||◌, ◌&&◌, List, [], ◌∷◌, ◌++◌, zero, suc}
use Rattle.std.proofs.Common.{map, reverse, cond, refl, sym, ◌∙◌, ap, subst, arith, drop, filter, length, slice_index_or}
use Rattle.std.proofs.Common.{None, Some, Result, Ok, Err, IfOk}
use Rattle.std.proofs.lemmas.Bool.{le-ltb, lt-ltb, ltb-true, ne_eqb}
use Rattle.std.proofs.lemmas.List.{get_or_default, length-map, reverse-append}
use Rattle.std.proofs.lemmas.List.Elements.{filter-append}
use Rattle.std.specs.List.{flat_map}
use Rattle.std.specs.Prelude.{nat_lt}
use Rattle.pam_codes.specs.inner.SetBits.{eqb-self}
use Rattle.pam_graph.specs.declared.direction.Direction.{Direction}
use Rattle.pam_graph.specs.declared.direction.Direction.TheVariants.{Forward, Backward}
use Rattle.pam_graph.specs.declared.frames.Frame.{Frame}
use Rattle.pam_graph.specs.declared.frames.Way.{Way}
use Rattle.pam_graph.specs.declared.goal.Goal.{Goal}
use Rattle.pam_graph.specs.declared.node.Edge.{Edge}
use Rattle.pam_graph.specs.declared.node.Node.{Node}
use Rattle.pam_graph.specs.declared.node.Target.{Target}
use Rattle.pam_graph.specs.declared.node.Target.TheVariants.{At, End}
use Rattle.pam_graph.specs.declared.retrace.Turn.{Turn}
use Rattle.pam_graph.specs.Frames.{ahead, along, coming, edges_in, known_in, step_in, under, wanted_by}
use Rattle.pam_graph.specs.Goals.{meeting, meets}
use Rattle.pam_graph.specs.Order.{AreNodes, IsAbove, LeastRise, number_of, numbers_of}
use Rattle.pam_graph.specs.inner.Parts.{IsTurn, is_beyond, is_past, is_past_end, part, part_by}
use Rattle.pam_graph.specs.Tallies.{wanted, wanted_of}
use Rattle.pam_graph.specs.inner.Tallies.{met_by}
use Rattle.pam_graph.specs.Walks.{walks_by, walks_to}
use Rattle.pam_graph.specs.WalksLeft.{WalksLeft}
use Rattle.pam_graph.proofs.Counting.{ended, filter-map, wanted-stepped}
use Rattle.pam_graph.proofs.FrameLists.{ahead-enter, edges-are}
use Rattle.pam_graph.proofs.Sides.{drop-in, filter-reverse, wanted-first, walks-in}
use Rattle.pam_paths.specs.Classes.{least}
use Rattle.pam_paths.specs.Computed.{after_step}
use Rattle.pam_paths.specs.Pages.{after, before}
use Rattle.pam_paths.specs.Paths.{PathValue, StepValue, key_of, precedes}
use Rattle.pam_paths.proofs.FrameLists.{after_steps-nil}

-- FILTERED LISTS

filter-all : (p : PathValue → Bool) (f : PathValue → PathValue) → ((x : PathValue) → p (f x) ≡ true) → (xs : List PathValue) →
    filter p (map f xs) ≡ map f xs
filter-all p f h [] = refl
filter-all p f h (x ∷ xs) =
    ap (λ (t : Bool). cond t (f x ∷ filter p (map f xs)) (filter p (map f xs))) (h x) ∙ ap (λ (ys : List PathValue). f x ∷ ys) (filter-all p f h xs)

filter-none : (p : PathValue → Bool) (f : PathValue → PathValue) → ((x : PathValue) → p (f x) ≡ false) → (xs : List PathValue) →
    filter p (map f xs) ≡ []
filter-none p f h [] = refl
filter-none p f h (x ∷ xs) =
    ap (λ (t : Bool). cond t (f x ∷ filter p (map f xs)) (filter p (map f xs))) (h x) ∙ filter-none p f h xs

-- two tests, in either order
pub filter-swap : (p q : PathValue → Bool) (xs : List PathValue) → filter p (filter q xs) ≡ filter q (filter p xs)
filter-swap p q [] = refl
filter-swap p q (x ∷ xs) = each (p x) (q x) refl refl (filter-swap p q xs)
  where
    each : (a b : Bool) → p x ≡ a → q x ≡ b → filter p (filter q xs) ≡ filter q (filter p xs) →
        filter p (cond (q x) (x ∷ filter q xs) (filter q xs)) ≡ filter q (cond (p x) (x ∷ filter p xs) (filter p xs))
    each true true h k again =
        ap (λ (t : Bool). filter p (cond t (x ∷ filter q xs) (filter q xs))) k
        ∙ ap (λ (t : Bool). cond t (x ∷ filter p (filter q xs)) (filter p (filter q xs))) h
        ∙ ap (λ (ys : List PathValue). x ∷ ys) again
        ∙ sym (ap (λ (t : Bool). cond t (x ∷ filter q (filter p xs)) (filter q (filter p xs))) k)
        ∙ sym (ap (λ (t : Bool). filter q (cond t (x ∷ filter p xs) (filter p xs))) h)
    each true false h k again =
        ap (λ (t : Bool). filter p (cond t (x ∷ filter q xs) (filter q xs))) k
        ∙ again
        ∙ sym (ap (λ (t : Bool). cond t (x ∷ filter q (filter p xs)) (filter q (filter p xs))) k)
        ∙ sym (ap (λ (t : Bool). filter q (cond t (x ∷ filter p xs) (filter p xs))) h)
    each false true h k again =
        ap (λ (t : Bool). filter p (cond t (x ∷ filter q xs) (filter q xs))) k
        ∙ ap (λ (t : Bool). cond t (x ∷ filter p (filter q xs)) (filter p (filter q xs))) h
        ∙ again
        ∙ sym (ap (λ (t : Bool). filter q (cond t (x ∷ filter p xs) (filter p xs))) h)
    each false false h k again =
        ap (λ (t : Bool). filter p (cond t (x ∷ filter q xs) (filter q xs))) k
        ∙ again
        ∙ sym (ap (λ (t : Bool). filter q (cond t (x ∷ filter p xs) (filter p xs))) h)

-- the walks after a key that meet a goal, and those before it
pub meeting-after : (goal : Goal) (k : List ℕ) (walks : List PathValue) → part Forward k (meeting goal walks) ≡ meeting goal (after k walks)
meeting-after goal k walks = filter-swap (is_past Forward k) (meets goal) walks

pub meeting-before : (goal : Goal) (k : List ℕ) (walks : List PathValue) → part Backward k (meeting goal (reverse walks)) ≡ meeting goal (before k walks)
meeting-before goal k walks =
    filter-swap (is_past Backward k) (meets goal) (reverse walks) ∙ ap (meeting goal) (filter-reverse (is_past Backward k) walks)

-- KEYS

not-below : (c : ℕ) → nat_lt c c ≡ false
not-below c = le-ltb c c (omega arith)

module _ (step : StepValue) (c : ℕ) (codes : List ℕ) where
  key-beyond : (d : Direction) → is_beyond d c (least step.class) ≡ true → (walk : PathValue) → is_past d (c ∷ codes) (after_step step walk) ≡ true
  unfolding key_of precedes
  key-beyond Forward h walk = ap (λ (t : Bool). t || ((c == least step.class) && precedes codes (key_of walk.steps))) h
  key-beyond Backward h walk = ap (λ (t : Bool). t || ((least step.class == c) && precedes (key_of walk.steps) codes)) h

  key-nearer : (d : Direction) → is_beyond d c (least step.class) ≡ false → (least step.class == c) ≡ false → (c == least step.class) ≡ false →
      (walk : PathValue) → is_past d (c ∷ codes) (after_step step walk) ≡ false
  unfolding key_of precedes
  key-nearer Forward h other back walk =
      ap (λ (t : Bool). t || ((c == least step.class) && precedes codes (key_of walk.steps))) h
      ∙ ap (λ (t : Bool). t && precedes codes (key_of walk.steps)) back
  key-nearer Backward h other back walk =
      ap (λ (t : Bool). t || ((least step.class == c) && precedes (key_of walk.steps) codes)) h
      ∙ ap (λ (t : Bool). t && precedes (key_of walk.steps) codes) other

  key-same : (d : Direction) → least step.class ≡ c → (walk : PathValue) → is_past d (c ∷ codes) (after_step step walk) ≡ is_past d codes walk
  unfolding key_of precedes
  key-same Forward h walk =
      ap (λ (l : ℕ). nat_lt c l || ((c == l) && precedes codes (key_of walk.steps))) h
      ∙ ap (λ (t : Bool). t || ((c == c) && precedes codes (key_of walk.steps))) (not-below c)
      ∙ ap (λ (t : Bool). t && precedes codes (key_of walk.steps)) (eqb-self c)
  key-same Backward h walk =
      ap (λ (l : ℕ). nat_lt l c || ((l == c) && precedes (key_of walk.steps) codes)) h
      ∙ ap (λ (t : Bool). t || ((c == c) && precedes (key_of walk.steps) codes)) (not-below c)
      ∙ ap (λ (t : Bool). t && precedes (key_of walk.steps) codes) (eqb-self c)

-- THE WALKS BY ONE EDGE

module _ (d : Direction) (goal : Goal) (is_met : Bool) (known : List (List PathValue)) (m : ℕ) (e : Edge) (c : ℕ) (codes : List ℕ) where
  abbrev step : StepValue
  step = record { module_number = m; class = e.class }

  -- the wanted walks after the edge
  abbrev onward : List PathValue
  onward = wanted_of goal (is_met || met_by goal step) (walks_to known e.target)

  stepped : wanted_of goal is_met (walks_by known m e) ≡ map (after_step step) onward
  stepped = wanted-stepped goal is_met step (walks_to known e.target)

  part-beyond : is_beyond d c (least e.class) ≡ true → part d (c ∷ codes) (wanted_of goal is_met (walks_by known m e)) ≡ wanted_of goal is_met
      (walks_by known m e)
  part-beyond h =
      ap (part d (c ∷ codes)) stepped ∙ filter-all (is_past d (c ∷ codes)) (after_step step) (key-beyond step c codes d h) onward ∙ sym stepped

  part-nearer : is_beyond d c (least e.class) ≡ false → (least e.class == c) ≡ false → (c == least e.class) ≡ false →
      part d (c ∷ codes) (wanted_of goal is_met (walks_by known m e)) ≡ []
  part-nearer h other back =
      ap (part d (c ∷ codes)) stepped ∙ filter-none (is_past d (c ∷ codes)) (after_step step) (key-nearer step c codes d h other back) onward

  part-same : least e.class ≡ c → part d (c ∷ codes) (wanted_of goal is_met (walks_by known m e)) ≡ map (after_step step) (part d codes onward)
  part-same h =
      ap (part d (c ∷ codes)) stepped
      ∙ filter-map (is_past d (c ∷ codes)) (is_past d codes) (after_step step) (key-same step c codes d h) onward

-- EDGES IN ORDER

-- the least codes of edges come after a code
unfoldable pub AreBeyond : Direction → ℕ → List Edge → Type 0
AreBeyond d c [] = Unit {0}
AreBeyond d c (e ∷ es) = (is_beyond d c (least e.class) ≡ true) × AreBeyond d c es

-- each comes after those before it
unfoldable pub AreOrdered : Direction → List Edge → Type 0
AreOrdered d [] = Unit {0}
AreOrdered d (e ∷ es) = AreBeyond d (least e.class) es × AreOrdered d es

beyond-then : (d : Direction) (a b c : ℕ) → is_beyond d a b ≡ true → is_beyond d b c ≡ true → is_beyond d a c ≡ true
beyond-then Forward a b c h k = lt-ltb a c (omega (arith, ltb-true a b h, ltb-true b c k))
beyond-then Backward a b c h k = lt-ltb c a (omega (arith, ltb-true b a h, ltb-true c b k))

beyond-all : (d : Direction) (a b : ℕ) (es : List Edge) → is_beyond d a b ≡ true → AreBeyond d b es → AreBeyond d a es
unfolding AreBeyond
beyond-all d a b [] h k = tt
beyond-all d a b (e ∷ es) h k = (beyond-then d a b (least e.class) h k.0, beyond-all d a b es h k.1)

beyond-append : (d : Direction) (c : ℕ) (xs ys : List Edge) → AreBeyond d c xs → AreBeyond d c ys → AreBeyond d c (xs ++ ys)
unfolding AreBeyond
beyond-append d c [] ys h k = k
beyond-append d c (x ∷ xs) ys h k = (h.0, beyond-append d c xs ys h.1 k)

beyond-reverse : (d : Direction) (c : ℕ) (es : List Edge) → AreBeyond d c es → AreBeyond d c (reverse es)
unfolding AreBeyond
beyond-reverse d c [] h = h
beyond-reverse d c (e ∷ es) h =
    subst (AreBeyond d c) (sym (reverse-append (e ∷ []) es)) (beyond-append d c (reverse es) (e ∷ []) (beyond-reverse d c es h.1) (h.0, tt))

beyond-rise : (c low high : ℕ) (es : List Edge) → c < low → LeastRise low high es → AreBeyond Forward c es
unfolding AreBeyond LeastRise
beyond-rise c low high [] l h = tt
beyond-rise c low high (e ∷ es) l h =
    (lt-ltb c (least e.class) (omega (arith, l, h.0)), beyond-rise c (least e.class + 1) high es (omega (arith, l, h.0)) h.1)

ordered-rise : (low high : ℕ) (es : List Edge) → LeastRise low high es → AreOrdered Forward es
unfolding AreOrdered LeastRise
ordered-rise low high [] h = tt
ordered-rise low high (e ∷ es) h =
    (beyond-rise (least e.class) (least e.class + 1) high es (omega arith) h.1, ordered-rise (least e.class + 1) high es h.1)

ordered-push : (es : List Edge) (e : Edge) → AreOrdered Backward es → AreBeyond Forward (least e.class) es → AreOrdered Backward (es ++ e ∷ [])
unfolding AreOrdered AreBeyond
ordered-push [] e h k = (tt, tt)
ordered-push (x ∷ xs) e h k = (beyond-append Backward (least x.class) xs (e ∷ []) h.0 (k.0, tt), ordered-push xs e h.1 k.1)

ordered-reverse : (es : List Edge) → AreOrdered Forward es → AreOrdered Backward (reverse es)
unfolding AreOrdered
ordered-reverse [] h = tt
ordered-reverse (e ∷ es) h =
    subst (AreOrdered Backward) (sym (reverse-append (e ∷ []) es))
    (ordered-push (reverse es) e (ordered-reverse es h.1) (beyond-reverse Forward (least e.class) es h.0))

ordered-in : (d : Direction) (low high : ℕ) (es : List Edge) → LeastRise low high es → AreOrdered d (edges_in d es)
ordered-in Forward low high es h = ordered-rise low high es h
ordered-in Backward low high es h = ordered-reverse es (ordered-rise low high es h)

ordered-drop : (d : Direction) (i : ℕ) (es : List Edge) → AreOrdered d es → AreOrdered d (drop i es)
unfolding AreOrdered
ordered-drop d zero es h = h
ordered-drop d (suc i) [] h = tt
ordered-drop d (suc i) (e ∷ es) h = ordered-drop d i es h.1

-- WHERE A KEY TURNS OFF

module _ (d : Direction) (goal : Goal) (is_met : Bool) (known : List (List PathValue)) (m c : ℕ) (codes : List ℕ) where
  part-first : (e : Edge) (es : List Edge) → part d (c ∷ codes) (wanted_by goal is_met known m (e ∷ es))
      ≡ part d (c ∷ codes) (wanted_of goal is_met (walks_by known m e)) ++ part d (c ∷ codes) (wanted_by goal is_met known m es)
  part-first e es =
      ap (part d (c ∷ codes)) (filter-append (wanted goal is_met) (walks_by known m e) (flat_map (walks_by known m) es))
      ∙ filter-append (is_past d (c ∷ codes)) (wanted_of goal is_met (walks_by known m e)) (wanted_by goal is_met known m es)

  part-all : (es : List Edge) → AreBeyond d c es → part d (c ∷ codes) (wanted_by goal is_met known m es) ≡ wanted_by goal is_met known m es
  unfolding AreBeyond
  part-all [] h = refl
  part-all (e ∷ es) h =
      part-first e es
      ∙ ap (λ (x : List PathValue). x ++ part d (c ∷ codes) (wanted_by goal is_met known m es)) (part-beyond d goal is_met known m e c codes h.0)
      ∙ ap (λ (x : List PathValue). wanted_of goal is_met (walks_by known m e) ++ x) (part-all es h.1)
      ∙ sym (filter-append (wanted goal is_met) (walks_by known m e) (flat_map (walks_by known m) es))

  -- at the edge of the code
  pub turn-same : (e : Edge) (es : List Edge) → AreOrdered d (e ∷ es) → least e.class ≡ c → part d (c ∷ codes) (wanted_by goal is_met known m (e ∷ es))
      ≡ part_by d goal is_met known m codes (Some e) ++ wanted_by goal is_met known m es
  unfolding AreOrdered
  turn-same e es h is =
      part-first e es
      ∙ ap (λ (x : List PathValue). x ++ part d (c ∷ codes) (wanted_by goal is_met known m es)) (part-same d goal is_met known m e c codes is)
      ∙ ap (λ (x : List PathValue). part_by d goal is_met known m codes (Some e) ++ x)
      (part-all es (subst (λ (x : ℕ). AreBeyond d x es) is h.0))

  -- at the first edge after the code
  pub turn-beyond : (e : Edge) (es : List Edge) → AreOrdered d (e ∷ es) → is_beyond d c (least e.class) ≡ true →
      part d (c ∷ codes) (wanted_by goal is_met known m (e ∷ es)) ≡ wanted_by goal is_met known m (e ∷ es)
  unfolding AreOrdered AreBeyond
  turn-beyond e es h beyond = part-all (e ∷ es) (beyond, beyond-all d c (least e.class) es beyond h.0)

  -- at an edge before the code
  pub turn-nearer : (e : Edge) (es : List Edge) → is_beyond d c (least e.class) ≡ false → (least e.class ≡ c → ⊥) →
      part d (c ∷ codes) (wanted_by goal is_met known m (e ∷ es)) ≡ part d (c ∷ codes) (wanted_by goal is_met known m es)
  turn-nearer e es h other =
      part-first e es
      ∙ ap (λ (x : List PathValue). x ++ part d (c ∷ codes) (wanted_by goal is_met known m es)) (part-nearer d goal is_met known m e c codes h
      (ne_eqb (least e.class) c other) (ne_eqb c (least e.class) (λ (same : c ≡ least e.class). other (sym same))))

-- the edges that are left, in order
pub ordered-left : (d : Direction) (es : List Edge) (i : ℕ) (e : Edge) → LeastRise 0 31 es → i < length es → e ≡ slice_index_or (edges_in d es) i e →
    AreOrdered d (e ∷ drop (i + 1) (edges_in d es))
ordered-left d es i e rise l is = subst (AreOrdered d) (drop-in d es i e l is) (ordered-drop d i (edges_in d es) (ordered-in d 0 31 es rise))

-- WHERE A WALK OR A KEY ENDS

module _ (d : Direction) (goal : Goal) where
  end-part : (is_met has_code : Bool) (decision : ℕ) (k : List ℕ) → is_past d k (ended decision) ≡ has_code →
      part d k (wanted_of goal is_met (ended decision ∷ [])) ≡ cond has_code (wanted_of goal is_met (ended decision ∷ [])) []
  end-part is_met has_code decision k h =
      elim (wanted goal is_met (ended decision)) as (λ (t : Bool).
      part d k (cond t (ended decision ∷ []) []) ≡ cond has_code (cond t (ended decision ∷ []) []) []) [
        | true ↦ ap (λ (t : Bool). cond t (ended decision ∷ []) []) h
        | false ↦ sym (nothing has_code)
      ]
    where
      nothing : (t : Bool) → cond t (wanted_of goal is_met []) [] ≡ []
      nothing true = refl
      nothing false = refl

  at-edges : (is_met past : Bool) (known : List (List PathValue)) (m : ℕ) →
      ((step : StepValue) (walk : PathValue) → is_past d [] (after_step step walk) ≡ past) →
      (es : List Edge) → part d [] (wanted_by goal is_met known m es) ≡ cond past (wanted_by goal is_met known m es) []
  at-edges is_met true known m h [] = refl
  at-edges is_met false known m h [] = refl
  at-edges is_met true known m h (e ∷ es) =
      let step : StepValue = record { module_number = m; class = e.class } in
      let first = wanted-first goal is_met (is_met || met_by goal step) known m e es refl in
      let below = wanted_of goal (is_met || met_by goal step) (walks_to known e.target) in
      ap (part d []) first
      ∙ filter-append (is_past d []) (map (after_step step) below) (wanted_by goal is_met known m es)
      ∙ ap (λ (x : List PathValue). x ++ part d [] (wanted_by goal is_met known m es)) (filter-all (is_past d []) (after_step step) (h step) below)
      ∙ ap (λ (x : List PathValue). map (after_step step) below ++ x) (at-edges is_met true known m h es)
      ∙ sym first
  at-edges is_met false known m h (e ∷ es) =
      let step : StepValue = record { module_number = m; class = e.class } in
      let below = wanted_of goal (is_met || met_by goal step) (walks_to known e.target) in
      ap (part d []) (wanted-first goal is_met (is_met || met_by goal step) known m e es refl)
      ∙ filter-append (is_past d []) (map (after_step step) below) (wanted_by goal is_met known m es)
      ∙ ap (λ (x : List PathValue). x ++ part d [] (wanted_by goal is_met known m es)) (filter-none (is_past d []) (after_step step) (h step) below)
      ∙ at-edges is_met false known m h es

longer : (d : Direction) (index : ℕ) (step : StepValue) (walk : PathValue) → is_past d [] (after_step step walk) ≡ is_past_end d false (At index)
unfolding key_of precedes
longer Forward index one walk = refl
longer Backward index one walk = refl

shorter : (d : Direction) (decision c : ℕ) (codes : List ℕ) → is_past d (c ∷ codes) (ended decision) ≡ is_past_end d true (End decision)
unfolding key_of precedes
shorter Forward decision c codes = refl
shorter Backward decision c codes = refl

equal : (d : Direction) (decision : ℕ) → is_past d [] (ended decision) ≡ is_past_end d false (End decision)
unfolding key_of precedes
equal Forward decision = refl
equal Backward decision = refl

module _ (d : Direction) (goal : Goal) (nodes : List Node) (is_met : Bool) where
  abbrev onward_to : Target → List PathValue
  onward_to t = wanted_of goal is_met (walks_to (known_in d nodes) t)

  -- where a walk ends, and the key has further codes
  pub past-end : (t : Target) (decision c : ℕ) (codes : List ℕ) → t ≡ End decision →
      part d (c ∷ codes) (onward_to t) ≡ cond (is_past_end d true t) (onward_to t) []
  past-end t decision c codes is =
      ap (λ (x : Target). part d (c ∷ codes) (onward_to x)) is
      ∙ end-part d goal is_met (is_past_end d true (End decision)) decision (c ∷ codes) (shorter d decision c codes)
      ∙ sym (ap (λ (x : Target). cond (is_past_end d true x) (onward_to x) []) is)

  some-node : {index : ℕ} (nodes : List Node) → index < length nodes → Node
  some-node [] l = absurd (omega arith)
  some-node (node ∷ nodes) l = node

  -- where the key ends
  pub past-key : (t : Target) (low : ℕ) → AreNodes [] nodes → IsAbove (numbers_of nodes) low t →
      part d [] (onward_to t) ≡ cond (is_past_end d false t) (onward_to t) []
  past-key (End decision) low order above = end-part d goal is_met (is_past_end d false (End decision)) decision [] (equal d decision)
  past-key (At index) low order above =
      let l : index < length nodes = omega (arith, above.0, length-map nodes number_of) in
      let one : Node = some-node nodes l in
      let node : Node = slice_index_or nodes index one in
      let walks = ap (wanted_of goal is_met) (walks-in nodes order index node l (get_or_default nodes index one node l) d) in
      ap (part d []) walks
      ∙ at-edges d goal is_met (is_past_end d false (At index)) (known_in d nodes) node.module_number (longer d index) (edges_in d node.edges.items)
      ∙ sym (ap (λ (x : List PathValue). cond (is_past_end d false (At index)) x []) walks)

-- the walks that are left, where the way on is taken or not
pub taken : (d : Direction) (goal : Goal) (nodes : List Node) (fs : List Frame) (way : Way) (t : Bool) →
    under fs (cond t (along d goal nodes way) []) ++ ahead d goal nodes fs ≡ coming d goal nodes (cond t (Some way) None) fs
unfolding coming
taken d goal nodes fs way true = refl
taken d goal nodes fs way false = ap (λ (x : List PathValue). x ++ ahead d goal nodes fs) (after_steps-nil (map step_in fs))

-- THE FRAME AT WHICH A KEY TURNS OFF

module _ (d : Direction) (goal : Goal) (nodes : List Node) (order : AreNodes [] nodes) (index : ℕ) (node : Node) (l : index < length nodes)
    (at : node ≡ slice_index_or nodes index node) where
  abbrev turned_frame : Bool → ℕ → List ℕ → Frame
  turned_frame is_met next class = record { node = index; module_number = node.module_number; next = next; is_met = is_met; class = class }

  pub turned : (fs : List Frame) (is_met : Bool) (c : ℕ) (codes : List ℕ) (turn : Turn) (class : List ℕ) (below : List PathValue) →
      IsTurn d node.edges.items c turn →
      part_by d goal is_met (known_in d nodes) node.module_number codes turn.edge
      ≡ map (after_step (record { module_number = node.module_number; class = class })) below →
      under fs (part d (c ∷ codes) (along d goal nodes (record { target = At index; is_met = is_met }))) ++ ahead d goal nodes fs
      ≡ under (fs ++ turned_frame is_met turn.next class ∷ []) below ++ ahead d goal nodes (fs ++ turned_frame is_met turn.next class ∷ [])
  turned fs is_met c codes turn class below is same =
      let known = known_in d nodes in
      let m = node.module_number in
      let onward : List Edge → List PathValue = λ es. wanted_by goal is_met known m (drop turn.next (edges_in d es)) in
      ahead-enter d goal nodes fs (turned_frame is_met turn.next class) below _
      (ap (part d (c ∷ codes)) (ap (wanted_of goal is_met) (walks-in nodes order index node l at d))
      ∙ is goal is_met known m codes
      ∙ ap (λ (x : List PathValue). x ++ onward node.edges.items) same
      ∙ ap (λ (es : List Edge). map (after_step (record { module_number = m; class = class })) below ++ onward es)
      (sym (edges-are nodes index node l at)))

-- what is left is another way to say it
pub told-coming : {E : Type 0} (r : Result WalksLeft E) (one other : List PathValue) → IfOk r (λ w. w.coming ≡ one) → one ≡ other →
    IfOk r (λ w. w.coming ≡ other)
told-coming (Ok w) one other h is = h ∙ is
told-coming (Err e) one other h is = tt
