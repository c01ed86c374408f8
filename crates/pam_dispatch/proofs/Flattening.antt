-- The flat list of a tree runs as the tree.
use Rattle.std.proofs.Common.{◌≡◌, ℕ, ◌+◌, ◌-◌, ◌<◌, ◌≤◌, List, [], ◌∷◌, ◌++◌, zero, suc, refl, sym, ◌∙◌, ap, arith, take, length, get_or}
use Rattle.std.proofs.Common.{append_assoc, append-nil}
use Rattle.std.proofs.lemmas.List.{take_all, take-append-le, get_or-append_right, length-append, get_or_append_left}
use Rattle.pam_dispatch.specs.declared.state.State.{State}
use Rattle.pam_dispatch.specs.declared.step.Outcome.{Outcome}
use Rattle.pam_dispatch.specs.declared.flat_item.FlatItem.{FlatItem}
use Rattle.pam_dispatch.specs.declared.flat_item.FlatItem.TheVariants.{Module, Substack}
use Rattle.pam_dispatch.specs.Runs.{Runs, asks}
use Rattle.pam_dispatch.specs.Tree.{count, runs_after, runs_of_stack}
use Rattle.pam_conf.specs.Stack.{Items, End, ThenModule, ThenSub}
use Rattle.pam_dispatch.specs.Flat.{level_of, resume, runs_of}
use Rattle.pam_dispatch.specs.inner.Flat.{flat_list}
use Rattle.pam_dispatch.specs.State.{start_state}
use Rattle.pam_dispatch.proofs.Resume.{resume-deeper, resume-item, resume-sub, resume-module, ask_at}

-- the first item, if there is one, has a lower level
unfoldable pub HeadBelow : ℕ → List FlatItem → Type 0
HeadBelow level [] = Unit {0}
HeadBelow level (e ∷ ts) = level_of e < level

HeadBelow-flat_list : (level high : ℕ) (items : Items) (ts : List FlatItem) → level < high → HeadBelow level ts → HeadBelow high (flat_list level items ++ ts)
unfolding HeadBelow flat_list
HeadBelow-flat_list level high End [] l h = tt
HeadBelow-flat_list level high End (t ∷ ts) l h = omega (arith, h)
HeadBelow-flat_list level high (ThenModule m rest) ts l h = l
HeadBelow-flat_list level high (ThenSub sub inner rest) ts l h = l

-- the run of a flat list depends neither on the number to skip at a deeper level, nor on deeper entry states
same_above : (ts : List FlatItem) (level l1 k1 l2 k2 : ℕ) (es fs : List State) (s : State) → HeadBelow level ts → level ≤ suc l1 → level ≤ suc l2 →
    ((here : ℕ) → here < level → here ≡ l1 → 0 < k1 → ⊥) → ((here : ℕ) → here < level → here ≡ l2 → 0 < k2 → ⊥) →
    ((here : ℕ) → here < level → take (here + 1) es ≡ take (here + 1) fs) →
    ((here : ℕ) → here < level → get_or es here start_state ≡ get_or fs here start_state) →
    resume ts l1 k1 es s ≡ resume ts l2 k2 fs s
unfolding HeadBelow resume ask_at
same_above [] level l1 k1 l2 k2 es fs s h a b p q t g = refl
same_above (Module here m control after ∷ ts) level l1 k1 l2 k2 es fs s h a b p q t g =
    resume-module here m control after ts l1 k1 es s (omega arith) (p here h)
    ∙ ap (λ (x : State). asks (record { module_number = m; control = control; state = s; entry = x; after = after })
    (λ o. resume ts here (after - o.left) (take (here + 1) es) o.state)) (g here h)
    ∙ ap (λ (x : List State). asks (record { module_number = m; control = control; state = s; entry = get_or fs here start_state; after = after })
    (λ o. resume ts here (after - o.left) x o.state)) (t here h)
    ∙ sym (resume-module here m control after ts l2 k2 fs s (omega arith) (q here h))
same_above (Substack here ∷ ts) level l1 k1 l2 k2 es fs s h a b p q t g =
    resume-sub here ts l1 k1 es s (omega arith) (p here h)
    ∙ ap (λ (x : List State). resume ts (here + 1) 0 (x ++ s ∷ []) s) (t here h)
    ∙ sym (resume-sub here ts l2 k2 fs s (omega arith) (q here h))

-- deeper items are skipped
pass_deeper : (deep : ℕ) (items : Items) (ts : List FlatItem) (level skip : ℕ) (es : List State) (s : State) → level < deep →
    resume (flat_list deep items ++ ts) level skip es s ≡ resume ts level skip es s
unfolding flat_list
pass_deeper deep End ts level skip es s h = refl
pass_deeper deep (ThenModule m rest) ts level skip es s h =
    resume-deeper (Module deep m.number m.control (count rest)) (flat_list deep rest ++ ts) level skip es s h
    ∙ pass_deeper deep rest ts level skip es s h
pass_deeper deep (ThenSub sub inner rest) ts level skip es s h =
    resume-deeper (Substack deep) ((flat_list (deep + 1) inner ++ flat_list deep rest) ++ ts) level skip es s h
    ∙ ap (λ (x : List FlatItem). resume x level skip es s) (append_assoc (flat_list (deep + 1) inner) (flat_list deep rest) ts)
    ∙ pass_deeper (deep + 1) inner (flat_list deep rest ++ ts) level skip es s (omega arith)
    ∙ pass_deeper deep rest ts level skip es s h

-- the run of a flat list is that of its items
pub flat_runs : (items : Items) (level skip : ℕ) (ts : List FlatItem) (es : List State) (s e : State) → HeadBelow level ts → skip ≤ count items →
    length es ≡ level + 1 → get_or es level start_state ≡ e →
    resume (flat_list level items ++ ts) level skip es s ≡ runs_after skip items s e (λ t. resume ts level 0 es t)
unfolding flat_list runs_after count ask_at
flat_runs End level skip ts es s e h k len is =
    same_above ts level level skip level 0 es es s h (omega arith) (omega arith) (λ here l i z. omega arith) (λ here l i z. omega arith)
    (λ here l. refl) (λ here l. refl)
flat_runs (ThenModule m rest) level (suc k) ts es s e h le len is =
    let one : suc k - 1 ≡ k = omega arith in
    resume-item (Module level m.number m.control (count rest)) (flat_list level rest ++ ts) level (suc k) es s refl (omega arith)
    ∙ ap (λ (x : ℕ). resume (flat_list level rest ++ ts) level x es s) one
    ∙ flat_runs rest level k ts es s e h (omega arith) len is
flat_runs (ThenSub sub inner rest) level (suc k) ts es s e h le len is =
    let one : suc k - 1 ≡ k = omega arith in
    resume-item (Substack level) ((flat_list (level + 1) inner ++ flat_list level rest) ++ ts) level (suc k) es s refl (omega arith)
    ∙ ap (λ (x : ℕ). resume ((flat_list (level + 1) inner ++ flat_list level rest) ++ ts) level x es s) one
    ∙ ap (λ (x : List FlatItem). resume x level k es s) (append_assoc (flat_list (level + 1) inner) (flat_list level rest) ts)
    ∙ pass_deeper (level + 1) inner (flat_list level rest ++ ts) level k es s (omega arith)
    ∙ flat_runs rest level k ts es s e h (omega arith) len is
flat_runs (ThenModule m rest) level zero ts es s e h le len is =
    let next : Outcome → Runs = λ o. resume (flat_list level rest ++ ts) level (count rest - o.left) es o.state in
    resume-module level m.number m.control (count rest) (flat_list level rest ++ ts) level 0 es s (omega arith) (λ i z. omega arith)
    ∙ ap (λ (x : List State).
    asks (record { module_number = m.number; control = m.control; state = s; entry = get_or es level start_state; after = count rest })
    (λ o. resume (flat_list level rest ++ ts) level (count rest - o.left) x o.state))
    (take_all (level + 1) es (omega arith))
    ∙ ap (λ (x : State). asks (record { module_number = m.number; control = m.control; state = s; entry = x; after = count rest }) next) is
    ∙ ap (λ (f : Outcome → Runs). asks (record { module_number = m.number; control = m.control; state = s; entry = e; after = count rest }) f)
    (λ i o. flat_runs rest level (count rest - o.left) ts es o.state e h (omega arith) len is i)
flat_runs (ThenSub sub inner rest) level zero ts es s e h le len is =
    let more : List State = take (level + 1) es ++ s ∷ [] in
    let whole : take (level + 1) es ≡ es = take_all (level + 1) es (omega arith) in
    let rests = flat_list level rest ++ ts in
    let long : length more ≡ (level + 1) + 1 =
    ap (λ (x : List State). length (x ++ s ∷ [])) whole ∙ length-append es (s ∷ []) ∙ omega (arith, len) in
    let last : get_or more (level + 1) start_state ≡ s =
    ap (λ (x : List State). get_or (x ++ s ∷ []) (level + 1) start_state) whole
    ∙ get_or-append_right es (s ∷ []) (level + 1) (level + 1) start_state len (omega arith)
    ∙ ap (λ (x : ℕ). get_or (s ∷ []) x start_state) (let z : (level + 1) - (level + 1) ≡ 0 = omega arith in z) in
    resume-sub level ((flat_list (level + 1) inner ++ flat_list level rest) ++ ts) level 0 es s (omega arith) (λ i z. omega arith)
    ∙ ap (λ (x : List FlatItem). resume x (level + 1) 0 more s) (append_assoc (flat_list (level + 1) inner) (flat_list level rest) ts)
    ∙ flat_runs inner (level + 1) 0 rests more s s (HeadBelow-flat_list level (level + 1) rest ts (omega arith) h) (omega arith) long last
    ∙ ap (λ (f : State → Runs). runs_after 0 inner s s f) (λ i t.
    (same_above rests (level + 1) (level + 1) 0 level 0 more es t (HeadBelow-flat_list level (level + 1) rest ts (omega arith) h)
    (omega arith) (omega arith) (λ here l q z. omega arith) (λ here l q z. omega arith)
    (λ here l. ap (λ (x : List State). take (here + 1) (x ++ s ∷ [])) whole ∙ take-append-le (here + 1) es (s ∷ []) (omega (arith, len)))
    (λ here l. ap (λ (x : List State). get_or (x ++ s ∷ []) here start_state) whole ∙ get_or_append_left es (s ∷ []) start_state here (omega (arith, len)))
    ∙ flat_runs rest level 0 ts es t e h (omega arith) len is) i)

-- THE OPEN RUN of a stack's flat list is that of its tree
pub runs_of-flat_list : (items : Items) → runs_of (flat_list 0 items) ≡ runs_of_stack items
unfolding HeadBelow resume runs_of
runs_of-flat_list items =
    ap (λ (x : List FlatItem). resume x 0 0 (start_state ∷ []) start_state) (sym (append-nil (flat_list 0 items)))
    ∙ flat_runs items 0 0 [] (start_state ∷ []) start_state start_state tt (omega arith) refl refl
