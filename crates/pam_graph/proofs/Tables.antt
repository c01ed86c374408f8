-- Values of the nodes of a graph.
use Rattle.std.proofs.Common.{◌≡◌, ℕ, ◌+◌, List, [], ◌∷◌, ◌++◌, map, refl, sym, ◌∙◌, ap, subst, arith, append_assoc, append-nil, length}
use Rattle.std.proofs.lemmas.List.{length-append}
use Rattle.std.proofs.Math.ListN.{get_or-append}
use Rattle.std.specs.List.{flat_map}
use Rattle.pam_graph.specs.declared.node.Edge.{Edge}
use Rattle.pam_graph.specs.declared.node.Node.{Node}
use Rattle.pam_graph.specs.declared.node.Target.{Target}
use Rattle.pam_graph.specs.declared.node.Target.TheVariants.{At, End}
use Rattle.pam_graph.specs.Walks.{table, walks_at, walks_by, walks_of, walks_to}
use Rattle.pam_graph.specs.inner.Within.{AreWithin, IsWithin}
use Rattle.pam_paths.specs.Computed.{after_step}
use Rattle.pam_paths.specs.Paths.{PathValue}

module _ {A : Type 0} (value : List A → Node → A) where
  pub table-append : (known : List A) (xs ys : List Node) → table value known (xs ++ ys) ≡ table value (table value known xs) ys
  unfolding table
  table-append known [] ys = refl
  table-append known (x ∷ xs) ys = table-append (known ++ value known x ∷ []) xs ys

  pub table-push : (known : List A) (xs : List Node) (node : Node) →
      table value known (xs ++ node ∷ []) ≡ table value known xs ++ value (table value known xs) node ∷ []
  unfolding table
  table-push known xs node = table-append known xs (node ∷ [])

  pub length-table : (known : List A) (xs : List Node) → length (table value known xs) ≡ length known + length xs
  unfolding table
  length-table known [] = omega arith
  length-table known (x ∷ xs) =
      let again = length-table (known ++ value known x ∷ []) xs in
      omega (arith, again, length-append known (value known x ∷ []))

  -- a table begins with the values that are known
  pub table-begins : (known : List A) (xs : List Node) → (more : List A) × (table value known xs ≡ known ++ more)
  unfolding table
  table-begins known [] = ([], sym (append-nil known))
  table-begins known (x ∷ xs) =
      let again = table-begins (known ++ value known x ∷ []) xs in
      (value known x ∷ again.0, again.1 ∙ append_assoc known (value known x ∷ []) again.0)

-- the walks of the first nodes stay when nodes are added
pub walks-begin : (old more : List Node) → (values : List (List PathValue)) × (walks_of (old ++ more) ≡ walks_of old ++ values)
walks-begin old more =
    let begins = table-begins walks_at (walks_of old) more in (begins.0, table-append walks_at [] old more ∙ begins.1)

pub length-walks_of : (nodes : List Node) → length (walks_of nodes) ≡ length nodes
length-walks_of nodes = let k = length-table walks_at [] nodes in omega (arith, k)

walks_to-more : (known more : List (List PathValue)) (t : Target) → IsWithin (length known) t → walks_to (known ++ more) t ≡ walks_to known t
walks_to-more known more (At index) h = get_or-append known more [] index h
walks_to-more known more (End d) h = refl

edges-more : (known more : List (List PathValue)) (number : ℕ) (edges : List Edge) → AreWithin (length known) edges →
    flat_map (walks_by (known ++ more) number) edges ≡ flat_map (walks_by known number) edges
unfolding AreWithin
edges-more known more number [] h = refl
edges-more known more number (edge ∷ edges) h =
    ap (λ (x : List PathValue). map (after_step (record { module_number = number; class = edge.class })) x ++ flat_map (walks_by (known ++ more) number) edges)
    (walks_to-more known more edge.target h.0)
    ∙ ap (λ (x : List PathValue). walks_by known number edge ++ x) (edges-more known more number edges h.1)

-- the walks from a target, and from edges, stay when nodes are added
pub walks_to-added : (old more : List Node) (t : Target) → IsWithin (length old) t → walks_to (walks_of (old ++ more)) t ≡ walks_to (walks_of old) t
walks_to-added old more t h =
    let begins = walks-begin old more in
    ap (λ (x : List (List PathValue)). walks_to x t) begins.1
    ∙ walks_to-more (walks_of old) begins.0 t (subst (λ n. IsWithin n t) (sym (length-walks_of old)) h)

pub edges-added : (old more : List Node) (number : ℕ) (edges : List Edge) → AreWithin (length old) edges →
    flat_map (walks_by (walks_of (old ++ more)) number) edges ≡ flat_map (walks_by (walks_of old) number) edges
edges-added old more number edges h =
    let begins = walks-begin old more in
    ap (λ (x : List (List PathValue)). flat_map (walks_by x number) edges) begins.1
    ∙ edges-more (walks_of old) begins.0 number edges (subst (λ n. AreWithin n edges) (sym (length-walks_of old)) h)
