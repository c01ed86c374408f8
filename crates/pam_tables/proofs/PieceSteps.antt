-- The first `::` of a text, and pieces one after another.
use Rattle.std.proofs.Common.{◌≡◌, ◌∙◌, ◌+◌, ◌-◌, ◌*◌, ◌<◌, ◌≤◌, ℕ, suc, Bool, true, false, List, [], ◌∷◌, ◌++◌, length, take, drop, get_or, cond, codes}
use Rattle.std.proofs.Common.{nat_eq, nat_le, replicate, Option, Some, None, refl, sym, ap, ap₂, arith, append_assoc, append-nil}
use Rattle.std.specs.List.{starts_with, slice_split}
use Rattle.std.specs.Option.{option_map, option_map_or}
use Rattle.std.proofs.lemmas.Bool.{lt-leb, le-leb, leb-false}
use Rattle.std.proofs.lemmas.List.{drop_more, drop_all, take_more}
use Rattle.pam_tables.specs.Lines.{is_among, cut_at}
use Rattle.pam_tables.specs.Address.{double_colon, number_from, numeral, pieces_in, pieces_of, last_pieces, with_piece}
use Rattle.pam_tables.specs.inner.Address.{more_pieces}
use Rattle.pam_tables.proofs.Cutting.{split_parts}
use Rattle.pam_text.proofs.Splits.{split_found, split_none}

-- a cut of the text after the first n bytes, as a cut of the whole text
abbrev pub after : ℕ → List ℕ → Option (List ℕ × List ℕ) → Option (List ℕ × List ℕ)
after n text o = option_map (λ q. (take n text ++ q.0, q.1)) o

pub after_start : (text : List ℕ) (o : Option (List ℕ × List ℕ)) → after 0 text o ≡ o
after_start text None = refl
after_start text (Some x) = refl

after_more : (n : ℕ) (text : List ℕ) (b : ℕ) (o : Option (List ℕ × List ℕ)) → take (n + 1) text ≡ take n text ++ b ∷ [] →
    after (n + 1) text o ≡ after n text (option_map (λ q. (b ∷ q.0, q.1)) o)
after_more n text b None h = refl
after_more n text b (Some x) h = ap (λ (s : List ℕ). Some (s, x.1)) (ap (λ (s : List ℕ). s ++ x.0) h ∙ append_assoc (take n text) (b ∷ []) x.0)

pub colon_miss : (n : ℕ) (text : List ℕ) → n < length text → starts_with nat_eq (drop n text) (codes "::") ≡ false →
    after (n + 1) text (double_colon (drop (n + 1) text)) ≡ after n text (double_colon (drop n text))
unfolding double_colon
colon_miss n text h e =
    let b : ℕ = get_or text n 0 in
    let d : drop n text ≡ b ∷ drop (n + 1) text = drop_more text n 0 h in
    let f : starts_with nat_eq (b ∷ drop (n + 1) text) (codes "::") ≡ false = rw d at e in
    after_more n text b (double_colon (drop (n + 1) text)) (take_more text n 0 h)
    ∙ sym (ap (λ (s : List ℕ). after n text (double_colon s)) d ∙ ap
    (λ (t : Bool). after n text (cond t (Some ([], drop 2 (b ∷ drop (n + 1) text))) (option_map (λ q. (b ∷ q.0, q.1)) (double_colon (drop (n + 1) text)))))
    f)

pub colon_found : (n : ℕ) (text front rest r : List ℕ) → n < length text → front ≡ take n text → rest ≡ drop n text →
    starts_with nat_eq rest (codes "::") ≡ true → r ≡ drop 2 rest → Some (front, r) ≡ after n text (double_colon (drop n text))
unfolding double_colon
colon_found n text front rest r h p q e g =
    let b : ℕ = get_or text n 0 in
    let d : drop n text ≡ b ∷ drop (n + 1) text = drop_more text n 0 h in
    let f : starts_with nat_eq (b ∷ drop (n + 1) text) (codes "::") ≡ true = rw (q, d) at e in
    sym (ap (λ (s : List ℕ). after n text (double_colon s)) d ∙ ap
    (λ (t : Bool). after n text (cond t (Some ([], drop 2 (b ∷ drop (n + 1) text))) (option_map (λ q. (b ∷ q.0, q.1)) (double_colon (drop (n + 1) text)))))
    f
    ∙ ap₂ (λ x y. Some (x, y)) (append-nil (take n text) ∙ sym p) (sym (g ∙ ap (drop 2) (q ∙ d))))

pub colon_end : (n : ℕ) (text : List ℕ) → length text ≤ n → None ≡ after n text (double_colon (drop n text))
unfolding double_colon
colon_end n text h = sym (ap (λ (s : List ℕ). after n text (double_colon s)) (drop_all n text h))

-- ---- zeros

pub one_zero : (n k z : ℕ) → z < k → number_from 65536 (n * 65536 + 0) (replicate (k - (z + 1)) 0) ≡ number_from 65536 n (replicate (k - z) 0)
one_zero n k z h = let e : k - z ≡ suc (k - (z + 1)) = omega arith in rw e refl

-- ---- pieces after others

pub more_with : (n c piece : ℕ) (o : Option (List ℕ)) → more_pieces (n * 65536 + piece) (c + 1) o ≡ more_pieces n c (with_piece (Some piece) o)
more_with n c piece None = refl
more_with n c piece (Some ps) =
    let e : c + 1 + length ps ≡ c + length (piece ∷ ps) = omega arith in ap (λ m. cond (nat_le m 8) (Some (number_from 65536 (n * 65536 + piece) ps, m)) None) e

pub more_full : (n c piece : ℕ) (o : Option (List ℕ)) → 8 ≤ c → None ≡ more_pieces n c (with_piece (Some piece) o)
more_full n c piece None h = refl
more_full n c piece (Some ps) h = let e : nat_le (c + length (piece ∷ ps)) 8 ≡ false = lt-leb _ _ (omega arith) in rw e refl

-- a piece was appended
pub one_more : (n c piece x y : ℕ) → Some (x, y) ≡ more_pieces n c (Some (piece ∷ [])) → (x ≡ n * 65536 + piece) × (y ≡ c + 1)
one_more n c piece x y h =
    elim (nat_le (c + 1) 8) as (λ (t : Bool). ◌≡◌ {A = Option (ℕ × ℕ)} (Some (x, y)) (cond t (Some (n * 65536 + piece, c + 1)) None) →
    (x ≡ n * 65536 + piece) × (y ≡ c + 1)) [
      | true ↦ λ e. (ap (λ (o : Option (ℕ × ℕ)). option_map_or (λ q. q.0) o 0) e, ap (λ (o : Option (ℕ × ℕ)). option_map_or (λ q. q.1) o 0) e)
      | false ↦ λ e. absurd (cc)
    ] h

-- there is no room for one more
pub no_more : (n c piece : ℕ) → None ≡ more_pieces n c (Some (piece ∷ [])) → 8 ≤ c
no_more n c piece h =
    elim (nat_le (c + 1) 8) as (λ (t : Bool). nat_le (c + 1) 8 ≡ t → ◌≡◌ {A = Option (ℕ × ℕ)} None (cond t (Some (n * 65536 + piece, c + 1)) None) → 8 ≤ c) [
      | true ↦ λ e f. absurd (cc)
      | false ↦ λ e f. let k : 8 < c + 1 = leb-false _ _ e in omega arith
    ] refl h

pub pieces_step : (t : Bool) (rest a r : List ℕ) → Some (a, r) ≡ cut_at (is_among (codes ":")) rest →
    pieces_in t (slice_split (is_among (codes ":")) rest) ≡ with_piece (numeral 16 4 a) (pieces_in t (slice_split (is_among (codes ":")) r))
pieces_step t rest a r e =
    let ps = split_parts (is_among (codes ":")) r in
    ap (pieces_in t) (split_found (is_among (codes ":")) rest a r e) ∙ ap (λ (qs : List (List ℕ)). pieces_in t (a ∷ qs)) ps.are
    ∙ ap (λ (qs : List (List ℕ)). with_piece (numeral 16 4 a) (pieces_in t qs)) (sym ps.are)

pub pieces_text : (t : Bool) (text : List ℕ) → (length text ≡ 0 → ⊥) → pieces_of t text ≡ pieces_in t (slice_split (is_among (codes ":")) text)
unfolding pieces_of
pieces_text t [] h = absurd (h refl)
pieces_text t (b ∷ bs) h = refl

pub pieces_empty : (t : Bool) (text : List ℕ) → length text ≡ 0 → pieces_of t text ≡ Some []
unfolding pieces_of
pieces_empty t [] h = refl
pieces_empty t (b ∷ bs) h = absurd (omega arith)

-- an invalid piece makes the text invalid
pub piece_fails : (n c : ℕ) (t : Bool) (rest a r : List ℕ) → Some (a, r) ≡ cut_at (is_among (codes ":")) rest → None ≡ numeral 16 4 a →
    None ≡ more_pieces n c (pieces_in t (slice_split (is_among (codes ":")) rest))
piece_fails n c t rest a r e f =
    sym (ap (more_pieces n c) (pieces_step t rest a r e ∙ ap (λ (o : Option ℕ). with_piece o (pieces_in t (slice_split (is_among (codes ":")) r))) (sym f)))

pub piece_over : (n c piece : ℕ) (t : Bool) (rest a r : List ℕ) → Some (a, r) ≡ cut_at (is_among (codes ":")) rest → Some piece ≡ numeral 16 4 a →
    None ≡ more_pieces n c (Some (piece ∷ [])) → None ≡ more_pieces n c (pieces_in t (slice_split (is_among (codes ":")) rest))
piece_over n c piece t rest a r e f g =
    more_full n c piece (pieces_in t (slice_split (is_among (codes ":")) r)) (no_more n c piece g)
    ∙ sym (ap (more_pieces n c) (pieces_step t rest a r e ∙ ap (λ (o : Option ℕ). with_piece o (pieces_in t (slice_split (is_among (codes ":")) r))) (sym f)))

pub piece_goes_on : (n c piece x y : ℕ) (t : Bool) (rest a r : List ℕ) → Some (a, r) ≡ cut_at (is_among (codes ":")) rest → Some piece ≡ numeral 16 4 a →
    Some (x, y) ≡ more_pieces n c (Some (piece ∷ []))
    → more_pieces x y (pieces_in t (slice_split (is_among (codes ":")) r)) ≡ more_pieces n c (pieces_in t (slice_split (is_among (codes ":")) rest))
piece_goes_on n c piece x y t rest a r e f g =
    let p = one_more n c piece x y g in
    ap₂ (λ v w. more_pieces v w (pieces_in t (slice_split (is_among (codes ":")) r))) p.0 p.1
    ∙ more_with n c piece (pieces_in t (slice_split (is_among (codes ":")) r))
    ∙ sym (ap (more_pieces n c) (pieces_step t rest a r e ∙ ap (λ (o : Option ℕ). with_piece o (pieces_in t (slice_split (is_among (codes ":")) r))) (sym f)))

pub piece_last : (n c : ℕ) (t : Bool) (rest : List ℕ) → None ≡ cut_at (is_among (codes ":")) rest →
    more_pieces n c (last_pieces t rest) ≡ more_pieces n c (pieces_in t (slice_split (is_among (codes ":")) rest))
piece_last n c t rest e = sym (ap (λ (qs : List (List ℕ)). more_pieces n c (pieces_in t qs)) (split_none (is_among (codes ":")) rest e))

pub more_nothing : (n c : ℕ) (o : Option (List ℕ)) → c ≤ 8 → o ≡ Some [] → Some (n, c) ≡ more_pieces n c o
more_nothing n c o h e =
    let k : nat_le (c + 0) 8 ≡ true = le-leb _ _ (omega arith) in
    let z : c + 0 ≡ c = omega arith in
    sym (ap (more_pieces n c) e ∙ ap (λ (t : Bool). cond t (Some (n, c + 0)) None) k ∙ ap (λ m. Some (n, m)) z)
