-- The lines of the manual pages, by physical lines.
use Rattle.std.proofs.Common.{◌≡◌, ◌+◌, ◌&&◌, ◌∙◌, ℕ, Bool, true, false, List, [], ◌∷◌, map, cond, eqb, ap, sym, refl}
use Rattle.std.specs.List.{onto_first}
use Rattle.std.proofs.lemmas.Bool.{and_parts, eqb-true}
use Rattle.pam_text.specs.Text.{FileByte, file_bytes, uncommented, joined, text_of, lines_of}
use Rattle.pam_released.specs.Lines.{before_hash, continued, ends_in_backslash, last_is_space, manual_lines_of, onto_line, pieces}

-- WITHOUT THE NUMBERS OF LINES

bytes_in : List FileByte → List ℕ
bytes_in ms = map (λ m. m.1) ms

uncommented_bytes : Bool → List ℕ → List ℕ
uncommented_bytes inside [] = []
uncommented_bytes true (b ∷ bs) = cond (eqb b 10) (b ∷ uncommented_bytes false bs) (uncommented_bytes true bs)
uncommented_bytes false (b ∷ bs) = cond (eqb b 35) (uncommented_bytes true bs) (b ∷ uncommented_bytes false bs)

joined_bytes : List ℕ → List ℕ
joined_bytes [] = []
joined_bytes (b ∷ []) = b ∷ []
joined_bytes (b ∷ c ∷ bs) = cond (eqb b 92 && eqb c 10) (32 ∷ joined_bytes bs) (b ∷ joined_bytes (c ∷ bs))

file_bytes_are : (l : ℕ) (bs : List ℕ) → map (λ m. m.1) (file_bytes l bs) ≡ bs
unfolding file_bytes
file_bytes_are l [] = refl
file_bytes_are l (b ∷ bs) = ap (λ (r : List ℕ). b ∷ r) (file_bytes_are (cond (eqb b 10) (l + 1) l) bs)

uncommented_are : (i : Bool) (ms : List FileByte) → map (λ m. m.1) (uncommented i ms) ≡ uncommented_bytes i (map (λ m. m.1) ms)
unfolding uncommented uncommented_bytes
uncommented_are true [] = refl
uncommented_are false [] = refl
uncommented_are true (m ∷ ms) =
    elim (eqb m.1 10) as (λ (t : Bool). map (λ n. n.1) (cond t (m ∷ uncommented false ms) (uncommented true ms)) ≡
    cond t (m.1 ∷ uncommented_bytes false (map (λ n. n.1) ms)) (uncommented_bytes true (map (λ n. n.1) ms))) [
      | true ↦ ap (λ (r : List ℕ). m.1 ∷ r) (uncommented_are false ms)
      | false ↦ uncommented_are true ms
    ]
uncommented_are false (m ∷ ms) =
    elim (eqb m.1 35) as (λ (t : Bool). map (λ n. n.1) (cond t (uncommented true ms) (m ∷ uncommented false ms)) ≡
    cond t (uncommented_bytes true (map (λ n. n.1) ms)) (m.1 ∷ uncommented_bytes false (map (λ n. n.1) ms))) [
      | true ↦ uncommented_are true ms
      | false ↦ ap (λ (r : List ℕ). m.1 ∷ r) (uncommented_are false ms)
    ]

joined_are : (ms : List FileByte) → map (λ m. m.1) (joined ms) ≡ joined_bytes (map (λ m. m.1) ms)
unfolding joined joined_bytes
joined_are [] = refl
joined_are (m ∷ []) = refl
joined_are (m ∷ n ∷ ms) =
    elim (eqb m.1 92 && eqb n.1 10) as (λ (t : Bool). map (λ k. k.1) (cond t ((m.0, 32) ∷ joined ms) (m ∷ joined (n ∷ ms))) ≡
    cond t (32 ∷ joined_bytes (map (λ k. k.1) ms)) (m.1 ∷ joined_bytes (n.1 ∷ map (λ k. k.1) ms))) [
      | true ↦ ap (λ (r : List ℕ). 32 ∷ r) (joined_are ms)
      | false ↦ ap (λ (r : List ℕ). m.1 ∷ r) (joined_are (n ∷ ms))
    ]

onto_are : (m : FileByte) (ls : List (List FileByte)) → map (map (λ n. n.1)) (onto_first m ls) ≡ onto_first m.1 (map (map (λ n. n.1)) ls)
onto_are m [] = refl
onto_are m (l ∷ ls) = refl

pub split_are : (ms : List FileByte) → map (map (λ m. m.1)) (lines_of ms) ≡ pieces (map (λ m. m.1) ms)
split_are [] = refl
split_are (m ∷ ms) =
    elim (eqb m.1 10) as (λ (t : Bool). map (map (λ n. n.1)) (cond t ([] ∷ lines_of ms) (onto_first m (lines_of ms))) ≡
    cond t ([] ∷ pieces (map (λ n. n.1) ms)) (onto_first m.1 (pieces (map (λ n. n.1) ms)))) [
      | true ↦ ap (λ (r : List (List ℕ)). [] ∷ r) (split_are ms)
      | false ↦ onto_are m (lines_of ms) ∙ ap (onto_first m.1) (split_are ms)
    ]

by_bytes : (bs : List ℕ) → manual_lines_of bs ≡ pieces (joined_bytes (uncommented_bytes false bs))
by_bytes bs =
    split_are (text_of 1 bs) ∙ ap pieces (joined_are (uncommented false (file_bytes 1 bs))
    ∙ ap joined_bytes (uncommented_are false (file_bytes 1 bs) ∙ ap (uncommented_bytes false) (file_bytes_are 1 bs)))

-- COMMENTS

abbrev blank_first : List (List ℕ) → List (List ℕ)
blank_first [] = [] ∷ []
blank_first (l ∷ ls) = [] ∷ ls

blank_onto : (b : ℕ) (ls : List (List ℕ)) → blank_first (map before_hash (onto_first b ls)) ≡ blank_first (map before_hash ls)
blank_onto b [] = refl
blank_onto b (l ∷ ls) = refl

hash_onto : (b : ℕ) (ls : List (List ℕ)) → eqb b 35 ≡ true → map before_hash (onto_first b ls) ≡ blank_first (map before_hash ls)
unfolding before_hash
hash_onto b [] h = rw h refl
hash_onto b (l ∷ ls) h = rw h refl

plain_onto : (b : ℕ) (ls : List (List ℕ)) → eqb b 35 ≡ false → map before_hash (onto_first b ls) ≡ onto_first b (map before_hash ls)
unfolding before_hash
plain_onto b [] h = rw h refl
plain_onto b (l ∷ ls) h = rw h refl

hash_no_feed : (b : ℕ) → eqb b 35 ≡ true → eqb b 10 ≡ false
hash_no_feed b h = let is : b ≡ 35 = eqb-true b 35 h in rw is refl

uncommented_lines : (i : Bool) (bs : List ℕ) →
    pieces (uncommented_bytes i bs) ≡ cond i (blank_first (map before_hash (pieces bs))) (map before_hash (pieces bs))
unfolding uncommented_bytes before_hash
uncommented_lines true [] = refl
uncommented_lines false [] = refl
uncommented_lines true (b ∷ bs) =
    elim (eqb b 10) as (λ (t : Bool). eqb b 10 ≡ t →
    pieces (uncommented_bytes true (b ∷ bs)) ≡ blank_first (map before_hash (cond t ([] ∷ pieces bs) (onto_first b (pieces bs))))) [
      | true ↦ λ e. rw e (rw e (ap (λ (r : List (List ℕ)). [] ∷ r) (uncommented_lines false bs)))
      | false ↦ λ e. rw e (uncommented_lines true bs ∙ sym (blank_onto b (pieces bs)))
    ] refl
uncommented_lines false (b ∷ bs) =
    elim (eqb b 35) as (λ (t : Bool). eqb b 35 ≡ t →
    pieces (cond t (uncommented_bytes true bs) (b ∷ uncommented_bytes false bs)) ≡ map before_hash (pieces (b ∷ bs))) [
      | true ↦ λ e. rw (hash_no_feed b e) (uncommented_lines true bs ∙ sym (hash_onto b (pieces bs) e))
      | false ↦ λ e. elim (eqb b 10) as (λ (t : Bool). cond t ([] ∷ pieces (uncommented_bytes false bs)) (onto_first b (pieces (uncommented_bytes false bs)))
          ≡ map before_hash (cond t ([] ∷ pieces bs) (onto_first b (pieces bs)))) [
            | true ↦ ap (λ (r : List (List ℕ)). [] ∷ r) (uncommented_lines false bs)
            | false ↦ ap (onto_first b) (uncommented_lines false bs) ∙ sym (plain_onto b (pieces bs) e)
          ]
    ] refl

-- CONTINUED LINES

onto_space : (ls : List (List ℕ)) → onto_line (32 ∷ []) ls ≡ onto_first 32 ls
onto_space [] = refl
onto_space (l ∷ ls) = refl

onto_more : (b : ℕ) (t : List ℕ) (ls : List (List ℕ)) → onto_line (b ∷ t) ls ≡ onto_first b (onto_line t ls)
onto_more b t [] = refl
onto_more b t (l ∷ ls) = refl

-- there is at least one piece
pieces_cases : (bs : List ℕ) (P : List (List ℕ) → Type 0) → ((l : List ℕ) (ls : List (List ℕ)) → P (l ∷ ls)) → P (pieces bs)
pieces_cases [] P f = f [] []
pieces_cases (b ∷ bs) P f =
    elim (eqb b 10) as (λ (t : Bool). P (cond t ([] ∷ pieces bs) (onto_first b (pieces bs)))) [
      | true ↦ f [] (pieces bs)
      | false ↦ elim (pieces bs) as (λ (ls : List (List ℕ)). P (onto_first b ls)) [ [] ↦ f (b ∷ []) [] | l ∷ ls ↦ f (b ∷ l) ls ]
    ]

after_backslash : (ls : List (List ℕ)) (l : List ℕ) → continued ((92 ∷ []) ∷ l ∷ ls) ≡ onto_first 32 (continued (l ∷ ls))
unfolding continued ends_in_backslash last_is_space
after_backslash ls l = onto_space (continued (l ∷ ls))

after_empty : (ls : List (List ℕ)) (l : List ℕ) → continued ([] ∷ l ∷ ls) ≡ [] ∷ continued (l ∷ ls)
unfolding continued ends_in_backslash
after_empty ls l = refl

-- a byte in front of a line that is not a backslash at its end
before_more : (b c : ℕ) (l : List ℕ) (ls : List (List ℕ)) → continued ((b ∷ c ∷ l) ∷ ls) ≡ onto_first b (continued ((c ∷ l) ∷ ls))
unfolding continued ends_in_backslash last_is_space
before_more b c l [] = refl
before_more b c l (k ∷ ls) =
    elim (ends_in_backslash (c ∷ l)) as (λ (t : Bool). cond t (onto_line (b ∷ last_is_space (c ∷ l)) (continued (k ∷ ls))) ((b ∷ c ∷ l) ∷ continued (k ∷ ls))
    ≡ onto_first b (cond t (onto_line (last_is_space (c ∷ l)) (continued (k ∷ ls))) ((c ∷ l) ∷ continued (k ∷ ls)))) [
      | true ↦ onto_more b (last_is_space (c ∷ l)) (continued (k ∷ ls))
      | false ↦ refl
    ]

before_end : (b : ℕ) (ls : List (List ℕ)) → eqb b 92 ≡ false → continued ((b ∷ []) ∷ ls) ≡ onto_first b (continued ([] ∷ ls))
unfolding continued ends_in_backslash last_is_space
before_end b [] h = refl
before_end b (k ∷ ls) h = rw h refl

plain_byte : (b c : ℕ) (ls : List (List ℕ)) → continued (onto_first b (onto_first c ls)) ≡ onto_first b (continued (onto_first c ls))
plain_byte b c [] = before_more b c [] []
plain_byte b c (l ∷ ls) = before_more b c l ls

feed_no_backslash : (b : ℕ) → eqb b 10 ≡ true → eqb b 92 ≡ false
feed_no_backslash b h = let is : b ≡ 10 = eqb-true b 10 h in rw is refl

last_piece : (l : List ℕ) → l ∷ [] ≡ continued (l ∷ [])
unfolding continued
last_piece l = refl

one_byte : (b : ℕ) → pieces (b ∷ []) ≡ continued (pieces (b ∷ []))
unfolding continued ends_in_backslash
one_byte b = elim (eqb b 10) as (λ (t : Bool). cond t ([] ∷ [] ∷ []) ((b ∷ []) ∷ []) ≡
    continued (cond t ([] ∷ [] ∷ []) ((b ∷ []) ∷ []))) [ true ↦ refl | false ↦ refl ]

no_backslash : (t : Bool) → (t && true) ≡ false → t ≡ false
no_backslash true h = h
no_backslash false h = h

joined_lines : (bs : List ℕ) → pieces (joined_bytes bs) ≡ continued (pieces bs)
unfolding joined_bytes
joined_lines [] = last_piece []
joined_lines (b ∷ []) = one_byte b
joined_lines (b ∷ c ∷ bs) =
    elim (eqb b 92 && eqb c 10) as (λ (t : Bool). (eqb b 92 && eqb c 10) ≡ t →
    pieces (cond t (32 ∷ joined_bytes bs) (b ∷ joined_bytes (c ∷ bs))) ≡ continued (pieces (b ∷ c ∷ bs))) [
      | true ↦ λ e.
          let both = and_parts (eqb b 92) (eqb c 10) e in
          let is : b ≡ 92 = eqb-true b 92 both.0 in
          let feeds : c ≡ 10 = eqb-true c 10 both.1 in
          rw (is, feeds) (ap (onto_first 32) (joined_lines bs)
          ∙ sym (pieces_cases bs (λ ls. continued ((92 ∷ []) ∷ ls) ≡ onto_first 32 (continued ls)) (λ l ls. after_backslash ls l)))
      | false ↦ λ e.
          elim (eqb b 10) as (λ (t : Bool). eqb b 10 ≡ t → cond t ([] ∷ pieces (joined_bytes (c ∷ bs))) (onto_first b (pieces (joined_bytes (c ∷ bs))))
          ≡ continued (cond t ([] ∷ pieces (c ∷ bs)) (onto_first b (pieces (c ∷ bs))))) [
            | true ↦ λ f. ap (λ (r : List (List ℕ)). [] ∷ r) (joined_lines (c ∷ bs))
                ∙ sym (pieces_cases (c ∷ bs) (λ ls. continued ([] ∷ ls) ≡ [] ∷ continued ls) (λ l ls. after_empty ls l))
            | false ↦ λ f. ap (onto_first b) (joined_lines (c ∷ bs)) ∙
                elim (eqb c 10) as (λ (t : Bool). eqb c 10 ≡ t → onto_first b (continued (cond t ([] ∷ pieces bs) (onto_first c (pieces bs))))
                ≡ continued (onto_first b (cond t ([] ∷ pieces bs) (onto_first c (pieces bs))))) [
                  | true ↦ λ g. sym (before_end b (pieces bs) (no_backslash (eqb b 92) (rw g at e)))
                  | false ↦ λ g. sym (plain_byte b c (pieces bs))
                ] refl
          ] refl
    ] refl

pub manual_are : (bytes : List ℕ) → manual_lines_of bytes ≡ continued (map before_hash (pieces bytes))
manual_are bs = by_bytes bs ∙ joined_lines (uncommented_bytes false bs) ∙ ap continued (uncommented_lines false bs)
