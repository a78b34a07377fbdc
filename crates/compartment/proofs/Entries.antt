-- The entries of a register file.
use Rattle.std.proofs.Common.{◌≡◌, ℕ, zero, suc, ◌+◌, ◌-◌, ◌*◌, ◌<◌, ◌≤◌, min, ⊎_elim, ◌⊎◌, Bool, true, false, cond, List, ◌++◌, length, get_or, drop, sym, refl, add-zero, ap, ◌∙◌, arith}
use Rattle.std.proofs.lemmas.Bool.Decides.{nat_tests}
use Rattle.std.specs.List.{range_with_len, flat_map}
use Rattle.std.proofs.lemmas.List.{append_assoc, append-nil, drop_all, drop-drop, drop_at, length-append, length-drop, take_at, take-append-drop}
use Rattle.memory.specs.Bytes.{bytes_of, value_at, put_at}
use Rattle.memory.proofs.Puts.{put_at_parts}
use Rattle.isa.specs.Compartments.{entry_bytes, entry_value, keeps, filed}
use Rattle.isa.proofs.Filing.{written, length_pieces, length_written, not_kept}
use Rattle.isa.specs.Windows.{placed, load, store}
use Rattle.window.proofs.Seeing.{value_at-part}
use Rattle.window.specs.Windows.{Parts}

-- an access to entry k happens there
placed_entry : (long k : ℕ) → long ≡ 2064 → k < 258 → placed long 8 (8 * k) ≡ 8 * k
placed_entry long k l h = grind (arith, nat_tests)

-- entry k, as it is loaded
pub load_entry : (file : List ℕ) → length file ≡ 2064 → (k : ℕ) → k < 258 → load file 8 (8 * k) ≡ entry_value file k
unfolding load
load_entry file full k h =
    ap (λ (a : ℕ). value_at file a 8) (placed_entry (length file) k full h) ∙ ap (λ (a : ℕ). value_at file a 8) (sym (add-zero (8 * k))) ∙ value_at-part file (8 * k) 8 0 8 (omega arith)

-- one piece more
joined_more : (f : ℕ → List ℕ) (a n : ℕ) → flat_map f (range_with_len a (suc n)) ≡ flat_map f (range_with_len a n) ++ f (a + n)
joined_more f a zero =
    let z : a ≡ a + zero = omega arith in append-nil (f a) ∙ ap f z
joined_more f a (suc n) =
    let z : a + 1 + n ≡ a + suc n = omega arith in
    ap (λ (l : List ℕ). f a ++ l) (joined_more f (a + 1) n)
    ∙ sym (append_assoc (f a) (flat_map f (range_with_len (a + 1) n)) (f (a + 1 + n)))
    ∙ ap (λ (k : ℕ). (f a ++ flat_map f (range_with_len (a + 1) n)) ++ f k) z

pub lasts : (saved k : ℕ) → (k < min saved 256) ⊎ (256 ≤ k) → keeps saved k ≡ true
lasts saved k h = ⊎_elim (λ (l : k < min saved 256). grind (arith, nat_tests)) (λ (l : 256 ≤ k). grind (arith, nat_tests)) h

-- the file once its first k entries are written back
unfoldable pub filed_to : List ℕ → ℕ → List ℕ → ℕ → List ℕ
filed_to file saved registers k = flat_map (written file saved registers) (range_with_len 0 k) ++ drop (8 * k) file

module _ (file : List ℕ) (saved : ℕ) (registers : List ℕ) (full : length file ≡ 2064) where
  pub filed_to_none : filed_to file saved registers 0 ≡ file
  unfolding filed_to
  filed_to_none = refl

  pub filed_to_all : filed_to file saved registers 258 ≡ filed file saved registers
  unfolding filed_to filed
  filed_to_all =
      let f = written file saved registers in
      ap (λ (l : List ℕ). flat_map f (range_with_len 0 258) ++ l) (drop_all 2064 file (omega arith)) ∙ append-nil (flat_map f (range_with_len 0 258))

  front : (k : ℕ) → k ≤ 258 → length (flat_map (written file saved registers) (range_with_len 0 k)) ≡ 8 * k
  front k h = length_pieces (written file saved registers) 0 k (λ j l. length_written file saved registers full j (omega arith))

  pub length-filed_to : (k : ℕ) → k ≤ 258 → length (filed_to file saved registers k) ≡ 2064
  unfolding filed_to
  length-filed_to k h =
      length-append (flat_map (written file saved registers) (range_with_len 0 k)) (drop (8 * k) file)
      ∙ omega (arith, front k h, length-drop (8 * k) file)

  -- the pieces so far, one more, and the rest
  split : (k : ℕ) → k < 258 → filed_to file saved registers (k + 1) ≡ flat_map (written file saved registers) (range_with_len 0 k) ++ (written file saved registers k ++ drop (8 * k + 8) file)
  unfolding filed_to
  split k h =
      let f = written file saved registers in
      let a : k + 1 ≡ suc k = omega arith in
      let b : 8 * (k + 1) ≡ 8 * k + 8 = omega arith in
      let z : 0 + k ≡ k = omega arith in
      ap (λ (m : ℕ). flat_map f (range_with_len 0 (k + 1)) ++ drop m file) b
      ∙ ap (λ (m : ℕ). flat_map f (range_with_len 0 m) ++ drop (8 * k + 8) file) a
      ∙ ap (λ (l : List ℕ). l ++ drop (8 * k + 8) file) (joined_more f 0 k ∙ ap (λ (m : ℕ). flat_map f (range_with_len 0 k) ++ f m) z)
      ∙ append_assoc (flat_map f (range_with_len 0 k)) (f k) (drop (8 * k + 8) file)

  pub filed_to_left : (k : ℕ) → k < 258 → keeps saved k ≡ false → filed_to file saved registers k ≡ filed_to file saved registers (k + 1)
  unfolding filed_to
  filed_to_left k h e =
      let j = flat_map (written file saved registers) (range_with_len 0 k) in
      sym (split k h
      ∙ ap (λ (b : Bool). j ++ (cond b (bytes_of 8 (get_or registers k 0)) (entry_bytes file k) ++ drop (8 * k + 8) file)) e
      ∙ ap (λ (l : List ℕ). j ++ (entry_bytes file k ++ l)) (sym (drop-drop 8 (8 * k) file))
      ∙ ap (λ (l : List ℕ). j ++ l) (take-append-drop 8 (drop (8 * k) file)))

  -- from the last saved register on, up to P
  filed_to_unsaved : (k n : ℕ) → (k < 256 → saved ≤ k) → k + n ≡ 256 → filed_to file saved registers k ≡ filed_to file saved registers 256
  filed_to_unsaved k zero a e =
      let z : k ≡ 256 = omega arith in
      ap (filed_to file saved registers) z
  filed_to_unsaved k (suc n) a e =
      let u : k < 256 = omega arith in
      filed_to_left k (omega arith) (not_kept saved k (a u) u) ∙ filed_to_unsaved (k + 1) n (λ l. omega (arith, a u)) (omega arith)

  pub filed_to_kept : (k : ℕ) → k < 258 → keeps saved k ≡ true → put_at (filed_to file saved registers k) (8 * k) 8 (get_or registers k 0) ≡ filed_to file saved registers (k + 1)
  unfolding filed_to
  filed_to_kept k h e =
      let j = flat_map (written file saved registers) (range_with_len 0 k) in
      let v = get_or registers k 0 in
      let l = length-filed_to k (omega arith) in
      put_at_parts (filed_to file saved registers k) (8 * k) 8 v (omega arith)
      ∙ ap (λ (x : List ℕ). x ++ (bytes_of 8 v ++ drop (8 * k + 8) (filed_to file saved registers k))) (take_at j (drop (8 * k) file) (8 * k) (front k (omega arith)))
      ∙ ap (λ (x : List ℕ). j ++ (bytes_of 8 v ++ x))
      (sym (drop-drop 8 (8 * k) (j ++ drop (8 * k) file))
      ∙ ap (λ (x : List ℕ). drop 8 x) (drop_at j (drop (8 * k) file) (8 * k) (front k (omega arith)))
      ∙ drop-drop 8 (8 * k) file)
      ∙ sym (split k h ∙ ap (λ (b : Bool). j ++ (cond b (bytes_of 8 v) (entry_bytes file k) ++ drop (8 * k + 8) file)) e)

  pub none_back : (h : Parts) → file ≡ h.window → h ≡ record h { window = filed_to file saved registers 0 }
  none_back h e = ap (λ (l : List ℕ). record h { window = l }) (sym e) ∙ ap (λ (l : List ℕ). record h { window = l }) (sym filed_to_none)

  pub all_back : (h now : Parts) (k : ℕ) → k ≡ 258 → now ≡ record h { window = filed_to file saved registers k } → now ≡ record h { window = filed file saved registers }
  all_back h now k z e =
      e ∙ ap (λ (n : ℕ). record h { window = filed_to file saved registers n }) z ∙ ap (λ (l : List ℕ). record h { window = l }) filed_to_all

  -- the entries up to P that do not last stay; the next one is stored
  module _ (h : Parts) (k : ℕ) (below : k < 258) (now : Parts) (sofar : now ≡ record h { window = filed_to file saved registers k }) where
    pub unsaved_back : k ≡ min saved 256 → now ≡ record h { window = filed_to file saved registers 256 }
    unsaved_back e = sofar ∙ ap (λ (l : List ℕ). record h { window = l }) (filed_to_unsaved k (256 - k) (λ l. omega arith) (omega arith))

    pub kept_back : (next : Parts) (v : ℕ) → keeps saved k ≡ true → v ≡ get_or registers k 0 → next ≡ record now { window = store now.window 8 (8 * k) v } → next ≡ record h { window = filed_to file saved registers (k + 1) }
    unfolding store
    kept_back next v e is put =
        let at : placed (length (filed_to file saved registers k)) 8 (8 * k) ≡ 8 * k = placed_entry _ k (length-filed_to k (omega arith)) below in
        put
        ∙ ap (λ (n : Parts). record n { window = store n.window 8 (8 * k) v }) sofar
        ∙ ap (λ (a : ℕ). record h { window = put_at (filed_to file saved registers k) a 8 v }) at
        ∙ ap (λ (x : ℕ). record h { window = put_at (filed_to file saved registers k) (8 * k) 8 x }) is
        ∙ ap (λ (l : List ℕ). record h { window = l }) (filed_to_kept k below e)
