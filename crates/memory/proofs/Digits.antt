-- Numbers as bytes, highest first: what the byte-order methods give, and one byte of many changed.
use Rattle.std.proofs.Common.{◌≡◌, ℕ, zero, suc, ◌+◌, ◌-◌, ◌*◌, ◌/◌, ◌%◌, ◌<◌, ◌≤◌, List, [], ◌∷◌, ◌++◌, length, get_or, take, set, sym, refl, ap, ◌∙◌, ⊎_elim, not-suc-le-zero, arith, length-set, take_all, get_or-set_other, take-suc, get_or-set_same}
use native.Mathlib.Nat.{div-div-eq-div-mul}
use lib.Arith.{digits_div, digits_mod}
use Rattle.std.specs.List.{flat_map}
use Rattle.std.proofs.lemmas.List.{get_or_append_left, set-append_left, set-append_right, get_or-append_right, set_past}
use Rattle.std.proofs.lemmas.Bool.{cases_eq, cases_lt}
use Rattle.memory.specs.Bytes.{bytes_of, bytes_of_all, value_at}
use Rattle.memory.specs.Elements.{length-bytes_of}

-- what `to_be_bytes` gives, at each size
pub to_be_2 : (v : ℕ) → (v / 256 % 256) ∷ (v % 256) ∷ [] ≡ bytes_of 2 v
unfolding bytes_of
to_be_2 v = refl

pub to_be_4 : (v : ℕ) → (v / 16777216 % 256) ∷ (v / 65536 % 256) ∷ (v / 256 % 256) ∷ (v % 256) ∷ [] ≡ bytes_of 4 v
unfolding bytes_of
to_be_4 v = simp div-div-eq-div-mul

pub to_be : (v : ℕ) → (v / 72057594037927936 % 256) ∷ (v / 281474976710656 % 256) ∷ (v / 1099511627776 % 256) ∷ (v / 4294967296 % 256) ∷ (v / 16777216 % 256) ∷ (v / 65536 % 256) ∷ (v / 256 % 256) ∷ (v % 256) ∷ [] ≡ bytes_of 8 v
unfolding bytes_of
to_be v = simp div-div-eq-div-mul

-- what `from_be_bytes` gives, at each size
pub from_be_2 : (bs : List ℕ) → get_or bs 0 0 * 256 + get_or bs 1 0 ≡ value_at bs 0 2
unfolding value_at
from_be_2 bs = omega arith

pub from_be_4 : (bs : List ℕ) → get_or bs 0 0 * 16777216 + get_or bs 1 0 * 65536 + get_or bs 2 0 * 256 + get_or bs 3 0 ≡ value_at bs 0 4
unfolding value_at
from_be_4 bs = omega arith

pub from_be : (bs : List ℕ) → get_or bs 0 0 * 72057594037927936 + get_or bs 1 0 * 281474976710656 + get_or bs 2 0 * 1099511627776 + get_or bs 3 0 * 4294967296 + get_or bs 4 0 * 16777216 + get_or bs 5 0 * 65536 + get_or bs 6 0 * 256 + get_or bs 7 0 ≡ value_at bs 0 8
unfolding value_at
from_be bs = omega arith

-- the bytes of the number that bytes stand for
pub bytes_of-value_at : (bs : List ℕ) (n : ℕ) → n ≤ length bs → ((k : ℕ) → get_or bs k 0 < 256) → bytes_of n (value_at bs 0 n) ≡ take n bs
unfolding bytes_of value_at
bytes_of-value_at bs zero h small = refl
bytes_of-value_at bs (suc n) h small =
    let s : get_or bs (0 + n) 0 < 256 = small (0 + n) in
    let e : 0 + n ≡ n = omega arith in
    ap (λ (m : ℕ). bytes_of n m ++ (((value_at bs 0 n * 256 + get_or bs (0 + n) 0) % 256) ∷ [])) (digits_div (value_at bs 0 n) s)
    ∙ ap (λ (m : ℕ). bytes_of n (value_at bs 0 n) ++ (m ∷ [])) (digits_mod (value_at bs 0 n) s)
    ∙ ap (λ (l : List ℕ). l ++ (get_or bs (0 + n) 0 ∷ [])) (bytes_of-value_at bs n (omega arith) small)
    ∙ ap (λ (m : ℕ). take n bs ++ (get_or bs m 0 ∷ [])) e
    ∙ sym (take-suc bs n 0 (omega arith))

one : (k x : ℕ) → x < 256 → get_or (x ∷ []) k 0 < 256
one zero x h = h
one (suc k) x h = omega arith

-- each of the bytes of a number is one
bytes_of_small : (n v k : ℕ) → get_or (bytes_of n v) k 0 < 256
unfolding bytes_of
bytes_of_small zero v k = omega arith
bytes_of_small (suc n) v k =
    let e = length-bytes_of n (v / 256) in
    ⊎_elim
    (λ (h : k < n). rw (get_or_append_left (bytes_of n (v / 256)) (v % 256 ∷ []) 0 k (omega arith)) (bytes_of_small n (v / 256) k))
    (λ (h : n ≤ k). rw (get_or-append_right (bytes_of n (v / 256)) (v % 256 ∷ []) n k 0 e h) (one (k - n) (v % 256) (omega arith)))
    (cases_lt k n)

-- byte r of word q
slice_index_all : (ws : List ℕ) (q r : ℕ) → q < length ws → r < 8 → get_or (bytes_of_all ws) (8 * q + r) 0 ≡ get_or (bytes_of 8 (get_or ws q 0)) r 0
unfolding bytes_of_all
slice_index_all [] q r h k = absurd (not-suc-le-zero h)
slice_index_all (w ∷ ws) zero r h k =
    let e = length-bytes_of 8 w in
    let z : 8 * 0 + r ≡ r = omega arith in
    rw z (get_or_append_left (bytes_of 8 w) (flat_map (bytes_of 8) ws) 0 r (omega arith))
slice_index_all (w ∷ ws) (suc q) r h k =
    let e = length-bytes_of 8 w in
    let z : 8 * suc q + r - 8 ≡ 8 * q + r = omega arith in
    get_or-append_right (bytes_of 8 w) (flat_map (bytes_of 8) ws) 8 (8 * suc q + r) 0 e (omega arith)
    ∙ ap (λ (m : ℕ). get_or (flat_map (bytes_of 8) ws) m 0) z
    ∙ slice_index_all ws q r (omega arith) k

set_all : (ws : List ℕ) (q r y b : ℕ) → q < length ws → r < 8 → bytes_of 8 y ≡ set (bytes_of 8 (get_or ws q 0)) r b → bytes_of_all (set ws q y) ≡ set (bytes_of_all ws) (8 * q + r) b
unfolding bytes_of_all
set_all [] q r y b h k p = absurd (not-suc-le-zero h)
set_all (w ∷ ws) zero r y b h k p =
    let e = length-bytes_of 8 w in
    let z : 8 * 0 + r ≡ r = omega arith in
    ap (λ (l : List ℕ). l ++ flat_map (bytes_of 8) ws) p
    ∙ rw z (sym (set-append_left (bytes_of 8 w) (flat_map (bytes_of 8) ws) r b (omega arith)))
set_all (w ∷ ws) (suc q) r y b h k p =
    let e = length-bytes_of 8 w in
    let z : 8 * q + r ≡ 8 * suc q + r - 8 = omega arith in
    ap (λ (l : List ℕ). bytes_of 8 w ++ l) (set_all ws q r y b (omega arith) k p)
    ∙ ap (λ (m : ℕ). bytes_of 8 w ++ set (flat_map (bytes_of 8) ws) m b) z
    ∙ sym (set-append_right (bytes_of 8 w) (flat_map (bytes_of 8) ws) 8 (8 * suc q + r) b e (omega arith))

-- one byte of a number changed
pub bytes_of-set : (w r b : ℕ) → b < 256 → bytes_of 8 (value_at (set (bytes_of 8 w) r b) 0 8) ≡ set (bytes_of 8 w) r b
bytes_of-set w r b small =
    let e = length-bytes_of 8 w in
    let s = length-set (bytes_of 8 w) r b in
    bytes_of-value_at (set (bytes_of 8 w) r b) 8 (omega arith)
    (λ k. ⊎_elim
    (λ (q : k ≡ r). ⊎_elim
    (λ (h : r < 8). let l : r < length (bytes_of 8 w) = omega arith in rw (q, get_or-set_same) small)
    (λ (h : 8 ≤ r). rw (set_past (bytes_of 8 w) r b (omega arith)) (bytes_of_small 8 w k))
    (cases_lt r 8))
    (λ (q : k ≡ r → ⊥). rw (get_or-set_other (bytes_of 8 w) r k b 0 q) (bytes_of_small 8 w k))
    (cases_eq k r))
    ∙ take_all 8 (set (bytes_of 8 w) r b) (omega arith)

-- the byte at place i of them all is byte r of word q, whose bytes are ps
module _ (ws ps : List ℕ) (q r i : ℕ) (word : ps ≡ bytes_of 8 (get_or ws q 0)) (place : 8 * q + r ≡ i) (inside : q < length ws) (low : r < 8) where
  pub slice_index_word : get_or ps r 0 ≡ get_or (bytes_of_all ws) i 0
  slice_index_word = rw (word, ← place) (sym (slice_index_all ws q r inside low))

  pub set_word : (b x y : ℕ) → x ≡ b → b < 256 → y ≡ value_at (set ps r x) 0 8 → bytes_of_all (set ws q y) ≡ set (bytes_of_all ws) i b
  set_word b x y e small v =
      let changed : y ≡ value_at (set (bytes_of 8 (get_or ws q 0)) r b) 0 8 = cc in
      rw (← place) (set_all ws q r y b inside low (ap (bytes_of 8) changed ∙ bytes_of-set (get_or ws q 0) r b small))
