-- A list that is cut off after 2 ^ 32 bytes: its length, its elements, and what a write leaves.
use Rattle.std.specs.Prelude.{◌≡◌, ℕ, ◌+◌, ◌-◌, ◌^◌, ◌<◌, ◌≤◌, min, List, ◌++◌, length, slice_index, slice_set, refl}
use Rattle.std.proofs.Common.{sym, ◌∙◌, arith, length-take, get_or-take, drop-set-lt, get_or-append-add}
use Rattle.std.proofs.Math.Seq.{take-set-lt}
use Rattle.std.proofs.lemmas.List.{set_past, get_or_past, get_or_append_left, set-append_right, set-append_left}
use Rattle.memory.specs.Bytes.{cut, past}

pub length_cut : (bs : List ℕ) → length (cut bs) ≡ min (2 ^ 32) (length bs)
unfolding cut
length_cut bs = length-take (2 ^ 32) bs

-- Below, k and y are the place and the byte that the code has, and i and b those of the contract.
pub slice_index-cut : (xs : List ℕ) (i : ℕ) {k : ℕ} → k ≡ i → i < 2 ^ 32 → slice_index xs k ≡ slice_index (cut xs) i
unfolding cut
slice_index-cut xs i e h = rw e (sym (get_or-take (2 ^ 32) xs i 0 h))

pub set-cut : (xs : List ℕ) (i b : ℕ) {k y : ℕ} → k ≡ i → y ≡ b → i < 2 ^ 32 → cut (slice_set xs k y) ≡ slice_set (cut xs) i b
unfolding cut
set-cut xs i b e f h = rw (e, f) (take-set-lt (2 ^ 32) xs i b h)

pub past_set : (xs : List ℕ) (k y : ℕ) → k < 2 ^ 32 → past (slice_set xs k y) ≡ past xs
unfolding past
past_set xs k y h = drop-set-lt (2 ^ 32) xs k y h

pub slice_index_out : (xs : List ℕ) (i : ℕ) → 2 ^ 32 ≤ i → 0 ≡ slice_index (cut xs) i
slice_index_out xs i h = sym (get_or_past (cut xs) i 0 (omega (arith, length_cut xs)))

pub set_out : (xs : List ℕ) (i b : ℕ) → 2 ^ 32 ≤ i → cut xs ≡ slice_set (cut xs) i b
set_out xs i b h = sym (set_past (cut xs) i b (omega (arith, length_cut xs)))

-- two lists, one after the other
module _ (xs ys : List ℕ) (n i : ℕ) (long : n ≡ length xs) where
  pub slice_index_first : {k : ℕ} → k ≡ i → i < n → n ≤ 2 ^ 32 → slice_index xs k ≡ slice_index (cut (xs ++ ys)) i
  slice_index_first e h l =
      rw e (sym (get_or_append_left xs ys 0 i (omega arith)) ∙ slice_index-cut (xs ++ ys) i refl (omega arith))

  pub slice_index_second : (k : ℕ) → n + k ≡ i → i < 2 ^ 32 → slice_index ys k ≡ slice_index (cut (xs ++ ys)) i
  slice_index_second k e l =
      sym (get_or-append-add xs ys k 0) ∙ slice_index-cut (xs ++ ys) i (omega arith) l

  -- a write to a part is a write to both
  pub first_set : (b : ℕ) {k y : ℕ} → k ≡ i → y ≡ b → i < n → slice_set xs k y ++ ys ≡ slice_set (xs ++ ys) i b
  first_set b e f h = rw (e, f) (sym (set-append_left xs ys i b (omega arith)))

  pub second_set : (b k : ℕ) {y : ℕ} → n + k ≡ i → y ≡ b → xs ++ slice_set ys k y ≡ slice_set (xs ++ ys) i b
  second_set b k e f =
      let at : i - n ≡ k = omega arith in
      rw (f, ← at) (sym (set-append_right xs ys n i b (sym long) (omega arith)))
