-- A register file piece by piece, eight bytes each: what a run takes from it and writes back.
use Rattle.std.proofs.Common.{◌≡◌, ℕ, zero, suc, ◌+◌, ◌*◌, ◌^◌, ◌<◌, ◌≤◌, Bool, true, false, cond, List, ◌++◌, length, get_or, take, drop, sym, refl, ap, ◌∙◌, not-suc-le-zero, arith}
use Rattle.std.specs.List.{range_with_len, flat_map, AllByRecursion}
use Rattle.std.proofs.lemmas.List.{length-append, length-take, length-drop, take_at, drop_at, drop-drop}
use Rattle.std.proofs.ByRecursion.{All-append, All-map, All-take, All-drop}
use Rattle.std.proofs.lemmas.Bool.Decides.{nat_tests}
use Rattle.memory.specs.Bytes.{bytes_of}
use Rattle.memory.specs.Elements.{length-bytes_of}
use Rattle.memory.proofs.Bounds.{Small, value_at_below, all_bytes_of}
use Rattle.isa.specs.Compartments.{entry_bytes, entry_value, keeps, started, filed}

-- a list of pieces of eight
module _ (f : ℕ → List ℕ) where
  pub length_pieces : (a n : ℕ) → ((k : ℕ) → k < a + n → length (f k) ≡ 8) → length (flat_map f (range_with_len a n)) ≡ 8 * n
  length_pieces a zero h = refl
  length_pieces a (suc n) h =
      let e = h a (omega arith) in
      let l = length_pieces (a + 1) n (λ k b. h k (omega arith)) in
      length-append (f a) (flat_map f (range_with_len (a + 1) n)) ∙ omega arith

  pub piece : (a n k : ℕ) → ((k : ℕ) → k < a + n → length (f k) ≡ 8) → k < n → take 8 (drop (8 * k) (flat_map f (range_with_len a n))) ≡ f (a + k)
  piece a zero k h l = absurd (not-suc-le-zero l)
  piece a (suc n) zero h l =
      let z : a ≡ a + zero = omega arith in
      take_at (f a) (flat_map f (range_with_len (a + 1) n)) 8 (h a (omega arith)) ∙ ap f z
  piece a (suc n) (suc k) h l =
      let rest = flat_map f (range_with_len (a + 1) n) in
      let z : 8 * suc k ≡ 8 + 8 * k = omega arith in
      let y : a + 1 + k ≡ a + suc k = omega arith in
      ap (λ (m : ℕ). take 8 (drop m (f a ++ rest))) z
      ∙ ap (λ (x : List ℕ). take 8 x) (sym (drop-drop (8 * k) 8 (f a ++ rest)))
      ∙ ap (λ (x : List ℕ). take 8 (drop (8 * k) x)) (drop_at (f a) rest 8 (h a (omega arith)))
      ∙ piece (a + 1) n k (λ j b. h j (omega arith)) (omega arith)
      ∙ ap f y

  all_pieces : (Q : ℕ → Type 0) (a n : ℕ) → ((k : ℕ) → AllByRecursion Q (f k)) → AllByRecursion Q (flat_map f (range_with_len a n))
  all_pieces Q a zero h = tt
  all_pieces Q a (suc n) h = All-append Q (f a) (flat_map f (range_with_len (a + 1) n)) (h a) (all_pieces Q (a + 1) n h)

all_counting : (Q : ℕ → Type 0) (a n : ℕ) → ((k : ℕ) → Q k) → AllByRecursion Q (range_with_len a n)
all_counting Q a zero h = tt
all_counting Q a (suc n) h = (h a, all_counting Q (a + 1) n h)

-- the bytes of entry k, once it is written back
abbrev pub written : List ℕ → ℕ → List ℕ → ℕ → List ℕ
written file saved registers k = cond (keeps saved k) (bytes_of 8 (get_or registers k 0)) (entry_bytes file k)

length_cond : (b : Bool) (xs ys : List ℕ) (n : ℕ) → length xs ≡ n → length ys ≡ n → length (cond b xs ys) ≡ n
length_cond true xs ys n p q = p
length_cond false xs ys n p q = q

all_cond : (Q : ℕ → Type 0) (b : Bool) (xs ys : List ℕ) → AllByRecursion Q xs → AllByRecursion Q ys → AllByRecursion Q (cond b xs ys)
all_cond Q true xs ys p q = p
all_cond Q false xs ys p q = q

below_cond : (b : Bool) (x : ℕ) → x < 2 ^ 64 → cond b x 0 < 2 ^ 64
below_cond true x h = h
below_cond false x h = omega arith

pub not_kept : (saved k : ℕ) → saved ≤ k → k < 256 → keeps saved k ≡ false
not_kept saved k h l = grind (arith, nat_tests)

module _ (file : List ℕ) (saved : ℕ) (registers : List ℕ) (full : length file ≡ 2064) where
  pub length_written : (k : ℕ) → k < 0 + 258 → length (written file saved registers k) ≡ 8
  length_written k h =
      length_cond (keeps saved k) _ _ 8 (length-bytes_of 8 (get_or registers k 0))
      (length-take 8 (drop (8 * k) file) ∙ (let e = length-drop (8 * k) file in omega arith))

  -- each entry of a file that was written back
  pub filed_entry : (k : ℕ) → k < 258 → entry_bytes (filed file saved registers) k ≡ cond (keeps saved k) (bytes_of 8 (get_or registers k 0)) (entry_bytes file k)
  unfolding filed
  filed_entry k h =
      let z : 0 + k ≡ k = omega arith in
      piece (written file saved registers) 0 258 k length_written h ∙ ap (written file saved registers) z

  pub length_filed : length (filed file saved registers) ≡ 2064
  unfolding filed
  length_filed = length_pieces (written file saved registers) 0 258 length_written

  pub filed_unsaved : (k : ℕ) → saved ≤ k → k < 256 → entry_bytes (filed file saved registers) k ≡ entry_bytes file k
  filed_unsaved k h l =
      filed_entry k (omega arith)
      ∙ ap (λ (b : Bool). cond b (bytes_of 8 (get_or registers k 0)) (entry_bytes file k)) (not_kept saved k h l)

pub bytes_filed : (file : List ℕ) (saved : ℕ) (registers : List ℕ) → AllByRecursion Small file → AllByRecursion Small (filed file saved registers)
unfolding filed
bytes_filed file saved registers h =
    all_pieces (written file saved registers) Small 0 258
    (λ k. all_cond Small (keeps saved k) _ _ (all_bytes_of 8 (get_or registers k 0)) (All-take Small 8 _ (All-drop Small (8 * k) file h)))

pub qwords_started : (file : List ℕ) (saved : ℕ) → AllByRecursion Small file → AllByRecursion (λ v. v < 2 ^ 64) (started file saved)
unfolding started
qwords_started file saved h =
    let f : ℕ → ℕ = λ k. cond (keeps saved k) (entry_value file k) 0 in
    All-map (λ v. v < 2 ^ 64) f (range_with_len 0 258)
    (all_counting (λ k. f k < 2 ^ 64) 0 258 (λ k. below_cond (keeps saved k) (entry_value file k) (value_at_below (entry_bytes file k) 0 8 (All-take Small 8 _ (All-drop Small (8 * k) file h)))))
