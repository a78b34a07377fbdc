-- Laws of `value_at` and `put_at`, over the number of bytes.
use Rattle.std.proofs.Common.{◌≡◌, ℕ, zero, suc, ◌+◌, ◌*◌, ◌/◌, ◌%◌, ◌^◌, ◌<◌, ◌≤◌, ◌≢◌, ◌⊎◌, List, [], ◌∷◌, ◌++◌, length, get_or, take, drop, set, sym, refl, ap, ◌∙◌, inl, inr, ⊎_elim, pow-suc, arith, length-drop, length-set, get_or-drop, get_or-set_other, take-suc, get_or-set_same, zero-add}
use lib.Arith.{mod-mul}
use Rattle.std.proofs.lemmas.List.{drop-drop, drop-set-lt, get_or_past, set_past, take-append-drop, take-set-le}
use Rattle.memory.specs.Bytes.{bytes_of, value_at, put_at}
use Rattle.memory.specs.Laws.{AccessesStand}

pub length-put_at : (bs : List ℕ) (a n v : ℕ) → length (put_at bs a n v) ≡ length bs
unfolding put_at
length-put_at bs a zero v = refl
length-put_at bs a (suc n) v =
    length-put_at (set bs (a + n) (v % 256)) a n (v / 256) ∙ length-set bs (a + n) (v % 256)

pub slice_index-put_at : (bs : List ℕ) (a n v k : ℕ) → (k < a) ⊎ (a + n ≤ k) → get_or (put_at bs a n v) k 0 ≡ get_or bs k 0
unfolding put_at
slice_index-put_at bs a zero v k h = refl
slice_index-put_at bs a (suc n) v k h =
    let ne : k ≢ a + n = ⊎_elim (λ (l : k < a) e. omega arith) (λ (l : a + suc n ≤ k) e. omega arith) h in
    let out : (k < a) ⊎ (a + n ≤ k) = ⊎_elim (λ (l : k < a). inl l) (λ (l : a + suc n ≤ k). inr (omega arith)) h in
    slice_index-put_at (set bs (a + n) (v % 256)) a n (v / 256) k out ∙ get_or-set_other bs (a + n) k (v % 256) 0 ne

-- the last of the bytes that are put
last_put_at : (bs : List ℕ) (a n v : ℕ) → a + suc n ≤ length bs → get_or (put_at bs a (suc n) v) (a + n) 0 ≡ v % 256
unfolding put_at
last_put_at bs a n v h =
    slice_index-put_at (set bs (a + n) (v % 256)) a n (v / 256) (a + n) (inr (omega arith))
    ∙ get_or-set_same bs (a + n) (v % 256) 0 (omega arith)

pub big : (n : ℕ) → 0 < 256 ^ n
big zero = omega arith
big (suc n) = let h = big n in rw (pow-suc 256 n) (omega arith)

pub value_at-put_at : (bs : List ℕ) (a n v : ℕ) → a + n ≤ length bs → value_at (put_at bs a n v) a n ≡ v % 256 ^ n
unfolding value_at put_at
value_at-put_at bs a zero v h = omega arith
value_at-put_at bs a (suc n) v h =
    let s = set bs (a + n) (v % 256) in
    let l = length-set bs (a + n) (v % 256) in
    let p = put_at s a n (v / 256) in
    ap (λ (x : ℕ). x * 256 + get_or p (a + n) 0) (value_at-put_at s a n (v / 256) (omega arith))
    ∙ ap (λ (x : ℕ). (v / 256 % 256 ^ n) * 256 + x) (last_put_at bs a n v h)
    ∙ sym (ap (λ (x : ℕ). v % x) (pow-suc 256 n) ∙ mod-mul v {m = 256 ^ n} {c = 256} (big n) (omega arith))

pub bytes_put_at : (bs : List ℕ) (a n v : ℕ) → a + n ≤ length bs → take n (drop a (put_at bs a n v)) ≡ bytes_of n v
unfolding bytes_of put_at
bytes_put_at bs a zero v h = refl
bytes_put_at bs a (suc n) v h =
    let s = set bs (a + n) (v % 256) in
    let l = length-set bs (a + n) (v % 256) in
    let p = put_at s a n (v / 256) in
    let q : n < length (drop a p) = simp length-drop (omega (arith, length-put_at s a n (v / 256))) in
    take-suc (drop a p) n 0 q
    ∙ ap (λ (xs : List ℕ). xs ++ (get_or (drop a p) n 0 ∷ [])) (bytes_put_at s a n (v / 256) (omega arith))
    ∙ ap (λ (x : ℕ). bytes_of n (v / 256) ++ (x ∷ [])) (get_or-drop a p n 0 ∙ last_put_at bs a n v h)

pub accesses_stand_lem : AccessesStand
accesses_stand_lem bs a n v = (length-put_at bs a n v, slice_index-put_at bs a n v, value_at-put_at bs a n v, bytes_put_at bs a n v)

-- bytes that were gathered stand for what they did in their place
pub value_at-gathered : (ps bs : List ℕ) (a n : ℕ) → ((k : ℕ) → k < n → get_or ps k 0 ≡ get_or bs (a + k) 0) → value_at ps 0 n ≡ value_at bs a n
unfolding value_at
value_at-gathered ps bs a zero h = refl
value_at-gathered ps bs a (suc n) h =
    let u : value_at ps 0 n ≡ value_at bs a n = value_at-gathered ps bs a n (λ k l. h k (omega arith)) in
    let w : get_or ps n 0 ≡ get_or bs (a + n) 0 = h n (omega arith) in
    let z : get_or ps (0 + n) 0 ≡ get_or ps n 0 = rw (zero-add n) refl in
    omega arith

-- one byte more that is gathered, behind those that are there
pub value_at-set : (ps bs : List ℕ) (a m n b : ℕ) → m < length ps → b ≡ get_or bs (a + n) 0 → value_at ps 0 m ≡ value_at bs a n → value_at (set ps m b) 0 (suc m) ≡ value_at bs a (suc n)
unfolding value_at
value_at-set ps bs a m n b h e front =
    let u : value_at (set ps m b) 0 m ≡ value_at ps 0 m = value_at-gathered (set ps m b) ps 0 m (λ k l. rw (zero-add k) (get_or-set_other ps m k b 0 (λ q. omega arith))) in
    let w : get_or (set ps m b) (0 + m) 0 ≡ b = rw (zero-add m) (get_or-set_same ps m b 0 h) in
    omega arith

-- past the end there is nothing to load or store
pub value_at_past : (bs : List ℕ) (a n : ℕ) → length bs ≤ a → 0 ≡ value_at bs a n
unfolding value_at
value_at_past bs a zero h = refl
value_at_past bs a (suc n) h =
    let u : 0 ≡ value_at bs a n = value_at_past bs a n h in
    let w : get_or bs (a + n) 0 ≡ 0 = get_or_past bs (a + n) 0 (omega arith) in
    omega arith

pub put_at_past : (bs : List ℕ) (a n v : ℕ) → length bs ≤ a → bs ≡ put_at bs a n v
unfolding put_at
put_at_past bs a zero v h = refl
put_at_past bs a (suc n) v h =
    put_at_past bs a n (v / 256) h
    ∙ ap (λ (xs : List ℕ). put_at xs a n (v / 256)) (sym (set_past bs (a + n) (v % 256) (omega arith)))

-- a store, one write at a time, the last byte first
pub put_none : (xs : List ℕ) (a v : ℕ) → xs ≡ put_at xs a 0 v
unfolding put_at
put_none xs a v = refl

pub put_more : (xs : List ℕ) (a n v : ℕ) {k y : ℕ} {ys zs : List ℕ} → ys ≡ set xs k y → k ≡ a + n → y ≡ v % 256 → zs ≡ put_at ys a n (v / 256) → zs ≡ put_at xs a (suc n) v
unfolding put_at
put_more xs a n v w e f rest = rest ∙ ap (λ (l : List ℕ). put_at l a n (v / 256)) (rw (← e, ← f) w)

-- a store leaves what lies before and behind it
take-put_at : (bs : List ℕ) (a n v : ℕ) → take a (put_at bs a n v) ≡ take a bs
unfolding put_at
take-put_at bs a zero v = refl
take-put_at bs a (suc n) v =
    take-put_at (set bs (a + n) (v % 256)) a n (v / 256) ∙ take-set-le a bs (a + n) (v % 256) (omega arith)

drop-put_at : (bs : List ℕ) (a n m v : ℕ) → n ≤ m → drop (a + m) (put_at bs a n v) ≡ drop (a + m) bs
unfolding put_at
drop-put_at bs a zero m v h = refl
drop-put_at bs a (suc n) m v h =
    drop-put_at (set bs (a + n) (v % 256)) a n m (v / 256) (omega arith)
    ∙ drop-set-lt (a + m) bs (a + n) (v % 256) (omega arith)

pub put_at_parts : (bs : List ℕ) (a n v : ℕ) → a + n ≤ length bs → put_at bs a n v ≡ take a bs ++ (bytes_of n v ++ drop (a + n) bs)
put_at_parts bs a n v h =
    let x = put_at bs a n v in
    sym (take-append-drop a x)
    ∙ ap (λ (l : List ℕ). l ++ drop a x) (take-put_at bs a n v)
    ∙ ap (λ (l : List ℕ). take a bs ++ l) (sym (take-append-drop n (drop a x)))
    ∙ ap (λ (l : List ℕ). take a bs ++ (l ++ drop n (drop a x))) (bytes_put_at bs a n v h)
    ∙ ap (λ (l : List ℕ). take a bs ++ (bytes_of n v ++ l)) (drop-drop n a x ∙ drop-put_at bs a n n v (omega arith))
