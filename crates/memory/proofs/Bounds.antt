-- Bytes stay bytes: what is loaded from them has no more than its width, and what is stored among them is bytes.
use Rattle.std.proofs.Common.{ℕ, zero, suc, ◌+◌, ◌/◌, ◌%◌, ◌^◌, ◌<◌, List, [], ◌∷◌, get_or, set, pow-suc, arith}
use Rattle.std.specs.List.{AllByRecursion}
use Rattle.std.proofs.ByRecursion.{All-append, All-set}
use Rattle.memory.specs.Bytes.{bytes_of, value_at, put_at}

-- what holds of each element and of 0 holds of what stands at any place
pub all_at : (P : ℕ → Type 0) (xs : List ℕ) (k : ℕ) → P 0 → AllByRecursion P xs → P (get_or xs k 0)
all_at P [] k z h = z
all_at P (x ∷ xs) zero z h = h.0
all_at P (x ∷ xs) (suc k) z h = all_at P xs k z h.1

abbrev pub Small : ℕ → Type 0
Small b = b < 256

pub value_at_below : (bs : List ℕ) (a n : ℕ) → AllByRecursion Small bs → value_at bs a n < 256 ^ n
unfolding value_at
value_at_below bs a zero h = omega arith
value_at_below bs a (suc n) h =
    let u = value_at_below bs a n h in
    let s : get_or bs (a + n) 0 < 256 = all_at Small bs (a + n) (omega arith) h in
    rw (pow-suc 256 n) (omega arith)

pub all_put_at : (bs : List ℕ) (a n v : ℕ) → AllByRecursion Small bs → AllByRecursion Small (put_at bs a n v)
unfolding put_at
all_put_at bs a zero v h = h
all_put_at bs a (suc n) v h =
    all_put_at (set bs (a + n) (v % 256)) a n (v / 256) (All-set Small bs (a + n) (v % 256) (omega arith) h)

pub all_bytes_of : (n v : ℕ) → AllByRecursion Small (bytes_of n v)
unfolding bytes_of
all_bytes_of zero v = tt
all_bytes_of (suc n) v =
    let s : v % 256 < 256 = omega arith in
    All-append Small (bytes_of n (v / 256)) (v % 256 ∷ []) (all_bytes_of n (v / 256)) (s, tt)
