-- What a store does to a list of bytes, at every number of bytes: the length stays, so does every other place, and
-- where the n bytes fit, they stand there and are loaded again as the number's low part.
use Rattle.std.specs.Prelude.{◌≡◌, ℕ, ◌+◌, ◌%◌, ◌^◌, ◌<◌, ◌≤◌, ◌⊎◌, List, length, take, drop, slice_index}
use Rattle.memory.specs.Bytes.{bytes_of, value_at, put_at}

abbrev pub AccessesStand : Type 0
AccessesStand =
    (bs : List ℕ) (a n v : ℕ)
    → (length (put_at bs a n v) ≡ length bs)
    × ((k : ℕ) → (k < a) ⊎ (a + n ≤ k) → slice_index (put_at bs a n v) k ≡ slice_index bs k)
    × (a + n ≤ length bs → value_at (put_at bs a n v) a n ≡ v % 256 ^ n)
    × (a + n ≤ length bs → take n (drop a (put_at bs a n v)) ≡ bytes_of n v)
