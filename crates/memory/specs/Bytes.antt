-- Lists of bytes, and the numbers in them, highest byte first.
use Rattle.std.specs.Prelude.{ℕ, zero, suc, ◌+◌, ◌*◌, ◌/◌, ◌%◌, ◌^◌, List, [], ◌∷◌, ◌++◌, take, drop, slice_index, slice_set}
use Rattle.std.specs.List.{flat_map}

-- A memory ends after 2 ^ 32 bytes.
unfoldable pub cut : List ℕ → List ℕ
cut bs = take (2 ^ 32) bs

-- What lies behind them.
unfoldable pub past : List ℕ → List ℕ
past bs = drop (2 ^ 32) bs

-- The low n bytes of v, highest first.
unfoldable pub bytes_of : ℕ → ℕ → List ℕ
bytes_of zero v = []
bytes_of (suc n) v = bytes_of n (v / 256) ++ (v % 256 ∷ [])

-- Numbers of 64 bits as bytes, eight for each.
unfoldable pub bytes_of_all : List ℕ → List ℕ
bytes_of_all ws = flat_map (bytes_of 8) ws

-- The number that the n bytes from place a on stand for, highest first. A place past the end counts as 0.
unfoldable pub value_at : List ℕ → ℕ → ℕ → ℕ
value_at bs a zero = 0
value_at bs a (suc n) = value_at bs a n * 256 + slice_index bs (a + n)

-- The list with the low n bytes of v, highest first, in the places from a on. A place past the end takes nothing.
unfoldable pub put_at : List ℕ → ℕ → ℕ → ℕ → List ℕ
put_at bs a zero v = bs
put_at bs a (suc n) v = put_at (slice_set bs (a + n) (v % 256)) a n (v / 256)
