-- Which bytes a row has, and when rows make a sound plan. Sums are whole numbers and do not wrap.
use Rattle.std.specs.Prelude.{ℕ, ◌+◌, ◌^◌, ◌<◌, ◌≤◌, ◌⊎◌, List, slice_index_or}
use Rattle.plan.specs.declared.row.Row.{Row}

-- the address a lies from `from` on, below `end`
abbrev pub Within : ℕ → ℕ → ℕ → Type 0
Within from end a = (from ≤ a) × (a < end)

-- the address a lies in the window: max + 1 bytes from off
abbrev pub InWindow : Row → ℕ → Type 0
InWindow r a = Within r.off (r.off + r.max + 1) a

-- the address a lies in the register file: 2,064 bytes from file
abbrev pub InFile : Row → ℕ → Type 0
InFile r a = Within r.file (r.file + 2064) a

-- the byte at the address a belongs to the row
abbrev pub Owns : Row → ℕ → Type 0
Owns r a = InWindow r a ⊎ InFile r a

-- some byte lies in the row's window and in its register file
abbrev pub Crosses : Row → Type 0
Crosses r = (a : ℕ) × (InWindow r a × InFile r a)

-- some byte belongs to both rows
abbrev pub Shares : Row → Row → Type 0
Shares r q = (a : ℕ) × (Owns r a × Owns q a)

-- what a row keeps to by itself: its numbers, and the ends of its window and register file
abbrev pub Bounded : Row → ℕ → Type 0
Bounded r laid =
    (7 ≤ r.max) × (1 ≤ r.saved) × (r.saved ≤ 256) × (r.off + r.max + 1 ≤ laid) × (r.file + 2064 ≤ laid)

-- both areas end below 2 ^ 64, so that sums of 64 bits do not wrap
abbrev pub Addressable : Row → Type 0
Addressable r = (r.off + r.max + 1 < 2 ^ 64) × (r.file + 2064 < 2 ^ 64)

-- both areas end within the laid size
abbrev pub EndsWithin : Row → ℕ → Type 0
EndsWithin r laid = (r.off + r.max + 1 ≤ laid) × (r.file + 2064 ≤ laid)

-- row k of a list; past its end a row of zeros
abbrev pub row_at : List Row → ℕ → Row
row_at rows k = slice_index_or rows k (record { off = 0; max = 0; file = 0; saved = 0 })

-- each of the first n rows keeps to its bounds
abbrev pub AllBounded : List Row → ℕ → ℕ → Type 0
AllBounded rows n laid = (k : ℕ) → k < n → Bounded (row_at rows k) laid

-- the window of none of them shares a byte with its register file
abbrev pub NoneCrossed : List Row → ℕ → Type 0
NoneCrossed rows n = (k : ℕ) → k < n → Crosses (row_at rows k) → ⊥

-- no two of them share a byte
abbrev pub NoneShared : List Row → ℕ → Type 0
NoneShared rows n = (j k : ℕ) → j < k → k < n → Shares (row_at rows k) (row_at rows j) → ⊥
