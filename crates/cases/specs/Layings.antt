-- A worked laying: rows and a laid size, and what laying them answers.
use Rattle.std.specs.Prelude.{ℕ, ◌+◌, ◌*◌, ◌-◌, ◌^◌, List, [], ◌∷◌, ◌++◌, map}
use Rattle.std.specs.List.{AllByRecursion, range_with_len}
use Rattle.plan.specs.Lays.{Accepted, Refused, IsDue}
use Rattle.plan.specs.declared.row.Row.{Row}

-- The laid size and the rows; and that they are accepted, or refused with this number, row and other row.
pub data Laying : Type 0 where
  Accepts : ℕ → List Row → Laying
  Refuses : ℕ → List Row → ℕ → ℕ → ℕ → Laying

abbrev pub Holds : Laying → Type 0
Holds (Accepts laid rows) = IsDue rows laid Accepted
Holds (Refuses laid rows number row other) = IsDue rows laid (Refused number row other)

abbrev pub LayingsHold : List Laying → Type 0
LayingsHold cases = AllByRecursion Holds cases

-- A row's off, max, file and saved.
abbrev pub row : ℕ → ℕ → ℕ → ℕ → Row
row off max file saved = record { off = off; max = max; file = file; saved = saved }

-- One row, its window the bytes 0 to 4,095, its register file from this address on.
abbrev pub filed_at : ℕ → List Row
filed_at file = row 0 4095 file 256 ∷ []

-- n rows, each of 8,192 bytes.
abbrev pub rows_apart : ℕ → List Row
rows_apart n = map (λ k. row (8192 * k) 4095 (8192 * k + 4096) 256) (range_with_len 0 n)

-- The rows of the worked calls. Compartment 0 has the bytes 0 to 2,071; compartment 1 has its window, of max 15, at 2,072
-- to 2,087, and its register file at 2,088 to 4,151, which the laid size of 4,152 ends.
abbrev pub two_compartments : List Row
two_compartments = row 0 7 8 256 ∷ row 2072 15 2088 256 ∷ []

-- The same the other way round: compartment 1 has the bytes 0 to 2,071.
abbrev pub low_second : List Row
low_second = row 2072 15 2088 256 ∷ row 0 7 8 256 ∷ []

-- Areas that touch and areas that end at the laid size, and one byte past either.
abbrev pub layings : List Laying
layings =
    Accepts 8192 (filed_at 4096) ∷
    Accepts 8192 (filed_at 6128) ∷
    Refuses 8192 (filed_at 4095) 106 0 0 ∷
    Refuses 8192 (filed_at 6129) 105 0 0 ∷
    Accepts 4152 two_compartments ∷
    Accepts 4152 low_second ∷
    []

-- 101: no rows, one, sixteen and seventeen.
abbrev pub row_counts : List Laying
row_counts =
    Refuses 8192 [] 101 0 0 ∷
    Accepts 8192 (rows_apart 1) ∷
    Accepts (8192 * 16) (rows_apart 16) ∷
    Refuses (8192 * 17) (rows_apart 17) 101 0 0 ∷
    []

-- 102: the laid size 2 ^ 32 and one more.
abbrev pub laid_sizes : List Laying
laid_sizes =
    Accepts (2 ^ 32) (rows_apart 1) ∷
    Refuses (2 ^ 32 + 1) (rows_apart 1) 102 0 0 ∷
    []

-- 103 and 104: max 7 and 6; saved 1, 256, 0 and 257.
abbrev pub row_fields : List Laying
row_fields =
    Accepts 8192 (row 0 7 8 1 ∷ []) ∷
    Refuses 8192 (row 0 6 8 1 ∷ []) 103 0 0 ∷
    Accepts 8192 (row 0 7 8 256 ∷ []) ∷
    Refuses 8192 (row 0 7 8 0 ∷ []) 104 0 0 ∷
    Refuses 8192 (row 0 7 8 257 ∷ []) 104 0 0 ∷
    []

-- 105: the window, then the register file, ends at the laid size and one byte behind it; sums do not wrap.
abbrev pub area_ends : List Laying
area_ends =
    Accepts 4096 (row 4088 7 0 256 ∷ []) ∷
    Refuses 4096 (row 4089 7 0 256 ∷ []) 105 0 0 ∷
    Refuses 4096 (row 4088 8 0 256 ∷ []) 105 0 0 ∷
    Accepts 4096 (row 0 7 2032 256 ∷ []) ∷
    Refuses 4096 (row 0 7 2033 256 ∷ []) 105 0 0 ∷
    Refuses 4096 (row (2 ^ 64 - 1) 7 0 256 ∷ []) 105 0 0 ∷
    Refuses 4096 (row 0 7 (2 ^ 64 - 1) 256 ∷ []) 105 0 0 ∷
    []

-- Window 0 to 7 and file 8 to 2,071; window 3,000 to 3,007 and file 4,000 to 6,063.
abbrev pub two_rows : List Row
two_rows = row 0 7 8 256 ∷ row 3000 7 4000 256 ∷ []

-- 106: areas that touch, and areas that share one byte, of the row itself and of each earlier row.
abbrev pub overlaps : List Laying
overlaps =
    Accepts 8192 (row 0 7 8 256 ∷ []) ∷
    Refuses 8192 (row 0 7 7 256 ∷ []) 106 0 0 ∷
    Accepts 8192 (row 2064 7 0 256 ∷ []) ∷
    Refuses 8192 (row 2063 7 0 256 ∷ []) 106 0 0 ∷
    Accepts 10000 (two_rows ++ row 2072 7 6064 256 ∷ []) ∷
    Refuses 10000 (two_rows ++ row 2071 7 6064 256 ∷ []) 106 2 0 ∷
    Refuses 10000 (two_rows ++ row 7 7 6064 256 ∷ []) 106 2 0 ∷
    Accepts 10000 (two_rows ++ row 2992 7 6064 256 ∷ []) ∷
    Refuses 10000 (two_rows ++ row 2993 7 6064 256 ∷ []) 106 2 1 ∷
    Refuses 10000 (two_rows ++ row 3007 7 6064 256 ∷ []) 106 2 1 ∷
    Refuses 10000 (two_rows ++ row 2072 7 6063 256 ∷ []) 106 2 1 ∷
    Refuses 10000 (row 5000 7 0 256 ∷ row 4000 7 5007 256 ∷ []) 106 1 0 ∷
    Accepts 10000 (row 5000 7 0 256 ∷ row 4000 7 5008 256 ∷ []) ∷
    []

-- Two grounds: the first row that has one, and the lowest number at that row.
abbrev pub orders : List Laying
orders =
    Refuses (2 ^ 32 + 1) [] 101 0 0 ∷
    Refuses (2 ^ 32 + 1) (row 0 6 8 256 ∷ []) 102 0 0 ∷
    Refuses 8192 (row 0 6 8 0 ∷ []) 103 0 0 ∷
    Refuses 8192 (row 0 8192 8 0 ∷ []) 104 0 0 ∷
    Refuses 8192 (row 0 8192 8 256 ∷ []) 105 0 0 ∷
    Refuses 8192 (row 0 7 7 256 ∷ row 0 6 8 256 ∷ []) 106 0 0 ∷
    Refuses 8192 (row 0 7 8 256 ∷ row 4000 6 0 256 ∷ []) 103 1 1 ∷
    []
