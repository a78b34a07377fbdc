-- The grounds for refusing a list of rows, and the refusal that is due: the first ground that applies.
use Rattle.std.specs.Prelude.{◌≡◌, ℕ, ◌+◌, ◌^◌, ◌<◌, ◌⊎◌, List, length}
use Rattle.plan.specs.Areas.{Crosses, Shares, row_at}
use Rattle.plan.specs.declared.row.Row.{Row}
use Rattle.plan.specs.declared.ground.Ground.{Ground}
use Rattle.plan.specs.declared.ground.Ground.TheVariants.{Rows, Size, Short, Saved, Outside, Overlap}
use Rattle.plan.specs.declared.ground.LayRefusal.{LayRefusal}

-- the number of a ground
abbrev pub ground_number : Ground → ℕ
ground_number Rows = 101
ground_number Size = 102
ground_number Short = 103
ground_number Saved = 104
ground_number Outside = 105
ground_number Overlap = 106

-- row i shares a byte with the earlier row j or, where j is i, its window shares one with its register file
abbrev pub Overlaps : List Row → ℕ → ℕ → Type 0
Overlaps rows i j = ((j ≡ i) × Crosses (row_at rows i)) ⊎ ((j < i) × Shares (row_at rows i) (row_at rows j))

-- the ground applies at row i; the first two speak of the whole list, and apply at row 0
abbrev pub Applies : Ground → List Row → ℕ → ℕ → Type 0
Applies Rows rows laid i = (i ≡ 0) × ((length rows ≡ 0) ⊎ (16 < length rows))
Applies Size rows laid i = (i ≡ 0) × (2 ^ 32 < laid)
Applies Short rows laid i = (i < length rows) × ((row_at rows i).max < 7)
Applies Saved rows laid i = (i < length rows) × (((row_at rows i).saved < 1) ⊎ (256 < (row_at rows i).saved))
Applies Outside rows laid i =
    (i < length rows) × ((laid < (row_at rows i).off + (row_at rows i).max + 1) ⊎ (laid < (row_at rows i).file + 2064))
Applies Overlap rows laid i = (i < length rows) × ((j : ℕ) × Overlaps rows i j)

-- the other row of a refusal of row i
abbrev pub OtherRow : Ground → List Row → ℕ → ℕ → Type 0
OtherRow Rows rows i j = j ≡ 0
OtherRow Size rows i j = j ≡ 0
OtherRow Short rows i j = j ≡ i
OtherRow Saved rows i j = j ≡ i
OtherRow Outside rows i j = j ≡ i
OtherRow Overlap rows i j = Overlaps rows i j

-- ground g at row i comes before ground h at row k: earlier rows first, and in one row the lower number
abbrev pub Precedes : Ground → ℕ → Ground → ℕ → Type 0
Precedes g i h k = (i < k) ⊎ ((i ≡ k) × (ground_number g < ground_number h))

-- no ground applies at any row
abbrev pub Faultless : List Row → ℕ → Type 0
Faultless rows laid = (g : Ground) (i : ℕ) → Applies g rows laid i → ⊥

-- the refusal e is due: its ground applies at its row, none does before, and its other row is right
pub record Refuses (rows : List Row) (laid : ℕ) (e : LayRefusal) : Type 0 where
  pub ground_applies : Applies e.ground rows laid e.row
  pub first : (g : Ground) (i : ℕ) → Precedes g i e.ground e.row → Applies g rows laid i → ⊥
  pub other_row : OtherRow e.ground rows e.row e.other
