-- What laying rows answers, by tests: each gives the proof of what it says.
use Rattle.std.proofs.Common.{ℕ, suc, ◌+◌, ◌^◌, ◌<◌, List, length, ◌⊎◌, inl, inr, arith}
use Rattle.std.proofs.lemmas.Bool.{cases_lt}
use Rattle.plan.specs.Areas.{Crosses, InFile, InWindow, Shares, Within, row_at}
use Rattle.plan.specs.Grounds.{Applies, OtherRow, Overlaps}
use Rattle.plan.specs.declared.ground.Ground.{Ground}
use Rattle.plan.specs.declared.ground.Ground.TheVariants.{Rows, Size, Short, Saved, Outside, Overlap}
use Rattle.plan.specs.declared.row.Row.{Row}
use Rattle.cases.proofs.Deciding.{Dec, both, either, as_well, below, equal, some_below}

abbrev pub Nonempty : ℕ → ℕ → ℕ → ℕ → Type 0
Nonempty a b c d = (a < b) × ((c < d) × ((a < d) × (c < b)))

abbrev pub Meet : ℕ → ℕ → ℕ → ℕ → Type 0
Meet a b c d = (x : ℕ) × (Within a b x × Within c d x)

pub meets : (a b c d : ℕ) → Nonempty a b c d → Meet a b c d
meets a b c d (p, (q, (r, s))) =
    elim (cases_lt a c) [
      | inl l ↦ (c, ((omega arith, omega arith), (omega arith, omega arith)))
      | inr l ↦ (a, ((omega arith, omega arith), (omega arith, omega arith)))
    ]

pub met : (a b c d : ℕ) → Meet a b c d → Nonempty a b c d
met a b c d (x, ((p, q), (r, s))) = (omega arith, (omega arith, (omega arith, omega arith)))

abbrev pub meeting : (a b c d : ℕ) → Dec (Meet a b c d)
meeting a b c d =
    as_well (Nonempty a b c d) (Meet a b c d) (meets a b c d) (met a b c d)
    (both _ _ (below a b) (both _ _ (below c d) (both _ _ (below a d) (below c b))))

abbrev pub crossing : (r : Row) → Dec (Crosses r)
crossing r = meeting r.off (r.off + r.max + 1) r.file (r.file + 2064)

abbrev pub ByAreas : Row → Row → Type 0
ByAreas r q =
    (((a : ℕ) × (InWindow r a × InWindow q a)) ⊎ ((a : ℕ) × (InWindow r a × InFile q a)))
    ⊎ (((a : ℕ) × (InFile r a × InWindow q a)) ⊎ ((a : ℕ) × (InFile r a × InFile q a)))

pub shares : (r q : Row) → ByAreas r q → Shares r q
shares r q (inl (inl (a, (p, s)))) = (a, (inl p, inl s))
shares r q (inl (inr (a, (p, s)))) = (a, (inl p, inr s))
shares r q (inr (inl (a, (p, s)))) = (a, (inr p, inl s))
shares r q (inr (inr (a, (p, s)))) = (a, (inr p, inr s))

pub shared : (r q : Row) → Shares r q → ByAreas r q
shared r q (a, (inl p, inl s)) = inl (inl (a, (p, s)))
shared r q (a, (inl p, inr s)) = inl (inr (a, (p, s)))
shared r q (a, (inr p, inl s)) = inr (inl (a, (p, s)))
shared r q (a, (inr p, inr s)) = inr (inr (a, (p, s)))

abbrev pub sharing : (r q : Row) → Dec (Shares r q)
sharing r q =
    as_well (ByAreas r q) (Shares r q) (shares r q) (shared r q)
    (either _ _
    (either _ _ (meeting r.off (r.off + r.max + 1) q.off (q.off + q.max + 1)) (meeting r.off (r.off + r.max + 1) q.file (q.file + 2064)))
    (either _ _ (meeting r.file (r.file + 2064) q.off (q.off + q.max + 1)) (meeting r.file (r.file + 2064) q.file (q.file + 2064))))

abbrev pub overlapping : (rows : List Row) (i j : ℕ) → Dec (Overlaps rows i j)
overlapping rows i j =
    either _ _ (both _ _ (equal j i) (crossing (row_at rows i))) (both _ _ (below j i) (sharing (row_at rows i) (row_at rows j)))

pub some_row : (rows : List Row) (i : ℕ) → (j : ℕ) × ((j < suc i) × Overlaps rows i j) → (j : ℕ) × Overlaps rows i j
some_row rows i (j, (l, o)) = (j, o)

pub low_row : (rows : List Row) (i : ℕ) → (j : ℕ) × Overlaps rows i j → (j : ℕ) × ((j < suc i) × Overlaps rows i j)
low_row rows i (j, inl (e, c)) = (j, (omega arith, inl (e, c)))
low_row rows i (j, inr (l, s)) = (j, (omega arith, inr (l, s)))

abbrev pub applying : (g : Ground) (rows : List Row) (laid i : ℕ) → Dec (Applies g rows laid i)
applying Rows rows laid i = both _ _ (equal i 0) (either _ _ (equal (length rows) 0) (below 16 (length rows)))
applying Size rows laid i = both _ _ (equal i 0) (below (2 ^ 32) laid)
applying Short rows laid i = both _ _ (below i (length rows)) (below (row_at rows i).max 7)
applying Saved rows laid i =
    both _ _ (below i (length rows)) (either _ _ (below (row_at rows i).saved 1) (below 256 (row_at rows i).saved))
applying Outside rows laid i =
    both _ _ (below i (length rows))
    (either _ _ (below laid ((row_at rows i).off + (row_at rows i).max + 1)) (below laid ((row_at rows i).file + 2064)))
applying Overlap rows laid i =
    both _ _ (below i (length rows))
    (as_well ((j : ℕ) × ((j < suc i) × Overlaps rows i j)) ((j : ℕ) × Overlaps rows i j) (some_row rows i) (low_row rows i)
    (some_below (suc i) (λ j. Overlaps rows i j) (λ j. overlapping rows i j)))

abbrev pub other_row : (g : Ground) (rows : List Row) (i j : ℕ) → Dec (OtherRow g rows i j)
other_row Rows rows i j = equal j 0
other_row Size rows i j = equal j 0
other_row Short rows i j = equal j i
other_row Saved rows i j = equal j i
other_row Outside rows i j = equal j i
other_row Overlap rows i j = overlapping rows i j
