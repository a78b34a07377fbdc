-- Every ground tried at every row, and so what a laying answers.
use Rattle.std.proofs.Common.{◌≡◌, ℕ, suc, ◌<◌, ◌≤◌, List, [], ◌∷◌, length, Some, Option, inl, inr, refl, subst, arith}
use Rattle.std.proofs.lemmas.Bool.{cases_lt}
use Rattle.plan.specs.Grounds.{ground_number, Applies, Faultless, OtherRow, Precedes}
use Rattle.plan.specs.declared.ground.Ground.{Ground}
use Rattle.plan.specs.declared.ground.Ground.TheVariants.{Rows, Size, Short, Saved, Outside, Overlap}
use Rattle.plan.specs.declared.row.Row.{Row}
use Rattle.cases.specs.Layings.{Laying, Accepts, Refuses, Holds, LayingsHold}
use Rattle.cases.proofs.Deciding.{yes, no, also, map_some, unless, or_else, below, equal, all_below}
use Rattle.cases.proofs.Laying.{applying, other_row}

module _ (A : Ground → Type 0) where
  abbrev pub Six : Type 0
  Six = A Rows × (A Size × (A Short × (A Saved × (A Outside × A Overlap))))

  pub each : Six → (g : Ground) → A g
  each (a, (b, (c, (d, (e, f))))) Rows = a
  each (a, (b, (c, (d, (e, f))))) Size = b
  each (a, (b, (c, (d, (e, f))))) Short = c
  each (a, (b, (c, (d, (e, f))))) Saved = d
  each (a, (b, (c, (d, (e, f))))) Outside = e
  each (a, (b, (c, (d, (e, f))))) Overlap = f

  abbrev pub every : ((g : Ground) → Option (A g)) → Option ((g : Ground) → A g)
  every o =
      map_some Six ((g : Ground) → A g) each
      (also _ _ (o Rows) (also _ _ (o Size) (also _ _ (o Short) (also _ _ (o Saved) (also _ _ (o Outside) (o Overlap))))))

abbrev pub Clean : List Row → ℕ → ℕ → Type 0
Clean rows laid i = (g : Ground) → Applies g rows laid i → ⊥

abbrev pub clean : (rows : List Row) (laid i : ℕ) → Option (Clean rows laid i)
clean rows laid i = every (λ g. Applies g rows laid i → ⊥) (λ g. no _ (applying g rows laid i))

-- no ground of a lower number
abbrev pub Quiet : List Row → ℕ → ℕ → ℕ → Type 0
Quiet rows laid i number = (g : Ground) → ground_number g < number → Applies g rows laid i → ⊥

abbrev pub quiet : (rows : List Row) (laid i number : ℕ) → Option (Quiet rows laid i number)
quiet rows laid i number =
    every (λ g. ground_number g < number → Applies g rows laid i → ⊥)
    (λ g. unless _ _ (below (ground_number g) number) (no _ (applying g rows laid i)))

-- behind the last row nothing applies
past : (rows : List Row) (laid i : ℕ) → suc (length rows) ≤ i → (g : Ground) → Applies g rows laid i → ⊥
past rows laid i l Rows (e, h) = omega arith
past rows laid i l Size (e, h) = omega arith
past rows laid i l Short (b, h) = omega arith
past rows laid i l Saved (b, h) = omega arith
past rows laid i l Outside (b, h) = omega arith
past rows laid i l Overlap (b, h) = omega arith

pub nowhere : (rows : List Row) (laid : ℕ) → ((i : ℕ) → i < suc (length rows) → Clean rows laid i) → Faultless rows laid
nowhere rows laid h g i a =
    elim (cases_lt i (suc (length rows))) [ inl l ↦ h i l g a | inr l ↦ past rows laid i l g a ]

abbrev pub faultless : (rows : List Row) (laid : ℕ) → Option (Faultless rows laid)
faultless rows laid = map_some _ _ (nowhere rows laid) (all_below (suc (length rows)) (λ i. Clean rows laid i) (clean rows laid))

module _ (rows : List Row) (laid number row other : ℕ) where
  abbrev pub Answered : Type 0
  Answered = Holds (Refuses laid rows number row other)

  abbrev pub Parts : Ground → Type 0
  Parts g =
      (ground_number g ≡ number)
      × (Applies g rows laid row × (((i : ℕ) → i < row → Clean rows laid i) × (Quiet rows laid row (ground_number g) × OtherRow g rows row other)))

  before : (g : Ground) → ((i : ℕ) → i < row → Clean rows laid i) → Quiet rows laid row (ground_number g) → (h : Ground) (i : ℕ) → Precedes h i g row → Applies h rows laid i → ⊥
  before g earlier lower h i (inl l) a = earlier i l h a
  before g earlier lower h i (inr (e, l)) a = lower h l (subst (λ k. Applies h rows laid k) e a)

  pub answered : (g : Ground) → Parts g → Answered
  answered g (n, (a, (earlier, (lower, o)))) = (
    record { ground = g; row = row; other = other },
    n,
    refl,
    refl,
    record { ground_applies = a; first = before g earlier lower; other_row = o },
  )

  abbrev pub by : Ground → Option Answered
  by g =
      map_some (Parts g) Answered (answered g)
      (also _ _ (yes _ (equal (ground_number g) number))
      (also _ _ (yes _ (applying g rows laid row))
      (also _ _ (all_below row (λ i. Clean rows laid i) (clean rows laid))
      (also _ _ (quiet rows laid row (ground_number g)) (yes _ (other_row g rows row other))))))

  abbrev pub refused : Option Answered
  refused =
      or_else _ (by Rows)
      (or_else _ (by Size) (or_else _ (by Short) (or_else _ (by Saved) (or_else _ (by Outside) (by Overlap)))))

abbrev pub holds : (c : Laying) → Option (Holds c)
holds (Accepts laid rows) = faultless rows laid
holds (Refuses laid rows number row other) = refused rows laid number row other

abbrev pub all_hold : (cases : List Laying) → Option (LayingsHold cases)
all_hold [] = Some tt
all_hold (c ∷ cases) = also _ _ (holds c) (all_hold cases)
