-- Rows at which no ground applies keep to the plan's invariant, and the other way round.
use Rattle.std.proofs.Common.{◌≡◌, ℕ, ◌^◌, ◌<◌, ◌≤◌, List, length, take, sym, refl, ap, ◌∙◌, subst, inl, inr, arith}
use Rattle.std.proofs.lemmas.Bool.{cases_lt}
use Rattle.std.proofs.lemmas.List.{get_or-take}
use Rattle.plan.specs.Areas.{AllBounded, Bounded, Crosses, NoneCrossed, NoneShared, Shares, row_at}
use Rattle.plan.specs.Grounds.{Applies, OtherRow, Overlaps, Refuses, ground_number}
use Rattle.plan.specs.declared.ground.LayRefusal.{LayRefusal}
use Rattle.plan.specs.declared.row.Row.{Row}
use Rattle.plan.specs.declared.ground.Ground.{Ground}
use Rattle.plan.specs.declared.ground.Ground.TheVariants.{Rows, Size, Short, Saved, Outside, Overlap}

not_below : (a b : ℕ) → (a < b → ⊥) → b ≤ a
not_below a b h = elim (cases_lt a b) [ inl l ↦ absurd (h l) | inr l ↦ l ]

-- a row at which no ground applies is bounded
pub bounded_row : (rows : List Row) (laid k : ℕ) → k < length rows → ((g : Ground) → Applies g rows laid k → ⊥) → Bounded (row_at rows k) laid
bounded_row rows laid k l clean = (
  not_below _ _ (λ h. clean Short (l, h)),
  not_below _ _ (λ h. clean Saved (l, inl h)),
  not_below _ _ (λ h. clean Saved (l, inr h)),
  not_below _ _ (λ h. clean Outside (l, inl h)),
  not_below _ _ (λ h. clean Outside (l, inr h)),
)

-- at a bounded row nothing but an overlap applies
only_overlap : (rows : List Row) (laid i : ℕ) → i < length rows → length rows ≤ 16 → laid ≤ 2 ^ 32 → Bounded (row_at rows i) laid → (g : Ground) → Applies g rows laid i → (g ≡ Overlap) × ((j : ℕ) × Overlaps rows i j)
only_overlap rows laid i l few small b Rows (e, inl z) = absurd (omega arith)
only_overlap rows laid i l few small b Rows (e, inr z) = absurd (omega arith)
only_overlap rows laid i l few small b Size (e, z) = absurd (omega arith)
only_overlap rows laid i l few small b Short (e, z) = absurd (omega arith)
only_overlap rows laid i l few small b Saved (e, inl z) = absurd (omega arith)
only_overlap rows laid i l few small b Saved (e, inr z) = absurd (omega arith)
only_overlap rows laid i l few small b Outside (e, inl z) = absurd (omega arith)
only_overlap rows laid i l few small b Outside (e, inr z) = absurd (omega arith)
only_overlap rows laid i l few small b Overlap (e, o) = (refl, o)

-- a bounded row, and no ground applies at an earlier one
module _ (rows : List Row) (laid i : ℕ) (l : i < length rows) (few : length rows ≤ 16) (small : laid ≤ 2 ^ 32) (b : Bounded (row_at rows i) laid)
    (earlier : (g : Ground) (k : ℕ) → k < i → Applies g rows laid k → ⊥) where
  pub none_applies : ((j : ℕ) → Overlaps rows i j → ⊥) → (g : Ground) → Applies g rows laid i → ⊥
  none_applies clean g a = let o = (only_overlap rows laid i l few small b g a).1 in clean o.0 o.1

  pub overlap_due : (j : ℕ) → Overlaps rows i j → (e : LayRefusal) → e.ground ≡ Overlap → e.row ≡ i → e.other ≡ j → Refuses rows laid e
  overlap_due j o e f same other =
      record {
        ground_applies = subst (λ (g : Ground). Applies g rows laid e.row) (sym f) (subst (λ (k : ℕ). Applies Overlap rows laid k) (sym same) (l, (j, o)));
        first = λ g k p a. elim p [
          | inl h ↦ earlier g k (omega (arith, same)) a
          | inr h ↦
              let at : k ≡ i = h.0 ∙ same in
              let only = only_overlap rows laid i l few small b g (subst (λ (n : ℕ). Applies g rows laid n) at a) in
              let lower : ground_number g < ground_number Overlap = subst (λ (d : Ground). ground_number g < ground_number d) f h.1 in
              let never : 106 < 106 = subst (λ (d : Ground). ground_number d < 106) only.0 lower in
              omega arith
        ];
        other_row = subst (λ (g : Ground). OtherRow g rows e.row e.other) (sym f) (subst (λ (k : ℕ). Overlaps rows k e.other) (sym same) (subst (λ (k : ℕ). Overlaps rows i k) (sym other) o));
      }

-- an array that begins with the rows has them at their places
same_at : (held rows : List Row) → take (length rows) held ≡ rows → (k : ℕ) → k < length rows → row_at rows k ≡ row_at held k
same_at held rows same k l = ap (λ (xs : List Row). row_at xs k) (sym same) ∙ get_or-take (length rows) held k _ l

-- rows at which no ground applies, in any array that begins with them
module _ (held rows : List Row) (laid : ℕ) (same : take (length rows) held ≡ rows)
    (clean : (g : Ground) (k : ℕ) → k < length rows → Applies g rows laid k → ⊥) where
  pub held_bounded : AllBounded held (length rows) laid
  held_bounded k l =
      subst (λ (r : Row). Bounded r laid) (same_at held rows same k l) (bounded_row rows laid k l (λ g. clean g k l))

  pub held_split : NoneCrossed held (length rows)
  held_split k l x = clean Overlap k l (l, (k, inl (refl, subst Crosses (sym (same_at held rows same k l)) x)))

  pub held_apart : NoneShared held (length rows)
  held_apart j k jk l s =
      clean Overlap k l (
        l,
        (
          j,
          inr (
            jk,
            subst (λ (r : Row). Shares r (row_at rows j)) (sym (same_at held rows same k l))
                (subst (λ (q : Row). Shares (row_at held k) q) (sym (same_at held rows same j (omega arith))) s),
          ),
        ),
      )
