-- What the plan's invariant says of the rows that are found in it.
use Rattle.std.proofs.Common.{◌≡◌, ℕ, ◌<◌, length, sym, subst, inl, inr, arith}
use Rattle.std.proofs.lemmas.Option.{slice_get-get_or, slice_get_past}
use Rattle.std.proofs.lemmas.List.{get_or-take, length-take}
use Rattle.std.proofs.lemmas.Bool.{cases_lt, cases_order}
use Rattle.plan.specs.Areas.{Bounded, Crosses, Shares, row_at}
use Rattle.plan.specs.Laws.{Sound}
use Rattle.plan.specs.Plans.{Finds, rows_of}
use Rattle.plan.specs.declared.plan.Plan.{Plan}
use Rattle.plan.specs.declared.row.Row.{Row}

-- where row k is found, k is below the count and the row stands there in the array
found : (p : Plan) (k : ℕ) (r : Row) → Finds p k r → (k < p.count) × (row_at p.rows k ≡ r)
found p k r e =
    elim (cases_lt k (length (rows_of p))) [
      | inl l ↦
          let m : k < p.count = omega (arith, length-take p.count p.rows) in
          (m, grind (arith, slice_get-get_or, get_or-take))
      | inr l ↦ absurd (grind (arith, slice_get_past))
    ]

swapped : (r q : Row) → Shares r q → Shares q r
swapped r q (a, (o, w)) = (a, (w, o))

apart : (p : Plan) (j k : ℕ) (q r : Row) → Finds p j q → Finds p k r → (j ≡ k → ⊥) → Shares q r → ⊥
apart p j k q r ej ek ne s =
    let f = found p j q ej in
    let g = found p k r ek in
    let t : Shares (row_at p.rows j) (row_at p.rows k) =
    subst (λ (x : Row). Shares x (row_at p.rows k)) (sym f.1) (subst (λ (x : Row). Shares q x) (sym g.1) s)
    in
    elim (cases_order j k) [
      | inl e ↦ ne e
      | inr o ↦ elim o [
        | inl l ↦ p.apart j k l g.0 (swapped (row_at p.rows j) (row_at p.rows k) t)
        | inr l ↦ p.apart k j l f.0 t
      ]
    ]

pub sound : (p : Plan) → Sound p
sound p =
    record {
      few = omega (arith, length-take p.count p.rows);
      small = omega arith;
      bounded = λ k r e. let f = found p k r e in subst (λ (q : Row). Bounded q p.size) f.1 (p.bounded k f.0);
      split = λ k r e x. let f = found p k r e in p.split k f.0 (subst Crosses (sym f.1) x);
      apart = apart p;
    }
