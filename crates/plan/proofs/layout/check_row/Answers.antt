-- The tests before the last leave row i bounded, and then only an overlap can apply.
use Rattle.std.proofs.Common.{rules, ◌≡◌, ℕ, ◌<◌, List, take, subst, sym, refl, ◌∙◌, inl, inr, arith}
use Rattle.std.proofs.lemmas.Bool.Decides.{not_from_Decides}
use Rattle.std.proofs.lemmas.List.{get_or-take, length-take}
use Rattle.plan.specs.Areas.{Bounded, Crosses, EndsWithin, Shares, row_at}
use Rattle.plan.specs.declared.row.Row.{Row}
use Rattle.plan.proofs.Faultless.{bounded_row, none_applies, overlap_due}
use Rattle.plan.proofs.layout.check_row.Goals as goal

pub returns-then-crosses_itself : goal.returns-then-crosses_itself
returns-then-crosses_itself c =
    let rows = c.args.rows.now in
    let is : c.in_ok-placed.placed.row ≡ row_at rows c.args.i = search rules ∙ c.requires.same in
    let ends : EndsWithin c.args.row c.args.laid = search rules in
    let r = c.new-then-crosses_itself.ensures in
    overlap_due c.args.rows.now c.args.laid c.args.i c.requires.place c.requires.few c.requires.small
    (subst (λ (r : Row). Bounded r c.args.laid) c.requires.same (omega arith, omega arith, omega arith, ends.0, ends.1)) c.requires.earlier c.args.i
    (inl (refl, subst Crosses is (c.crosses_itself.ensures.0 c.if-crosses_itself.true)))
    c.new-then-crosses_itself.result r.0 r.1 r.2

-- a row among the first i stands at the same place among all
with_earlier : (rows : List Row) (i j : ℕ) (r q : Row) → r ≡ q → j < i → Shares r (row_at (take i rows) j) → Shares q (row_at rows j)
with_earlier rows i j r q e h s =
    subst (λ (x : Row). Shares x (row_at rows j)) e (subst (λ (x : Row). Shares r x) (get_or-take i rows j _ h) s)

pub returns-in-Some : goal.returns-in-Some
returns-in-Some c =
    let rows = c.args.rows.now in
    let is : c.in_ok-placed.placed.row ≡ row_at rows c.args.i = search rules ∙ c.requires.same in
    let ends : EndsWithin c.args.row c.args.laid = search rules in
    let r = c.new-in-Some.ensures in
    let j = c.in-Some.j in
    let before : j < c.args.i = omega (arith, c.in-Some.ensures.shares.0, length-take c.args.i rows) in
    overlap_due rows c.args.laid c.args.i c.requires.place c.requires.few c.requires.small
    (subst (λ (r : Row). Bounded r c.args.laid) c.requires.same (omega arith, omega arith, omega arith, ends.0, ends.1)) c.requires.earlier j
    (inr (before, with_earlier rows c.args.i j _ _ is before c.in-Some.ensures.shares.1))
    c.new-in-Some.result r.0 r.1 r.2

pub returns-in-None : goal.returns-in-None
returns-in-None c =
    let rows = c.args.rows.now in
    let i = c.args.i in
    let is : c.in_ok-placed.placed.row ≡ row_at rows i = search rules ∙ c.requires.same in
    let ends : EndsWithin c.args.row c.args.laid = search rules in
    none_applies rows c.args.laid i c.requires.place c.requires.few c.requires.small
    (subst (λ (r : Row). Bounded r c.args.laid) c.requires.same (omega arith, omega arith, omega arith, ends.0, ends.1)) c.requires.earlier
    (λ j o. elim o [
      | inl p ↦ not_from_Decides _ c.crosses_itself.ensures c.if-crosses_itself.false (subst Crosses (sym is) p.1)
      | inr p ↦
          let b = bounded_row rows c.args.laid j (omega (arith, p.0)) (λ g. c.requires.earlier g j p.0) in
          let same = get_or-take i rows j _ p.0 in
          let within : EndsWithin (row_at rows j) c.args.laid = (b.3, b.4) in
          c.in-None.ensures.shares j (omega (arith, length-take i rows, p.0))
          (subst (λ (x : Row). EndsWithin x c.args.laid) (sym same) within)
          (subst (λ (x : Row). Shares x (row_at (take i rows) j)) (sym is) (subst (λ (x : Row). Shares (row_at rows i) x) (sym same) p.1))
    ])
