-- After the loop no ground applies, and the array begins with all the rows.
use Rattle.std.proofs.Common.{◌≡◌, ℕ, ◌<◌, List, ◌++◌, length, take, drop, replicate, ap, ◌∙◌, arith, below_more, length-append, length-drop}
use Rattle.std.proofs.Math.Seq.{take-append_seam}
use Rattle.plan.specs.Areas.{row_at}
use Rattle.plan.specs.Grounds.{Applies}
use Rattle.plan.specs.declared.ground.Ground.{Ground}
use Rattle.plan.specs.declared.row.Row.{Row}
use Rattle.plan.proofs.Faultless.{held_apart, held_bounded, held_split}
use Rattle.plan.proofs.layout.lay.Goals as goal

pub loop-i-preserved : goal.loop-i-preserved
loop-i-preserved c g =
    below_more (λ k. Applies g c.args.rows.now c.args.laid_size k → ⊥) c.loop-i.i (c.loop-i.invariant g) (c.in_ok-check_row.ensures g)

-- what was copied in stands in front
in_front : (rows front rest : List Row) → front ≡ rows → take (length rows) (front ++ rest) ≡ rows
in_front rows front rest e = ap (λ (xs : List Row). take (length rows) (xs ++ rest)) e ∙ take-append_seam rows rest

as_long : (rows front : List Row) (r : Row) → length front ≡ length rows → length rows < 17 → length (front ++ drop (length rows) (replicate 16 r)) ≡ 16
as_long rows front r e few = omega (arith, length-append front (drop (length rows) (replicate 16 r)), length-drop (length rows) (replicate 16 r), e, few)

pub of-requires : goal.of-requires
of-requires c =
    let rows = c.args.rows.now in
    let laid = c.args.laid_size in
    let same = in_front rows _ (drop (length rows) (replicate 16 (row_at rows 0))) c.copy_from_slice.ensures.after in
    let clean : (g : Ground) (k : ℕ) → k < length rows → Applies g rows laid k → ⊥ = λ g k l. c.loop-i.invariant g k (omega arith) in
    record {
      small = (as_long rows _ (row_at rows 0) (ap length c.copy_from_slice.ensures.after) (omega arith), omega arith, omega arith);
      bounded = λ k l. held_bounded _ rows laid same clean k (omega arith);
      split = λ k l. held_split _ rows laid same clean k (omega arith);
      apart = λ j k jk l. held_apart _ rows laid same clean j k jk (omega arith);
    }
