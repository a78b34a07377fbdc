-- The law that each make of a memory keeps: a list that is cut off has at most 2 ^ 32 elements.
use Rattle.std.specs.Prelude.{ℕ, ◌^◌, ◌≤◌, List, length}
use Rattle.std.proofs.Common.{arith, length-take}
use Rattle.memory.specs.Bytes.{cut}

pub cut_short : (bs : List ℕ) → length (cut bs) ≤ 2 ^ 32
unfolding cut
cut_short bs = omega (arith, length-take (2 ^ 32) bs)
