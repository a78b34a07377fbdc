use Rattle.std.proofs.Common.{◌≡◌, suc, ◌+◌, ◌-◌, ◌<◌, length, slice_index, ◌∙◌, add-one, length-set, arith, rules}
use Rattle.memory.specs.Bytes.{value_at}
use Rattle.memory.specs.Widths.{width_bytes}
use Rattle.memory.proofs.Digits.{from_be}
use Rattle.memory.proofs.Puts.{value_at-set, value_at_past}
use Rattle.memory.proofs.access.load.Goals as goal

pub returns-then-address-ge-LIMIT : goal.returns-then-address-ge-LIMIT
returns-then-address-ge-LIMIT g c =
    let s = g.met.M.Memory.short c.args.memory.now in
    value_at_past _ c.args.address _ (omega arith)

pub loop-i-init : goal.loop-i-init
unfolding value_at
loop-i-init g c = search rules

pub loop-i-preserved : goal.loop-i-preserved
loop-i-preserved g c =
    let bs = c.loop-i.bytes in
    let m = 8 - c.bytes-first.result + c.loop-i.i in
    let inside : m < length bs = search rules in
    let l = length-set bs m c.read.result in
    let next : 8 - c.bytes-first.result + (c.loop-i.i + 1) ≡ suc m = omega arith in
    let read : c.read.result ≡ slice_index (g.M.Memory.bytes c.args.memory.now) (c.args.address + c.loop-i.i) = search rules in
    (omega arith, rw (next, add-one) (value_at-set bs _ c.args.address m c.loop-i.i _ inside read c.loop-i.invariant.1))

pub returns : goal.returns
returns g c =
    let n : c.loop-i.i ≡ width_bytes c.args.width = omega arith in
    let all : 8 - c.bytes-first.result + c.loop-i.i ≡ 8 = search rules in
    c.from_be_bytes.ensures ∙ from_be c.loop-i.bytes ∙ rw (← n, ← all) c.loop-i.invariant.1
