use Rattle.std.proofs.Common.{◌≡◌, ℕ, suc, ◌+◌, ◌-◌, ◌<◌, List, get_or, refl, ap, sym, ◌∙◌, arith, rules}
use Rattle.memory.specs.Bytes.{value_at, put_at}
use Rattle.memory.proofs.Digits.{to_be}
use Rattle.memory.proofs.Puts.{put_at_past}
use Rattle.memory.proofs.Scatters.{put_done, put_last, value_at-bytes_of}
use Rattle.memory.proofs.access.store.Goals as goal

pub returns-then-address-ge-LIMIT : goal.returns-then-address-ge-LIMIT
returns-then-address-ge-LIMIT g c =
    let s = g.met.M.Memory.short c.args.memory.now in
    put_at_past _ c.args.address _ _ (omega arith)

pub loop-i-init : goal.loop-i-init
loop-i-init g c =
    let all : 8 - c.bytes-first.result + c.bytes-i.result ≡ 8 = search rules in
    let low : value_at c.to_be_bytes-bytes.result 0 8 ≡ c.args.value =
    ap (λ (l : List ℕ). value_at l 0 8) (c.to_be_bytes-bytes.ensures ∙ to_be _) ∙ value_at-bytes_of 8 _ ∙ search rules in
    cc

pub loop-i-preserved : goal.loop-i-preserved
loop-i-preserved g c =
    let n = c.loop-i.i - 1 in
    let m = 8 - c.bytes-first.result + n in
    let bs = c.to_be_bytes-bytes.result in
    let small : get_or bs m 0 < 256 = search rules in
    let left : suc n ≡ c.loop-i.i = omega arith in
    let front : suc m ≡ 8 - c.bytes-first.result + c.loop-i.i = omega arith in
    ap (λ (ms : List ℕ). put_at ms c.args.address n (value_at bs 0 m)) c.write.ensures.value
    ∙ sym (put_last bs (g.M.Memory.bytes c.loop-i.memory) c.args.address m n _ refl small)
    ∙ rw (left, front) c.loop-i.invariant

pub returns : goal.returns
returns g c = put_done _ _ _ c.loop-i.i _ (omega arith) c.loop-i.invariant
