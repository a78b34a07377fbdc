use Rattle.std.proofs.Common.{◌≡◌, ◌+◌, ◌*◌, [], ◌∷◌, get_or, take, sym, arith}
use Rattle.std.proofs.lemmas.List.{take_more}
use Rattle.answers.proofs.Digits.{IsAscii-hex_text, hex_text-append, take-two_writes}
use Rattle.answers.proofs.answer.put_digits.Goals as goal

pub loop-i-preserved : goal.loop-i-preserved
loop-i-preserved c =
    let bs = c.args.bytes.now in
    let i = c.loop-i.i in
    let two : 2 * (i + 1) ≡ 2 * i + 2 = omega arith in
    let written = take-two_writes c.loop-i.room (2 * i) c.hex_digit.result c.hex_digit-in-loop-i.result (omega arith) in
    rw (two, written, c.loop-i.invariant, c.hex_digit.ensures, c.hex_digit-in-loop-i.ensures, take_more bs i 0 c.loop-i-test.true) (sym (hex_text-append (take i bs) (get_or bs i 0 ∷ [])))

pub returns-clause-ascii : goal.returns-clause-ascii
returns-clause-ascii c = IsAscii-hex_text c.args.bytes.now (λ i. (c.type_inv.bytes i).fits)
