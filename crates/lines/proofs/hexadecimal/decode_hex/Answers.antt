use Rattle.std.proofs.Common.{◌≡◌, ℕ, zero, suc, ◌+◌, ◌*◌, ◌/◌, ◌%◌, List, [], ◌∷◌, length, get_or, map, refl, ap, ◌∙◌, arith, rules}
use Rattle.std.proofs.Math.Seq.{take-length}
use Rattle.std.specs.Simd.{first_chunks}
use Rattle.std.proofs.lemmas.Iterator.{YieldsList-from_slice, YieldsList-from_map, items_from_collect}
use Rattle.std.proofs.lemmas.Result.{IfOk-weaker}
use Rattle.lines.specs.Hexadecimal.{hex_bytes}
use Rattle.lines.specs.Numerals.{digit_of_lem}
use Rattle.lines.proofs.hexadecimal.decode_hex.Goals as goal

-- the byte of a pair of digits
abbrev pair_byte : List ℕ → ℕ
pair_byte pair = (digit_of_lem (get_or pair 0 0) * 16 + digit_of_lem (get_or pair 1 0)) % 256

-- a last digit without a pair stands for nothing
pairs_all : (hex : List ℕ) (n : ℕ) → n ≡ length hex / 2 → map pair_byte (first_chunks 2 n hex) ≡ hex_bytes hex
pairs_all [] zero e = refl
pairs_all [] (suc n) e = absurd (omega arith)
pairs_all (a ∷ []) zero e = refl
pairs_all (a ∷ []) (suc n) e = absurd (omega arith)
pairs_all (a ∷ b ∷ ds) zero e = absurd (omega arith)
pairs_all (a ∷ b ∷ ds) (suc n) e = ap (λ (bs : List ℕ). ((digit_of_lem a * 16 + digit_of_lem b) % 256) ∷ bs) (pairs_all ds n (omega arith))

-- the pairs of a text that is the whole one
pairs_of : (pairs : List (List ℕ)) (text hex : List ℕ) → pairs ≡ first_chunks 2 (length text / 2) text → text ≡ hex
    → map pair_byte pairs ≡ hex_bytes hex
pairs_of pairs text hex e whole = ap (map pair_byte) e ∙ pairs_all text _ refl ∙ ap hex_bytes whole

pub returns : goal.returns
returns c =
    let bytes = pairs_of c.as_chunks.result.0.now _ c.args.hex.now c.as_chunks.ensures.front (search (rules, take-length)) in
    IfOk-weaker c.collect.result _ _ (λ _ h. h ∙ bytes)
    (items_from_collect _ c.collect.ensures.ran (YieldsList-from_map _ pair_byte (YieldsList-from_slice c.as_chunks.result.0.now cc) c.map.ensures.closure (λ x r q k. search rules)))
