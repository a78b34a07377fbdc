-- The laws of the numbers that a memory may be made of: bytes, and numbers of 64 bits.
use Rattle.std.specs.Prelude.{◌≡◌, ℕ, zero, suc, ◌*◌, ◌/◌, List, [], ◌∷◌, length, refl}
use Rattle.std.proofs.Common.{arith, length-append}
use Rattle.memory.specs.Bytes.{bytes_of, bytes_of_all}

pub length-bytes_of : (n v : ℕ) → length (bytes_of n v) ≡ n
unfolding bytes_of
length-bytes_of zero v = refl
length-bytes_of (suc n) v = simp length-append (omega (arith, length-bytes_of n (v / 256)))

pub byte_whole : (held : List ℕ) → length held ≡ 1 * length held
byte_whole held = omega arith

pub word_whole : (held : List ℕ) → length (bytes_of_all held) ≡ 8 * length held
unfolding bytes_of_all
word_whole [] = refl
word_whole (w ∷ ws) = simp length-append (omega (arith, word_whole ws, length-bytes_of 8 w))
