-- One byte more of several that are put in their places, the last one first.
use Rattle.std.proofs.Common.{◌≡◌, ℕ, zero, suc, ◌+◌, ◌*◌, ◌/◌, ◌%◌, ◌^◌, ◌<◌, ◌≤◌, List, [], ◌∷◌, ◌++◌, length, get_or, take, set, sym, refl, ap, ◌∙◌, zero-add, pow-suc, arith, get_or-take, length-set}
use lib.Arith.{digits_div, digits_mod, mod-mul}
use Rattle.std.proofs.Math.Seq.{take-append_seam}
use Rattle.std.proofs.lemmas.List.{length_push, get_or_append_left, get_or_push, take-take}
use Rattle.memory.specs.Bytes.{bytes_of, value_at, put_at}
use Rattle.memory.specs.Elements.{length-bytes_of}
use Rattle.memory.proofs.Puts.{big, put_none, value_at-gathered}

-- the last of the m + 1 bytes in front goes to the last of the places
pub put_last : (ps ms : List ℕ) (a m n b : ℕ) → get_or ps m 0 ≡ b → b < 256 → put_at ms a (suc n) (value_at ps 0 (suc m)) ≡ put_at (set ms (a + n) b) a n (value_at ps 0 m)
unfolding value_at put_at
put_last ps ms a m n b e small =
    let v = value_at ps 0 m in
    let z : get_or ps (0 + m) 0 ≡ b = rw (zero-add m) e in
    ap (λ (x : ℕ). put_at (set ms (a + n) ((v * 256 + x) % 256)) a n ((v * 256 + x) / 256)) z
    ∙ ap (λ (x : ℕ). put_at (set ms (a + n) x) a n ((v * 256 + b) / 256)) (digits_mod v small)
    ∙ ap (λ (x : ℕ). put_at (set ms (a + n) b) a n x) (digits_div v small)

-- While the bytes ps are put in their places from a on, those in front are left; bs are the bytes that are there by then.
abbrev pub Left : (count : ℕ) (front ps bs old : List ℕ) (a : ℕ) → Type 0
Left count front ps bs old a = record {
  first : count ≡ 0;
  part : front ≡ take (length front) ps;
  some : length front ≤ length ps;
  still : put_at bs a (length front) (value_at ps 0 (length front)) ≡ put_at old a (length ps) (value_at ps 0 (length ps));
  long : length bs ≡ length old;
}

-- b is the last of those that are left, and next what stands before it
module _ (ps front next bs old : List ℕ) (a b i m : ℕ) (left : Left m front ps bs old a) (is : front ≡ next ++ b ∷ []) (place : i ≡ m + length next) where
  one_less : length front ≡ suc (length next)
  one_less = rw is (omega (arith, length_push next b))

  last_is : get_or ps (length next) 0 ≡ b
  last_is =
      let l : length next < length front = omega (arith, one_less) in
      sym (get_or-take (length front) ps (length next) 0 l)
      ∙ ap (λ (l : List ℕ). get_or l (length next) 0) (sym left.part ∙ is)
      ∙ get_or_push next b 0 (length next) refl

  next_is : next ≡ take (length next) ps
  next_is =
      sym (take-append_seam next (b ∷ []))
      ∙ ap (λ (l : List ℕ). take (length next) l) (sym is ∙ left.part)
      ∙ take-take (length next) (length front) ps (omega (arith, one_less))

  pub place_inside : a + length ps ≤ length old → a + i < length bs
  place_inside h = omega (arith, one_less, left.first, left.some, left.long)

  pub left_step : (n : ℕ) (cs : List ℕ) → n ≡ m → ((k : ℕ) → get_or ps k 0 < 256) → cs ≡ set bs (a + i) b → Left n next ps cs old a
  left_step n cs e small put =
      let at : i ≡ length next = omega (arith, left.first) in
      let last : cs ≡ set bs (a + length next) b = rw (← at) put in
      record {
        first = e ∙ left.first;
        part = next_is;
        some = omega (arith, one_less, left.some);
        still = ap (λ (ms : List ℕ). put_at ms a (length next) (value_at ps 0 (length next))) last
            ∙ sym (put_last ps bs a (length next) (length next) b last_is (rw (← last_is) (small (length next))))
            ∙ rw (← one_less) left.still;
        long = ap (λ (ms : List ℕ). length ms) put ∙ length-set bs (a + i) b ∙ left.long;
      }

pub put_done : (ms ws : List ℕ) (a n v : ℕ) → n ≡ 0 → put_at ms a n v ≡ ws → ms ≡ ws
put_done ms ws a n v e h = put_none ms a v ∙ ap (λ (k : ℕ). put_at ms a k v) (sym e) ∙ h

parts : (n v : ℕ) → v % 256 ^ suc n ≡ (v / 256 % 256 ^ n) * 256 + v % 256
parts n v = ap (λ (x : ℕ). v % x) (pow-suc 256 n) ∙ mod-mul v {m = 256 ^ n} {c = 256} (big n) (omega arith)

-- only the low bytes of a number are put
pub put_at-low : (ms : List ℕ) (a n v : ℕ) → put_at ms a n (v % 256 ^ n) ≡ put_at ms a n v
unfolding put_at
put_at-low ms a zero v = refl
put_at-low ms a (suc n) v =
    let small : v % 256 < 256 = omega arith in
    ap (λ (w : ℕ). put_at (set ms (a + n) (w % 256)) a n (w / 256)) (parts n v)
    ∙ ap (λ (x : ℕ). put_at (set ms (a + n) x) a n (((v / 256 % 256 ^ n) * 256 + v % 256) / 256)) (digits_mod (v / 256 % 256 ^ n) small)
    ∙ ap (λ (x : ℕ). put_at (set ms (a + n) (v % 256)) a n x) (digits_div (v / 256 % 256 ^ n) small)
    ∙ put_at-low (set ms (a + n) (v % 256)) a n (v / 256)

-- the bytes of a number stand for its low part
pub value_at-bytes_of : (n v : ℕ) → value_at (bytes_of n v) 0 n ≡ v % 256 ^ n
unfolding value_at bytes_of
value_at-bytes_of zero v = omega arith
value_at-bytes_of (suc n) v =
    let xs = bytes_of n (v / 256) in
    let b = v % 256 in
    let long = length-bytes_of n (v / 256) in
    let front : value_at (xs ++ b ∷ []) 0 n ≡ value_at xs 0 n =
    value_at-gathered (xs ++ b ∷ []) xs 0 n (λ k l. get_or_append_left xs (b ∷ []) 0 k (omega arith) ∙ ap (λ (j : ℕ). get_or xs j 0) (sym (zero-add k))) in
    let end : get_or (xs ++ b ∷ []) (0 + n) 0 ≡ b = get_or_push xs b 0 (0 + n) (omega arith) in
    ap (λ (x : ℕ). x * 256 + get_or (xs ++ b ∷ []) (0 + n) 0) (front ∙ value_at-bytes_of n (v / 256))
    ∙ ap (λ (x : ℕ). (v / 256 % 256 ^ n) * 256 + x) end
    ∙ sym (parts n v)

pub put_bytes_of : (ms ps : List ℕ) (a n v : ℕ) → ps ≡ bytes_of n v → put_at ms a (length ps) (value_at ps 0 (length ps)) ≡ put_at ms a n v
put_bytes_of ms ps a n v e =
    ap (λ (l : List ℕ). put_at ms a (length l) (value_at l 0 (length l))) e
    ∙ ap (λ (k : ℕ). put_at ms a k (value_at (bytes_of n v) 0 k)) (length-bytes_of n v)
    ∙ ap (λ (x : ℕ). put_at ms a n x) (value_at-bytes_of n v)
    ∙ put_at-low ms a n v

-- a number cut to its low bytes is put as the number is
pub put_masked : (ms : List ℕ) (a n v x : ℕ) → x ≡ v % 256 ^ n → put_at ms a n x ≡ put_at ms a n v
put_masked ms a n v x e = ap (λ (y : ℕ). put_at ms a n y) e ∙ put_at-low ms a n v
