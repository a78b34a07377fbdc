-- What is seen of a memory, and what replacing it leaves.
use Rattle.std.proofs.Common.{◌≡◌, ℕ, zero, suc, ◌+◌, ◌-◌, ◌*◌, ◌/◌, ◌%◌, ◌<◌, ◌≤◌, List, ◌++◌, length, get_or, take, drop, set, sym, refl, ap, ◌∙◌, add-zero, arith}
use lib.Seq.{sets-eq, length-sets}
use Rattle.std.proofs.lemmas.List.{append_assoc, length-append, length-set, length-take, length-drop, take-append-drop, take_at, drop_at, drop-drop, get_or-take, get_or-drop, set-append_left, set-append_right}
use Rattle.memory.specs.declared.meaning.Memory.{Ghosts}
use Rattle.memory.specs.Bytes.{value_at, put_at}
use Rattle.memory.proofs.Puts.{length-put_at}
use Rattle.isa.specs.Windows.{placed, load, store}
use Rattle.isa.proofs.Lengths.{length_store}
use Rattle.window.specs.declared.extent.Extent.{Extent}
use Rattle.window.specs.Views.{seen, replaced, Whole}
use Rattle.window.specs.declared.window.Window.{Window}
use Rattle.window.specs.Windows.{Parts, memory_parts, parts_of}

-- a number in a part of a list is one in the list
pub value_at-part : (bs : List ℕ) (off long p n : ℕ) → p + n ≤ long → value_at bs (off + p) n ≡ value_at (take long (drop off bs)) p n
unfolding value_at
value_at-part bs off long p zero h = refl
value_at-part bs off long p (suc n) h =
    let l : p + n < long = omega arith in
    let s : off + p + n ≡ off + (p + n) = omega arith in
    let g : get_or bs (off + p + n) 0 ≡ get_or (take long (drop off bs)) (p + n) 0 =
    ap (λ (k : ℕ). get_or bs k 0) s ∙ sym (get_or-take long (drop off bs) (p + n) 0 l ∙ get_or-drop off bs (p + n) 0) in
    ap (λ (x : ℕ). x * 256 + get_or bs (off + p + n) 0) (value_at-part bs off long p n (omega arith))
    ∙ ap (λ (x : ℕ). value_at (take long (drop off bs)) p n * 256 + x) g

module _ (bs : List ℕ) (e : Extent) (whole : Whole bs e) where
  pub length_seen : length (seen bs e) ≡ e.max + 1
  unfolding seen
  length_seen = length-take (e.max + 1) (drop e.off bs) ∙ omega (arith, length-drop e.off bs)

  low : length (take e.off bs) ≡ e.off
  low = length-take e.off bs ∙ omega arith

  replaced_is : (w : List ℕ) → length w ≡ e.max + 1 → replaced bs e w ≡ take e.off bs ++ (w ++ drop (e.off + (e.max + 1)) bs)
  unfolding replaced
  replaced_is w long =
      sets-eq w bs e.off (omega arith)
      ∙ ap (λ (k : ℕ). (take e.off bs ++ w) ++ drop (e.off + k) bs) long
      ∙ append_assoc (take e.off bs) w (drop (e.off + (e.max + 1)) bs)

  pub length_replaced : (w : List ℕ) → length (replaced bs e w) ≡ length bs
  unfolding replaced
  length_replaced w = length-sets bs e.off w

  -- what is there may be put there
  pub replaced_seen : replaced bs e (seen bs e) ≡ bs
  unfolding seen
  replaced_seen =
      replaced_is (seen bs e) length_seen
      ∙ ap (λ (l : List ℕ). take e.off bs ++ (seen bs e ++ l)) (sym (drop-drop (e.max + 1) e.off bs))
      ∙ ap (λ (l : List ℕ). take e.off bs ++ l) (take-append-drop (e.max + 1) (drop e.off bs))
      ∙ take-append-drop e.off bs

  -- what was put there is seen
  pub seen_replaced : (w : List ℕ) → length w ≡ e.max + 1 → seen (replaced bs e w) e ≡ w
  unfolding seen
  seen_replaced w long =
      ap (λ (l : List ℕ). take (e.max + 1) (drop e.off l)) (replaced_is w long)
      ∙ ap (λ (l : List ℕ). take (e.max + 1) l) (drop_at (take e.off bs) (w ++ drop (e.off + (e.max + 1)) bs) e.off low)
      ∙ take_at w (drop (e.off + (e.max + 1)) bs) (e.max + 1) long

  set-replaced : (w : List ℕ) → length w ≡ e.max + 1 → (j x : ℕ) → j < e.max + 1 → set (replaced bs e w) (e.off + j) x ≡ replaced bs e (set w j x)
  set-replaced w long j x h =
      let rest = drop (e.off + (e.max + 1)) bs in
      let m : e.off + j - e.off ≡ j = omega arith in
      ap (λ (l : List ℕ). set l (e.off + j) x) (replaced_is w long)
      ∙ set-append_right (take e.off bs) (w ++ rest) e.off (e.off + j) x low (omega arith)
      ∙ ap (λ (k : ℕ). take e.off bs ++ set (w ++ rest) k x) m
      ∙ ap (λ (l : List ℕ). take e.off bs ++ l) (set-append_left w rest j x (omega arith))
      ∙ sym (replaced_is (set w j x) (length-set w j x ∙ long))

  pub put_at_replaced : (w : List ℕ) → length w ≡ e.max + 1 → (p n v : ℕ) → p + n ≤ e.max + 1 → put_at (replaced bs e w) (e.off + p) n v ≡ replaced bs e (put_at w p n v)
  unfolding put_at
  put_at_replaced w long p zero v h = refl
  put_at_replaced w long p (suc n) v h =
      let s : e.off + p + n ≡ e.off + (p + n) = omega arith in
      ap (λ (k : ℕ). put_at (set (replaced bs e w) k (v % 256)) (e.off + p) n (v / 256)) s
      ∙ ap (λ (l : List ℕ). put_at l (e.off + p) n (v / 256)) (set-replaced w long (p + n) (v % 256) (omega arith))
      ∙ put_at_replaced (set w (p + n) (v % 256)) (length-set w (p + n) (v % 256) ∙ long) p n (v / 256) (omega arith)

  -- an access of n bytes at window address a, which happens at the memory address k
  module _ (n a k : ℕ) (at : k ≡ e.off + placed (e.max + 1) n a) (fits : placed (e.max + 1) n a + n ≤ e.max + 1) where
    pub load_seen : value_at bs k n ≡ load (seen bs e) n a
    unfolding load seen
    load_seen =
        ap (λ (j : ℕ). value_at bs j n) at
        ∙ value_at-part bs e.off (e.max + 1) (placed (e.max + 1) n a) n fits
        ∙ ap (λ (l : ℕ). value_at (seen bs e) (placed l n a) n) (sym length_seen)

    pub store_seen : (v : ℕ) → put_at bs k n v ≡ replaced bs e (store (seen bs e) n a v)
    unfolding store
    store_seen v =
        ap (λ (j : ℕ). put_at bs j n v) at
        ∙ ap (λ (l : List ℕ). put_at l (e.off + placed (e.max + 1) n a) n v) (sym replaced_seen)
        ∙ put_at_replaced (seen bs e) length_seen (placed (e.max + 1) n a) n v fits
        ∙ ap (λ (l : ℕ). replaced bs e (put_at (seen bs e) (placed l n a) n v)) (sym length_seen)

-- what a window shows once others stand in the place of its bytes
pub parts_replaced : (bs : List ℕ) (e : Extent) → Whole bs e → (w : List ℕ) → length w ≡ e.max + 1 → memory_parts (replaced bs e w) e ≡ record (memory_parts bs e) { window = w }
parts_replaced bs e whole w long =
    let rest = drop (e.off + (e.max + 1)) bs in
    let front : take e.off (replaced bs e w) ≡ take e.off bs =
    ap (λ (l : List ℕ). take e.off l) (replaced_is bs e whole w long) ∙ take_at (take e.off bs) (w ++ rest) e.off (low bs e whole) in
    let both : length (take e.off bs ++ w) ≡ e.off + (e.max + 1) =
    length-append (take e.off bs) w ∙ omega (arith, low bs e whole) in
    let back : drop (e.off + (e.max + 1)) (replaced bs e w) ≡ rest =
    ap (λ (l : List ℕ). drop (e.off + (e.max + 1)) l) (replaced_is bs e whole w long ∙ sym (append_assoc (take e.off bs) w rest))
    ∙ drop_at (take e.off bs ++ w) rest (e.off + (e.max + 1)) both in
    λ i. record { before = front i; window = seen_replaced bs e whole w long i; behind = back i; extent = e }

-- an access that stores changes what stands in the window
module _ (bs : List ℕ) (e : Extent) (whole : Whole bs e) (bs' : List ℕ) (n a k v : ℕ) (put : bs' ≡ put_at bs k n v) where
  pub still_whole : Whole bs' e
  still_whole = omega (arith, ap (λ (l : List ℕ). length l) put, length-put_at bs k n v)

  pub parts_stored : k ≡ e.off + placed (e.max + 1) n a → placed (e.max + 1) n a + n ≤ e.max + 1 → memory_parts bs' e ≡ record (memory_parts bs e) { window = store (seen bs e) n a v }
  parts_stored at fits =
      ap (λ (l : List ℕ). memory_parts l e) (put ∙ store_seen bs e whole n a k at fits v)
      ∙ parts_replaced bs e whole (store (seen bs e) n a v) (length_store (seen bs e) n a v ∙ length_seen bs e whole)

abbrev all_bytes : Parts → List ℕ
all_bytes h = h.before ++ (h.window ++ h.behind)

all_bytes_of_parts : (bs : List ℕ) (e : Extent) → all_bytes (memory_parts bs e) ≡ bs
unfolding seen
all_bytes_of_parts bs e =
    ap (λ (l : List ℕ). take e.off bs ++ (take (e.max + 1) (drop e.off bs) ++ l)) (sym (drop-drop (e.max + 1) e.off bs))
    ∙ ap (λ (l : List ℕ). take e.off bs ++ l) (take-append-drop (e.max + 1) (drop e.off bs))
    ∙ take-append-drop e.off bs

-- all bytes of a memory once others stand in its window
pub memory_replaced : (bs bs' : List ℕ) (e e' : Extent) → Whole bs e → Whole bs' e' → (w : List ℕ) → memory_parts bs' e' ≡ record (memory_parts bs e) { window = w } → bs' ≡ replaced bs e w
memory_replaced bs bs' e e' whole whole' w is =
    let long : length w ≡ e.max + 1 =
    ap (λ (h : Parts). length h.window) (sym is) ∙ length_seen bs' e' whole' ∙ ap (λ (h : Parts). h.extent.max + 1) is in
    sym (all_bytes_of_parts bs' e')
    ∙ ap (λ (h : Parts). all_bytes h) is
    ∙ sym (replaced_is bs e whole w long)

pub bytes_replaced : {M : Type 0} {g : Ghosts M} (bs : List ℕ) (e : Extent) → Whole bs e → (new : Window M g) (w : List ℕ) → parts_of new ≡ record (memory_parts bs e) { window = w } → g.bytes new.memory.now ≡ replaced bs e w
bytes_replaced {M} {g} bs e whole new w is = memory_replaced bs (g.bytes new.memory.now) e new.extent whole new.whole w is

-- one byte
pub byte_seen : (bs : List ℕ) (e : Extent) → Whole bs e → (a k : ℕ) → k ≡ e.off + placed (e.max + 1) 1 a → placed (e.max + 1) 1 a + 1 ≤ e.max + 1 → get_or bs k 0 ≡ load (seen bs e) 1 a
unfolding value_at
byte_seen bs e whole a k at fits =
    omega (arith, load_seen bs e whole 1 a k at fits, ap (λ (j : ℕ). get_or bs j 0) (add-zero k))
