-- What is read of an instruction that lies inside of the window whole.
use Rattle.std.proofs.Common.{◌≡◌, ℕ, ◌+◌, ◌≤◌, List, get_or, ap, ◌∙◌, arith}
use Rattle.memory.specs.Bytes.{value_at}
use Rattle.numbers.specs.Values.{plus}
use Rattle.isa.specs.Windows.{placed, load}
use Rattle.isa.proofs.Placing.{placed_fits}
use Rattle.window.specs.declared.extent.Extent.{Extent}
use Rattle.window.specs.Views.{seen, Whole}
use Rattle.window.proofs.Seeing.{load_seen, byte_seen}

-- the access of n bytes at i places behind p
module _ (bs : List ℕ) (e : Extent) (whole : Whole bs e) (p i n k : ℕ) (some : 1 ≤ n) (fits : p + i + n ≤ e.max + 1) (at : k ≡ e.off + p + i) where
  there : placed (e.max + 1) n (plus p i) ≡ p + i
  there =
      let small : plus p i ≡ p + i = omega (arith, e.ok) in
      ap (λ (a : ℕ). placed (e.max + 1) n a) small ∙ placed_fits (e.max + 1) n (p + i) fits

  pub load_inside_seen : value_at bs k n ≡ load (seen bs e) n (plus p i)
  load_inside_seen = load_seen bs e whole n (plus p i) k (omega (arith, there, at)) (omega (arith, there, fits))

pub byte_inside_seen : (bs : List ℕ) (e : Extent) → Whole bs e → (p i k : ℕ) → p + i + 1 ≤ e.max + 1 → k ≡ e.off + p + i → get_or bs k 0 ≡ load (seen bs e) 1 (plus p i)
byte_inside_seen bs e whole p i k fits at =
    let t = there bs e whole p i 1 k (omega arith) fits at in
    byte_seen bs e whole (plus p i) k (omega (arith, t, at)) (omega (arith, t, fits))
