-- A step keeps the length of the window and the number of registers.
use Rattle.std.proofs.Common.{◌≡◌, ℕ, List, length, refl, ◌∙◌}
use Rattle.std.proofs.lemmas.List.{length-set}
use Rattle.memory.specs.Widths.{width_bytes}
use Rattle.memory.proofs.Puts.{length-put_at}
use Rattle.isa.specs.Windows.{store, placed}
use Rattle.isa.specs.Reading.{decoded}
use Rattle.isa.specs.Steps.{Config, P, S, held, taking, storing, pushing, popping, passed, performed, stepped}
use Rattle.isa.specs.declared.effect.Effect.{Effect}
use Rattle.isa.specs.declared.effect.Effect.TheVariants.{Ends, Faults, Nothing, Sets, Jumps, Stacks, Loads, Stores, Pushes, Pops, Calls, Returns}

pub length_store : (w : List ℕ) (n a v : ℕ) → length (store w n a v) ≡ length w
unfolding store
length_store w n a v = length-put_at w (placed (length w) n a) n v

pub record Same (c d : Config) : Type 0 where
  pub window : length d.window ≡ length c.window
  pub registers : length d.registers ≡ length c.registers

same_taking : (c d : Config) (k v : ℕ) → Same c d → Same c (taking d k v)
same_taking c d k v s = record { window = s.window; registers = length-set d.registers k v ∙ s.registers }

same_storing : (c d : Config) (n a v : ℕ) → Same c d → Same c (storing d n a v)
same_storing c d n a v s = record { window = length_store d.window n a v ∙ s.window; registers = s.registers }

same_pushing : (c d : Config) (n v : ℕ) → Same c d → Same c (pushing d n v)
same_pushing c d n v s = same_taking c _ S _ (same_storing c d n (held d S) v s)

same_popping : (c d : Config) (k n : ℕ) → Same c d → Same c (popping d k n)
same_popping c d k n s = same_taking c _ k _ (same_taking c d S _ s)

same_performed : (x : Effect) (b c : Config) → Same b c → Same b (performed x b c).next
same_performed (Ends e) b c s = s
same_performed (Faults e) b c s = record { window = refl; registers = refl }
same_performed Nothing b c s = s
same_performed (Sets k v) b c s = same_taking b c k v s
same_performed (Jumps a) b c s = same_taking b c P a s
same_performed (Stacks a) b c s = same_taking b c S a s
same_performed (Loads k n a) b c s = same_taking b c k _ s
same_performed (Stores n a v) b c s = same_storing b c (width_bytes n) a v s
same_performed (Pushes n v) b c s = same_pushing b c (width_bytes n) v s
same_performed (Pops k n) b c s = same_popping b c k (width_bytes n) s
same_performed (Calls a) b c s = same_taking b _ P a (same_pushing b c 8 (held c P) s)
same_performed Returns b c s = same_popping b c P 8 s

pub same_stepped : (c : Config) → Same c (stepped c).next
unfolding stepped
same_stepped c =
    same_performed _ c (passed c (decoded c.window (held c P))) (same_taking c c P _ (record { window = refl; registers = refl }))
