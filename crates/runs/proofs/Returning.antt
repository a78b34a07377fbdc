-- A value that went onto the stack, back from it.
use Rattle.std.proofs.Common.{◌≡◌, ℕ, ◌+◌, ◌%◌, ◌^◌, ◌<◌, ◌≤◌, ◌≢◌, List, length, get_or, set, refl, ap, ◌∙◌, mod-eq_of_lt, arith}
use Rattle.std.proofs.lemmas.List.{get_or-set_same, get_or-set_other, set-set, set_comm, set-get_or}
use Rattle.memory.specs.Bytes.{value_at, put_at}
use Rattle.memory.proofs.Puts.{length-put_at, value_at-put_at}
use Rattle.numbers.specs.Values.{plus, minus}
use Rattle.isa.specs.Windows.{load, store, placed}
use Rattle.isa.specs.Steps.{Config, P, S, held, taking, pushing, popping}
use Rattle.runs.specs.Stack.{PopsReturn, CallsReturn}
use Rattle.isa.proofs.Placing.{placed_fits}

-- what is stored where it fits is loaded there again
load_store : (w : List ℕ) (n a v : ℕ) → a + n ≤ length w → load (store w n a v) n a ≡ v % 256 ^ n
unfolding load store
load_store w n a v h =
    let e = length-put_at w (placed (length w) n a) n v in
    let f : placed (length w) n a ≡ a = placed_fits (length w) n a h in
    ap (λ (k : ℕ). value_at (put_at w (placed (length w) n a) n v) (placed k n a) n) e
    ∙ ap (λ (k : ℕ). value_at (put_at w k n v) k n) f
    ∙ value_at-put_at w a n v h

-- up and down again
back : (s n : ℕ) → s + n < 2 ^ 64 → minus (plus s n) n ≡ s
back s n h = omega arith

-- a pop from a configuration whose S stands above what was stored
pop_back : (d : Config) (w : List ℕ) (k n s v : ℕ) → d.window ≡ store w n s v → held d S ≡ plus s n → s + n ≤ length w → s + n < 2 ^ 64 → popping d k n ≡ record { window = store w n s v; registers = set (set d.registers S s) k (v % 256 ^ n) }
pop_back d w k n s v e f h l =
    let top : minus (held d S) n ≡ s = ap (λ (x : ℕ). minus x n) f ∙ back s n l in
    ap (λ (x : ℕ). taking (taking d S x) k (load d.window n x)) top
    ∙ ap (λ (x : List ℕ). record { window = x; registers = set (set d.registers S s) k (load x n s) }) e
    ∙ ap (λ (x : ℕ). record { window = store w n s v; registers = set (set d.registers S s) k x }) (load_store w n s v h)

-- S as it was
restored : (r : List ℕ) (x : ℕ) → set (set r S x) S (get_or r S 0) ≡ r
restored r x = set-set r S x (get_or r S 0) ∙ set-get_or r S 0

pub pops_return : PopsReturn
pops_return c n v k (full, fits, low) =
    let r = c.registers in
    let s = held c S in
    pop_back (pushing c n v) c.window k n s v refl (get_or-set_same r S (plus s n) 0 (omega arith)) fits low
    ∙ ap (λ (x : List ℕ). record { window = store c.window n s v; registers = set x k (v % 256 ^ n) }) (restored r (plus s n))

-- P and S as they were, whatever P was in between
both_restored : (r : List ℕ) (x a q : ℕ) → set (set (set (set (set r S x) P a) P q) S (get_or r S 0)) P (get_or r P 0) ≡ r
both_restored r x a q =
    let ne : P ≢ S = λ e. omega arith in
    ap (λ (y : List ℕ). set (set y S (get_or r S 0)) P (get_or r P 0)) (set-set (set r S x) P a q)
    ∙ ap (λ (y : List ℕ). set y P (get_or r P 0)) (set_comm (set r S x) P S q (get_or r S 0) ne)
    ∙ ap (λ (y : List ℕ). set (set y P q) P (get_or r P 0)) (restored r x)
    ∙ set-set r P q (get_or r P 0)
    ∙ set-get_or r P 0

pub calls_return : CallsReturn
calls_return c a q (full, fits, low) small =
    let r = c.registers in
    let s = held c S in
    let d = taking (taking (pushing c 8 (held c P)) P a) P q in
    let ne : S ≢ P = λ e. omega arith in
    let up : held d S ≡ plus s 8 =
    get_or-set_other (set (set r S (plus s 8)) P a) P S q 0 ne
    ∙ get_or-set_other (set r S (plus s 8)) P S a 0 ne
    ∙ get_or-set_same r S (plus s 8) 0 (omega arith) in
    pop_back d c.window P 8 s (held c P) refl up fits low
    ∙ ap (λ (x : ℕ). record { window = store c.window 8 s (held c P); registers = set (set d.registers S s) P x }) (mod-eq_of_lt small)
    ∙ ap (λ (x : List ℕ). record { window = store c.window 8 s (held c P); registers = x }) (both_restored r (plus s 8) a q)
