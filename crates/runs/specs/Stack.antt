-- What goes onto the stack comes back from it, where the access fits into the window.
use Rattle.std.specs.Prelude.{◌≡◌, ℕ, ◌+◌, ◌%◌, ◌^◌, ◌<◌, ◌≤◌, length}
use Rattle.isa.specs.Steps.{Config, P, S, held, taking, storing, pushing, popping}

-- n bytes at S lie inside of the window, and S above them has not wrapped.
abbrev pub Fits : Config → ℕ → Type 0
Fits c n = (length c.registers ≡ 258) × (held c S + n ≤ length c.window) × (held c S + n < 2 ^ 64)

-- A pop into register k after a push of n bytes of v: S is as before, and k has the low n bytes of v.
abbrev pub PopsReturn : Type 0
PopsReturn =
    (c : Config) (n v k : ℕ)
    → Fits c n
    → popping (pushing c n v) k n ≡ taking (storing c n (held c S) v) k (v % 256 ^ n)

-- A ret after a call, wherever P has gone on to: P and S are as before the call's push.
abbrev pub CallsReturn : Type 0
CallsReturn =
    (c : Config) (a q : ℕ)
    → Fits c 8
    → held c P < 2 ^ 64
    → popping (taking (taking (pushing c 8 (held c P)) P a) P q) P 8 ≡ storing c 8 (held c S) (held c P)
