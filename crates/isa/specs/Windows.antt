-- An access to a window: where it happens, and what it loads and stores. A window is its list of bytes.
use Rattle.std.specs.Prelude.{ℕ, ◌+◌, cond, List, length, nat_le}
use Rattle.memory.specs.Bytes.{value_at, put_at}

-- An access of n bytes at address a happens there where it fits into the window, and else whole at address 0.
abbrev pub placed : ℕ → ℕ → ℕ → ℕ
placed long n a = cond (nat_le (a + n) long) a 0

-- The number in n bytes, highest first.
unfoldable pub load : List ℕ → ℕ → ℕ → ℕ
load w n a = value_at w (placed (length w) n a) n

-- The window with the low n bytes of v stored, highest first.
unfoldable pub store : List ℕ → ℕ → ℕ → ℕ → List ℕ
store w n a v = put_at w (placed (length w) n a) n v
