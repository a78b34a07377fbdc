-- The window of a memory: so many bytes from an address on, and the memory with others in their place.
use Rattle.std.specs.Prelude.{ℕ, ◌+◌, ◌≤◌, List, length, take, drop}
use Rattle.std.proofs.lemmas.List.Edits.{sets}
use Rattle.window.specs.declared.extent.Extent.{Extent}

-- The max + 1 bytes from off on.
unfoldable pub seen : List ℕ → Extent → List ℕ
seen bytes e = take (e.max + 1) (drop e.off bytes)

-- The memory once these bytes stand there; all others stay.
unfoldable pub replaced : List ℕ → Extent → List ℕ → List ℕ
replaced bytes e window = sets bytes e.off window

-- The memory has all bytes of the window.
abbrev pub Whole : List ℕ → Extent → Type 0
Whole bytes e = e.off + (e.max + 1) ≤ length bytes

-- The one window ends before the other begins.
abbrev pub Before : Extent → Extent → Type 0
Before e f = e.off + (e.max + 1) ≤ f.off
