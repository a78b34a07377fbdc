-- A memory as a window over it shows it.
use Rattle.std.specs.Prelude.{ℕ, ◌+◌, List, take, drop}
use Rattle.memory.specs.declared.meaning.Memory.{Ghosts}
use Rattle.window.specs.declared.extent.Extent.{Extent}
use Rattle.window.specs.declared.window.Window.{Window}
use Rattle.window.specs.Views.{seen}

-- The bytes before the window, in it and behind it, and where it lies.
pub record Parts : Type 0 where
  pub before : List ℕ
  pub window : List ℕ
  pub behind : List ℕ
  pub extent : Extent

abbrev pub memory_parts : List ℕ → Extent → Parts
memory_parts bytes e =
    record {
      before = take e.off bytes;
      window = seen bytes e;
      behind = drop (e.off + (e.max + 1)) bytes;
      extent = e;
    }

abbrev pub parts_of : {M : Type 0} {g : Ghosts M} → Window M g → Parts
parts_of {M} {g} w = memory_parts (g.bytes w.memory.now) w.extent
