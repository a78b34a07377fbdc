-- How many bytes an access has.
use Rattle.std.specs.Prelude.{ℕ}
use Rattle.memory.specs.declared.width.Width.{Width}
use Rattle.memory.specs.declared.width.Width.TheVariants.{Byte, Short, Long, Qword}

abbrev pub width_bytes : Width → ℕ
width_bytes Byte = 1
width_bytes Short = 2
width_bytes Long = 4
width_bytes Qword = 8
