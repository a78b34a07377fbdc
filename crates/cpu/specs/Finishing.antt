-- What is done last of an instruction, once the registers have moved.
use Rattle.memory.specs.Widths.{width_bytes}
use Rattle.isa.specs.Windows.{load}
use Rattle.isa.specs.Steps.{Config, Stepped, taking, storing, goes_on, ends}
use Rattle.bank.specs.Registers.{register_index}
use Rattle.cpu.specs.declared.rest.Rest.{Rest}
use Rattle.cpu.specs.declared.rest.Rest.TheVariants.{Ends, Nothing, Loads, Stores}

abbrev pub finished : Rest → Config → Stepped
finished (Ends e) c = ends e c
finished Nothing c = goes_on c
finished (Loads k n a) c = goes_on (taking c (register_index k) (load c.window (width_bytes n) a))
finished (Stores n a v) c = goes_on (storing c (width_bytes n) a v)
