-- What is wrong with a line, in words.
use Rattle.std.specs.Prelude.{ℕ, List, ◌++◌, codes}
use Rattle.lines.specs.Operands.{name_of}
use Rattle.lines.specs.declared.fault.Fault.{Fault}
use Rattle.lines.specs.declared.fault.Fault.TheVariants.{NoSuchCommand, NoMake, NoSuchMake, Missing, NotANumber, TooLarge, NotBytes, WordTooMany}

abbrev pub fault_text : Fault → List ℕ
fault_text (NoSuchCommand word) = codes "no such command: " ++ word.now
fault_text NoMake = codes "MAKE is missing"
fault_text (NoSuchMake word) = codes "no such make of memory: " ++ word.now
fault_text (Missing operand) = name_of operand ++ codes " is missing"
fault_text (NotANumber operand word) = name_of operand ++ (codes " is not a number: " ++ word.now)
fault_text (TooLarge operand word) = name_of operand ++ (codes " is too large: " ++ word.now)
fault_text (NotBytes word) = codes "HEX is not bytes: " ++ word.now
fault_text (WordTooMany word) = codes "a word too many: " ++ word.now
