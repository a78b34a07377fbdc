-- The bytes of a script's memory, and the state of its machine.
use Rattle.std.specs.Prelude.{ℕ, ◌+◌, ◌*◌, ◌^◌, min, List}
use Rattle.machine.specs.Machines.{state}
use Rattle.machine.specs.States.{State}
use Rattle.memory.specs.Makes.{flat_bytes, words_bytes, spliced_bytes}
use Rattle.lines.specs.declared.command.MemoryMake.{MemoryMake}
use Rattle.lines.specs.declared.command.MemoryMake.TheVariants as make
use Rattle.makes.specs.declared.machines.AnyMachine.{AnyMachine}
use Rattle.makes.specs.declared.machines.AnyMachine.TheVariants as any
use Rattle.makes.specs.declared.store.Store.{Store}
use Rattle.makes.specs.declared.store.Store.TheVariants.{Flat, Words, Spliced}

abbrev pub store_bytes : Store → List ℕ
store_bytes (Flat m) = flat_bytes m
store_bytes (Words m) = words_bytes m
store_bytes (Spliced m) = spliced_bytes flat_bytes words_bytes m

abbrev pub machine_state : AnyMachine → State
machine_state (any.Flat m) = state flat_bytes m
machine_state (any.Words m) = state words_bytes m
machine_state (any.Spliced m) = state (spliced_bytes flat_bytes words_bytes) m

-- Which kind of memory it is, and which was asked for.
pub data Kind : Type 0 where
  OfBytes : Kind
  OfWords : Kind
  OfTwo : Kind

abbrev pub store_kind : Store → Kind
store_kind (Flat m) = OfBytes
store_kind (Words m) = OfWords
store_kind (Spliced m) = OfTwo

abbrev pub asked_kind : MemoryMake → Kind
asked_kind (make.Flat n) = OfBytes
asked_kind (make.Words n) = OfWords
asked_kind (make.Spliced n m) = OfTwo

-- How many bytes a memory has that is asked for.
abbrev pub made_size : MemoryMake → ℕ
made_size (make.Flat n) = min (2 ^ 32) n
made_size (make.Words n) = min (2 ^ 32) (8 * n)
made_size (make.Spliced n m) = min (2 ^ 32) (n + 8 * m)
