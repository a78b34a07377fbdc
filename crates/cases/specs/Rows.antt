-- How a worked run is written in one row.
use Rattle.std.specs.Prelude.{ℕ, ◌+◌, ◌-◌, ◌^◌, List, [], ◌∷◌, ◌++◌, length, replicate}
use Rattle.cases.specs.Runs.{RunCase}

-- Bytes, entries, saved count and budget; code, count, changed bytes and changed entries.
abbrev pub run : List ℕ → List (ℕ × ℕ) → ℕ → ℕ → ℕ → ℕ → List (ℕ × ℕ) → List (ℕ × ℕ) → RunCase
run bytes entries saved budget code count stored written = record {
  bytes = bytes;
  entries = entries;
  saved = saved;
  budget = budget;
  code = code;
  count = count;
  stored = stored;
  written = written;
}

-- One instruction that goes on, by a budget of 1: bytes, entries, changed bytes and changed entries.
abbrev pub step : List ℕ → List (ℕ × ℕ) → List (ℕ × ℕ) → List (ℕ × ℕ) → RunCase
step bytes entries stored written = run bytes entries 256 1 2 1 stored written

-- One instruction that ends the run: bytes, entries, code and changed entries.
abbrev pub ending : List ℕ → List (ℕ × ℕ) → ℕ → List (ℕ × ℕ) → RunCase
ending bytes entries code written = run bytes entries 256 10 code 1 [] written

-- -n as a register has it.
abbrev pub negative : ℕ → ℕ
negative n = 2 ^ 64 - n

-- The bytes of 0x8182838485868788: no two are the same, and each has its top bit set.
abbrev pub eight : List ℕ
eight = 0x81 ∷ 0x82 ∷ 0x83 ∷ 0x84 ∷ 0x85 ∷ 0x86 ∷ 0x87 ∷ 0x88 ∷ []

-- What stands before an address, and an address of eight bytes.
abbrev pub at : List ℕ → ℕ → List ℕ
at bytes address = bytes ++ (0 ∷ 0 ∷ 0 ∷ 0 ∷ 0 ∷ 0 ∷ 0 ∷ address ∷ [])

-- An instruction at 0, and these bytes from 32 on.
abbrev pub ahead : List ℕ → List ℕ → List ℕ
ahead bytes content = bytes ++ replicate (32 - length bytes) 0 ++ content

-- These bytes from an address on, each by its place.
abbrev pub from : ℕ → List ℕ → List (ℕ × ℕ)
from address [] = []
from address (byte ∷ bytes) = (address, byte) ∷ from (address + 1) bytes
