-- Which fault a line has: the first one that reading from left to right finds.
use Rattle.std.specs.Prelude.{◌≡◌, ◌≢◌, ℕ, ◌<◌, ◌⊎◌, List, [], ◌∷◌}
use Rattle.std.specs.Borrow.{Bor}
use Rattle.lines.specs.Hexadecimal.{Hex}
use Rattle.lines.specs.Keywords.{command_text, make_text}
use Rattle.lines.specs.Numerals.{Written}
use Rattle.lines.specs.Operands.{Gives, most_of}
use Rattle.lines.specs.declared.fault.Fault.{Fault}
use Rattle.lines.specs.declared.fault.Fault.TheVariants.{NoSuchCommand, NoMake, NoSuchMake, Missing, NotANumber, TooLarge, NotBytes, WordTooMany}
use Rattle.lines.specs.declared.keyword.CommandWord.{CommandWord}
use Rattle.lines.specs.declared.keyword.CommandWord.TheVariants as first
use Rattle.lines.specs.declared.keyword.MakeWord.{MakeWord}
use Rattle.lines.specs.declared.keyword.MakeWord.TheVariants as second
use Rattle.lines.specs.declared.operand.Operand.{Operand}
use Rattle.lines.specs.declared.operand.Operand.TheVariants as operand
use Rattle.lines.specs.declared.operand.Operand.TheVariants.{N, M, Off, Max, File, Saved, Size, K, Address, Index, Length, Budget, Work}

-- The fault is of this kind, and has this word.
abbrev pub Tells : (Bor (List ℕ) → Fault) → List ℕ → Fault → Type 0
Tells kind w fault = (word : Bor (List ℕ)) × (word.now ≡ w) × (fault ≡ kind word)

-- The word in the operand's place gives it no value: it is no number, or a number too large for the operand.
abbrev pub Misfits : Operand → List ℕ → Fault → Type 0
Misfits o w fault =
    (Tells (NotANumber o) w fault × ((n : ℕ) → Written w n → ⊥)) ⊎ (Tells (TooLarge o) w fault × ((n : ℕ) × Written w n × (most_of o < n)))

-- The next word is to give the operand a value, and there is none, or it gives none.
abbrev pub NextFails : Operand → List (List ℕ) → Fault → Type 0
NextFails o [] fault = fault ≡ Missing o
NextFails o (w ∷ ws) fault = Misfits o w fault

-- The words are to give these operands a value each, and then to be as is asked of those behind them.
abbrev pub OperandsFail : List Operand → (List (List ℕ) → Fault → Type 0) → List (List ℕ) → Fault → Type 0
OperandsFail [] RestFails ws fault = RestFails ws fault
OperandsFail (o ∷ os) RestFails ws fault =
    NextFails o ws fault ⊎ ((w : List ℕ) × (vs : List (List ℕ)) × (n : ℕ) × (ws ≡ w ∷ vs) × Gives o w n × OperandsFail os RestFails vs fault)

-- The line is to end.
abbrev pub EndFails : List (List ℕ) → Fault → Type 0
EndFails [] fault = ⊥
EndFails (w ∷ ws) fault = Tells WordTooMany w fault

-- The line is to end, or to end behind bytes.
abbrev pub BytesFail : List (List ℕ) → Fault → Type 0
BytesFail [] fault = ⊥
BytesFail (w ∷ ws) fault = (Tells NotBytes w fault × (Hex w → ⊥)) ⊎ (Hex w × EndFails ws fault)

-- The line is to end, or to end behind the value of an operand.
abbrev pub LastFails : Operand → List (List ℕ) → Fault → Type 0
LastFails o [] fault = ⊥
LastFails o (w ∷ ws) fault = Misfits o w fault ⊎ ((n : ℕ) × Gives o w n × EndFails ws fault)

-- The words behind `memory` and the name of a make.
abbrev pub MakeFails : MakeWord → List (List ℕ) → Fault → Type 0
MakeFails second.Flat ws fault = OperandsFail (N ∷ []) EndFails ws fault
MakeFails second.Words ws fault = OperandsFail (N ∷ []) EndFails ws fault
MakeFails second.Spliced ws fault = OperandsFail (N ∷ M ∷ []) EndFails ws fault

-- The words behind `memory`.
abbrev pub MemoryFails : List (List ℕ) → Fault → Type 0
MemoryFails [] fault = fault ≡ NoMake
MemoryFails (w ∷ ws) fault =
    (Tells NoSuchMake w fault × ((k : MakeWord) → w ≢ make_text k)) ⊎ ((k : MakeWord) × (w ≡ make_text k) × MakeFails k ws fault)

-- The words behind the name of a command.
abbrev pub BehindFails : CommandWord → List (List ℕ) → Fault → Type 0
BehindFails first.Memory ws fault = MemoryFails ws fault
BehindFails first.Row ws fault = OperandsFail (Off ∷ Max ∷ File ∷ Saved ∷ []) EndFails ws fault
BehindFails first.Lay ws fault = OperandsFail (Size ∷ []) EndFails ws fault
BehindFails first.Make ws fault = EndFails ws fault
BehindFails first.Put ws fault = OperandsFail (K ∷ Address ∷ []) BytesFail ws fault
BehindFails first.Set ws fault = OperandsFail (K ∷ Index ∷ operand.Word ∷ []) EndFails ws fault
BehindFails first.Fetch ws fault = OperandsFail (K ∷ Address ∷ Length ∷ []) EndFails ws fault
BehindFails first.Get ws fault = OperandsFail (K ∷ Index ∷ []) EndFails ws fault
BehindFails first.Run ws fault = OperandsFail (K ∷ Budget ∷ []) (LastFails Work) ws fault
BehindFails first.Last ws fault = OperandsFail (K ∷ []) EndFails ws fault
BehindFails first.Release ws fault = EndFails ws fault

-- The words of a line.
abbrev pub Faulty : List (List ℕ) → Fault → Type 0
Faulty [] fault = ⊥
Faulty (w ∷ ws) fault =
    (Tells NoSuchCommand w fault × ((k : CommandWord) → w ≢ command_text k)) ⊎ ((k : CommandWord) × (w ≡ command_text k) × BehindFails k ws fault)
