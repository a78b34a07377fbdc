-- Which lines ask for which command.
use Rattle.std.specs.Prelude.{◌≡◌, ℕ, List, [], ◌∷◌, Some, None, Ok, Err, Option, Result, slice_index}
use Rattle.std.specs.Borrow.{Bor}
use Rattle.plan.specs.declared.row.Row.{Row}
use Rattle.lines.specs.Faulty.{BehindFails, Faulty}
use Rattle.lines.specs.Hexadecimal.{HexOperand}
use Rattle.lines.specs.Keywords.{command_text, make_text}
use Rattle.lines.specs.Operands.{Filled, FilledOr, Gives}
use Rattle.lines.specs.declared.keyword.CommandWord.{CommandWord}
use Rattle.lines.specs.declared.keyword.CommandWord.TheVariants as first
use Rattle.lines.specs.declared.keyword.MakeWord.{MakeWord}
use Rattle.lines.specs.declared.keyword.MakeWord.TheVariants as second
use Rattle.lines.specs.declared.fault.Fault.{Fault}
use Rattle.lines.specs.declared.operand.Operand.{Operand}
use Rattle.lines.specs.declared.operand.Operand.TheVariants as operand
use Rattle.lines.specs.declared.operand.Operand.TheVariants.{N, M, Off, Max, File, Saved, Size, K, Address, Index, Length, Budget, Work}
use Rattle.lines.specs.declared.command.MemoryMake.{MemoryMake}
use Rattle.lines.specs.declared.command.MemoryMake.TheVariants as make
use Rattle.lines.specs.declared.command.Command.{Command}
use Rattle.lines.specs.declared.command.Command.TheVariants as command

-- The words behind `memory` and the name of a make.
abbrev pub BehindMake : MakeWord → List (List ℕ) → MemoryMake → Type 0
BehindMake second.Flat ws m = (n : ℕ) × (m ≡ make.Flat n) × Filled (N ∷ []) ws (n ∷ [])
BehindMake second.Words ws m = (n : ℕ) × (m ≡ make.Words n) × Filled (N ∷ []) ws (n ∷ [])
BehindMake second.Spliced ws m = (n k : ℕ) × (m ≡ make.Spliced n k) × Filled (N ∷ M ∷ []) ws (n ∷ k ∷ [])

abbrev pub AsksMake : List (List ℕ) → MemoryMake → Type 0
AsksMake words m = (k : MakeWord) × (ws : List (List ℕ)) × (words ≡ make_text k ∷ ws) × BehindMake k ws m

-- The words behind `row`.
abbrev pub AsksRow : List (List ℕ) → Row → Type 0
AsksRow ws r = Filled (Off ∷ Max ∷ File ∷ Saved ∷ []) ws (r.off ∷ r.max ∷ r.file ∷ r.saved ∷ [])

-- The operands of a call whose last one may be left out: the compartment, one number, and the words behind these two.
abbrev pub CallOperands : Operand → (List (List ℕ) → Type 0) → List (List ℕ) → ℕ → ℕ → Type 0
CallOperands o Last words k n =
    (v w : List ℕ) × (ws : List (List ℕ)) × (words ≡ v ∷ w ∷ ws) × Gives K v k × Gives o w n × Last ws

-- The words behind the name of a command.
abbrev pub Behind : CommandWord → List (List ℕ) → Command → Type 0
Behind first.Memory ws c = (m : MemoryMake) × (c ≡ command.Memory m) × AsksMake ws m
Behind first.Row ws c = (r : Row) × (c ≡ command.Row r) × AsksRow ws r
Behind first.Lay ws c = (n : ℕ) × (c ≡ command.Lay n) × Filled (Size ∷ []) ws (n ∷ [])
Behind first.Make ws c = (c ≡ command.Make) × (ws ≡ [])
Behind first.Put ws c = (k a : ℕ) × (hex : Bor (List ℕ)) × (c ≡ command.Put k a hex) × CallOperands Address (λ vs. HexOperand vs hex.now) ws k a
Behind first.Set ws c = (k i w : ℕ) × (c ≡ command.Set k i w) × Filled (K ∷ Index ∷ operand.Word ∷ []) ws (k ∷ i ∷ w ∷ [])
Behind first.Fetch ws c = (k a n : ℕ) × (c ≡ command.Fetch k a n) × Filled (K ∷ Address ∷ Length ∷ []) ws (k ∷ a ∷ n ∷ [])
Behind first.Get ws c = (k i : ℕ) × (c ≡ command.Get k i) × Filled (K ∷ Index ∷ []) ws (k ∷ i ∷ [])
Behind first.Run ws c = (k b n : ℕ) × (c ≡ command.Run k b n) × CallOperands Budget (λ vs. FilledOr Work 258 vs n) ws k b
Behind first.Last ws c = (k : ℕ) × (c ≡ command.Last k) × Filled (K ∷ []) ws (k ∷ [])
Behind first.Release ws c = (c ≡ command.Release) × (ws ≡ [])

-- What reading the words behind the name of a command answers.
abbrev pub ReadsRest : CommandWord → List (List ℕ) → Result Command Fault → Type 0
ReadsRest k ws (Ok c) = Behind k ws c
ReadsRest k ws (Err fault) = BehindFails k ws fault

-- The words of a line that ask for a command.
abbrev pub Asks : List (List ℕ) → Command → Type 0
Asks words c = (k : CommandWord) × (ws : List (List ℕ)) × (words ≡ command_text k ∷ ws) × Behind k ws c

-- A line that is passed over: it has no word, or its first word begins with #.
abbrev pub Silent : List (List ℕ) → Type 0
Silent [] = Unit {0}
Silent (w ∷ ws) = slice_index w 0 ≡ 35

-- A line that cannot be read: it is not passed over, and it asks for no command.
abbrev pub Unreadable : List (List ℕ) → Type 0
Unreadable words = (Silent words → ⊥) × ((c : Command) → Asks words c → ⊥)

-- What reading a line answers. A line that cannot be read is answered with its first fault.
abbrev pub Reads : List (List ℕ) → Result (Option Command) Fault → Type 0
Reads words (Ok None) = Silent words
Reads words (Ok (Some c)) = Asks words c
Reads words (Err fault) = Unreadable words × Faulty words fault
