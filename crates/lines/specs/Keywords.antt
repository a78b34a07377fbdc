-- The fixed words of the format.
use Rattle.std.specs.Prelude.{◌≡◌, ◌≢◌, ℕ, List, Result, codes, MatchResult}
use Rattle.std.specs.Borrow.{Bor}
use Rattle.lines.specs.declared.fault.Fault.{Fault}
use Rattle.lines.specs.declared.fault.Fault.TheVariants.{NoSuchCommand, NoSuchMake}
use Rattle.lines.specs.declared.keyword.CommandWord.{CommandWord}
use Rattle.lines.specs.declared.keyword.CommandWord.TheVariants.{Memory, Row, Lay, Make, Put, Set, Fetch, Get, Run, Last, Release}
use Rattle.lines.specs.declared.keyword.MakeWord.{MakeWord}
use Rattle.lines.specs.declared.keyword.MakeWord.TheVariants.{Flat, Words, Spliced}

abbrev pub command_text : CommandWord → List ℕ
command_text Memory = codes "memory"
command_text Row = codes "row"
command_text Lay = codes "lay"
command_text Make = codes "make"
command_text Put = codes "put"
command_text Set = codes "set"
command_text Fetch = codes "fetch"
command_text Get = codes "get"
command_text Run = codes "run"
command_text Last = codes "last"
command_text Release = codes "release"

abbrev pub make_text : MakeWord → List ℕ
make_text Flat = codes "flat"
make_text Words = codes "words"
make_text Spliced = codes "spliced"

-- What reading a word as the name of a command, and as that of a make, answers.
abbrev pub NamesCommand : Bor (List ℕ) → Result CommandWord Fault → Type 0
NamesCommand word r = MatchResult r (λ k. word.now ≡ command_text k) (λ fault. (fault ≡ NoSuchCommand word) × ((k : CommandWord) → word.now ≢ command_text k))

abbrev pub NamesMake : Bor (List ℕ) → Result MakeWord Fault → Type 0
NamesMake word r = MatchResult r (λ k. word.now ≡ make_text k) (λ fault. (fault ≡ NoSuchMake word) × ((k : MakeWord) → word.now ≢ make_text k))
