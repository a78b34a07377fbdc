-- The bytes that each make of a memory holds.
use Rattle.std.specs.Prelude.{ℕ, List, ◌++◌, vec_items}
use Rattle.memory.specs.Bytes.{cut, bytes_of_all}
use Rattle.memory.specs.declared.owned.Owned.{Owned}
use Rattle.memory.specs.declared.spliced.Spliced.{Spliced}

-- Numbers, each of which stands for some bytes.
abbrev pub owned_bytes : {E : Type 0} → (List E → List ℕ) → Owned E → List ℕ
owned_bytes spread m = cut (spread (vec_items m.held))

abbrev pub flat_bytes : Owned ℕ → List ℕ
flat_bytes m = cut (vec_items m.held)

abbrev pub words_bytes : Owned ℕ → List ℕ
words_bytes m = cut (bytes_of_all (vec_items m.held))

-- The bytes of both parts, one list after the other.
abbrev pub spliced_all : {A B : Type 0} → (A → List ℕ) → (B → List ℕ) → Spliced A B → List ℕ
spliced_all f g m = f m.first ++ g m.second

abbrev pub spliced_bytes : {A B : Type 0} → (A → List ℕ) → (B → List ℕ) → Spliced A B → List ℕ
spliced_bytes f g m = cut (spliced_all f g m)
