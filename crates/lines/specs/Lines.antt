-- The words of a line.
use Rattle.std.specs.Prelude.{ℕ, Bool, true, cond, List, [], ◌∷◌, ◌==◌}

-- A space or a tab separates words.
unfoldable pub blank : ℕ → Bool
blank b = cond (b == 32) true (b == 9)

-- A byte before the rest of a line, whose words are given: it begins a word, or joins the one that the rest begins with.
abbrev pub joins : ℕ → List ℕ → List (List ℕ) → List (List ℕ)
joins b [] ws = (b ∷ []) ∷ ws
joins b (c ∷ cs) [] = (b ∷ []) ∷ []
joins b (c ∷ cs) (w ∷ ws) = cond (blank c) ((b ∷ []) ∷ w ∷ ws) ((b ∷ w) ∷ ws)

-- The words of a line: its bytes between blanks.
unfoldable pub words_of : List ℕ → List (List ℕ)
words_of [] = []
words_of (b ∷ bs) = cond (blank b) (words_of bs) (joins b bs (words_of bs))
