-- The first word of a line, and the words behind it.
use Rattle.std.proofs.Common.{◌≡◌, ℕ, suc, ◌<◌, ◌≤◌, Bool, true, false, not, List, [], ◌∷◌, length, take, drop, Some, None, Option, sym, refl, ap, ◌∙◌, ⊎_elim, one-add, arith}
use Rattle.std.specs.List.{position, position_or_len}
use Rattle.std.specs.Option.{unwrap_or}
use Rattle.std.proofs.lemmas.Bool.{cases_Bool, cases_lt, cond-true, ltb-true, lt-ltb}
use Rattle.std.proofs.lemmas.Grind.{common_steps}
use Rattle.std.proofs.lemmas.List.Sums.{prefix_len-le-length}
use Rattle.std.proofs.lemmas.Option.{cond_some}
use Rattle.std.proofs.lemmas.List.{drop_all}
use Rattle.lines.specs.Lines.{blank, joins, words_of}

-- a byte that is no blank
abbrev pub solid : ℕ → Bool
solid b = not (blank b)

-- blanks in front change no word
words_behind_blanks : (bs : List ℕ) → words_of bs ≡ words_of (drop (position_or_len solid bs) bs)
unfolding words_of
words_behind_blanks [] = refl
words_behind_blanks (b ∷ bs) =
    ⊎_elim (λ (e : blank b ≡ true). simp (e, one-add) (words_behind_blanks bs)) (λ (e : blank b ≡ false). simp e) (cases_Bool (blank b))

-- a byte before a blank, or before the end, is a word by itself
joins_blank : (b c : ℕ) (cs : List ℕ) (ws : List (List ℕ)) → blank c ≡ true → joins b (c ∷ cs) ws ≡ (b ∷ []) ∷ ws
joins_blank b c cs [] e = refl
joins_blank b c cs (w ∷ ws) e = simp e

-- a byte before another is the first of its word
joins_word : (b c : ℕ) (cs w : List ℕ) (ws vs : List (List ℕ)) → blank c ≡ false → vs ≡ w ∷ ws → joins b (c ∷ cs) vs ≡ (b ∷ w) ∷ ws
joins_word b c cs w ws vs e f = simp (f, e)

-- a line that begins with a word has that word and the words behind it
words_from_word : (bs : List ℕ) → 0 < position_or_len blank bs → words_of bs ≡ take (position_or_len blank bs) bs ∷ words_of (drop (position_or_len blank bs) bs)
unfolding words_of
words_from_word [] h = absurd (omega arith)
words_from_word (b ∷ []) h =
    ⊎_elim
    (λ (e : blank b ≡ true). let z : 0 < 0 = simp e at h in absurd (omega arith))
    (λ (e : blank b ≡ false). simp e)
    (cases_Bool (blank b))
words_from_word (b ∷ c ∷ cs) h =
    ⊎_elim
    (λ (e : blank b ≡ true). let z : 0 < 0 = simp e at h in absurd (omega arith))
    (λ (e : blank b ≡ false).
    ⊎_elim
    (λ (f : blank c ≡ true). simp (e, f) (joins_blank b c cs (words_of cs) f))
    (λ (f : blank c ≡ false).
    let p : 0 < position_or_len blank (c ∷ cs) = simp f (omega arith) in
    simp (e, one-add) (simp one-add at (joins_word b c cs _ _ _ f (words_from_word (c ∷ cs) p))))
    (cases_Bool (blank c)))
    (cases_Bool (blank b))

-- what is no blank begins a word
word_begins : (bs : List ℕ) → position_or_len solid bs < length bs → 0 < position_or_len blank (drop (position_or_len solid bs) bs)
word_begins [] h = absurd (omega arith)
word_begins (b ∷ bs) h =
    ⊎_elim
    (λ (e : blank b ≡ true). simp (e, one-add) (word_begins bs (let l : suc (position_or_len solid bs) < length (b ∷ bs) = simp (e, one-add) at h in omega arith)))
    (λ (e : blank b ≡ false). simp e (omega arith))
    (cases_Bool (blank b))

-- a line with nothing behind its blanks has no word
pub no_words : (bs : List ℕ) → position_or_len blank (drop (position_or_len solid bs) bs) ≡ 0 → words_of bs ≡ []
unfolding words_of
no_words bs h =
    ⊎_elim
    (λ (l : position_or_len solid bs < length bs). absurd (omega (arith, word_begins bs l)))
    (λ (l : length bs ≤ position_or_len solid bs). words_behind_blanks bs ∙ ap words_of (drop_all _ bs l))
    (cases_lt (position_or_len solid bs) (length bs))

-- a line cut behind its blanks and behind what follows them
module _ (line tail word rest : List ℕ) (n m : ℕ) (blanks : n ≡ position_or_len solid line) (behind : tail ≡ drop n line)
    (word_end : m ≡ position_or_len blank tail) (after : rest ≡ drop m tail) where
  same_words : words_of line ≡ words_of tail
  same_words = words_behind_blanks line ∙ ap (λ (k : ℕ). words_of (drop k line)) (sym blanks) ∙ ap words_of (sym behind)

  pub cut_word : word ≡ take m tail → 0 < m → words_of line ≡ word ∷ words_of rest
  cut_word w p =
      same_words
      ∙ words_from_word tail (omega arith)
      ∙ ap (λ (k : ℕ). take k tail ∷ words_of (drop k tail)) (sym word_end)
      ∙ ap (λ (x : List ℕ). x ∷ words_of (drop m tail)) (sym w)
      ∙ ap (λ (x : List ℕ). word ∷ words_of x) (sym after)

-- the same, by what looking for the two cuts answers
pub none_found : (line : List ℕ) → position solid line ≡ None → words_of line ≡ []
none_found line none =
    ⊎_elim
    (λ (l : position_or_len solid line < length line). let e : Some (position_or_len solid line) ≡ None = sym (cond-true _ _ _ (lt-ltb _ _ l)) ∙ none in cc)
    (λ (l : length line ≤ position_or_len solid line). no_words line (ap (position_or_len blank) (drop_all _ line l)))
    (cases_lt (position_or_len solid line) (length line))

ends_at : (text : List ℕ) → unwrap_or (position blank text) (length text) ≡ position_or_len blank text
ends_at text =
    let short = prefix_len-le-length (λ b. not (blank b)) text in
    grind (arith, common_steps)

pub word_found : (line text word rest : List ℕ) (n m : ℕ) (second : Option ℕ) → position solid line ≡ Some n → text ≡ drop n line → second ≡ position blank text → m ≡ unwrap_or second (length text) → word ≡ take m text → rest ≡ drop m text → words_of line ≡ word ∷ words_of rest
word_found line text word rest n m second first t q e w r =
    let at = cond_some _ _ _ first in
    let end : m ≡ position_or_len blank text = e ∙ ap (λ (o : Option ℕ). unwrap_or o (length text)) q ∙ ends_at text in
    let begins : 0 < position_or_len blank (drop (position_or_len solid line) line) = word_begins line (ltb-true _ _ at.0) in
    let same : text ≡ drop (position_or_len solid line) line = t ∙ ap (λ (k : ℕ). drop k line) (sym at.1) in
    cut_word line text word rest n m (sym at.1) t end r w (rw (end, same) begins)
