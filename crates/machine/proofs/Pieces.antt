-- Parts of a list, and what a run of writes leaves of them.
use Rattle.std.proofs.Common.{◌≡◌, ℕ, suc, ◌+◌, ◌-◌, ◌<◌, ◌≤◌, ◌⊎◌, List, [], ◌∷◌, length, get_or, drop, set, sym, refl, ap, ◌∙◌, ⊎_elim, arith, length-drop, length-take, length-set, get_or-drop}
use Rattle.std.proofs.lemmas.List.{get_or-take, get_or-set_same, get_or-set_other}
use Rattle.std.proofs.lemmas.List.Edits.{sets}
use Rattle.std.proofs.Math.Seq.{length-sets}
use Rattle.std.proofs.lemmas.Grind.{same_number_lists}
use Rattle.std.proofs.lemmas.Bool.{cases_eq}
use Rattle.plan.specs.Areas.{Within}
use Rattle.machine.specs.Outcomes.{part}

-- a place that the writes do not reach
pub sets_out : (vs l : List ℕ) (i j : ℕ) (d : ℕ) → (Within i (i + length vs) j → ⊥) → get_or (sets l i vs) j d ≡ get_or l j d
sets_out [] l i j d h = refl
sets_out (v ∷ vs) l i j d h =
    let ne : j ≡ i → ⊥ = λ e. h (omega arith, omega arith) in
    sets_out vs (set l i v) (suc i) j d (λ m. h (omega arith, omega arith)) ∙ get_or-set_other l i j v d ne

-- one that they do
pub sets_in : (vs l : List ℕ) (i j : ℕ) (d : ℕ) → i ≤ j → j < i + length vs → j < length l → get_or (sets l i vs) j d ≡ get_or vs (j - i) d
sets_in [] l i j d low high room = absurd (omega arith)
sets_in (v ∷ vs) l i j d low high room =
    ⊎_elim
    (λ (e : j ≡ i).
    let none : j - i ≡ 0 = omega arith in
    sets_out vs (set l i v) (suc i) j d (λ m. omega arith)
    ∙ ap (λ (n : ℕ). get_or (set l i v) n d) e
    ∙ get_or-set_same l i v d (omega arith)
    ∙ sym (ap (λ (n : ℕ). get_or (v ∷ vs) n d) none))
    (λ (ne : j ≡ i → ⊥).
    let past : suc i ≤ j = omega (arith, ne) in
    let more : j - i ≡ suc (j - suc i) = omega arith in
    sets_in vs (set l i v) (suc i) j d past (omega arith) (rw length-set room) ∙ sym (ap (λ (n : ℕ). get_or (v ∷ vs) n d) more))
    (cases_eq j i)

pub length_part : (l : List ℕ) (from n : ℕ) → from + n ≤ length l → length (part l from n) ≡ n
length_part l from n room = simp (length-take, length-drop) (omega arith)

pub part_short : (l : List ℕ) (from n : ℕ) → length (part l from n) ≤ n
part_short l from n = simp length-take (omega arith)

part_at : (l : List ℕ) (from n j d : ℕ) → j < n → get_or (part l from n) j d ≡ get_or l (from + j) d
part_at l from n j d h = get_or-take n (drop from l) j d h ∙ get_or-drop from l j d

-- two lists that agree on the n places from `from` on
pub part_same : (l m : List ℕ) (from n : ℕ) → length l ≡ length m → ((a : ℕ) → Within from (from + n) a → get_or l a 0 ≡ get_or m a 0) → part l from n ≡ part m from n
part_same l m from n long same =
    same_number_lists _ _ (simp (length-take, length-drop) (omega arith))
    (λ j h.
    let le : j < n = omega (arith, part_short l from n) in
    part_at l from n j 0 le ∙ same (from + j) (omega arith, omega arith) ∙ sym (part_at m from n j 0 le))

among : (i n j : ℕ) → Within i (i + n) j ⊎ (Within i (i + n) j → ⊥)
among i n j = grind arith

-- writes inside a part
pub part_inside : (vs l : List ℕ) (from n a : ℕ) → from + n ≤ length l → a + length vs ≤ n → part (sets l (from + a) vs) from n ≡ sets (part l from n) a vs
part_inside vs l from n a room inside =
    let long = length_part l from n room in
    let long' : length (part (sets l (from + a) vs) from n) ≡ n = length_part (sets l (from + a) vs) from n (rw length-sets room) in
    same_number_lists _ _ (long' ∙ sym (length-sets (part l from n) a vs ∙ long))
    (λ j h.
    let le : j < n = omega arith in
    part_at (sets l (from + a) vs) from n j 0 le
    ∙ ⊎_elim
    (λ (m : Within a (a + length vs) j).
    sets_in vs l (from + a) (from + j) 0 (omega arith) (omega arith) (omega arith)
    ∙ ap (λ (i : ℕ). get_or vs i 0) (omega arith)
    ∙ sym (sets_in vs (part l from n) a j 0 m.0 m.1 (omega arith)))
    (λ (out : Within a (a + length vs) j → ⊥).
    sets_out vs l (from + a) (from + j) 0 (λ m. out (omega arith, omega arith))
    ∙ sym (part_at l from n j 0 le)
    ∙ sym (sets_out vs (part l from n) a j 0 out))
    (among a (length vs) j))

-- writes over the whole of a part
pub part_whole : (vs l : List ℕ) (from n : ℕ) → from + n ≤ length l → length vs ≡ n → part (sets l from vs) from n ≡ vs
part_whole vs l from n room long =
    same_number_lists _ _ (length_part (sets l from vs) from n (rw length-sets room) ∙ sym long)
    (λ j h.
    let le : j < n = omega (arith, part_short (sets l from vs) from n) in
    part_at (sets l from vs) from n j 0 le
    ∙ sets_in vs l from (from + j) 0 (omega arith) (omega arith) (omega arith)
    ∙ ap (λ (i : ℕ). get_or vs i 0) (omega arith))

-- a part of a part
pub part_part : (l : List ℕ) (from n a m : ℕ) → from + n ≤ length l → a + m ≤ n → part l (from + a) m ≡ part (part l from n) a m
part_part l from n a m room inside =
    let long = length_part l from n room in
    let one : length (part l (from + a) m) ≡ m = length_part l (from + a) m (omega arith) in
    let two : length (part (part l from n) a m) ≡ m = length_part (part l from n) a m (omega arith) in
    same_number_lists _ _ (one ∙ sym two)
    (λ j h.
    let le : j < m = omega arith in
    part_at l (from + a) m j 0 le
    ∙ ap (λ (i : ℕ). get_or l i 0) (omega arith)
    ∙ sym (part_at l from n (a + j) 0 (omega arith))
    ∙ sym (part_at (part l from n) a m j 0 le))
