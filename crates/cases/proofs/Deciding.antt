-- Tests that carry the proof of what they say.
use Rattle.std.proofs.Common.{◌≡◌, ℕ, zero, suc, ◌<◌, Bool, true, false, eqb, ltb, Some, None, Option, ◌⊎◌, inl, inr, refl, subst, arith}
use Rattle.std.proofs.lemmas.Bool.Decides.{nat_tests}
use Rattle.std.proofs.lemmas.Bool.{cases_lt}

abbrev pub Dec : Type 0 → Type 0
Dec A = A ⊎ (A → ⊥)

abbrev pub given : (A : Type 0) → Option A → Type 0
given A None = ⊥
given A (Some a) = Unit {0}

pub from_some : (A : Type 0) (o : Option A) → given A o → A
from_some A None h = absurd h
from_some A (Some a) h = a

abbrev pub yes : (A : Type 0) → Dec A → Option A
yes A (inl a) = Some a
yes A (inr n) = None

abbrev pub no : (A : Type 0) → Dec A → Option (A → ⊥)
no A (inl a) = None
no A (inr n) = Some n

abbrev pub also : (A B : Type 0) → Option A → Option B → Option (A × B)
also A B None o = None
also A B (Some a) None = None
also A B (Some a) (Some b) = Some (a, b)

abbrev pub map_some : (A B : Type 0) → (A → B) → Option A → Option B
map_some A B f None = None
map_some A B f (Some a) = Some (f a)

abbrev pub unless : (A B : Type 0) → Dec A → Option B → Option (A → B)
unless A B (inl a) o = map_some B (A → B) (λ b a'. b) o
unless A B (inr n) o = Some (λ a. absurd (n a))

abbrev pub or_else : (A : Type 0) → Option A → Option A → Option A
or_else A (Some a) o = Some a
or_else A None o = o

abbrev pub both : (A B : Type 0) → Dec A → Dec B → Dec (A × B)
both A B (inr n) d = inr (λ p. n p.0)
both A B (inl a) (inr n) = inr (λ p. n p.1)
both A B (inl a) (inl b) = inl (a, b)

pub neither : (A B : Type 0) → (A → ⊥) → (B → ⊥) → A ⊎ B → ⊥
neither A B n m (inl a) = n a
neither A B n m (inr b) = m b

abbrev pub either : (A B : Type 0) → Dec A → Dec B → Dec (A ⊎ B)
either A B (inl a) d = inl (inl a)
either A B (inr n) (inl b) = inl (inr b)
either A B (inr n) (inr m) = inr (neither A B n m)

abbrev pub as_well : (A B : Type 0) → (A → B) → (B → A) → Dec A → Dec B
as_well A B f g (inl a) = inl (f a)
as_well A B f g (inr n) = inr (λ b. n (g b))

pub is_below : (m n : ℕ) → ltb m n ≡ true → m < n
is_below m n e = grind (arith, nat_tests)

pub not_below : (m n : ℕ) → ltb m n ≡ false → m < n → ⊥
not_below m n e l = grind (arith, nat_tests)

abbrev by_below : (m n : ℕ) (b : Bool) → ltb m n ≡ b → Dec (m < n)
by_below m n true e = inl (is_below m n e)
by_below m n false e = inr (not_below m n e)

abbrev pub below : (m n : ℕ) → Dec (m < n)
below m n = by_below m n (ltb m n) refl

pub is_equal : (m n : ℕ) → eqb m n ≡ true → m ≡ n
is_equal m n e = grind (arith, nat_tests)

pub not_equal : (m n : ℕ) → eqb m n ≡ false → m ≡ n → ⊥
not_equal m n e l = grind (arith, nat_tests)

abbrev by_equal : (m n : ℕ) (b : Bool) → eqb m n ≡ b → Dec (m ≡ n)
by_equal m n true e = inl (is_equal m n e)
by_equal m n false e = inr (not_equal m n e)

abbrev pub equal : (m n : ℕ) → Dec (m ≡ n)
equal m n = by_equal m n (eqb m n) refl

pub one_more : (n : ℕ) (P : ℕ → Type 0) → P n → ((i : ℕ) → i < n → P i) → (i : ℕ) → i < suc n → P i
one_more n P h below_n i l =
    elim (cases_lt i n) [ inl k ↦ below_n i k | inr k ↦ let e : n ≡ i = omega arith in subst P e h ]

pub none_below : (P : ℕ → Type 0) (i : ℕ) → i < 0 → P i
none_below P i l = absurd (omega arith)

-- what holds of each number below n
abbrev pub all_below : (n : ℕ) (P : ℕ → Type 0) → ((i : ℕ) → Option (P i)) → Option ((i : ℕ) → i < n → P i)
all_below zero P d = Some (none_below P)
all_below (suc n) P d =
    map_some (P n × ((i : ℕ) → i < n → P i)) ((i : ℕ) → i < suc n → P i) (λ h. one_more n P h.0 h.1)
    (also (P n) ((i : ℕ) → i < n → P i) (d n) (all_below n P d))

pub found_more : (n : ℕ) (P : ℕ → Type 0) → (P n → ⊥) → (((i : ℕ) × ((i < n) × P i)) → ⊥) → (((i : ℕ) × ((i < suc n) × P i)) → ⊥)
found_more n P h none (i, (l, p)) =
    elim (cases_lt i n) [ inl k ↦ none (i, (k, p)) | inr k ↦ let e : i ≡ n = omega arith in h (subst P e p) ]

pub found_none : (P : ℕ → Type 0) → (((i : ℕ) × ((i < 0) × P i)) → ⊥)
found_none P (i, (l, p)) = absurd (omega arith)

pub last_below : (n : ℕ) → n < suc n
last_below n = omega arith

pub still_below : (i n : ℕ) → i < n → i < suc n
still_below i n l = omega arith

-- a number below n of which it holds
abbrev pub some_more : (n : ℕ) (P : ℕ → Type 0) → Dec (P n) → Dec ((i : ℕ) × ((i < n) × P i)) → Dec ((i : ℕ) × ((i < suc n) × P i))
some_more n P (inl p) d = inl (n, (last_below n, p))
some_more n P (inr h) (inl f) = inl (f.0, (still_below f.0 n f.1.0, f.1.1))
some_more n P (inr h) (inr none) = inr (found_more n P h none)

abbrev pub some_below : (n : ℕ) (P : ℕ → Type 0) → ((i : ℕ) → Dec (P i)) → Dec ((i : ℕ) × ((i < n) × P i))
some_below zero P d = inr (found_none P)
some_below (suc n) P d = some_more n P (d n) (some_below n P d)
