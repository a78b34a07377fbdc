-- Two spans that each start before the other's end have the later start in common.
use Rattle.std.proofs.Common.{ℕ, ◌<◌, inl, inr, arith}
use Rattle.std.proofs.lemmas.Bool.{cases_lt, lt-ltb, ltb-true}
use Rattle.plan.specs.Areas.{Within}
use Rattle.plan.proofs.span.Span.meets.Goals as goal

common : (a b c d : ℕ) → a < b → c < d → a < d → c < b → (x : ℕ) × (Within a b x × Within c d x)
common a b c d ab cd ad cb =
    elim (cases_lt a c) [ inl h ↦ (c, ((omega arith, cb), (omega arith, cd))) | inr h ↦ (a, ((omega arith, ab), (h, ad))) ]

pub returns-then-self-other : goal.returns-then-self-other
returns-then-self-other c =
    (λ e. common _ _ _ _ (omega arith) (omega arith) (omega arith) (ltb-true _ _ e), λ m. lt-ltb _ _ (omega (arith, m.1)))
